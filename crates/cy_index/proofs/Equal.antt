-- Values that `=` calls equal are the same, and one that can be stored is equal to itself.
use Rattle.std.proofs.Common.{◌≡◌, ℕ, Bool, true, false, cond, not, ◌&&◌, List, [], ◌∷◌, length, Option, None, Some, IsTrue, IfSome, refl, sym, ap, subst, ◌∙◌, nat_eq, arith}
use Rattle.std.specs.List.{list_all}
use Rattle.std.specs.Option.{option_map_or}
use Rattle.std.specs.Ordering.{is_eq, int_cmp, eq_by_cmp}
use Rattle.std.specs.Cmp.{int_cmp_is}
use Rattle.std.specs.Str.{bytes_eq}
use Rattle.std.specs.declared.cmp.Ordering.TheVariants.{Equal}
use Rattle.std.specs.Cmp.Lexicographic.{bytes_decides}
use Rattle.std.proofs.lemmas.Bool.{and_from, and_parts, eqb-true}
use Rattle.std.proofs.lemmas.Map.Lookups.{exact_signed}
use Rattle.cy_values.specs.declared.scalars.Scalar.{Scalar}
use Rattle.cy_values.specs.declared.scalars.Scalar.TheVariants as scalar
use Rattle.cy_values.specs.declared.scalars.Value.{Value}
use Rattle.cy_values.specs.declared.scalars.Value.TheVariants as value
use Rattle.cy_values.specs.declared.truth.Truth.{Truth}
use Rattle.cy_values.specs.declared.truth.Truth.TheVariants.{No, Unknown, Yes}
use Rattle.cy_values.specs.contracts.scalars.ValuePartialEq.TheImpl as value_eq
use Rattle.cy_values.specs.Compare.{value_in, plain_equality, all_equality, equality, is_null}
use Rattle.cy_values.specs.Truth.{both, known, is_yes}
use Rattle.cy_values.proofs.Booleans.{tests_agree, itself_equal}
use Rattle.cy_values.proofs.SameRows.{equal_order}
use Rattle.cy_graph.specs.Maps.{text_order, value_at}
use Rattle.cy_graph.specs.Stored.{is_storable, IsStorable}
use Rattle.cy_graph.proofs.Same.{same_values, value_itself}
use Rattle.cy_index.specs.internal.Under.{is_value}

known_yes : (b : Bool) → is_yes (known b) ≡ b
known_yes true = refl
known_yes false = refl

both_yes : (a b : Truth) → is_yes (both a b) ≡ (is_yes a && is_yes b)
both_yes No No = refl
both_yes No Unknown = refl
both_yes No Yes = refl
both_yes Unknown No = refl
both_yes Unknown Unknown = refl
both_yes Unknown Yes = refl
both_yes Yes No = refl
both_yes Yes Unknown = refl
both_yes Yes Yes = refl

-- elements that `=` calls equal are the same
same_elements : (x y : Scalar) → is_yes (plain_equality (value_in x) (value_in y)) ≡ true → x ≡ y
same_elements (scalar.Text s) (scalar.Text t) e = ap scalar.Text ((bytes_decides s t).0 (sym (known_yes (bytes_eq s t)) ∙ e))
same_elements (scalar.Text _) (scalar.Bool _) e = cc
same_elements (scalar.Text _) (scalar.Int _) e = cc
same_elements (scalar.Text _) scalar.Null e = cc
same_elements (scalar.Bool _) (scalar.Text _) e = cc
same_elements (scalar.Bool false) (scalar.Bool false) e = refl
same_elements (scalar.Bool false) (scalar.Bool true) e = cc
same_elements (scalar.Bool true) (scalar.Bool false) e = cc
same_elements (scalar.Bool true) (scalar.Bool true) e = refl
same_elements (scalar.Bool _) (scalar.Int _) e = cc
same_elements (scalar.Bool _) scalar.Null e = cc
same_elements (scalar.Int _) (scalar.Text _) e = cc
same_elements (scalar.Int _) (scalar.Bool _) e = cc
same_elements (scalar.Int m) (scalar.Int n) e = ap scalar.Int (exact_signed m n (equal_order (int_cmp m n) (sym (known_yes (eq_by_cmp int_cmp m n)) ∙ e)))
same_elements (scalar.Int _) scalar.Null e = cc
same_elements scalar.Null (scalar.Text _) e = cc
same_elements scalar.Null (scalar.Bool _) e = cc
same_elements scalar.Null (scalar.Int _) e = cc
same_elements scalar.Null scalar.Null e = cc

element_itself : (x : Scalar) → IsTrue (not (is_null (value_in x))) → is_yes (plain_equality (value_in x) (value_in x)) ≡ true
element_itself (scalar.Text s) some = known_yes (bytes_eq s s) ∙ (bytes_decides s s).1 refl
element_itself (scalar.Bool false) some = refl
element_itself (scalar.Bool true) some = refl
element_itself (scalar.Int n) some = known_yes (eq_by_cmp int_cmp n n) ∙ ap is_eq (sym (int_cmp_is n n Equal refl))
element_itself scalar.Null some = cc

-- and so lists, element by element
all_same : (xs ys : List Scalar) → length xs ≡ length ys → is_yes (all_equality xs ys) ≡ true → xs ≡ ys
all_same [] [] long e = refl
all_same [] (y ∷ ys) long e = absurd (omega arith)
all_same (x ∷ xs) [] long e = absurd (omega arith)
all_same (x ∷ xs) (y ∷ ys) long e =
    let shorter : length xs ≡ length ys = omega arith in
    let parts = and_parts _ _ (sym (both_yes (plain_equality (value_in x) (value_in y)) (all_equality xs ys)) ∙ e) in
    let rest = all_same xs ys shorter parts.1 in
    λ i. same_elements x y parts.0 i ∷ rest i

all_itself : (xs : List Scalar) → IsTrue (list_all (λ e. not (is_null (value_in e))) xs) → is_yes (all_equality xs xs) ≡ true
all_itself [] all = refl
all_itself (x ∷ xs) all =
    both_yes (plain_equality (value_in x) (value_in x)) (all_equality xs xs) ∙ and_from _ _ (element_itself x (and_parts _ _ all).0) (all_itself xs (and_parts _ _ all).1)

-- values that `=` calls equal are the same
same_equal : (x y : Value) → is_yes (equality x y) ≡ true → x ≡ y
same_equal (value.List xs) (value.List ys) e = by (nat_eq (length xs) (length ys)) refl e
  where
    by : (b : Bool) → nat_eq (length xs) (length ys) ≡ b → is_yes (cond b (all_equality xs ys) No) ≡ true → value.List xs ≡ value.List ys
    by true long e' = ap value.List (all_same xs ys (eqb-true (length xs) (length ys) long) e')
    by false long e' = cc
same_equal (value.List _) (value.Text _) e = cc
same_equal (value.List _) (value.Bool _) e = cc
same_equal (value.List _) (value.Int _) e = cc
same_equal (value.List _) value.Null e = cc
same_equal (value.Text _) (value.List _) e = cc
same_equal (value.Text s) (value.Text t) e = ap value.Text ((bytes_decides s t).0 (sym (known_yes (bytes_eq s t)) ∙ e))
same_equal (value.Text _) (value.Bool _) e = cc
same_equal (value.Text _) (value.Int _) e = cc
same_equal (value.Text _) value.Null e = cc
same_equal (value.Bool _) (value.List _) e = cc
same_equal (value.Bool _) (value.Text _) e = cc
same_equal (value.Bool false) (value.Bool false) e = refl
same_equal (value.Bool false) (value.Bool true) e = cc
same_equal (value.Bool true) (value.Bool false) e = cc
same_equal (value.Bool true) (value.Bool true) e = refl
same_equal (value.Bool _) (value.Int _) e = cc
same_equal (value.Bool _) value.Null e = cc
same_equal (value.Int _) (value.List _) e = cc
same_equal (value.Int _) (value.Text _) e = cc
same_equal (value.Int _) (value.Bool _) e = cc
same_equal (value.Int m) (value.Int n) e = ap value.Int (exact_signed m n (equal_order (int_cmp m n) (sym (known_yes (eq_by_cmp int_cmp m n)) ∙ e)))
same_equal (value.Int _) value.Null e = cc
same_equal value.Null (value.List _) e = cc
same_equal value.Null (value.Text _) e = cc
same_equal value.Null (value.Bool _) e = cc
same_equal value.Null (value.Int _) e = cc
same_equal value.Null value.Null e = cc

-- a value that can be stored is equal to itself
equal_itself : (x : Value) → IsTrue (is_storable x) → is_yes (equality x x) ≡ true
equal_itself (value.List xs) some = ap (λ b. is_yes (cond b (all_equality xs xs) No)) (itself_equal (length xs)) ∙ all_itself xs some
equal_itself (value.Text s) some = known_yes (bytes_eq s s) ∙ (bytes_decides s s).1 refl
equal_itself (value.Bool false) some = refl
equal_itself (value.Bool true) some = refl
equal_itself (value.Int n) some = known_yes (eq_by_cmp int_cmp n n) ∙ ap is_eq (sym (int_cmp_is n n Equal refl))
equal_itself value.Null some = cc

-- with a stored value `==` and `=` are one test
equal_stored : (v stored : Value) → IsTrue (is_storable stored) → (value_eq.eq-value).it v stored ≡ is_yes (equality stored v)
equal_stored v stored some =
    tests_agree ((value_eq.eq-value).it v stored) (is_yes (equality stored v))
    (λ e. subst (λ (x : Value). is_yes (equality stored x) ≡ true) (sym (same_values v stored e)) (equal_itself stored some))
    (λ e. subst (λ (x : Value). (value_eq.eq-value).it x stored ≡ true) (same_equal stored v e) (value_itself stored))

-- the values of stored properties can be stored
found_storable : (at : List ℕ) (props : List (List ℕ × Value)) → IsStorable props → IfSome (value_at at props) (λ v. IsTrue (is_storable v))
found_storable at [] all = tt
found_storable at (e ∷ es) all =
    elim (eq_by_cmp text_order at e.0) as (λ b. IfSome (cond b (Some e.1) (value_at at es)) (λ v. IsTrue (is_storable v))) [
      | true ↦ (and_parts _ _ all).0
      | false ↦ found_storable at es (and_parts _ _ all).1
    ]

-- whether this is the value at the key, by `=`
pub stored_value : (at : List ℕ) (v : Value) (props : List (List ℕ × Value)) → IsStorable props → is_value at v props ≡ option_map_or (λ stored. is_yes (equality stored v)) (value_at at props) false
stored_value at v props all = by (value_at at props) (found_storable at props all)
  where
    by : (o : Option Value) → IfSome o (λ s. IsTrue (is_storable s)) → option_map_or ((value_eq.eq-value).it v) o false ≡ option_map_or (λ stored. is_yes (equality stored v)) o false
    by None some = refl
    by (Some stored) some = equal_stored v stored some
