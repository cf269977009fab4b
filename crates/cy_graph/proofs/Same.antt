-- Nodes and relationships that `==` calls equal are the same.
use Rattle.std.proofs.Common.{◌≡◌, ℕ, Bool, true, false, not, ◌&&◌, List, [], ◌∷◌, Option, None, Some, IsTrue, refl, sym, ap, ◌∙◌, nat_eq}
use Rattle.std.specs.Option.{option_eq, option_map}
use Rattle.std.specs.Cmp.Lexicographic.{pointwise, bytes_decides}
use Rattle.std.proofs.lemmas.Bool.{and_from, and_parts, eqb-true}
use Rattle.std.specs.Cmp.{signed_Decides}
use Rattle.cy_values.specs.declared.scalars.Scalar.{Scalar}
use Rattle.cy_values.specs.declared.scalars.Scalar.TheVariants as scalar
use Rattle.cy_values.specs.declared.scalars.Value.{Value}
use Rattle.cy_values.specs.declared.scalars.Value.TheVariants as value
use Rattle.cy_values.specs.contracts.scalars.ScalarPartialEq.TheImpl as scalar_eq
use Rattle.cy_values.specs.contracts.scalars.ValuePartialEq.TheImpl as value_eq
use Rattle.cy_values.proofs.Booleans.{itself_equal}
use Rattle.cy_graph.specs.declared.nodes.Node.{Node}
use Rattle.cy_graph.specs.declared.nodes.Rel.{Rel}
use Rattle.cy_graph.specs.contracts.nodes.NodePartialEq.TheImpl as node_eq
use Rattle.cy_graph.specs.contracts.nodes.RelPartialEq.TheImpl as rel_eq

-- lists whose elements are the same where a test passes
pub same_lists : {X : Type 0} (test : X → X → Bool) → ((x y : X) → test x y ≡ true → x ≡ y) → (xs ys : List X) → pointwise test xs ys ≡ true → xs ≡ ys
same_lists test same [] [] e = refl
same_lists test same [] (y ∷ ys) e = cc
same_lists test same (x ∷ xs) [] e = cc
same_lists test same (x ∷ xs) (y ∷ ys) e = λ i. same x y (and_parts _ _ e).0 i ∷ same_lists test same xs ys (and_parts _ _ e).1 i

pub lists_themselves : {X : Type 0} (test : X → X → Bool) → ((x : X) → test x x ≡ true) → (xs : List X) → pointwise test xs xs ≡ true
lists_themselves test itself [] = refl
lists_themselves test itself (x ∷ xs) = and_from _ _ (itself x) (lists_themselves test itself xs)

same_bools : (a b : Bool) → (scalar_eq.eq-value).it (scalar.Bool a) (scalar.Bool b) ≡ true → a ≡ b
same_bools false false e = refl
same_bools false true e = cc
same_bools true false e = cc
same_bools true true e = refl

same_scalars : (x y : Scalar) → (scalar_eq.eq-value).it x y ≡ true → x ≡ y
same_scalars (scalar.Text s) (scalar.Text t) e = ap scalar.Text ((bytes_decides s t).0 e)
same_scalars (scalar.Text _) (scalar.Bool _) e = cc
same_scalars (scalar.Text _) (scalar.Int _) e = cc
same_scalars (scalar.Text _) scalar.Null e = cc
same_scalars (scalar.Bool _) (scalar.Text _) e = cc
same_scalars (scalar.Bool a) (scalar.Bool b) e = ap scalar.Bool (same_bools a b e)
same_scalars (scalar.Bool _) (scalar.Int _) e = cc
same_scalars (scalar.Bool _) scalar.Null e = cc
same_scalars (scalar.Int _) (scalar.Text _) e = cc
same_scalars (scalar.Int _) (scalar.Bool _) e = cc
same_scalars (scalar.Int m) (scalar.Int n) e = ap scalar.Int ((signed_Decides m n).0 e)
same_scalars (scalar.Int _) scalar.Null e = cc
same_scalars scalar.Null (scalar.Text _) e = cc
same_scalars scalar.Null (scalar.Bool _) e = cc
same_scalars scalar.Null (scalar.Int _) e = cc
same_scalars scalar.Null scalar.Null e = refl

scalar_itself : (x : Scalar) → (scalar_eq.eq-value).it x x ≡ true
scalar_itself (scalar.Text s) = (bytes_decides s s).1 refl
scalar_itself (scalar.Bool false) = refl
scalar_itself (scalar.Bool true) = refl
scalar_itself (scalar.Int n) = (signed_Decides n n).1 refl
scalar_itself scalar.Null = refl

pub same_values : (x y : Value) → (value_eq.eq-value).it x y ≡ true → x ≡ y
same_values (value.List xs) (value.List ys) e = ap value.List (same_lists (scalar_eq.eq-value).it same_scalars xs ys e)
same_values (value.List _) (value.Text _) e = cc
same_values (value.List _) (value.Bool _) e = cc
same_values (value.List _) (value.Int _) e = cc
same_values (value.List _) value.Null e = cc
same_values (value.Text _) (value.List _) e = cc
same_values (value.Text s) (value.Text t) e = ap value.Text ((bytes_decides s t).0 e)
same_values (value.Text _) (value.Bool _) e = cc
same_values (value.Text _) (value.Int _) e = cc
same_values (value.Text _) value.Null e = cc
same_values (value.Bool _) (value.List _) e = cc
same_values (value.Bool _) (value.Text _) e = cc
same_values (value.Bool a) (value.Bool b) e = ap value.Bool (same_bools a b e)
same_values (value.Bool _) (value.Int _) e = cc
same_values (value.Bool _) value.Null e = cc
same_values (value.Int _) (value.List _) e = cc
same_values (value.Int _) (value.Text _) e = cc
same_values (value.Int _) (value.Bool _) e = cc
same_values (value.Int m) (value.Int n) e = ap value.Int ((signed_Decides m n).0 e)
same_values (value.Int _) value.Null e = cc
same_values value.Null (value.List _) e = cc
same_values value.Null (value.Text _) e = cc
same_values value.Null (value.Bool _) e = cc
same_values value.Null (value.Int _) e = cc
same_values value.Null value.Null e = refl

pub value_itself : (x : Value) → (value_eq.eq-value).it x x ≡ true
value_itself (value.List xs) = lists_themselves (scalar_eq.eq-value).it scalar_itself xs
value_itself (value.Text s) = (bytes_decides s s).1 refl
value_itself (value.Bool false) = refl
value_itself (value.Bool true) = refl
value_itself (value.Int n) = (signed_Decides n n).1 refl
value_itself value.Null = refl

-- entries of a node's maps
pub same_label : (x y : List ℕ × Unit {0}) → (pointwise nat_eq x.0 y.0 && true) ≡ true → x ≡ y
same_label x y e = let same = (bytes_decides x.0 y.0).0 (and_parts _ _ e).0 in λ i. (same i, tt)

same_prop : (x y : List ℕ × Value) → (pointwise nat_eq x.0 y.0 && (value_eq.eq-value).it x.1 y.1) ≡ true → x ≡ y
same_prop x y e =
    let keys = (bytes_decides x.0 y.0).0 (and_parts _ _ e).0 in
    let values = same_values x.1 y.1 (and_parts _ _ e).1 in
    λ i. (keys i, values i)

-- nodes with the same labels and properties are the same
pub same_node : (m n : Node) → (node_eq.eq-value).it m n ≡ true → m ≡ n
same_node m n e =
    let labels = same_lists (λ x y. pointwise nat_eq x.0 y.0 && true) same_label m.labels n.labels (and_parts _ _ e).0 in
    let props = same_lists (λ x y. pointwise nat_eq x.0 y.0 && (value_eq.eq-value).it x.1 y.1) same_prop m.props n.props (and_parts _ _ e).1 in
    λ i. record { labels = labels i; props = props i }

-- relationships with the same ends, types and properties are the same
pub same_rel : (m n : Rel) → (rel_eq.eq-value).it m n ≡ true → m ≡ n
same_rel m n e =
    let sources = eqb-true m.source.0 n.source.0 (and_parts _ _ e).0 in
    let rest = (and_parts _ _ e).1 in
    let targets = eqb-true m.target.0 n.target.0 (and_parts _ _ rest).0 in
    let others = (and_parts _ _ rest).1 in
    let kinds = (bytes_decides m.kind n.kind).0 (and_parts _ _ others).0 in
    let props = same_lists (λ x y. pointwise nat_eq x.0 y.0 && (value_eq.eq-value).it x.1 y.1) same_prop m.props n.props (and_parts _ _ others).1 in
    λ i. record { source = record { 0 = sources i }; target = record { 0 = targets i }; kind = kinds i; props = props i }

pub node_itself : (n : Node) → (node_eq.eq-value).it n n ≡ true
node_itself n = and_from _ _
    (lists_themselves (λ x y. pointwise nat_eq x.0 y.0 && true) (λ x. and_from _ _ ((bytes_decides x.0 x.0).1 refl) refl) n.labels)
    (lists_themselves (λ x y. pointwise nat_eq x.0 y.0 && (value_eq.eq-value).it x.1 y.1) (λ x. and_from _ _ ((bytes_decides x.0 x.0).1 refl) (value_itself x.1)) n.props)

pub rel_itself : (r : Rel) → (rel_eq.eq-value).it r r ≡ true
rel_itself r = and_from _ _ (itself_equal r.source.0) (and_from _ _ (itself_equal r.target.0) (and_from _ _ ((bytes_decides r.kind r.kind).1 refl)
    (lists_themselves (λ x y. pointwise nat_eq x.0 y.0 && (value_eq.eq-value).it x.1 y.1) (λ x. and_from _ _ ((bytes_decides x.0 x.0).1 refl) (value_itself x.1)) r.props)))

-- options that `==` calls equal are the same, seen through a function under which equal elements are
pub same_options : {A B : Type 0} (eq : A → A → Bool) (f : A → B) → ((x y : A) → eq x y ≡ true → f x ≡ f y) → (a b : Option A) → option_eq eq a b ≡ true → option_map f a ≡ option_map f b
same_options eq f each None None e = refl
same_options eq f each None (Some y) e = cc
same_options eq f each (Some x) None e = cc
same_options eq f each (Some x) (Some y) e = ap Some (each x y e)

pub not_other : (other same : Bool) → other ≡ not same → IsTrue (not other) → same ≡ true
not_other other true e passes = refl
not_other other false e passes = let clash : false ≡ true = sym (ap not e) ∙ passes in cc
