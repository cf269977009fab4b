-- The columns of a scope: those of its first few variables, and those of the map.
use Rattle.std.proofs.Common.{arith, min, ◌<◌, ◌≤◌, zero, suc, ◌≡◌, ℕ, ◌+◌, Bool, true, false, cond, List, [], ◌∷◌, ◌++◌, length, take, Option, Some, None, String, Global, string_bytes, refl, sym, ap, ◌∙◌}
use Rattle.std.proofs.lemmas.List.{length-append, take-append-le, take-map, take_min}
use Rattle.std.proofs.lemmas.Iterator.Adapters.{position_from-zero}
use Rattle.std.specs.BTreeMap.{BTreeMap, UpdatesBy, get_by_text}
use Rattle.std.specs.String.{string_cmp}
use Rattle.std.specs.Cmp.Lexicographic.{nat_list_eq_equiv}
use Rattle.std.proofs.lemmas.Map.Text.{btree_map_updates_text}
use Rattle.std.specs.List.{position, position_from}
use Rattle.std.specs.Option.{option_or}
use Rattle.std.proofs.lemmas.Slice.Eq.{bytes_eq-Decides}
use Rattle.std.proofs.lemmas.Option.{none-some}
use Rattle.std.specs.Str.{bytes_eq}
use Rattle.cy_scope_kinds.specs.declared.kinds.Kind.{Kind}
use Rattle.cy_scope_kinds.specs.Scopes.{Scope, find_column, is_bound}
use Rattle.cy_scope_kinds.specs.internal.Maps.{few, variable_of, variables_of, AreColumns}
use Rattle.cy_scope_kinds.proofs.ScopesLemmas.{position_both, column_unbound}

-- the front of a list that isn't longer is all of it
take_whole : {X : Type 0} (n : ℕ) (xs : List X) → length xs ≤ n → take n xs ≡ xs
take_whole zero [] short = refl
take_whole (suc n) [] short = refl
take_whole zero (x ∷ xs) short = absurd (omega arith)
take_whole (suc n) (x ∷ xs) short = ap (λ l. x ∷ l) (take_whole n xs (omega arith))

-- a place among variables is that among what they are seen as
place_seen : (name : List ℕ) (i : ℕ) (vs : List (String Global × Kind)) → position_from (λ v. bytes_eq name (string_bytes v.0)) i vs ≡ position_from (λ v. bytes_eq name v.0) i (variables_of vs)
place_seen name i [] = refl
place_seen name i (v ∷ vs) = ap (cond (bytes_eq name (string_bytes v.0)) (Some i)) (place_seen name (i + 1) vs)

-- the place that a search of the first few finds is the column there
pub early_column : (name : List ℕ) (vs : List (String Global × Kind)) (n : ℕ) → n ≡ min few (length vs) →
    position (λ (v : String Global × Kind). bytes_eq name (string_bytes v.0)) (take n vs) ≡ find_column (variables_of (take few vs)) name
early_column name vs n is =
    ap (λ k. position (λ (v : String Global × Kind). bytes_eq name (string_bytes v.0)) (take k vs)) is
    ∙ ap (position (λ (v : String Global × Kind). bytes_eq name (string_bytes v.0))) (take_min few vs)
    ∙ position_from-zero (λ (v : String Global × Kind). bytes_eq name (string_bytes v.0)) (take few vs)
    ∙ place_seen name 0 (take few vs)

-- a column is that of the first few, or what the map has
looked_up : (columns : BTreeMap (String Global) ℕ) (vs : List (String Global × Kind)) (name : List ℕ) → AreColumns columns (variables_of vs) → (early : Option ℕ) → early ≡ find_column (variables_of (take few vs)) name →
    option_or early (get_by_text columns name) ≡ find_column (variables_of vs) name
looked_up columns vs name are early is =
    sym (are name ∙ ap (λ s. option_or (find_column s name) (get_by_text columns name)) (take-map variable_of few vs) ∙ ap (λ o. option_or o (get_by_text columns name)) (sym is))

pub early_found : (columns : BTreeMap (String Global) ℕ) (vs : List (String Global × Kind)) (name : List ℕ) (column : ℕ) → AreColumns columns (variables_of vs) → Some column ≡ find_column (variables_of (take few vs)) name →
    Some column ≡ find_column (variables_of vs) name
early_found columns vs name column are is = looked_up columns vs name are (Some column) is

pub late_found : (columns : BTreeMap (String Global) ℕ) (vs : List (String Global × Kind)) (name : List ℕ) → AreColumns columns (variables_of vs) → None ≡ find_column (variables_of (take few vs)) name →
    get_by_text columns name ≡ find_column (variables_of vs) name
late_found columns vs name are is = looked_up columns vs name are None is

-- a new variable's column is the next
column_added : (scope : Scope) (kind : Kind) (name q : List ℕ) → find_column (scope ++ (name, kind) ∷ []) q ≡ option_or (find_column scope q) (cond (bytes_eq q name) (Some (length scope)) None)
column_added scope kind name q =
    position_both (λ (v : List ℕ × Kind). bytes_eq q v.0) 0 scope ((name, kind) ∷ [])
    ∙ ap (λ (n : ℕ). option_or (find_column scope q) (cond (bytes_eq q name) (Some n) None)) (let e : 0 + length scope ≡ length scope = omega arith in e)

-- an alternative that was none where the first is none
settled : (o p r : Option ℕ) → o ≡ option_or o r → option_or o p ≡ option_or (option_or o p) r
settled None None r is = is
settled None (Some n) r is = refl
settled (Some m) p r is = refl

chosen : (t : Bool) (n : ℕ) (o g : Option ℕ) → (t ≡ true → option_or o g ≡ None) → option_or (option_or o g) (cond t (Some n) None) ≡ option_or o (cond t (Some n) g)
chosen true n None None h = refl
chosen true n None (Some m) h = absurd (none-some m (sym (h refl)))
chosen true n (Some m) g h = absurd (none-some m (sym (h refl)))
chosen false n None None h = refl
chosen false n None (Some m) h = refl
chosen false n (Some m) g h = refl

-- with a new variable among the first few, the map is as it was
pub early_added : (columns : BTreeMap (String Global) ℕ) (scope : Scope) (kind : Kind) (name : List ℕ) → length scope < few → AreColumns columns scope → AreColumns columns (scope ++ (name, kind) ∷ [])
early_added columns scope kind name short are q =
    let next = cond (bytes_eq q name) (Some (length scope)) None in
    let before : find_column scope q ≡ option_or (find_column scope q) (get_by_text columns q) =
    are q ∙ ap (λ s. option_or (find_column s q) (get_by_text columns q)) (take_whole few scope (omega (arith, short))) in
    let longer : length (scope ++ (name, kind) ∷ []) ≤ few = omega (arith, short, length-append scope ((name, kind) ∷ [])) in
    column_added scope kind name q
    ∙ settled (find_column scope q) next (get_by_text columns q) before
    ∙ ap (λ o. option_or o (get_by_text columns q)) (sym (column_added scope kind name q))
    ∙ ap (λ s. option_or (find_column s q) (get_by_text columns q)) (sym (take_whole few (scope ++ (name, kind) ∷ []) longer))

-- with the next column at a new name, the map has the column of each after the first few
pub late_added : (before after : BTreeMap (String Global) ℕ) (scope : Scope) (kind : Kind) (name : List ℕ) (key : String Global) → string_bytes key ≡ name → few ≤ length scope → AreColumns before scope → is_bound scope name ≡ false
    → UpdatesBy string_cmp (string_cmp key) before after (Some (length scope)) → AreColumns after (scope ++ (name, kind) ∷ [])
late_added before after scope kind name key is long are unbound updates q =
    let early = find_column (take few scope) q in
    let map_after : get_by_text after q ≡ cond (bytes_eq q name) (Some (length scope)) (get_by_text before q) =
    btree_map_updates_text (string_bytes key) before after (Some (length scope)) updates q
    ∙ ap (λ (n : List ℕ). cond (bytes_eq n q) (Some (length scope)) (get_by_text before q)) is
    ∙ ap (λ t. cond t (Some (length scope)) (get_by_text before q)) (nat_list_eq_equiv.symm name q) in
    column_added scope kind name q
    ∙ ap (λ o. option_or o (cond (bytes_eq q name) (Some (length scope)) None)) (are q)
    ∙ chosen (bytes_eq q name) (length scope) early (get_by_text before q) (λ alike. sym (are q) ∙ ap (find_column scope) ((bytes_eq-Decides q name).0 alike) ∙ column_unbound 0 scope name unbound)
    ∙ ap (option_or early) (sym map_after)
    ∙ ap (λ s. option_or (find_column s q) (get_by_text after q)) (sym (take-append-le few scope ((name, kind) ∷ []) long))
