-- The keys of a node are those of its labels, one after the other.
use Rattle.std.proofs.Common.{◌≡◌, ℕ, ◌+◌, ◌<◌, Bool, true, false, cond, ◌&&◌, ◌||◌, List, [], ◌∷◌, ◌++◌, Option, None, Some, is_some, refl, sym, ap, ◌∙◌}
use Rattle.std.specs.Prelude.{slice_get}
use Rattle.std.specs.List.{list_any}
use Rattle.std.specs.Option.{option_map_or}
use Rattle.std.specs.Ordering.{eq_by_cmp}
use Rattle.std.specs.Str.{bytes_eq}
use Rattle.std.specs.Cmp.Lexicographic.{texts_ties}
use Rattle.cy_values.specs.declared.scalars.Value.{Value}
use Rattle.cy_values.proofs.Booleans.{or_false}
use Rattle.cy_graph.specs.Maps.{text_order, value_at}
use Rattle.cy_index.specs.declared.keys.Key.{Key}
use Rattle.cy_index.specs.declared.keys.Key.TheVariants as key
use Rattle.cy_index.specs.declared.keys.Pair.{Pair}
use Rattle.cy_index.specs.internal.Under.{is_value, by_label, by_node, is_key_of_label, is_key_of}

abbrev pub Labels : Type 0
Labels = List (List ℕ × Unit {0})

-- tests of any element
any_same : {X : Type 0} (f g : X → Bool) → ((x : X) → f x ≡ g x) → (xs : List X) → list_any f xs ≡ list_any g xs
any_same f g same [] = refl
any_same f g same (x ∷ xs) = λ i. same x i || any_same f g same xs i

any_none : {X : Type 0} (xs : List X) → list_any (λ (x : X). false) xs ≡ false
any_none [] = refl
any_none (x ∷ xs) = any_none xs

any_and : {X : Type 0} (f : X → Bool) (b : Bool) (xs : List X) → list_any (λ x. f x && b) xs ≡ (list_any f xs && b)
any_and f b [] = refl
any_and f b (x ∷ xs) = ap (λ c. (f x && b) || c) (any_and f b xs) ∙ elim (f x) as (λ a. ((a && b) || (list_any f xs && b)) ≡ ((a || list_any f xs) && b)) [
  | true ↦ elim b as (λ c. (c || (list_any f xs && c)) ≡ c) [ true ↦ refl | false ↦ elim (list_any f xs) as (λ d. (d && false) ≡ false) [ true ↦ refl | false ↦ refl ] ]
  | false ↦ refl
]

-- a label is among the labels where it has a value
pub has_any : (label : List ℕ) (labels : Labels) → list_any (λ e. bytes_eq label e.0) labels ≡ is_some (value_at label labels)
has_any label [] = refl
has_any label (e ∷ es) =
    ap (λ b. b || list_any (λ e. bytes_eq label e.0) es) (texts_ties label e.0)
    ∙ ap (λ b. eq_by_cmp text_order label e.0 || b) (has_any label es)
    ∙ elim (eq_by_cmp text_order label e.0) as (λ b. (b || is_some (value_at label es)) ≡ is_some (cond b (Some e.1) (value_at label es))) [ true ↦ refl | false ↦ refl ]

module _ (chosen : List Pair) (props : List (List ℕ × Value)) where
  prop_any : (labels : Labels) (value : Value) (o : Option Pair) → list_any (λ e. option_map_or (λ p. by_label e.0 props value p) o false) labels ≡ option_map_or (λ p. by_node labels props value p) o false
  prop_any labels value None = any_none labels
  prop_any labels value (Some p) = any_and (λ e. bytes_eq p.label e.0) (is_value p.key value props) labels ∙ ap (λ b. b && is_value p.key value props) (has_any p.label labels)

  -- the keys by each label are those of the node
  pub labels_all : (labels : Labels) (k : Key) → list_any (λ e. is_key_of_label chosen e.0 props k) labels ≡ is_key_of chosen labels props k
  labels_all labels (key.Label other) = any_same (λ e. bytes_eq other e.0 || false) (λ e. bytes_eq other e.0) (λ e. or_false (bytes_eq other e.0)) labels ∙ has_any other labels ∙ sym (or_false (is_some (value_at other labels)))
  labels_all labels (key.Prop q value) = prop_any labels value (slice_get chosen q)
