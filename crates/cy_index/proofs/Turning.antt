-- Which keys a node leaves, and under which it comes, with each change of it.
use Rattle.std.proofs.Common.{◌≡◌, ℕ, zero, suc, Bool, true, false, cond, not, ◌&&◌, ◌||◌, List, [], ◌∷◌, Option, None, Some, is_some, refl, sym, ap, ◌∙◌}
use Rattle.std.specs.Prelude.{slice_get}
use Rattle.std.specs.List.{list_any}
use Rattle.std.specs.Option.{option_map, option_map_or}
use Rattle.std.specs.Ordering.{eq_by_cmp}
use Rattle.std.specs.Str.{bytes_eq}
use Rattle.std.specs.Cmp.Lexicographic.{texts_ties, nat_list_cmp_total, nat_list_eq_equiv, bytes_decides}
use Rattle.std.proofs.lemmas.Map.Lookups.{exact_bytes}
use Rattle.std.specs.FinMap.Entries as entries
use Rattle.std.proofs.lemmas.Bool.{or_parts}
use Rattle.cy_values.specs.declared.scalars.Value.{Value}
use Rattle.cy_values.proofs.Booleans.{with_false}
use Rattle.cy_graph.specs.declared.nodes.Node.{Node}
use Rattle.cy_graph.specs.Graph.{set_at, set_or_removed, with_label, without_label}
use Rattle.cy_graph.specs.Maps.{text_order, value_at}
use Rattle.cy_index.specs.declared.keys.Key.{Key}
use Rattle.cy_index.specs.declared.keys.Key.TheVariants as key
use Rattle.cy_index.specs.declared.keys.Pair.{Pair}
use Rattle.cy_index.specs.internal.Indexed.{stands_by, Turns}
use Rattle.cy_index.specs.internal.Under.{among, is_same, is_value, by_node, by_value, is_key_of_label, is_key_of_value, is_key_of}
use Rattle.cy_index.proofs.Matching.{label_comes, label_goes}

gone : (b : Bool) → false ≡ (not b && b)
gone true = refl
gone false = refl

-- a new node comes under its keys
pub node_comes : (chosen : List Pair) (node : Node) (keys : List Key) → ((k : Key) → among k keys ≡ is_key_of chosen node.labels node.props k) → Turns chosen None (Some node) [] keys
node_comes chosen node keys are k = sym (are k) ∙ with_false (among k keys)

-- a label comes, and goes
pub label_turns : (chosen : List Pair) (label : List ℕ) (o : Option Node) (node : Node) (keys : List Key) → o ≡ Some node → ((k : Key) → among k keys ≡ is_key_of_label chosen label node.props k)
    → Turns chosen o (option_map (with_label label) o) [] keys
label_turns chosen label o node keys is are k =
    ap (λ x. stands_by chosen k (option_map (with_label label) x)) is
    ∙ label_comes chosen label node.labels node.props k
    ∙ sym (ap (λ x. among k keys || stands_by chosen k x) is ∙ ap (λ b. b || is_key_of chosen node.labels node.props k) (are k))

pub label_dropped : (chosen : List Pair) (label : List ℕ) (o : Option Node) (node : Node) (keys : List Key) → o ≡ Some node → ((k : Key) → among k keys ≡ is_key_of_label chosen label node.props k)
    → Turns chosen o (option_map (without_label label) o) keys []
label_dropped chosen label o node keys is are k =
    ap (λ x. stands_by chosen k (option_map (without_label label) x)) is
    ∙ label_goes chosen label node.labels node.props k
    ∙ sym (ap (λ x. not (among k keys) && stands_by chosen k x) is ∙ ap (λ b. not b && is_key_of chosen node.labels node.props k) (are k))

-- a property that is set, or removed
value_set : (at : List ℕ) (v : Option Value) (props : List (List ℕ × Value)) (other : List ℕ) → value_at other (set_or_removed at v props) ≡ cond (bytes_eq other at) v (value_at other props)
value_set at None props other =
    entries.find-where_key text_order (λ k. not (eq_by_cmp text_order at k)) other (λ x tied. ap (λ (t : List ℕ). not (eq_by_cmp text_order at t)) (sym (exact_bytes other x tied))) props
    ∙ ap (λ b. cond (not b) (value_at other props) None) (sym (texts_ties at other) ∙ nat_list_eq_equiv.symm at other)
    ∙ elim (bytes_eq other at) as (λ b. cond (not b) (value_at other props) None ≡ cond b None (value_at other props)) [ true ↦ refl | false ↦ refl ]
value_set at (Some v) props other =
    entries.find-put text_order nat_list_cmp_total other at v props ∙ ap (λ b. cond b (Some v) (value_at other props)) (sym (texts_ties other at))

module _ (chosen : List Pair) (labels : List (List ℕ × Unit {0})) (at : List ℕ) (v : Option Value) (props : List (List ℕ × Value)) where
  -- a node with another value leaves the keys of the old one, and comes under those of the new one
  value_changes : (k : Key) → is_key_of chosen labels (set_or_removed at v props) k ≡ (is_key_of_value chosen labels at v k || (not (is_key_of_value chosen labels at (value_at at props) k) && is_key_of chosen labels props k))
  value_changes (key.Label label) = refl
  value_changes (key.Prop place value) = by (slice_get chosen place)
    where
      turned : (l a b : Bool) → (l && a) ≡ (((true && l) && a) || (not ((true && l) && b) && (l && b)))
      turned true true b = refl
      turned true false b = gone b
      turned false a b = refl

      on : (pair : Pair) (here : Bool) → bytes_eq pair.key at ≡ here → (is_some (value_at pair.label labels) && is_same value (cond here v (value_at pair.key props)))
          ≡ (((here && is_some (value_at pair.label labels)) && is_same value v) || (not ((here && is_some (value_at pair.label labels)) && is_same value (value_at at props)) && (is_some (value_at pair.label labels) && is_value pair.key value props)))
      on pair true is =
          turned (is_some (value_at pair.label labels)) (is_same value v) (is_same value (value_at at props))
          ∙ ap (λ (t : List ℕ). ((true && is_some (value_at pair.label labels)) && is_same value v) || (not ((true && is_some (value_at pair.label labels)) && is_same value (value_at at props)) && (is_some (value_at pair.label labels) && is_value t value props))) (sym ((bytes_decides pair.key at).0 is))
      on pair false is = refl

      by : (o : Option Pair) → option_map_or (by_node labels (set_or_removed at v props) value) o false ≡ (option_map_or (by_value labels at v value) o false || (not (option_map_or (by_value labels at (value_at at props) value) o false) && option_map_or (by_node labels props value) o false))
      by None = refl
      by (Some pair) = ap (λ o. is_some (value_at pair.label labels) && is_same value o) (value_set at v props pair.key) ∙ on pair (bytes_eq pair.key at) refl

  -- with the value that is there it stands under the same keys
  value_stays : value_at at props ≡ v → (k : Key) → is_key_of chosen labels (set_or_removed at v props) k ≡ is_key_of chosen labels props k
  value_stays same (key.Label label) = refl
  value_stays same (key.Prop place value) = ap (λ (test : Pair → Bool). option_map_or test (slice_get chosen place) false) (λ i pair. is_some (value_at pair.label labels) && is_same value (stays pair.key i))
    where
      kept : (other : List ℕ) (here : Bool) → bytes_eq other at ≡ here → cond here v (value_at other props) ≡ value_at other props
      kept other true is = sym same ∙ ap (λ (t : List ℕ). value_at t props) (sym ((bytes_decides other at).0 is))
      kept other false is = refl

      stays : (other : List ℕ) → value_at other (set_or_removed at v props) ≡ value_at other props
      stays other = value_set at v props other ∙ kept other (bytes_eq other at) refl

pub value_turns : (chosen : List Pair) (at : List ℕ) (v : Option Value) (o : Option Node) (node : Node) (leaving coming : List Key) → o ≡ Some node
    → ((k : Key) → among k leaving ≡ is_key_of_value chosen node.labels at (value_at at node.props) k) → ((k : Key) → among k coming ≡ is_key_of_value chosen node.labels at v k)
    → Turns chosen o (option_map (set_at at v) o) leaving coming
value_turns chosen at v o node leaving coming is left came k =
    ap (λ x. stands_by chosen k (option_map (set_at at v) x)) is
    ∙ value_changes chosen node.labels at v node.props k
    ∙ sym (ap (λ x. among k coming || (not (among k leaving) && stands_by chosen k x)) is ∙ (λ i. came k i || (not (left k i) && is_key_of chosen node.labels node.props k)))

pub value_kept : (chosen : List Pair) (at : List ℕ) (v : Option Value) (o : Option Node) (node : Node) (leaving coming : List Key) → o ≡ Some node → value_at at node.props ≡ v → leaving ≡ [] → coming ≡ []
    → Turns chosen o (option_map (set_at at v) o) leaving coming
value_kept chosen at v o node leaving coming is same no_leaving no_coming k =
    ap (λ x. stands_by chosen k (option_map (set_at at v) x)) is
    ∙ value_stays chosen node.labels at v node.props same k
    ∙ sym (ap (λ x. among k coming || (not (among k leaving) && stands_by chosen k x)) is ∙ ap (λ ks. among k ks || (not (among k leaving) && is_key_of chosen node.labels node.props k)) no_coming ∙ ap (λ ks. not (among k ks) && is_key_of chosen node.labels node.props k) no_leaving)

module _ (labels : List (List ℕ × Unit {0})) (at : List ℕ) (v : Option Value) where
  -- no index is of the values at the key
  no_place : (chosen : List Pair) (place : ℕ) (value : Value) → list_any (λ pair. bytes_eq pair.key at) chosen ≡ false → option_map_or (by_value labels at v value) (slice_get chosen place) false ≡ false
  no_place [] place value none = refl
  no_place (pair ∷ pairs) zero value none = ap (λ b. (b && is_some (value_at pair.label labels)) && is_same value v) (or_parts _ _ none).0
  no_place (pair ∷ pairs) (suc place) value none = no_place pairs place value (or_parts _ _ none).1

  no_key : (chosen : List Pair) → list_any (λ pair. bytes_eq pair.key at) chosen ≡ false → (k : Key) → is_key_of_value chosen labels at v k ≡ false
  no_key chosen none (key.Label label) = refl
  no_key chosen none (key.Prop place value) = no_place chosen place value none

-- then a node stays under its keys
pub value_nowhere : (chosen : List Pair) (at : List ℕ) (v : Option Value) (o : Option Node) → list_any (λ pair. bytes_eq pair.key at) chosen ≡ false → Turns chosen o (option_map (set_at at v) o) [] []
value_nowhere chosen at v None none k = refl
value_nowhere chosen at v (Some node) none k =
    value_changes chosen node.labels at v node.props k
    ∙ λ i. no_key node.labels at v chosen none k i || (not (no_key node.labels at (value_at at node.props) chosen none k i) && is_key_of chosen node.labels node.props k)
