-- A new index has the nodes of the graph.
use Rattle.std.proofs.Common.{◌≡◌, ℕ, Bool, true, false, cond, ◌&&◌, ◌||◌, List, [], ◌∷◌, ◌++◌, length, Option, None, Some, is_some, Result, Ok, Err, OnOk, refl, sym, ap, subst, ◌∙◌, arith, nat_eq}
use Rattle.std.specs.Prelude.{is_err, IsNone}
use Rattle.std.specs.Option.{option_and_then, option_map_or}
use Rattle.std.proofs.lemmas.Option.{none-some}
use Rattle.cy_values.specs.declared.numbers.NodeId.{NodeId}
use Rattle.cy_values.specs.declared.scalars.Value.{Value}
use Rattle.cy_values.proofs.Booleans.{or_false}
use Rattle.cy_graph.specs.declared.nodes.Node.{Node}
use Rattle.cy_graph.specs.Graph.{State, Versions, IsGraph, node_at}
use Rattle.cy_graph.specs.Maps.{value_at}
use Rattle.cy_index.specs.declared.keys.Key.{Key}
use Rattle.cy_index.specs.declared.keys.Key.TheVariants as key
use Rattle.cy_index.specs.declared.keys.Pair.{Pair}
use Rattle.cy_index.specs.internal.Indexed.{Fills, IsIndexed, Matches, is_in_index, is_listed, stands_by, value_of}
use Rattle.cy_index.specs.internal.Postings.{Version, latest, numbers_at, stands, Puts}
use Rattle.cy_index.specs.internal.Numbers.{is_among}
use Rattle.cy_index.specs.internal.Under.{same_key, is_same, by_node, is_key_of, is_label_among, is_pair_at}
use Rattle.cy_index.proofs.Listed.{Nodes, any_find}
use Rattle.cy_index.proofs.Places.{pair_push, or_assoc}

-- a node stands under the keys of one index more
is_valued : (value : Value) (labels : Option (Unit {0})) (stored : Option Value) → (is_some labels && is_same value stored) ≡ is_same value (option_and_then (λ _. stored) labels)
is_valued value None stored = refl
is_valued value (Some l) stored = refl

one_more : (chosen : List Pair) (pair : Pair) (node : Node) (k : Key) → is_key_of (chosen ++ pair ∷ []) node.labels node.props k ≡ (is_key_of chosen node.labels node.props k || is_in_index (length chosen) pair node k)
one_more chosen pair node (key.Label label) = sym (or_false (is_label_among node.labels (key.Label label) || false))
one_more chosen pair node (key.Prop place value) =
    pair_push (by_node node.labels node.props value) chosen pair place
    ∙ ap (λ b. is_pair_at chosen place (by_node node.labels node.props value) || (nat_eq place (length chosen) && b)) (is_valued value (value_at pair.label node.labels) (value_at pair.key node.props))

more_by : (chosen : List Pair) (pair : Pair) (k : Key) (o : Option Node) → stands_by (chosen ++ pair ∷ []) k o ≡ (stands_by chosen k o || option_map_or (λ node. is_in_index (length chosen) pair node k) o false)
more_by chosen pair k None = refl
more_by chosen pair k (Some node) = one_more chosen pair node k

-- once it is filled, what stands under each key is what the nodes stand under
pub filled_matches : (chosen : List Pair) (pair : Pair) (state : State) (v w : Version Key) → IsGraph state → Matches chosen state v → Fills (length chosen) pair state.content.nodes v w → Matches (chosen ++ pair ∷ []) state w
filled_matches chosen pair state v w graph matches fills k n =
    let o = node_at (record { 0 = n }) state in
    fills k n
    ∙ ap (λ b. b || is_listed (length chosen) pair k n state.content.nodes) (matches k n)
    ∙ ap (λ b. stands_by chosen k o || b) (any_find n (λ node. is_in_index (length chosen) pair node k) state.content.nodes graph.rising)
    ∙ sym (more_by chosen pair k o)

-- one node more
pub node_filled : (place : ℕ) (pair : Pair) (id : NodeId) (node : Node) (value : Value) (v w : Version Key) → value_of pair node ≡ Some value → Puts same_key (key.Prop place value ∷ []) id.0 true v w
    → (k : Key) (n : ℕ) → stands same_key k n w ≡ (stands same_key k n v || (nat_eq n id.0 && is_in_index place pair node k))
node_filled place pair id node value v w is puts k n = puts k n ∙ turned (same_key k (key.Prop place value)) (nat_eq n id.0) (stands same_key k n v) ∙ ap (λ b. stands same_key k n v || (nat_eq n id.0 && b)) (same k)
  where
    turned : (a b s : Bool) → cond ((a || false) && b) true s ≡ (s || (b && a))
    turned true true true = refl
    turned true true false = refl
    turned true false s = sym (or_false s)
    turned false true s = sym (or_false s)
    turned false false s = sym (or_false s)

    same : (k : Key) → same_key k (key.Prop place value) ≡ is_in_index place pair node k
    same (key.Label label) = refl
    same (key.Prop q other) = ap (λ o. nat_eq q place && is_same other o) (sym is)

-- one node more, of those that are left
pub entry_filled : (place : ℕ) (pair : Pair) (id : NodeId) (node : Node) (value : Value) (v w : Version Key) (left rest : Nodes) → value_of pair node ≡ Some value → Puts same_key (key.Prop place value ∷ []) id.0 true v w → left ≡ (id, node) ∷ rest
    → (k : Key) (n : ℕ) → (stands same_key k n w || is_listed place pair k n rest) ≡ (stands same_key k n v || is_listed place pair k n left)
entry_filled place pair id node value v w left rest is puts next k n =
    ap (λ b. b || is_listed place pair k n rest) (node_filled place pair id node value v w is puts k n)
    ∙ or_assoc (stands same_key k n v) (nat_eq n id.0 && is_in_index place pair node k) (is_listed place pair k n rest)
    ∙ ap (λ es. stands same_key k n v || is_listed place pair k n es) (sym next)

-- a key that was chosen, with what was filled
pub chosen_indexed : (chosen : List Pair) (pair : Pair) (graph : Versions) (kept filled new : List (Version Key)) (place : ℕ) → IsGraph graph.now → graph.was ≡ None → IsIndexed chosen graph kept → place ≡ length chosen
    → Fills place pair graph.now.content.nodes (latest kept) (latest filled) → length new ≡ 1 → ((k : Key) → numbers_at same_key k (latest new) ≡ numbers_at same_key k (latest filled)) → IsIndexed (chosen ++ pair ∷ []) graph new
chosen_indexed chosen pair graph kept filled new place laws none indexed last fills one same =
    let matches = filled_matches chosen pair graph.now (latest kept) (latest filled) laws indexed.now (subst (λ i. Fills i pair graph.now.content.nodes (latest kept) (latest filled)) last fills) in
    record {
      some = omega (arith, one);
      now = λ k n. ap (is_among n) (same k) ∙ matches k n;
      was = λ before is. absurd (none-some before (sym none ∙ is));
      closed = λ _. one;
    }

-- what an answer that is no refusal promises
pub not_refused : {T E P : Type 0} (r : Result T E) → is_err r ≡ false → OnOk r P → P
not_refused (Ok x) ok promise = promise
not_refused (Err e) ok promise = cc

pub none_is : {T : Type 0} (o : Option T) → IsNone o → o ≡ None
none_is None is = refl
none_is (Some x) is = cc
