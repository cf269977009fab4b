-- What a change of one node does to what stands under the keys of the indexes.
use Rattle.std.proofs.Common.{◌≡◌, ℕ, ◌<◌, ◌≤◌, Bool, true, false, cond, not, ◌&&◌, ◌||◌, List, [], ◌∷◌, Option, None, Some, IsSome, is_some, refl, sym, ap, ◌∙◌, arith, nat_eq, true≢false}
use Rattle.std.specs.Prelude.{slice_get}
use Rattle.std.specs.List.{AllByRecursion}
use Rattle.std.specs.Option.{option_map, option_map_or}
use Rattle.std.specs.Ordering.{nat_cmp, is_eq, eq_by_cmp}
use Rattle.std.specs.Str.{bytes_eq}
use Rattle.std.specs.Cmp.{IsTotalOrder}
use Rattle.std.specs.declared.cmp.Ordering.TheVariants.{Equal}
use Rattle.std.proofs.lemmas.Cmp.{nat_cmp_total, on_total}
use Rattle.std.proofs.lemmas.Map.Lookups.{exact_unsigned, exact_bytes}
use Rattle.std.specs.Cmp.Lexicographic.{texts_ties, nat_list_cmp_total, nat_list_eq_equiv}
use Rattle.std.specs.FinMap.Entries as entries
use Rattle.std.proofs.lemmas.Bool.Decides.{nat_tests}
use Rattle.std.proofs.lemmas.Bool.{eqb-true}
use Rattle.cy_values.specs.declared.numbers.NodeId.{NodeId}
use Rattle.cy_values.specs.declared.scalars.Value.{Value}
use Rattle.cy_graph.specs.declared.nodes.Node.{Node}
use Rattle.cy_graph.specs.Graph.{State, IsGraph, node_order, node_at, with_node, with_node_changed, without_node, replaced}
use Rattle.cy_graph.specs.Maps.{text_order, value_at, with_value, without}
use Rattle.cy_index.specs.declared.keys.Key.{Key}
use Rattle.cy_index.specs.declared.keys.Key.TheVariants as key
use Rattle.cy_index.specs.declared.keys.Pair.{Pair}
use Rattle.cy_index.specs.internal.Indexed.{Matches}
use Rattle.cy_index.specs.internal.Postings.{Version, stands, Replaces}
use Rattle.cy_index.proofs.Numbers.{other_back, same_tests}
use Rattle.cy_index.specs.internal.Under.{among, same_key, is_value, by_label, by_node, is_key_of_label, is_key_of}

turned_tests : (m n : ℕ) → is_eq (nat_cmp m n) ≡ nat_eq n m
turned_tests m n = grind (arith, nat_tests)

-- the node under each number once one is changed, added or removed
node_total : IsTotalOrder node_order
node_total = on_total (λ (id : NodeId). id.0) nat_cmp_total

alike : (id : NodeId) (m : ℕ) (x : NodeId) → node_order (record { 0 = m }) x ≡ Equal → not (eq_by_cmp node_order id x) ≡ not (eq_by_cmp node_order id (record { 0 = m }))
alike id m x tied = ap (λ j. not (is_eq (nat_cmp id.0 j))) (sym (exact_unsigned m x.0 tied))

-- no number from the next one on is in use
pub no_node : (n next : ℕ) (nodes : List (NodeId × Node)) → AllByRecursion (λ (e : NodeId × Node). (1 ≤ e.0.0) × (e.0.0 < next)) nodes → next ≤ n → entries.find node_order (record { 0 = n }) nodes ≡ None
no_node n next [] all le = refl
no_node n next (e ∷ es) all le = ap (λ b. cond b (Some e.1) (entries.find node_order (record { 0 = n }) es)) (same_tests n e.0.0 ∙ other_back n e.0.0 (omega (arith, all.0.1, le))) ∙ no_node n next es all.1 le

pub at_changed : (m : ℕ) (id : NodeId) (change : Node → Node) (state : State) → IsSome (node_at id state) → node_at (record { 0 = m }) (with_node_changed id change state) ≡ cond (nat_eq m id.0) (option_map change (node_at id state)) (node_at (record { 0 = m }) state)
at_changed m id change state there = by (node_at id state) there
  where
    by : (o : Option Node) → IsSome o → entries.find node_order (record { 0 = m }) (replaced id (option_map change o) state.content.nodes) ≡ cond (nat_eq m id.0) (option_map change o) (node_at (record { 0 = m }) state)
    by None is = absurd (true≢false (sym is))
    by (Some node) is =
        entries.find-put node_order node_total (record { 0 = m }) id (change node) state.content.nodes
        ∙ ap (λ b. cond b (Some (change node)) (node_at (record { 0 = m }) state)) (same_tests m id.0)

pub at_removed : (m : ℕ) (id : NodeId) (state : State) → node_at (record { 0 = m }) (without_node id state) ≡ cond (nat_eq m id.0) None (node_at (record { 0 = m }) state)
at_removed m id state =
    entries.find-where_key node_order (λ k. not (eq_by_cmp node_order id k)) (record { 0 = m }) (alike id m) state.content.nodes
    ∙ ap (λ b. cond (not b) (node_at (record { 0 = m }) state) None) (turned_tests id.0 m)
    ∙ elim (nat_eq m id.0) as (λ b. cond (not b) (node_at (record { 0 = m }) state) None ≡ cond b None (node_at (record { 0 = m }) state)) [ true ↦ refl | false ↦ refl ]

pub at_added : (m : ℕ) (node : Node) (state : State) → IsGraph state → node_at (record { 0 = m }) (with_node node state) ≡ cond (nat_eq m state.next_node) (Some node) (node_at (record { 0 = m }) state)
at_added m node state graph =
    entries.find-append node_order node_total state.content.nodes (record { 0 = state.next_node }) node (record { 0 = m }) (no_node state.next_node state.next_node state.content.nodes graph.numbered (omega arith))
    ∙ ap (λ b. cond b (Some node) (node_at (record { 0 = m }) state)) (same_tests m state.next_node)

-- what stands under each key then
pub matches_changed : (chosen : List Pair) (old new : State) (id : NodeId) (node : Option Node) (v w : Version Key) (leaving coming : List Key)
    → Matches chosen old v → Replaces same_key leaving coming id.0 v w
    → ((m : ℕ) → node_at (record { 0 = m }) new ≡ cond (nat_eq m id.0) node (node_at (record { 0 = m }) old))
    → ((k : Key) → option_map_or (λ (n : Node). is_key_of chosen n.labels n.props k) node false ≡ (among k coming || (not (among k leaving) && option_map_or (λ (n : Node). is_key_of chosen n.labels n.props k) (node_at id old) false)))
    → Matches chosen new w
matches_changed chosen old new id node v w leaving coming matches replaces at keys k m =
    replaces k m ∙ by (nat_eq m id.0) refl ∙ ap (λ o. option_map_or (λ (n : Node). is_key_of chosen n.labels n.props k) o false) (sym (at m))
  where
    under : Option Node → Bool
    under o = option_map_or (λ (n : Node). is_key_of chosen n.labels n.props k) o false

    turn : (a b s : Bool) → cond (a && true) true (cond (b && true) false s) ≡ (a || (not b && s))
    turn true b s = refl
    turn false true s = refl
    turn false false s = refl

    keep : (a b s : Bool) → cond (a && false) true (cond (b && false) false s) ≡ s
    keep true true s = refl
    keep true false s = refl
    keep false true s = refl
    keep false false s = refl

    by : (here : Bool) → nat_eq m id.0 ≡ here → cond (among k coming && here) true (cond (among k leaving && here) false (stands same_key k m v)) ≡ under (cond here node (node_at (record { 0 = m }) old))
    by true is =
        turn (among k coming) (among k leaving) (stands same_key k m v)
        ∙ ap (λ s. among k coming || (not (among k leaving) && s)) (matches k m ∙ ap (λ (j : ℕ). under (node_at (record { 0 = j }) old)) (eqb-true m id.0 is))
        ∙ sym (keys k)
    by false is = keep (among k coming) (among k leaving) (stands same_key k m v) ∙ matches k m

-- a label more
under_label : (o : Bool) (a b v : Bool) → ((a || b) && v) ≡ ((a && v) || (b && v))
under_label o true true v = elim v as (λ w. w ≡ (w || w)) [ true ↦ refl | false ↦ refl ]
under_label o true false v = elim v as (λ w. w ≡ (w || false)) [ true ↦ refl | false ↦ refl ]
under_label o false b v = refl

value_found : (label other : List ℕ) (labels : List (List ℕ × Unit {0})) → is_some (value_at other (with_value label tt labels)) ≡ (bytes_eq other label || is_some (value_at other labels))
value_found label other labels =
    ap is_some (entries.find-put text_order nat_list_cmp_total other label tt labels)
    ∙ elim (eq_by_cmp text_order other label) as (λ b. is_some (cond b (Some tt) (value_at other labels)) ≡ (b || is_some (value_at other labels))) [ true ↦ refl | false ↦ refl ]
    ∙ ap (λ b. b || is_some (value_at other labels)) (sym (texts_ties other label))

-- a node with one more label stands under the keys by that label besides
pub label_comes : (chosen : List Pair) (label : List ℕ) (labels : List (List ℕ × Unit {0})) (props : List (List ℕ × Value)) (k : Key) → is_key_of chosen (with_value label tt labels) props k ≡ (is_key_of_label chosen label props k || is_key_of chosen labels props k)
label_comes chosen label labels props (key.Label other) = ap (λ b. b || false) (value_found label other labels) ∙ both (bytes_eq other label) (is_some (value_at other labels))
  where
    both : (a b : Bool) → ((a || b) || false) ≡ ((a || false) || (b || false))
    both true b = refl
    both false b = refl
label_comes chosen label labels props (key.Prop place value) = by (slice_get chosen place)
  where
    by : (o : Option Pair) → option_map_or (by_node (with_value label tt labels) props value) o false ≡ (option_map_or (by_label label props value) o false || option_map_or (by_node labels props value) o false)
    by None = refl
    by (Some pair) = ap (λ b. b && is_value pair.key value props) (value_found label pair.label labels) ∙ under_label true (bytes_eq pair.label label) (is_some (value_at pair.label labels)) (is_value pair.key value props)

-- a label less
value_lost : (label other : List ℕ) (labels : List (List ℕ × Unit {0})) → is_some (value_at other (without label labels)) ≡ (not (bytes_eq other label) && is_some (value_at other labels))
value_lost label other labels =
    ap is_some (entries.find-where_key text_order (λ k. not (eq_by_cmp text_order label k)) other (λ x tied. ap (λ (t : List ℕ). not (eq_by_cmp text_order label t)) (sym (exact_bytes other x tied))) labels)
    ∙ elim (eq_by_cmp text_order label other) as (λ b. is_some (cond (not b) (value_at other labels) None) ≡ (not b && is_some (value_at other labels))) [ true ↦ refl | false ↦ refl ]
    ∙ ap (λ b. not b && is_some (value_at other labels)) (sym (texts_ties label other) ∙ nat_list_eq_equiv.symm label other)

-- a node with a label less stands under the keys but those by that label
pub label_goes : (chosen : List Pair) (label : List ℕ) (labels : List (List ℕ × Unit {0})) (props : List (List ℕ × Value)) (k : Key) → is_key_of chosen (without label labels) props k ≡ (not (is_key_of_label chosen label props k) && is_key_of chosen labels props k)
label_goes chosen label labels props (key.Label other) = ap (λ b. b || false) (value_lost label other labels) ∙ both (bytes_eq other label) (is_some (value_at other labels))
  where
    both : (a b : Bool) → ((not a && b) || false) ≡ (not (a || false) && (b || false))
    both true b = refl
    both false b = refl
label_goes chosen label labels props (key.Prop place value) = by (slice_get chosen place)
  where
    off : (a b v : Bool) → ((not a && b) && v) ≡ (not (a && v) && (b && v))
    off true true true = refl
    off true true false = refl
    off true false true = refl
    off true false false = refl
    off false b v = refl

    by : (o : Option Pair) → option_map_or (by_node (without label labels) props value) o false ≡ (not (option_map_or (by_label label props value) o false) && option_map_or (by_node labels props value) o false)
    by None = refl
    by (Some pair) = ap (λ b. b && is_value pair.key value props) (value_lost label pair.label labels) ∙ off (bytes_eq pair.label label) (is_some (value_at pair.label labels)) (is_value pair.key value props)
