-- What the look-ups find is what the tests of the nodes say.
use Rattle.std.proofs.Common.{◌≡◌, ℕ, suc, ◌+◌, ◌≤◌, Bool, true, false, cond, not, ◌&&◌, ◌||◌, List, [], ◌∷◌, length, get_or, map, filter, None, Some, is_some, refl, ap, ◌∙◌, arith, nat_lt}
use Rattle.std.specs.Prelude.{slice_get, position}
use Rattle.std.specs.List.{AllByRecursion, list_any, position_or_len}
use Rattle.std.specs.Option.{option_map_or}
use Rattle.std.specs.Cmp.Lexicographic.{bytes_decides}
use Rattle.std.specs.FinMap.Entries as entries
use Rattle.std.proofs.lemmas.Bool.{and_parts}
use Rattle.std.proofs.lemmas.Bool.Decides.{nat_tests}
use Rattle.std.proofs.lemmas.List.Quantifiers.{position-Some}
use Rattle.std.proofs.lemmas.Option.{slice_get-get_or}
use Rattle.cy_values.specs.declared.numbers.NodeId.{NodeId}
use Rattle.cy_values.specs.declared.scalars.Value.{Value}
use Rattle.cy_values.proofs.Booleans.{itself_equal}
use Rattle.cy_graph.specs.declared.nodes.Node.{Node}
use Rattle.cy_graph.specs.Graph.{State, IsGraph, node_order, node_at, has_label}
use Rattle.cy_graph.specs.Maps.{value_at}
use Rattle.cy_graph.specs.Stored.{IsStorable}
use Rattle.cy_index.specs.Index.{has_value, nodes_where, labelled_nodes, found_nodes, is_pair, has_pair}
use Rattle.cy_index.specs.declared.keys.Key.TheVariants as key
use Rattle.cy_index.specs.declared.keys.Pair.{Pair}
use Rattle.cy_index.specs.internal.Under.{is_key_of, is_value, by_node}
use Rattle.cy_index.proofs.Equal.{stored_value}
use Rattle.cy_index.proofs.Listed.{Nodes, above}
use Rattle.cy_index.proofs.Numbers.{other_back, same_tests}

-- tests that agree on each node
where_same : (p q : Node → Bool) (nodes : Nodes) → AllByRecursion (λ (e : NodeId × Node). p e.1 ≡ q e.1) nodes → filter (λ (e : NodeId × Node). p e.1) nodes ≡ filter (λ (e : NodeId × Node). q e.1) nodes
where_same p q [] all = refl
where_same p q (e ∷ es) all = let rest = where_same p q es all.1 in λ i. cond (all.0 i) (e ∷ rest i) (rest i)

each : (P Q : Node → Type 0) → ((node : Node) → P node → Q node) → (nodes : Nodes) → AllByRecursion (λ (e : NodeId × Node). P e.1) nodes → AllByRecursion (λ (e : NodeId × Node). Q e.1) nodes
each P Q then [] all = tt
each P Q then (e ∷ es) all = (then e.1 all.0, each P Q then es all.1)

-- where the pair stands
pub pair_at : (label at : List ℕ) (chosen : List Pair) (place : ℕ) → position (is_pair label at) chosen ≡ Some place → (pair : Pair) × (slice_get chosen place ≡ Some pair) × (pair.label ≡ label) × (pair.key ≡ at)
pair_at label at (p ∷ ps) place is =
    let says = position-Some (is_pair label at) (p ∷ ps) place p is in
    let parts = and_parts _ _ says.1 in
    let pair = get_or (p ∷ ps) place p in
    (pair, slice_get-get_or (p ∷ ps) place p says.0, (bytes_decides pair.label label).0 parts.0, (bytes_decides pair.key at).0 parts.1)
pair_at label at [] place is = cc

-- the nodes under the key of a value in its index have it
pub found_are : (chosen : List Pair) (label at : List ℕ) (place : ℕ) (value : Value) (state : State) → IsGraph state → position (is_pair label at) chosen ≡ Some place
    → nodes_where (λ node. is_key_of chosen node.labels node.props (key.Prop place value)) state.content ≡ found_nodes label at value state.content
found_are chosen label at place value state graph is =
    let found = pair_at label at chosen place is in
    let pair = found.0 in
    ap (map (λ e. e.0)) (where_same (λ node. is_key_of chosen node.labels node.props (key.Prop place value)) (λ node. has_label label node && has_value at value node) state.content.nodes
    (each (λ node. IsStorable node.props) (λ node. is_key_of chosen node.labels node.props (key.Prop place value) ≡ (has_label label node && has_value at value node)) (λ node stored.
    ap (λ o. option_map_or (by_node node.labels node.props value) o false) found.1
    ∙ (λ i. is_some (value_at (found.2 i) node.labels) && is_value (found.3 i) value node.props)
    ∙ ap (λ b. has_label label node && b) (stored_value at value node.props stored)) state.content.nodes graph.stored))

-- whether there is one
lt_next : (k n : ℕ) → nat_lt (1 + k) (suc n) ≡ nat_lt k n
lt_next k n = grind (arith, nat_tests)

lt_first : (n : ℕ) → nat_lt 0 (suc n) ≡ true
lt_first n = grind (arith, nat_tests)

within : {X : Type 0} (test : X → Bool) (xs : List X) → nat_lt (position_or_len test xs) (length xs) ≡ list_any test xs
within test [] = refl
within test (x ∷ xs) = by (test x) (within test xs)
  where
    by : (b : Bool) → nat_lt (position_or_len test xs) (length xs) ≡ list_any test xs → nat_lt (cond (not b) (1 + position_or_len test xs) 0) (suc (length xs)) ≡ (b || list_any test xs)
    by true rest = lt_first (length xs)
    by false rest = lt_next (position_or_len test xs) (length xs) ∙ rest

some_within : (b : Bool) (n : ℕ) → is_some (cond b (Some n) None) ≡ b
some_within true n = refl
some_within false n = refl

pub has_found : (label at : List ℕ) (chosen : List Pair) → is_some (position (is_pair label at) chosen) ≡ has_pair label at chosen
has_found label at chosen = some_within (nat_lt (position_or_len (is_pair label at) chosen) (length chosen)) (position_or_len (is_pair label at) chosen) ∙ within (is_pair label at) chosen

-- those of the listed nodes that pass another test
filter_named : (look : NodeId → Bool) (p q : Node → Bool) (nodes : Nodes) → AllByRecursion (λ (e : NodeId × Node). look e.0 ≡ q e.1) nodes
    → filter look (map (λ (e : NodeId × Node). e.0) (filter (λ (e : NodeId × Node). p e.1) nodes)) ≡ map (λ (e : NodeId × Node). e.0) (filter (λ (e : NodeId × Node). p e.1 && q e.1) nodes)
filter_named look p q [] all = refl
filter_named look p q (e ∷ es) all = by (p e.1) (filter_named look p q es all.1)
  where
    ids : Nodes → List NodeId
    ids xs = map (λ (e : NodeId × Node). e.0) xs

    passed : Nodes
    passed = filter (λ (e : NodeId × Node). p e.1) es

    both : Nodes
    both = filter (λ (e : NodeId × Node). p e.1 && q e.1) es

    on : (b : Bool) → filter look (ids passed) ≡ ids both → cond b (e.0 ∷ filter look (ids passed)) (filter look (ids passed)) ≡ ids (cond b (e ∷ both) both)
    on true rest = ap (λ l. e.0 ∷ l) rest
    on false rest = rest

    by : (here : Bool) → filter look (ids passed) ≡ ids both → filter look (ids (cond here (e ∷ passed) passed)) ≡ ids (cond (here && q e.1) (e ∷ both) both)
    by true rest = ap (λ b. cond b (e.0 ∷ filter look (ids passed)) (filter look (ids passed))) all.0 ∙ on (q e.1) rest
    by false rest = rest

-- each node is found under its number
still_found : (e : NodeId × Node) (es xs : Nodes) → AllByRecursion (λ (x : NodeId × Node). e.0.0 + 1 ≤ x.0.0) xs → AllByRecursion (λ (x : NodeId × Node). entries.find node_order x.0 es ≡ Some x.1) xs → AllByRecursion (λ (x : NodeId × Node). entries.find node_order x.0 (e ∷ es) ≡ Some x.1) xs
still_found e es [] above all = tt
still_found e es (x ∷ xs) above all = (
  ap (λ b. cond b (Some e.1) (entries.find node_order x.0 es)) (same_tests x.0.0 e.0.0 ∙ other_back x.0.0 e.0.0 (omega (arith, above.0))) ∙ all.0,
  still_found e es xs above.1 all.1,
)

each_found : (nodes : Nodes) → entries.is_sorted node_order nodes ≡ true → AllByRecursion (λ (x : NodeId × Node). entries.find node_order x.0 nodes ≡ Some x.1) nodes
each_found [] up = tt
each_found (e ∷ es) up = (
  ap (λ b. cond b (Some e.1) (entries.find node_order e.0 es)) (same_tests e.0.0 e.0.0 ∙ itself_equal e.0.0),
  still_found e es es (above e.0 es (and_parts _ _ up).0) (each_found es (and_parts _ _ up).1),
)

looked_up : (test : Node → Bool) (whole nodes : Nodes) → AllByRecursion (λ (x : NodeId × Node). entries.find node_order x.0 whole ≡ Some x.1) nodes → AllByRecursion (λ (x : NodeId × Node). option_map_or test (entries.find node_order x.0 whole) false ≡ test x.1) nodes
looked_up test whole [] all = tt
looked_up test whole (x ∷ xs) all = (ap (λ o. option_map_or test o false) all.0, looked_up test whole xs all.1)

-- the nodes with the label, read one by one
pub found_among : (label at : List ℕ) (value : Value) (state : State) → IsGraph state
    → filter (λ id. option_map_or (has_value at value) (node_at id state) false) (labelled_nodes label state.content) ≡ found_nodes label at value state.content
found_among label at value state graph =
    filter_named (λ id. option_map_or (has_value at value) (node_at id state) false) (has_label label) (has_value at value) state.content.nodes (looked_up (has_value at value) state.content.nodes state.content.nodes (each_found state.content.nodes graph.rising))
