-- The nodes of a graph that pass a test, by rising number.
use Rattle.std.proofs.Common.{◌≡◌, ℕ, ◌+◌, ◌<◌, ◌≤◌, Bool, true, false, cond, ◌&&◌, ◌||◌, List, [], ◌∷◌, map, filter, Some, refl, sym, ap, ◌∙◌, arith, nat_eq}
use Rattle.std.specs.List.{AllByRecursion, list_any}
use Rattle.std.specs.Option.{option_map_or}
use Rattle.std.specs.Ordering.{nat_cmp, is_lt}
use Rattle.std.specs.declared.cmp.Ordering.{Ordering}
use Rattle.std.specs.declared.cmp.Ordering.TheVariants.{Less, Equal, Greater}
use Rattle.std.specs.FinMap.Entries as entries
use Rattle.std.proofs.lemmas.Bool.{and_parts, eqb-true}
use Rattle.std.proofs.lemmas.Cmp.{ranked}
use Rattle.cy_values.specs.declared.numbers.NodeId.{NodeId}
use Rattle.cy_values.proofs.Booleans.{or_false}
use Rattle.cy_graph.specs.declared.nodes.Node.{Node}
use Rattle.cy_graph.specs.Graph.{State, IsGraph, node_order}
use Rattle.cy_index.specs.Index.{nodes_where}
use Rattle.cy_index.specs.declared.keys.Key.{Key}
use Rattle.cy_index.specs.declared.keys.Pair.{Pair}
use Rattle.cy_index.specs.internal.Indexed.{Matches}
use Rattle.cy_index.specs.internal.Numbers.{Rises, is_among, ids_of}
use Rattle.cy_index.specs.internal.Postings.{Version, numbers_at}
use Rattle.cy_index.specs.internal.Under.{same_key, is_key_of}
use Rattle.cy_index.proofs.Numbers.{other, same_numbers, same_tests}

abbrev pub Nodes : Type 0
Nodes = List (NodeId × Node)

-- in order, each number is below those after it
less : (m n : ℕ) → is_lt (nat_cmp m n) ≡ true → m < n
less m n lt = by (nat_cmp m n) refl lt
  where
    by : (o : Ordering) → nat_cmp m n ≡ o → is_lt o ≡ true → m < n
    by Less e is = ranked m n Less (sym e)
    by Equal e is = cc
    by Greater e is = cc

pub above : (x : NodeId) (nodes : Nodes) → entries.below_all node_order x nodes ≡ true → AllByRecursion (λ (e : NodeId × Node). x.0 + 1 ≤ e.0.0) nodes
above x [] below = tt
above x (e ∷ es) below = (omega (arith, less x.0 e.0.0 (and_parts _ _ below).0), above x es (and_parts _ _ below).1)

-- the numbers of the nodes that pass a test
abbrev pub numbers_where : (Node → Bool) → Nodes → List ℕ
numbers_where test nodes = map (λ e. e.0.0) (filter (λ e. test e.1) nodes)

-- they rise
rise_from : (test : Node → Bool) (low : ℕ) (nodes : Nodes) → AllByRecursion (λ (e : NodeId × Node). low ≤ e.0.0) nodes → entries.is_sorted node_order nodes ≡ true → Rises low (numbers_where test nodes)
rise_from test low [] all up = tt
rise_from test low (e ∷ es) all up =
    elim (test e.1) as (λ b. Rises low (map (λ e. e.0.0) (cond b (e ∷ filter (λ e. test e.1) es) (filter (λ e. test e.1) es)))) [
      | true ↦ (all.0, rise_from test (e.0.0 + 1) es (above e.0 es (and_parts _ _ up).0) (and_parts _ _ up).1)
      | false ↦ rise_from test low es all.1 (and_parts _ _ up).1
    ]

all_from_none : (nodes : Nodes) → AllByRecursion (λ (e : NodeId × Node). 0 ≤ e.0.0) nodes
all_from_none [] = tt
all_from_none (e ∷ es) = (omega arith, all_from_none es)

-- a number is among them where a node with it passes
pub among_where : (n : ℕ) (test : Node → Bool) (nodes : Nodes) → is_among n (numbers_where test nodes) ≡ list_any (λ e. nat_eq n e.0.0 && test e.1) nodes
among_where n test [] = refl
among_where n test (e ∷ es) = by (test e.1) ∙ ap (λ b. (nat_eq n e.0.0 && test e.1) || b) (among_where n test es)
  where
    by : (passes : Bool) → is_among n (map (λ e. e.0.0) (cond passes (e ∷ filter (λ e. test e.1) es) (filter (λ e. test e.1) es))) ≡ ((nat_eq n e.0.0 && passes) || is_among n (numbers_where test es))
    by true = elim (nat_eq n e.0.0) as (λ b. (b || is_among n (numbers_where test es)) ≡ ((b && true) || is_among n (numbers_where test es))) [ true ↦ refl | false ↦ refl ]
    by false = elim (nat_eq n e.0.0) as (λ b. is_among n (numbers_where test es) ≡ ((b && false) || is_among n (numbers_where test es))) [ true ↦ refl | false ↦ refl ]

-- a number below all is of none
none_under : (n low : ℕ) (test : Node → Bool) (nodes : Nodes) → n < low → AllByRecursion (λ (e : NodeId × Node). low ≤ e.0.0) nodes → list_any (λ e. nat_eq n e.0.0 && test e.1) nodes ≡ false
none_under n low test [] lt all = refl
none_under n low test (e ∷ es) lt all =
    ap (λ b. (b && test e.1) || list_any (λ e. nat_eq n e.0.0 && test e.1) es) (other n e.0.0 (omega (arith, all.0, lt))) ∙ none_under n low test es lt all.1

-- which is the one that is looked up
pub any_find : (n : ℕ) (test : Node → Bool) (nodes : Nodes) → entries.is_sorted node_order nodes ≡ true → list_any (λ e. nat_eq n e.0.0 && test e.1) nodes ≡ option_map_or test (entries.find node_order (record { 0 = n }) nodes) false
any_find n test [] up = refl
any_find n test (e ∷ es) up =
    by (nat_eq n e.0.0) refl (any_find n test es (and_parts _ _ up).1)
    ∙ ap (λ b. option_map_or test (cond b (Some e.1) (entries.find node_order (record { 0 = n }) es)) false) (sym (same_tests n e.0.0))
  where
    by : (here : Bool) → nat_eq n e.0.0 ≡ here → list_any (λ e. nat_eq n e.0.0 && test e.1) es ≡ option_map_or test (entries.find node_order (record { 0 = n }) es) false
        → ((here && test e.1) || list_any (λ e. nat_eq n e.0.0 && test e.1) es) ≡ option_map_or test (cond here (Some e.1) (entries.find node_order (record { 0 = n }) es)) false
    by true is rest = ap (λ b. test e.1 || b) (none_under n (e.0.0 + 1) test es (omega (arith, eqb-true n e.0.0 is)) (above e.0 es (and_parts _ _ up).0)) ∙ or_false (test e.1)
    by false is rest = rest

-- the numbers are those of the nodes
named : (nodes : Nodes) → ids_of (map (λ e. e.0.0) nodes) ≡ map (λ e. e.0) nodes
named [] = refl
named (e ∷ es) = ap (λ l. e.0 ∷ l) (named es)

-- what stands under a key is what the nodes of the graph stand under
pub under_key : (chosen : List Pair) (k : Key) (state : State) (v : Version Key) → IsGraph state → Matches chosen state v → Rises 0 (numbers_at same_key k v)
    → ids_of (numbers_at same_key k v) ≡ nodes_where (λ node. is_key_of chosen node.labels node.props k) state.content
under_key chosen k state v graph matches up =
    let test : Node → Bool = λ node. is_key_of chosen node.labels node.props k in
    let nodes = state.content.nodes in
    ap ids_of
    (same_numbers 0 (numbers_at same_key k v) (numbers_where test nodes) up (rise_from test 0 nodes (all_from_none nodes) graph.rising)
    (λ n. matches k n ∙ sym (among_where n test nodes ∙ any_find n test nodes graph.rising)))
    ∙ named (filter (λ e. test e.1) nodes)
