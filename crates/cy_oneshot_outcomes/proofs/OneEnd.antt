-- A relationship leads from a node to one node at most, so a sum over the nodes that it leads to has one term at most.
use Rattle.std.specs.FinMap.Entries as entries
use Rattle.std.proofs.Common.{◌≡◌, ℕ, ◌+◌, Bool, true, false, cond, ◌&&◌, ◌||◌, List, [], ◌∷◌, refl, sym, ap, ◌∙◌, ⊎_elim, arith}
use Rattle.std.specs.Prelude.{◌==◌, sum_by, Option, None, Some}
use Rattle.std.specs.List.{list_any, AllByRecursion}
use Rattle.std.specs.Option.{option_map_or}
use Rattle.std.specs.Ordering.{is_lt, nat_cmp}
use Rattle.std.proofs.lemmas.Bool.{false≢true, and_parts, eqb-true, or_cases, false_from_ne_true}
use Rattle.std.proofs.lemmas.Bool.Decides.{nat_tests}
use Rattle.std.proofs.lemmas.List.Sums.{sum_by-cons}
use Rattle.cy_values.specs.declared.numbers.NodeId.{NodeId}
use Rattle.cy_values.specs.declared.numbers.RelId.{RelId}
use Rattle.cy_values.proofs.Booleans.{and_true, none_and}
use Rattle.cy_values.proofs.Lists.{sum_of_none}
use Rattle.cy_trees.specs.declared.clauses.Direction.{Direction}
use Rattle.cy_trees.specs.declared.clauses.Direction.TheVariants.{Right, Left, Either}
use Rattle.cy_trees.specs.Trees.{Name, RelationshipPattern}
use Rattle.cy_graph.specs.Graph.{Content, node_order, relationship_in}
use Rattle.cy_graph.specs.declared.nodes.Node.{Node}
use Rattle.cy_graph.specs.declared.nodes.Rel.{Rel}
use Rattle.cy_expr.specs.Graphs.{has_type}
use Rattle.cy_oneshot_patterns.specs.Fits.{goes_from_to, joins, leads}
use Rattle.cy_oneshot_outcomes.proofs.Sums.{sum_each_alike}

goes_to_one : (r : Rel) (a m n : NodeId) → goes_from_to a r m ≡ true → goes_from_to a r n ≡ true → m.0 ≡ n.0
goes_to_one r a m n h k =
    sym (eqb-true r.target.0 m.0 (and_parts (r.source.0 == a.0) (r.target.0 == m.0) h).1) ∙ eqb-true r.target.0 n.0 (and_parts (r.source.0 == a.0) (r.target.0 == n.0) k).1

comes_from_one : (r : Rel) (a m n : NodeId) → goes_from_to m r a ≡ true → goes_from_to n r a ≡ true → m.0 ≡ n.0
comes_from_one r a m n h k =
    sym (eqb-true r.source.0 m.0 (and_parts (r.source.0 == m.0) (r.target.0 == a.0) h).0) ∙ eqb-true r.source.0 n.0 (and_parts (r.source.0 == n.0) (r.target.0 == a.0) k).0

-- a relationship that goes both ways between a node and others is a loop
both_from_one : (r : Rel) (a m n : NodeId) → goes_from_to a r m ≡ true → goes_from_to n r a ≡ true → m.0 ≡ n.0
both_from_one r a m n h k =
    let out = and_parts (r.source.0 == a.0) (r.target.0 == m.0) h in
    let back = and_parts (r.source.0 == n.0) (r.target.0 == a.0) k in
    sym (eqb-true r.target.0 m.0 out.1) ∙ eqb-true r.target.0 a.0 back.1 ∙ sym (eqb-true r.source.0 a.0 out.0) ∙ eqb-true r.source.0 n.0 back.0

joins_one : (d : Direction) (a : NodeId) (r : Rel) (m n : NodeId) → joins d a r m ≡ true → joins d a r n ≡ true → m.0 ≡ n.0
joins_one Right a r m n h k = goes_to_one r a m n h k
joins_one Left a r m n h k = comes_from_one r a m n h k
joins_one Either a r m n h k = ⊎_elim
    (λ out. ⊎_elim (λ again. goes_to_one r a m n out again) (λ back. both_from_one r a m n out back) (or_cases (goes_from_to a r n) (goes_from_to n r a) k))
    (λ back. ⊎_elim (λ out. sym (both_from_one r a n m out back)) (λ again. comes_from_one r a m n back again) (or_cases (goes_from_to a r n) (goes_from_to n r a) k))
    (or_cases (goes_from_to a r m) (goes_from_to m r a) h)

led_to_one : (d : Direction) (types : List Name) (a m n : NodeId) (found : Option Rel)
    → option_map_or (λ (r : Rel). joins d a r m && has_type types r) found false ≡ true
    → option_map_or (λ (r : Rel). joins d a r n && has_type types r) found false ≡ true → m.0 ≡ n.0
led_to_one d types a m n None h k = absurd (false≢true h)
led_to_one d types a m n (Some r) h k = joins_one d a r m n (and_parts (joins d a r m) (has_type types r) h).0 (and_parts (joins d a r n) (has_type types r) k).0

pub leads_to_one : (graph : Content) (r : RelationshipPattern) (a : NodeId) (id : RelId) (m n : NodeId) → leads graph r a id m ≡ true → leads graph r a id n ≡ true → m.0 ≡ n.0
leads_to_one graph r a id m n h k = led_to_one r.direction r.types a m n (relationship_in graph id) h k

-- ---- nodes under rising numbers, of which one at most passes a test

above_is_other : (k m : ℕ) → is_lt (nat_cmp k m) ≡ true → k ≡ m → ⊥
above_is_other k m h e = grind (arith, nat_tests, h, e)

module _ (test : NodeId × Node → Bool) (one : (m n : NodeId × Node) → test m ≡ true → test n ≡ true → m.0.0 ≡ n.0.0) where
  none_above : (k : NodeId × Node) → test k ≡ true → (nodes : List (NodeId × Node)) → entries.below_all node_order k.0 nodes ≡ true → AllByRecursion (λ n. test n ≡ false) nodes
  none_above k passes [] below = tt
  none_above k passes (n ∷ nodes) below =
      let parts = and_parts (is_lt (node_order k.0 n.0)) (entries.below_all node_order k.0 nodes) below in
      (false_from_ne_true (test n) (λ h. above_is_other k.0.0 n.0.0 parts.0 (one k n passes h)), none_above k passes nodes parts.1)

  pub sum_of_one : (value : ℕ) (nodes : List (NodeId × Node)) → entries.is_sorted node_order nodes ≡ true
      → sum_by (λ n. cond (test n) value 0) nodes ≡ cond (list_any test nodes) value 0
  sum_of_one value [] rising = refl
  sum_of_one value (n ∷ nodes) rising =
      let parts = and_parts (entries.below_all node_order n.0 nodes) (entries.is_sorted node_order nodes) rising in
      sum_by-cons (λ m. cond (test m) value 0) n nodes
      ∙ by (test n) refl parts.0 (sum_of_one value nodes parts.1)
    where
      by : (b : Bool) → test n ≡ b → entries.below_all node_order n.0 nodes ≡ true
          → sum_by (λ m. cond (test m) value 0) nodes ≡ cond (list_any test nodes) value 0
          → cond b value 0 + sum_by (λ m. cond (test m) value 0) nodes ≡ cond (b || list_any test nodes) value 0
      by true passes below rest =
          let none : sum_by (λ m. cond (test m) value 0) nodes ≡ 0 =
          sum_each_alike (λ m. test m ≡ false) (λ m. cond (test m) value 0) (λ m. 0) (λ m h. ap (λ b. cond b value 0) h) nodes (none_above n passes nodes below) ∙ sum_of_none nodes in
          omega (arith, none)
      by false passes below rest = omega (arith, rest)

-- ---- a node that is there

-- what passes and is the node that is there, is the node
pub any_that_is : (f : NodeId → Bool) (y : NodeId) (nodes : List (NodeId × Node)) → list_any (λ n. n.0.0 == y.0) nodes ≡ true
    → list_any (λ n. f n.0 && (n.0.0 == y.0)) nodes ≡ f y
any_that_is f y nodes there = by nodes ∙ ap (λ b. f y && b) there ∙ and_true (f y)
  where
    this : (n : NodeId) (b : Bool) → (n.0 == y.0) ≡ b → (f n && b) ≡ (f y && b)
    this n true e = ap (λ m. f m && true) (ap (λ k. let id : NodeId = record { 0 = k } in id) (eqb-true n.0 y.0 e))
    this n false e = none (f n) (f y)
      where
        none : (b c : Bool) → (b && false) ≡ (c && false)
        none true true = refl
        none true false = refl
        none false true = refl
        none false false = refl

    both : (a b c : Bool) → ((a && b) || (a && c)) ≡ (a && (b || c))
    both true b c = refl
    both false b c = refl

    by : (nodes : List (NodeId × Node)) → list_any (λ n. f n.0 && (n.0.0 == y.0)) nodes ≡ (f y && list_any (λ n. n.0.0 == y.0) nodes)
    by [] = none_and (f y)
    by (n ∷ nodes) =
        (λ i. this n.0 (n.0.0 == y.0) refl i || by nodes i) ∙ both (f y) (n.0.0 == y.0) (list_any (λ n. n.0.0 == y.0) nodes)
