-- The rows of a scan are few.
use Rattle.std.proofs.Common.{◌≡◌, ℕ, ◌≤◌, true, List, Option, None, Some, IsSome, refl, sym, subst, arith}
use Rattle.std.proofs.lemmas.Bool.{false≢true}
use Rattle.cy_values.specs.declared.rows.Cell.{Cell}
use Rattle.cy_values.specs.Bag.{count_of}
use Rattle.cy_trees.specs.Trees.{Name}
use Rattle.cy_graph.specs.Graph.{IsGraph, State}
use Rattle.cy_network_memory.specs.Counts.{greatest_count}
use Rattle.cy_planner_algebra.specs.declared.operators.Orientation.{Orientation}
use Rattle.cy_planner_algebra.specs.Expressions.{cell_at}
use Rattle.cy_planner_algebra.specs.Meaning.{rows_of}
use Rattle.cy_planner_algebra.specs.Plans as plan
use Rattle.cy_planner_algebra.specs.Plans.{Plan}
use Rattle.cy_network_sources.specs.Scans.{scan_column, scan_parts}
use Rattle.cy_network_sources.specs.internal.Through.{leaf_of, node_made, reads_graph, rel_made}
use Rattle.cy_network_sources.proofs.Recounting.{counted_within}
use Rattle.cy_network_sources.proofs.ScanDeltas.{node_under, rel_under}
use Rattle.cy_network_sources.proofs.ScanLemmas.{count_at}
use Rattle.cy_network_sources.proofs.ThroughCounts.{node_number, node_scan_count, rel_number, rel_scan_count}
use Rattle.cy_network_sources.proofs.ThroughSteps.{leaf_reads, node_few, rel_few, some_of}

-- what a node, or a relationship, makes is few, so all rows of a scan are
module _ (p : Plan) (c : ℕ) (over : leaf_of p ≡ plan.nodes) (column : scan_column p ≡ Some c) (state : State) (is : IsGraph state) (row : List Cell) where
  node_most : (owner : Option ℕ) → count_at (node_made (scan_parts p)) (node_under state) row owner ≤ greatest_count
  node_most None = omega arith
  node_most (Some n) =
      let within = counted_within row (node_made (scan_parts p) n (node_under state n)) in
      let few = node_few (scan_parts p) n (node_under state n) in
      omega (arith, within, few)

  nodes_few : count_of row (rows_of state.content p) ≤ greatest_count
  nodes_few = subst (λ n. n ≤ greatest_count) (sym (node_scan_count p c over column state is row)) (node_most (node_number (cell_at row c)))

module _ (types : List Name) (orientation : Orientation) (p : Plan) (c : ℕ) (over : leaf_of p ≡ plan.rels types orientation) (column : scan_column p ≡ Some c)
    (state : State) (is : IsGraph state) (row : List Cell) where
  rel_most : (owner : Option ℕ) → count_at (rel_made types orientation (scan_parts p)) (rel_under state) row owner ≤ greatest_count
  rel_most None = omega arith
  rel_most (Some n) =
      let within = counted_within row (rel_made types orientation (scan_parts p) n (rel_under state n)) in
      let few = rel_few types orientation (scan_parts p) n (rel_under state n) in
      omega (arith, within, few)

  rels_few : count_of row (rows_of state.content p) ≤ greatest_count
  rels_few = subst (λ n. n ≤ greatest_count) (sym (rel_scan_count types orientation p c over column state is row)) (rel_most (rel_number (cell_at row c)))

-- no row of a scan counts too often
pub scan_few : (state : State) (p : Plan) → IsGraph state → IsSome (scan_column p) → (row : List Cell) → count_of row (rows_of state.content p) ≤ greatest_count
scan_few state p is scans row = by (leaf_of p) refl (leaf_reads p scans)
  where
    found : (c : ℕ) × (scan_column p ≡ Some c)
    found = some_of (scan_column p) scans

    by : (leaf : Plan) → leaf_of p ≡ leaf → reads_graph leaf ≡ true → count_of row (rows_of state.content p) ≤ greatest_count
    by plan.nodes over reads = nodes_few p found.0 over found.1 state is row
    by (plan.rels types orientation) over reads = rels_few types orientation p found.0 over found.1 state is row
    by _ over reads = absurd (false≢true reads)
