-- The sum so far.
use Rattle.std.proofs.Common.{◌≡◌, map, min, take}
use Rattle.std.specs.Prelude.{sum_by}
use Rattle.cy_trees.specs.TreeModels.{query_of}
use Rattle.cy_planner.specs.Weight as spec
use Rattle.cy_planner.proofs.weight.queries_weight.Given as goal

abbrev pub invariant-loop-query : goal.invariant-loop-query
invariant-loop-query l = l.total ≡ min (sum_by spec.query_weight (map query_of (take l.query-index l.queries))) 18446744073709551615
