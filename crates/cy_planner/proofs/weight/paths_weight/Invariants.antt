-- The sum so far.
use Rattle.std.proofs.Common.{◌≡◌, map, min, take}
use Rattle.std.specs.Prelude.{sum_by}
use Rattle.cy_trees.specs.TreeModels.{path_of}
use Rattle.cy_planner.specs.Weight as spec
use Rattle.cy_planner.proofs.weight.paths_weight.Given as goal

abbrev pub invariant-loop-path : goal.invariant-loop-path
invariant-loop-path l = l.total ≡ min (sum_by spec.path_weight (map path_of (take l.path-index l.paths))) 18446744073709551615
