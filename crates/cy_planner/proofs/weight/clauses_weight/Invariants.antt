-- The sum so far.
use Rattle.std.proofs.Common.{◌≡◌, map, min, take}
use Rattle.std.specs.Prelude.{sum_by}
use Rattle.cy_trees.specs.TreeModels.{clause_of}
use Rattle.cy_planner.specs.Weight as spec
use Rattle.cy_planner.proofs.weight.clauses_weight.Given as goal

abbrev pub invariant-loop-clause : goal.invariant-loop-clause
invariant-loop-clause l = l.total ≡ min (sum_by spec.clause_weight (map clause_of (take l.clause-index l.clauses))) 18446744073709551615
