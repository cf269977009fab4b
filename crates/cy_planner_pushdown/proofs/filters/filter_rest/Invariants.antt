-- The conditions that wait are those that are left, whatever was asked before, and they are read over the rows.
use Rattle.std.proofs.Common.{List, map, vec_len}
use Rattle.cy_trees.specs.Trees.{Expression}
use Rattle.cy_trees.specs.TreeModels.{expression_of}
use Rattle.cy_planner_algebra.specs.Plans.{Plan}
use Rattle.cy_planner_algebra.specs.PlanModels.{plan_of}
use Rattle.cy_planner_rows.specs.Rows.{AreReadOver}
use Rattle.cy_planner_pushdown.specs.internal.Finding.{AreFilteredSoFar}
use Rattle.cy_planner_pushdown.proofs.filters.filter_rest.Given as goal

abbrev pub invariant-loop-test : goal.invariant-loop-test
invariant-loop-test l =
    ((below : Plan) (all : List Expression) → AreFilteredSoFar below all (map expression_of l.fn.kept.rest.items) (plan_of l.fn.kept.plan) → AreFilteredSoFar below all (map expression_of l.rest.items) (plan_of l.plan))
    × AreReadOver (plan_of l.plan) (map expression_of l.rest.items)

abbrev pub decreases-loop-test : goal.decreases-loop-test
decreases-loop-test l = vec_len l.rest
