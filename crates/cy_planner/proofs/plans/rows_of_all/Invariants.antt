-- The plan so far is that of the queries before those that are left.
use Rattle.std.proofs.Common.{drop, map}
use Rattle.cy_trees.specs.TreeModels.{query_of}
use Rattle.cy_planner_algebra.specs.PlanModels.{plan_of}
use Rattle.cy_planner.specs.internal.QueryPlans.{IsPlanOfAll}
use Rattle.cy_planner.proofs.plans.rows_of_all.Given as goal

abbrev pub invariant-loop-query : goal.invariant-loop-query
invariant-loop-query l = IsPlanOfAll (map query_of l.queries) (map query_of (drop l.query-index l.later)) (plan_of l.rows)
