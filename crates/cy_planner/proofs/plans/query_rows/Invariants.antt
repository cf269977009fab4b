-- The plan so far stands for the clauses before those that are left.
use Rattle.std.proofs.Common.{drop, map}
use Rattle.cy_trees.specs.TreeModels.{clause_of}
use Rattle.cy_planner_algebra.specs.PlanModels.{plan_of}
use Rattle.cy_planner.specs.internal.Stands.{IsUnderWay}
use Rattle.cy_planner.proofs.plans.query_rows.Given as goal

abbrev pub invariant-loop-clause : goal.invariant-loop-clause
invariant-loop-clause l = IsUnderWay (record { clauses = map clause_of l.clauses }) (map clause_of (drop l.clause-index l.clauses)) (plan_of l.rows)
