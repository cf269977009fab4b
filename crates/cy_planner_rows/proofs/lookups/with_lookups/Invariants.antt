-- What is left to look up makes the same plan, and there is room for it.
use Rattle.std.proofs.Common.{◌≡◌, ◌+◌, drop}
use Rattle.cy_planner_algebra.specs.Plans.{width}
use Rattle.cy_planner_algebra.specs.PlanModels.{plan_of}
use Rattle.cy_planner_rows.specs.internal.Lookups.{over}
use Rattle.cy_planner_rows.proofs.lookups.with_lookups.Given as goal

abbrev pub invariant-loop-other : goal.invariant-loop-other
invariant-loop-other l =
    record {
      left : over (plan_of l.plan) (drop l.other-index l.wanted) ≡ over (plan_of l.initial.plan) l.wanted;
      wide : width (plan_of l.plan) ≡ width (plan_of l.initial.plan) + l.other-index;
    }
