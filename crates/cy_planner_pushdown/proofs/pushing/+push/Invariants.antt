-- The conditions lead through what was opened to the place; and then what was put back so far stands where the conditions lead through the rest.
use Rattle.std.proofs.Common.{◌≤◌, ℕ, List, vec_len}
use Rattle.cy_trees.specs.Trees.{Expression}
use Rattle.cy_planner_algebra.specs.declared.operators.Operator.{size-Operator}
use Rattle.cy_planner_algebra.specs.Plans.{Plan}
use Rattle.cy_planner_algebra.specs.PlanModels.{plan_of}
use Rattle.cy_planner_algebra.specs.WellFormed.{IsWellFormed}
use Rattle.cy_planner_pushdown.specs.internal.Pushed.{IsSifted}
use Rattle.cy_planner_pushdown.specs.internal.Steps.{LeadThrough}
use Rattle.cy_planner_pushdown.specs.internal.Tests.{CanAllBePushed, are_true, tests_of}
use Rattle.cy_planner_pushdown.proofs.pushing.+push.Given as goal

abbrev pub invariant-loop-frames : goal.invariant-loop-frames
invariant-loop-frames l =
    LeadThrough (plan_of l.fn.place.part) (tests_of l.fn.place.tests.items) l.frames.items (plan_of l.place.part) (tests_of l.place.tests.items)
    × IsWellFormed (plan_of l.place.part)
    × CanAllBePushed (plan_of l.place.part) (tests_of l.place.tests.items)
    × (size-Operator l.place.part ≤ size-Operator l.fn.place.part)

abbrev pub invariant-loop-frame : goal.invariant-loop-frame
invariant-loop-frame l =
    (part : Plan) × (others : List (List ℕ × Expression)) × LeadThrough (plan_of l.fn.place.part) (tests_of l.fn.place.tests.items) l.frames.items part others
    × IsSifted part (are_true others) (plan_of l.plan)
    × IsWellFormed (plan_of l.plan)

abbrev pub decreases-loop-frames : goal.decreases-loop-frames
decreases-loop-frames l = size-Operator l.place.part

abbrev pub decreases-loop-frame : goal.decreases-loop-frame
decreases-loop-frame l = vec_len l.frames

abbrev pub decreases-push : goal.decreases-push
decreases-push l = size-Operator l.place.part
