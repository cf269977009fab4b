-- What can stand in place of the side can stand, below what stands above it, in place of the whole.
use Rattle.std.proofs.Common.{◌≤◌}
use Rattle.cy_planner_algebra.specs.declared.operators.Operator.{size-Operator}
use Rattle.cy_planner_rewriting.specs.internal.Above.{StandsBelow}
use Rattle.cy_planner_rewriting.specs.internal.Splits.{side_plan}
use Rattle.cy_planner_rewriting.proofs.rewriting.+rewritten_side.Given as goal

abbrev pub invariant-loop-above : goal.invariant-loop-above
invariant-loop-above l = StandsBelow (side_plan l.fn.side) l.above.items (side_plan l.side) × (size-Operator l.side.part ≤ size-Operator l.fn.side.part)

abbrev pub decreases-loop-above : goal.decreases-loop-above
decreases-loop-above l = size-Operator l.side.part

abbrev pub decreases-rewritten_side : goal.decreases-rewritten_side
decreases-rewritten_side l = size-Operator l.side.part
