-- Where an end stands in the column of the operator that was come to, one stands in that of the first.
use Rattle.cy_planner_algebra.specs.declared.operators.Operator.{size-Operator}
use Rattle.cy_planner_algebra.specs.PlanModels.{plan_of}
use Rattle.cy_planner_pushdown.specs.internal.Ends.{IsEnd}
use Rattle.cy_planner_pushdown.proofs.ends.is_end.Given as goal

abbrev pub invariant-loop-part : goal.invariant-loop-part
invariant-loop-part l = IsEnd (plan_of l.part) l.column → IsEnd (plan_of l.fn.part) l.fn.column

abbrev pub decreases-loop-part : goal.decreases-loop-part
decreases-loop-part l = size-Operator l.part
