use Rattle.std.proofs.Common.{◌≡◌, ◌≤◌, true}
use Rattle.cy_planner_algebra.specs.declared.operators.Attribute.TheVariants.{Labels}
use Rattle.cy_planner_algebra.specs.declared.operators.Operator.{size-Operator}
use Rattle.cy_planner_algebra.specs.PlanModels.{plan_of}
use Rattle.cy_network_relevance.specs.internal.Kept.{IsUnchanged, KeepsValue}
use Rattle.cy_network_relevance.proofs.reads.+labels_matter.Given as goal

-- the part is unchanged where what is left is, and the labels are the same if they matter so far
abbrev pub invariant-loop-part : goal.invariant-loop-part
invariant-loop-part l =
    ((l.matter ≡ true → KeepsValue l.entity Labels) → IsUnchanged l.entity (plan_of l.part) → IsUnchanged l.entity (plan_of l.fn.part))
    × (size-Operator l.part ≤ size-Operator l.fn.part)

abbrev pub decreases-loop-part : goal.decreases-loop-part
decreases-loop-part l = size-Operator l.part
