use Rattle.cy_planner_algebra.specs.declared.operators.Operator.{size-Operator}
use Rattle.cy_planner_algebra.specs.PlanModels.{plan_of}
use Rattle.cy_network_relevance.specs.internal.Labelled.{NamesNodes}
use Rattle.cy_network_relevance.proofs.masks.conditions.names_nodes.Given as goal

-- it is so of the whole where it is so of the part that is left
abbrev pub invariant-loop-part : goal.invariant-loop-part
invariant-loop-part l = NamesNodes (plan_of l.part) → NamesNodes (plan_of l.fn.part)

abbrev pub decreases-loop-part : goal.decreases-loop-part
decreases-loop-part l = size-Operator l.part
