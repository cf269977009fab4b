use Rattle.std.proofs.Common.{◌≡◌, ◌≤◌}
use Rattle.cy_planner_algebra.specs.declared.operators.Operator.{size-Operator}
use Rattle.cy_planner_algebra.specs.PlanModels.{plan_of}
use Rattle.cy_network_sources.specs.Work.{looks_at_graph}
use Rattle.cy_network_relevance.proofs.plans.+looks_at_graph.Given as goal

-- the part looks at the graph where what is left does
abbrev pub invariant-loop-part : goal.invariant-loop-part
invariant-loop-part l = (looks_at_graph (plan_of l.fn.part) ≡ looks_at_graph (plan_of l.part)) × (size-Operator l.part ≤ size-Operator l.fn.part)

abbrev pub decreases-loop-part : goal.decreases-loop-part
decreases-loop-part l = size-Operator l.part
