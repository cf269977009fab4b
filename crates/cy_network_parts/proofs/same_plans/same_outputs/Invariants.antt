-- What is left of both settles the answer.
use Rattle.std.proofs.Common.{◌≡◌, drop, map}
use Rattle.cy_planner_algebra.specs.PlanModels.{output_of}
use Rattle.cy_network_parts.specs.SamePlans as spec
use Rattle.cy_network_parts.proofs.same_plans.same_outputs.Given as goal

abbrev pub invariant-loop-output : goal.invariant-loop-output
invariant-loop-output l = spec.same_outputs (map output_of (drop l.output-index l.left)) (map output_of l.others.rest.now) ≡ spec.same_outputs (map output_of l.left) (map output_of l.right)
