-- What is left of both settles the answer.
use Rattle.std.proofs.Common.{◌≡◌, drop}
use Rattle.cy_network_parts.specs.SamePlans as spec
use Rattle.cy_network_parts.proofs.same_plans.same_names.Given as goal

abbrev pub invariant-loop-name : goal.invariant-loop-name
invariant-loop-name l = spec.same_names (drop l.name-index l.left) l.others.rest.now ≡ spec.same_names l.left l.right
