-- What is left of both settles the answer.
use Rattle.std.proofs.Common.{◌≡◌, drop}
use Rattle.cy_network_parts.specs.SamePlans as spec
use Rattle.cy_network_parts.proofs.same_plans.same_keys.Given as goal

abbrev pub invariant-loop-key : goal.invariant-loop-key
invariant-loop-key l = spec.same_keys (drop l.key-index l.keys) l.rest.rest.now ≡ spec.same_keys l.keys l.others
