-- What is left of both settles the answer.
use Rattle.std.proofs.Common.{◌≡◌, drop}
use Rattle.cy_network_parts.specs.Shared.{columns_at}
use Rattle.cy_network_parts.specs.SamePlans as spec
use Rattle.cy_network_parts.proofs.same_plans.same_columns.Given as goal

abbrev pub invariant-loop-key : goal.invariant-loop-key
invariant-loop-key l = spec.same_columns (columns_at l.side (drop l.key-index l.keys)) (columns_at l.side l.rest.rest.now) ≡ spec.same_columns (columns_at l.side l.keys) (columns_at l.side l.others)
