use Rattle.std.proofs.Common.{◌≡◌, take}
use Rattle.std.specs.Prelude.{flat_map}
use Rattle.cy_network.specs.internal.Roots.{excess}
use Rattle.cy_network.proofs.pending.gains.Given as goal

-- the gains so far
abbrev pub invariant-loop-row_delta : goal.invariant-loop-row_delta
invariant-loop-row_delta l = l.pairs.items ≡ flat_map (excess (λ s. s.after) (λ s. s.before)) (take l.row_delta-index l.deltas)
