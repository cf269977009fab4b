use Rattle.std.proofs.Common.{◌≡◌, take}
use Rattle.std.specs.Prelude.{flat_map}
use Rattle.cy_network.specs.internal.Roots.{excess}
use Rattle.cy_network.proofs.pending.losses.Given as goal

-- the losses so far
abbrev pub invariant-loop-row_delta : goal.invariant-loop-row_delta
invariant-loop-row_delta l = l.pairs.items ≡ flat_map (excess (λ s. s.before) (λ s. s.after)) (take l.row_delta-index l.deltas)
