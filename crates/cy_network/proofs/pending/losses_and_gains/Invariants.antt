use Rattle.std.proofs.Common.{◌≡◌}
use Rattle.std.specs.Prelude.{flat_map}
use Rattle.cy_network.specs.internal.Roots.{excess}
use Rattle.cy_network.proofs.pending.losses_and_gains.Given as goal

-- the losses and the gains so far
abbrev pub invariant-loop-row_delta : goal.invariant-loop-row_delta
invariant-loop-row_delta l = record {
  losses : l.removed.items ≡ flat_map (excess (λ s. s.before) (λ s. s.after)) l.yielded;
  gains : l.added.items ≡ flat_map (excess (λ s. s.after) (λ s. s.before)) l.yielded;
}
