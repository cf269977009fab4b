use Rattle.std.proofs.Common.{◌≡◌, map, take}
use Rattle.cy_oneshot_projections.proofs.projection.descending_keys.Given as goal

-- those of the keys so far
abbrev pub invariant-loop-key : goal.invariant-loop-key
invariant-loop-key l = l.found.items ≡ map (λ k. k.descending) (take l.key-index l.keys)
