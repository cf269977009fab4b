use Rattle.std.proofs.Common.{◌≡◌, drop, map}
use Rattle.cy_network_relevance.specs.NameBits as spec
use Rattle.cy_network_relevance.proofs.masks.name_bits.with_labels.Given as goal

-- the labels that are left settle the bits
abbrev pub invariant-loop-label : goal.invariant-loop-label
invariant-loop-label l = spec.with_names l.bits (map (λ e. e.0) (drop l.label-index l.labels)) ≡ spec.with_names l.initial.bits (map (λ e. e.0) l.labels)
