use Rattle.std.proofs.Common.{◌≡◌, drop}
use Rattle.cy_network_relevance.specs.NameBits as spec
use Rattle.cy_network_relevance.proofs.masks.name_bits.with_names.Given as goal

-- the names that are left settle the bits
abbrev pub invariant-loop-name : goal.invariant-loop-name
invariant-loop-name l = spec.with_names l.bits (drop l.name-index l.names) ≡ spec.with_names l.initial.bits l.names
