use Rattle.std.proofs.Common.{◌≡◌, ◌<◌, drop}
use Rattle.cy_network_relevance.specs.NameBits as spec
use Rattle.cy_network_relevance.proofs.masks.name_bits.name_sum.Given as goal

-- the bytes that are left settle the sum
abbrev pub invariant-loop-byte : goal.invariant-loop-byte
invariant-loop-byte l = record {
  sum : spec.name_sum l.sum (drop l.byte-index l.name) ≡ spec.name_sum 0 l.name;
  below : l.sum < 4294967296;
}
