use Rattle.std.proofs.Common.{◌≡◌, length}
use Rattle.cy_network_columns.specs.internal.Chains.{IsLinked, hashes_of, placed_at, those_below}
use Rattle.cy_network_columns.proofs.chains.join_all.Given as goal

-- the numbers so far are linked
abbrev pub invariant-loop-number : goal.invariant-loop-number
invariant-loop-number l = record {
  linked : IsLinked (those_below l.number (placed_at (length l.initial.heads) (hashes_of l.initial.links))) l.heads l.links;
  hashes : hashes_of l.links ≡ hashes_of l.initial.links;
  places : length l.heads ≡ length l.initial.heads;
  long : length l.links ≡ length l.initial.links;
}
