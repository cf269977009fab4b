use Rattle.std.proofs.Common.{◌≡◌, length}
use Rattle.cy_tests_layers.proofs.feeds.bag.Given as goal

abbrev pub invariant-loop-number : goal.invariant-loop-number
invariant-loop-number l = length l.rows.items ≡ l.number-index
