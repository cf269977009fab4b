use Rattle.std.proofs.Common.{◌≡◌, ℕ, ◌<◌, Option, Some, length}
use Rattle.cy_network_columns.specs.internal.Chains.{AreChained}
use Rattle.cy_network_columns.proofs.chains.above.Given as goal

-- the number is above, and at the place where the chain began
abbrev pub invariant-loop-above : goal.invariant-loop-above
invariant-loop-above l = record {
  above : l.number < l.above;
  inside : l.above < length l.links;
  placed : (at : ℕ → Option ℕ) (place : ℕ) → AreChained at l.links → at l.first ≡ Some place → at l.above ≡ Some place;
}

abbrev pub decreases-loop-above : goal.decreases-loop-above
decreases-loop-above l = l.above
