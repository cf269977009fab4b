use Rattle.std.proofs.Common.{◌≡◌}
use Rattle.cy_index.specs.internal.Postings.{version_of}
use Rattle.cy_index.proofs.postings.settle.Given as goal

-- the numbers that are present stay
abbrev pub invariant-loop-step : goal.invariant-loop-step
invariant-loop-step g l = version_of l.lists.entries ≡ version_of l.initial.lists.entries
