use Rattle.std.proofs.Common.{◌≡◌, map}
use Rattle.cy_network.proofs.Once.{one}
use Rattle.cy_network.proofs.kept.once_each.Given as goal

-- the rows so far, each once
abbrev pub invariant-loop-row : goal.invariant-loop-row
invariant-loop-row l = l.once.items ≡ map one l.yielded
