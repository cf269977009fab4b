use Rattle.std.proofs.Common.{◌≡◌, min}
use Rattle.std.specs.Prelude.{flat_map}
use Rattle.cy_network_operators.proofs.DeltaLemmas.{recounted}
use Rattle.cy_network_operators.proofs.distinct_rows.distinct.Given as goal

-- what is made of the row deltas so far
abbrev pub invariant-loop-row_delta : goal.invariant-loop-row_delta
invariant-loop-row_delta l = l.changed.items ≡ flat_map (recounted (λ row n. min n 1)) l.yielded
