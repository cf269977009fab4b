use Rattle.std.proofs.Common.{◌≡◌, ◌<◌, ℕ, slice_get}
use Rattle.cy_network_columns.proofs.rows.RowRef.is_row.Given as goal

-- the cells so far are the same
abbrev pub invariant-loop-place : goal.invariant-loop-place
invariant-loop-place l = (place : ℕ) → place < l.place → slice_get l.self place ≡ slice_get l.row place
