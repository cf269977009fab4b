use Rattle.std.proofs.Common.{◌≡◌, ℕ, IfSome, length, slice_get}
use Rattle.cy_network_columns.specs.internal.Columns.{cell_at}
use Rattle.cy_network_columns.proofs.rows.widen.Given as goal

-- the columns so far hold the rows that were there
abbrev pub invariant-loop-place : goal.invariant-loop-place
invariant-loop-place l = record {
  many : length l.columns.items ≡ l.place;
  long : (place : ℕ) → IfSome (slice_get l.columns.items place) (λ column. length column ≡ l.count);
  cells : (place number : ℕ) → cell_at l.columns.items place number ≡ cell_at l.initial.columns.items place number;
}
