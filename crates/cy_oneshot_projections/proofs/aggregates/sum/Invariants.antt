use Rattle.std.proofs.Common.{◌≡◌, ◌*◌, drop, pos, ◌+ℤ◌, neg_ℤ, ◌≤ℤ◌}
use Rattle.std.specs.Prelude.{Ok}
use Rattle.cy_expr.specs.Faults.{on_one}
use Rattle.cy_oneshot_meaning.specs.Groups.{total, values_in}
use Rattle.cy_oneshot_projections.proofs.aggregates.sum.Given as goal

-- the total so far, and that of the cells that are left
abbrev pub invariant-loop-cell : goal.invariant-loop-cell
invariant-loop-cell l =
    (on_one (λ m. Ok (l.total +ℤ m)) (on_one total (values_in (drop l.cell-index l.cells))) ≡ on_one total (values_in l.cells))
    × (neg_ℤ (pos (9223372036854775808 * l.cell-index)) ≤ℤ l.total) × (l.total ≤ℤ pos (9223372036854775808 * l.cell-index))
