use Rattle.std.proofs.Common.{arith, sym, ◌∙◌}
use Rattle.cy_network_columns.proofs.Comparing.{all_same, differs, one_same}
use Rattle.cy_network_columns.proofs.rows.RowRef.is_row.Goals as goal

pub returns-then-not-is_at : goal.returns-then-not-is_at
returns-then-not-is_at c =
    differs c.args.row.now c.args.self.now c.as_slice-cells.result.now c.loop-place.place c.index-cells-place.result c.as_slice-cells.ensures (omega (arith, c.loop-place-test.true)) c.index-cells-place.is
    (sym c.is_at.ensures ∙ c.if-not-is_at.true)

pub loop-place-preserved : goal.loop-place-preserved
loop-place-preserved c =
    one_same c.args.row.now c.args.self.now c.as_slice-cells.result.now c.loop-place.place c.index-cells-place.result c.as_slice-cells.ensures (omega (arith, c.loop-place-test.true)) c.index-cells-place.is
    c.loop-place.invariant (sym c.is_at.ensures ∙ c.if-not-is_at.false)

pub returns : goal.returns
returns c = all_same c.args.row.now c.args.self.now c.as_slice-cells.result.now c.loop-place.place c.ends_by.result c.as_slice-cells.ensures (omega (arith, c.loop-place-test.false)) c.loop-place.invariant c.ends_by.ensures
