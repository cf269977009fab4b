use Rattle.std.proofs.Common.{◌++◌, List, Option, get_or, arith, sym, ap, ◌∙◌}
use Rattle.std.specs.Option.{option_to_list}
use Rattle.cy_values.specs.declared.rows.Cell.{Cell}
use Rattle.cy_network_columns.specs.internal.Columns.{cell_in}
use Rattle.cy_network_columns.proofs.ColumnCells.{row_step}
use Rattle.cy_network_columns.proofs.rows.copy_cells.Goals as goal

pub loop-column-preserved : goal.loop-column-preserved
loop-column-preserved c =
    let columns = c.args.columns.now in
    let i = c.loop-column.column-index in
    let column = c.column-item.result in
    c.in_ok-push_cell.ensures ∙ ap (λ (o : Option Cell). c.loop-column.cells.items ++ option_to_list o) (c.in_ok-copy_at.ensures ∙ ap (cell_in c.args.number) c.column-item.is)
    ∙ ap (λ (xs : List Cell). xs ++ option_to_list (cell_in c.args.number (get_or columns i column))) c.loop-column.invariant ∙ sym (row_step columns i column c.args.number (omega (arith, c.loop-column-test.true)))
