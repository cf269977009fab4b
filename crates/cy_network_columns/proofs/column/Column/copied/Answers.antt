use Rattle.std.proofs.Common.{◌<◌, ◌++◌, ◌∷◌, [], List, Option, length, arith, sym, ap, ◌∙◌}
use Rattle.cy_values.specs.declared.rows.Cell.{Cell}
use Rattle.cy_network_columns.specs.internal.Columns.{cell_in}
use Rattle.cy_network_columns.proofs.ColumnCells.{one_copied}
use Rattle.cy_network_columns.proofs.column.Column.copied.Goals as goal

pub loop-number-preserved : goal.loop-number-preserved
loop-number-preserved c =
    let inside : c.loop-number.number < length c.args.self.now = omega (arith, c.loop-number-test.true, c.len-number-end.ensures) in
    c.in_ok-push.ensures.items ∙ ap (λ (x : Option Cell). c.loop-number.cells.items ++ x ∷ []) c.in_ok-copy_at.ensures
    ∙ ap (λ (xs : List (Option Cell)). xs ++ cell_in c.loop-number.number c.args.self.now ∷ []) c.loop-number.invariant ∙ sym (one_copied c.args.self.now c.loop-number.number inside)
