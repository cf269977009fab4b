use Rattle.std.proofs.Common.{◌≡◌, List, Option, slice_get, Bor, sym, ap, ◌∙◌}
use Rattle.std.specs.Option.{option_copied}
use Rattle.cy_values.specs.declared.rows.Cell.{Cell}
use Rattle.cy_values.specs.declared.rows.Cell.TheVariants as cell
use Rattle.cy_values.specs.declared.scalars.Value.{Value}
use Rattle.cy_values.specs.contracts.scalars.ValuePartialEq.TheImpl as values_equal
use Rattle.cy_network_columns.specs.internal.Cells.{cells_in}
use Rattle.cy_network_columns.specs.internal.Columns.{cell_in}
use Rattle.cy_network_columns.specs.Rows.{alike_by, are_alike}
use Rattle.cy_network_columns.proofs.ColumnCells.{alike_kept, read_any, values_at}
use Rattle.cy_network_columns.proofs.column.Column.same_at.Goals as goal

pub returns-in-Values : goal.returns-in-Values
returns-in-Values c =
    let values = c.in-Values.values.items in
    let first : option_copied c.get-in-Values.result ≡ slice_get c.in-Values.values.items c.args.number =
    read_any (λ (b : Bor Value). b.now) c.deref-in-Values.result.now c.args.number c.get-in-Values.result c.get-in-Values.ensures.lookup.0 c.get-in-Values.ensures.lookup.1
    ∙ ap (λ (xs : List Value). slice_get xs c.args.number) c.deref-in-Values.ensures.value in
    let second : option_copied c.get-in-Values-2.result ≡ slice_get c.in-Values.values.items c.args.other =
    read_any (λ (b : Bor Value). b.now) c.deref-in-Values-2.result.now c.args.other c.get-in-Values-2.result c.get-in-Values-2.ensures.lookup.0 c.get-in-Values-2.ensures.lookup.1
    ∙ ap (λ (xs : List Value). slice_get xs c.args.other) c.deref-in-Values-2.ensures.value in
    c.are_same-in-Values.ensures ∙ (λ i. alike_by values_equal.ghosts.eq (first i) (second i))
    ∙ alike_kept values_equal.ghosts.eq cell.Value (λ x y. c.cells_equal.ensures (cell.Value x) (cell.Value y)) (slice_get values c.args.number) (slice_get values c.args.other)
    ∙ sym (λ i. are_alike (values_at values c.args.number i) (values_at values c.args.other i))
    ∙ ap (λ (xs : List (Option Cell)). are_alike (cell_in c.args.number xs) (cell_in c.args.other xs)) (ap cells_in (sym c.in-Values.is) ∙ c.self.view_is)
