use Rattle.std.proofs.Common.{Option, false, ap, ◌∙◌}
use Rattle.std.specs.Option.{option_map_or}
use Rattle.cy_values.specs.declared.rows.Cell.{Cell}
use Rattle.cy_values.specs.Same.{is_cell}
use Rattle.cy_network_columns.proofs.ColumnCells.{read_none, read_some}
use Rattle.cy_network_columns.proofs.Keeping.{cell_of_none, cell_of_some}
use Rattle.cy_network_columns.proofs.rows.RowRef.is_at.Goals as goal

pub returns-in-Some : goal.returns-in-Some
returns-in-Some c =
    rw (← c.self.view_is) (c.is_at.ensures ∙ ap (λ (o : Option Cell). option_map_or (λ mine. is_cell c.args.cell.now mine) o false) (cell_of_some c.self.inside.columns.now c.self.inside.number c.args.place c.in-Some.column.now c.self.invariant (read_some c.self.inside.columns.now c.args.place c.in-Some.column.now c.in-Some.ensures.lookup.0 c.in-Some.ensures.lookup.1)))

pub returns-in-None : goal.returns-in-None
returns-in-None c = rw (← c.self.view_is) (ap (λ (o : Option Cell). option_map_or (λ mine. is_cell c.args.cell.now mine) o false) (cell_of_none c.self.inside.columns.now c.self.inside.number c.args.place c.self.invariant (read_none c.self.inside.columns.now c.args.place c.in-None.ensures.lookup.0)))
