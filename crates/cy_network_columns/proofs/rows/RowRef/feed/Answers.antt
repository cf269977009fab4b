use Rattle.std.proofs.Common.{Option, flat_map, fold, ap, ◌∙◌}
use Rattle.std.specs.Hash.FoldHasher.{write}
use Rattle.std.specs.Option.{option_to_list}
use Rattle.cy_values.specs.declared.rows.Cell.{Cell}
use Rattle.cy_values.specs.internal.Hashing.{cell_input}
use Rattle.cy_network_columns.proofs.ColumnCells.{read_none, read_some}
use Rattle.cy_network_columns.proofs.Keeping.{cell_of_none, cell_of_some}
use Rattle.cy_network_columns.proofs.rows.RowRef.feed.Goals as goal

pub returns-in-Some : goal.returns-in-Some
returns-in-Some c =
    rw (← c.self.view_is) (c.feed.ensures ∙ ap (λ (o : Option Cell). fold write c.args.hasher.now (flat_map cell_input (option_to_list o))) (cell_of_some c.self.inside.columns.now c.self.inside.number c.args.place c.in-Some.column.now c.self.invariant (read_some c.self.inside.columns.now c.args.place c.in-Some.column.now c.in-Some.ensures.lookup.0 c.in-Some.ensures.lookup.1)))

pub returns-in_default : goal.returns-in_default
returns-in_default c = rw (← c.self.view_is) (ap (λ (o : Option Cell). fold write c.args.hasher.now (flat_map cell_input (option_to_list o))) (cell_of_none c.self.inside.columns.now c.self.inside.number c.args.place c.self.invariant (read_none c.self.inside.columns.now c.args.place c.in_default.ensures.lookup.0)))
