use Rattle.std.proofs.Common.{List, Option, slice_get, ap, ◌∙◌}
use Rattle.std.specs.Option.{option_and_then}
use Rattle.cy_values.specs.declared.rows.Cell.{Cell}
use Rattle.cy_network_columns.specs.Rows.{are_alike}
use Rattle.cy_network_columns.specs.internal.Columns.{cell_in}
use Rattle.cy_network_columns.proofs.ColumnCells.{read_none, read_some}
use Rattle.cy_network_columns.proofs.Keeping.{same_there}
use Rattle.cy_network_columns.proofs.rows.Columns.same_at.Goals as goal

pub returns-in-Some : goal.returns-in-Some
returns-in-Some c =
    let there = read_some c.deref.result.now c.args.place c.in-Some.column.now c.in-Some.ensures.lookup.0 c.in-Some.ensures.lookup.1
    ∙ ap (λ (cs : List (List (Option Cell))). slice_get cs c.args.place) c.deref.ensures.value in
    rw (← c.self.view_is) (same_there c.self.inside.columns.items c.self.inside.count c.args.first c.args.second c.args.place _ c.self.invariant
    (c.same_at.ensures ∙ ap (λ (o : Option (List (Option Cell))). are_alike (option_and_then (cell_in c.args.first) o) (option_and_then (cell_in c.args.second) o)) there))

pub returns-in-None : goal.returns-in-None
returns-in-None c =
    let there = read_none c.deref.result.now c.args.place c.in-None.ensures.lookup.0 ∙ ap (λ (cs : List (List (Option Cell))). slice_get cs c.args.place) c.deref.ensures.value in
    rw (← c.self.view_is) (same_there c.self.inside.columns.items c.self.inside.count c.args.first c.args.second c.args.place _ c.self.invariant
    (ap (λ (o : Option (List (Option Cell))). are_alike (option_and_then (cell_in c.args.first) o) (option_and_then (cell_in c.args.second) o)) there))
