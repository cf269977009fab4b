use Rattle.std.proofs.Common.{◌≡◌, flat_map, fold, List, Option, slice_get, sym, ap, subst, ◌∙◌}
use Rattle.cy_values.specs.declared.rows.Cell.{Cell}
use Rattle.cy_values.specs.declared.scalars.Value.{Value}
use Rattle.cy_network_columns.specs.internal.Cells.{cells_in}
use Rattle.cy_network_columns.specs.internal.Columns.{cell_in}
use Rattle.std.specs.Hash.FoldHasher.{write}
use Rattle.std.specs.Option.{option_to_list}
use Rattle.cy_values.specs.internal.Hashing.{cell_input}
use Rattle.cy_network_columns.proofs.ColumnCells.{fed_none, fed_value, read_none, read_some}
use Rattle.cy_network_columns.proofs.column.Column.feed.Goals as goal

pub returns-in-Some-get-2 : goal.returns-in-Some-get-2
returns-in-Some-get-2 c =
    subst (λ (xs : List (Option Cell)). c.hash-in-Some-get-2.new.state ≡ fold write c.args.hasher.now (flat_map cell_input (option_to_list (cell_in c.args.number xs)))) (ap cells_in (sym c.in-Values.is) ∙ c.self.view_is)
    (fed_value c.in-Values.values.items c.args.number c.args.hasher.now c.hash-in-Some-get-2.new.state c.in-Some-get-2.value.now
    (read_some c.deref-in-Values.result.now c.args.number c.in-Some-get-2.value.now c.in-Some-get-2.ensures.lookup.0 c.in-Some-get-2.ensures.lookup.1 ∙ ap (λ (xs : List Value). slice_get xs c.args.number) c.deref-in-Values.ensures.value) c.hash-in-Some-get-2.ensures)

pub returns-in_default-get-2 : goal.returns-in_default-get-2
returns-in_default-get-2 c =
    subst (λ (xs : List (Option Cell)). c.args.hasher.now ≡ fold write c.args.hasher.now (flat_map cell_input (option_to_list (cell_in c.args.number xs)))) (ap cells_in (sym c.in-Values.is) ∙ c.self.view_is)
    (fed_none c.in-Values.values.items c.args.number c.args.hasher.now (read_none c.deref-in-Values.result.now c.args.number c.in_default-get-2.ensures.lookup.0 ∙ ap (λ (xs : List Value). slice_get xs c.args.number) c.deref-in-Values.ensures.value))
