use Rattle.std.proofs.Common.{◌≡◌, List, length, nat_lt, is_some, Option, sym, ap, ◌∙◌}
use Rattle.cy_values.specs.declared.rows.Cell.{Cell}
use Rattle.cy_values.specs.declared.rows.Cell.TheVariants as cell
use Rattle.cy_network_columns.specs.internal.Cells.{cells_in}
use Rattle.cy_network_columns.specs.internal.Columns.{cell_in}
use Rattle.cy_network_columns.proofs.ColumnCells.{has_kept}
use Rattle.cy_network_columns.proofs.column.Column.has.Goals as goal

pub returns-in-Nodes : goal.returns-in-Nodes
returns-in-Nodes c =
    let it : c.len.result ≡ length c.in-Nodes.nodes.items = search c.len.ensures in
    ap (nat_lt c.args.number) it ∙ has_kept cell.Node c.in-Nodes.nodes.items c.args.number ∙ ap (λ (xs : List (Option Cell)). is_some (cell_in c.args.number xs)) (ap cells_in (sym c.in-Nodes.is) ∙ c.self.view_is)

pub returns-in-Rels : goal.returns-in-Rels
returns-in-Rels c =
    let it : c.len-in-Rels.result ≡ length c.in-Rels.rels.items = search c.len-in-Rels.ensures in
    ap (nat_lt c.args.number) it ∙ has_kept cell.Rel c.in-Rels.rels.items c.args.number ∙ ap (λ (xs : List (Option Cell)). is_some (cell_in c.args.number xs)) (ap cells_in (sym c.in-Rels.is) ∙ c.self.view_is)

pub returns-in-Values : goal.returns-in-Values
returns-in-Values c =
    let it : c.len-in-Values.result ≡ length c.in-Values.values.items = search c.len-in-Values.ensures in
    ap (nat_lt c.args.number) it ∙ has_kept cell.Value c.in-Values.values.items c.args.number ∙ ap (λ (xs : List (Option Cell)). is_some (cell_in c.args.number xs)) (ap cells_in (sym c.in-Values.is) ∙ c.self.view_is)
