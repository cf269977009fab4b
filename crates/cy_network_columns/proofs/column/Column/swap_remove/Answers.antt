use Rattle.std.proofs.Common.{List, Option, None, Some, sym, ap, ◌∙◌}
use Rattle.std.specs.List.{swap_remove}
use Rattle.cy_values.specs.declared.rows.Cell.{Cell}
use Rattle.cy_values.specs.declared.rows.Cell.TheVariants as cell
use Rattle.cy_network_columns.specs.internal.Cells.{cells_in}
use Rattle.cy_network_columns.proofs.ColumnCells.{swapped_there}
use Rattle.cy_network_columns.proofs.column.Column.swap_remove.Goals as goal
use Rattle.cy_network_columns.proofs.column.Column.swap_remove.Goals.{in-Nodes, in-Rels, in-Values, in-Mixed}

pub returns : goal.returns
returns c = elim c.match-self.branch [
  | in-Nodes w ↦ ap (λ x. cells_in x.cells) w.self-inside-is
      ∙ swapped_there (λ n. Some (cell.Node n)) w.in-Nodes.nodes.items w.drop_at.new.elements.items c.args.self.now c.args.number (ap cells_in (sym w.in-Nodes.is) ∙ c.self.view_is) c.requires w.drop_at.ensures
  | in-Rels w ↦ ap (λ x. cells_in x.cells) w.self-inside-is
      ∙ swapped_there (λ r. Some (cell.Rel r)) w.in-Rels.rels.items w.drop_at-in-Rels.new.elements.items c.args.self.now c.args.number (ap cells_in (sym w.in-Rels.is) ∙ c.self.view_is) c.requires w.drop_at-in-Rels.ensures
  | in-Values w ↦ ap (λ x. cells_in x.cells) w.self-inside-is
      ∙ swapped_there (λ v. Some (cell.Value v)) w.in-Values.values.items w.drop_at-in-Values.new.elements.items c.args.self.now c.args.number (ap cells_in (sym w.in-Values.is) ∙ c.self.view_is) c.requires w.drop_at-in-Values.ensures
  | in-Mixed w ↦ ap (λ x. cells_in x.cells) w.self-inside-is
      ∙ w.drop_at-in-Mixed.ensures None ∙ ap (λ (xs : List (Option Cell)). swap_remove xs c.args.number None) (ap cells_in (sym w.in-Mixed.is) ∙ c.self.view_is)
]
