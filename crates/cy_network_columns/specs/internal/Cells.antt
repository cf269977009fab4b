-- The cells of a column, by their kind.
use Rattle.std.specs.Prelude.{List, Option, Some, map}
use Rattle.cy_values.specs.declared.rows.Cell.{Cell}
use Rattle.cy_values.specs.declared.rows.Cell.TheVariants as cell
use Rattle.cy_network_columns.specs.declared.column.Cells.{Cells}
use Rattle.cy_network_columns.specs.declared.column.Cells.TheVariants.{Nodes, Rels, Values, Mixed}

-- for each row its cell, if it has one
abbrev pub cells_in : Cells → List (Option Cell)
cells_in (Nodes nodes) = map (λ n. Some (cell.Node n)) nodes.items
cells_in (Rels rels) = map (λ r. Some (cell.Rel r)) rels.items
cells_in (Values values) = map (λ v. Some (cell.Value v)) values.items
cells_in (Mixed cells) = cells.items
