-- What rows name is in a graph. (own)
use Rattle.std.specs.Prelude.{⊤, List, IsTrue}
use Rattle.std.specs.List.{AllByRecursion}
use Rattle.cy_values.specs.declared.numbers.Entity.TheVariants as entity
use Rattle.cy_values.specs.declared.rows.Cell.{Cell}
use Rattle.cy_values.specs.declared.rows.Cell.TheVariants as cell
use Rattle.cy_graph.specs.Graph.{Content, is_entity_in}

-- what a cell names is in the graph
abbrev pub IsInGraph : Content → Cell → Type 0
IsInGraph graph (cell.Node id) = IsTrue (is_entity_in graph (entity.Node id))
IsInGraph graph (cell.Rel id) = IsTrue (is_entity_in graph (entity.Rel id))
IsInGraph graph (cell.Rels ids) = AllByRecursion (λ id. IsTrue (is_entity_in graph (entity.Rel id))) ids
IsInGraph graph (cell.Value v) = ⊤

-- and so is what the rows of a table name
abbrev pub AreInGraph : Content → List (List Cell) → Type 0
AreInGraph graph rows = AllByRecursion (λ row. AllByRecursion (IsInGraph graph) row) rows
