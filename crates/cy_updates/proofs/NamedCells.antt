-- What a variable names on a row.
use Rattle.std.proofs.Common.{◌≡◌, ℕ, zero, suc, List, [], ◌∷◌, Option, Some, None, sym, subst}
use Rattle.std.specs.Prelude.{slice_index_or}
use Rattle.cy_values.specs.declared.numbers.Entity.{Entity}
use Rattle.cy_values.specs.declared.numbers.Entity.TheVariants as entity
use Rattle.cy_values.specs.declared.scalars.Value.TheVariants as value
use Rattle.cy_values.specs.declared.rows.Cell.{Cell}
use Rattle.cy_values.specs.declared.rows.Cell.TheVariants as cell
use Rattle.cy_trees.specs.declared.expressions.Variable.{Variable}
use Rattle.cy_graph.specs.Graph.{State, IsThere}
use Rattle.cy_expr.specs.Evaluation.{column_value}
use Rattle.cy_oneshot_meaning.specs.Reading.{IsInGraph}
use Rattle.cy_oneshot_meaning.specs.internal.Answers.{IsRowThere}
use Rattle.cy_updates_meaning.specs.Values.{entity_in, named_by}

module _ (graph : State) where
  cell_at : (row : List Cell) (i : ℕ) → IsRowThere graph.content row → IsInGraph graph.content (slice_index_or row i (cell.Value value.Null))
  cell_at [] i there = tt
  cell_at (c ∷ row) zero there = there.0
  cell_at (c ∷ row) (suc i) there = cell_at row i there.1

  cell_there : (column : Option ℕ) (row : List Cell) → IsRowThere graph.content row → IsInGraph graph.content (column_value column row)
  cell_there None row there = tt
  cell_there (Some i) row there = cell_at row i there

  entity_there : (c : Cell) (x : Entity) → IsInGraph graph.content c → Some x ≡ entity_in c → IsThere x graph
  entity_there (cell.Node id) x there is = let e : x ≡ entity.Node id = cc in subst (λ (y : Entity). IsThere y graph) (sym e) there
  entity_there (cell.Rel id) x there is = let e : x ≡ entity.Rel id = cc in subst (λ (y : Entity). IsThere y graph) (sym e) there
  entity_there (cell.Rels ids) x there is = cc
  entity_there (cell.Value v) x there is = cc

  -- it is in the graph where what the row names is
  pub named_there : (v : Variable) (row : List Cell) (x : Entity) → IsRowThere graph.content row → Some x ≡ named_by v row → IsThere x graph
  named_there v row x there is = entity_there (column_value v.column row) x (cell_there v.column row there) is
