-- A relationship with the same ends and the same type makes the same rows.
use Rattle.std.proofs.Common.{◌≡◌, ℕ, ◌==◌, List, [], ◌∷◌, Some, ap, cond, refl}
use Rattle.std.specs.List.{list_any}
use Rattle.std.specs.Str.{bytes_eq}
use Rattle.cy_values.specs.declared.numbers.RelId.{RelId}
use Rattle.cy_values.specs.declared.scalars.Value.TheVariants as value
use Rattle.cy_values.specs.declared.rows.Cell.TheVariants as cell
use Rattle.cy_trees.specs.Trees.{Name}
use Rattle.cy_graph.specs.declared.nodes.Rel.{Rel}
use Rattle.cy_expr.specs.Graphs.{has_type}
use Rattle.cy_planner_algebra.specs.declared.operators.Orientation.{Orientation}
use Rattle.cy_planner_algebra.specs.declared.operators.Orientation.TheVariants.{Directed, Either}
use Rattle.cy_planner_algebra.specs.Meaning.{backwards, forwards, ways}
use Rattle.cy_network_sources.specs.internal.Rows.{rel_rows}
use Rattle.cy_network_sources.specs.Ends.{HaveSameEnds}

module _ (old new : Rel) (same : HaveSameEnds old new) where
  types_alike : (types : List Name) → has_type types old ≡ has_type types new
  types_alike [] = refl
  types_alike (t ∷ types) = ap (λ kind. list_any (λ name. bytes_eq name kind) (t ∷ types)) same.kind

  forwards_alike : (id : RelId) → forwards (id, old) ≡ forwards (id, new)
  forwards_alike id = λ i. cell.Rel id ∷ cell.Node (same.source i) ∷ cell.Node (same.target i) ∷ cell.Value (value.Text (same.kind i)) ∷ []

  backwards_alike : (id : RelId) → backwards (id, old) ≡ backwards (id, new)
  backwards_alike id = λ i. cell.Rel id ∷ cell.Node (same.target i) ∷ cell.Node (same.source i) ∷ cell.Value (value.Text (same.kind i)) ∷ []

  ways_alike : (orientation : Orientation) (id : RelId) → ways orientation (id, old) ≡ ways orientation (id, new)
  ways_alike Directed id = ap (λ row. row ∷ []) (forwards_alike id)
  ways_alike Either id = λ i. cond ((same.source i).0 == (same.target i).0) (forwards_alike id i ∷ []) (forwards_alike id i ∷ backwards_alike id i ∷ [])

  pub rows_alike : (types : List Name) (orientation : Orientation) (number : ℕ) → rel_rows types orientation number (Some old) ≡ rel_rows types orientation number (Some new)
  rows_alike types orientation number = λ i. cond (types_alike types i) (ways_alike orientation (record { 0 = number }) i) []
