-- Conditions that are put on a plan one after another. (own)
use Rattle.std.specs.Prelude.{◌≡◌, ℕ, Bool, ◌&&◌, List, [], ◌∷◌}
use Rattle.std.specs.List.{AllByRecursion}
use Rattle.cy_values.specs.declared.rows.Cell.{Cell}
use Rattle.cy_trees.specs.Trees.{Expression}
use Rattle.cy_graph.specs.Graph.{Content}
use Rattle.cy_planner_algebra.specs.Plans as plan
use Rattle.cy_planner_algebra.specs.Plans.{Plan}
use Rattle.cy_planner_algebra.specs.WellFormed.{IsWellFormed}
use Rattle.cy_planner_pushdown.specs.internal.Conditions.{cells_at}
use Rattle.cy_planner_pushdown.specs.internal.Ends.{IsEnd}
use Rattle.cy_planner_pushdown.specs.internal.Pushed.{IsSifted}
use Rattle.cy_planner_pushdown.specs.internal.Tests.{CanAllBePushed, are_true}

-- Of several conditions some are put on a plan, and others are left.
pub record ArePartlyPut (below : Plan) (all rest : List (List ℕ × Expression)) (p : Plan) : Type 0 where
  pub done : Content → List Cell → Bool
  pub same : (graph : Content) (row : List Cell) → are_true all graph row ≡ (are_true rest graph row && done graph row)
  pub sifted : IsSifted below done p
  pub can_rest : CanAllBePushed p rest

-- Of several conditions some are left, and the others are divided.
pub record AreDivided (all rest asked others : List (List ℕ × Expression)) : Type 0 where
  pub same : (graph : Content) (row : List Cell) → are_true all graph row ≡ (are_true rest graph row && (are_true asked graph row && are_true others graph row))
  pub can : (p : Plan) → CanAllBePushed p all → CanAllBePushed p rest × CanAllBePushed p asked × CanAllBePushed p others

-- Of several conditions some are left, some are conditions on one cell, which stands in a column, and others are conditions on the row.
pub record AreParted (column : ℕ) (all rest alone others : List (List ℕ × Expression)) : Type 0 where
  pub same : (graph : Content) (row : List Cell) → are_true all graph row ≡ (are_true rest graph row && (are_true alone graph (cells_at (column ∷ []) row) && are_true others graph row))
  pub can : (p : Plan) → CanAllBePushed p all → CanAllBePushed p rest × CanAllBePushed p others
  pub on_nodes : (p : Plan) → IsWellFormed p → IsEnd p column → CanAllBePushed p all → CanAllBePushed plan.nodes alone
  pub single : AllByRecursion (λ (t : List ℕ × Expression). t.0 ≡ 0 ∷ []) alone
