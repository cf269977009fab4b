-- Columns of columns.
use Rattle.std.proofs.Common.{◌≡◌, ℕ, ◌<◌, ◌≤◌, List, [], ◌∷◌, length, map, refl, sym, ap, subst, ◌∙◌, arith}
use Rattle.std.specs.Cmp.{IsTotalOrder}
use Rattle.std.specs.List.{AllByRecursion}
use Rattle.std.proofs.lemmas.List.{length-map}
use Rattle.std.proofs.lemmas.List.Elements.{All-cons, All-head, All-tail}
use Rattle.cy_values.specs.declared.rows.Cell.{Cell}
use Rattle.cy_values.specs.Order.{row_cmp}
use Rattle.cy_planner_algebra.specs.Plans.{Plan, width}
use Rattle.cy_planner_algebra.specs.Expressions.{cell_at, projected}
use Rattle.cy_planner_algebra.specs.Meaning.{rows_of}
use Rattle.cy_planner_algebra.specs.Parts.{parts}
use Rattle.cy_planner_algebra.specs.Sure.{HasCells}
use Rattle.cy_planner_algebra.specs.WellFormed.{greatest_width}
use Rattle.cy_planner_algebra.specs.Within.{IsWithin}
use Rattle.cy_planner_rows.specs.Columns.{column_output}
use Rattle.cy_planner_rows.specs.Renumbered.{new_column}
use Rattle.cy_planner_rows.proofs.OverRows.{any_rows, columns_have_cells, columns_over, columns_read}
use Rattle.cy_planner_rewriting.specs.Rewritten.{IsRewritten}
use Rattle.cy_planner_rewriting.proofs.Congruent.{same_within}
use Rattle.cy_planner_rewriting.proofs.Joining.{below_projection}
use Rattle.cy_planner_rewriting.proofs.Projections.{cell_moved}
use Rattle.cy_planner_rewriting.specs.internal.Narrows.{taken}

-- the cells in columns, and in these others
pub cells_moved : (row : List Cell) (columns places : List ℕ) → AllByRecursion (λ place. place < length columns) places
    → map (cell_at (map (cell_at row) columns)) places ≡ map (cell_at row) (map (new_column columns) places)
cells_moved row columns [] each = refl
cells_moved row columns (place ∷ places) each = λ i. sym (cell_moved row columns place place each.0) i ∷ cells_moved row columns places each.1 i

module _ (total : IsTotalOrder row_cmp) (p : Plan) (columns kept places : List ℕ) (same : map (new_column kept) places ≡ columns) (inside : AllByRecursion (λ place. place < length kept) places)
    (there : AllByRecursion (λ c. c < width p) kept) (few : length kept ≤ length columns) where
  abbrev low : Plan
  low = taken kept p

  settled_row : (row : List Cell) → projected (map column_output places) (projected (map column_output kept) row) ≡ projected (map column_output columns) row
  settled_row row =
      columns_read (projected (map column_output kept) row) places
      ∙ ap (λ (r : List Cell). map (cell_at r) places) (columns_read row kept)
      ∙ cells_moved row kept places inside
      ∙ ap (map (cell_at row)) same
      ∙ sym (columns_read row columns)

  settled_each : (rows : List (List Cell)) → map (projected (map column_output places)) (map (projected (map column_output kept)) rows) ≡ map (projected (map column_output columns)) rows
  settled_each [] = refl
  settled_each (row ∷ rows) = λ i. settled_row row i ∷ settled_each rows i

  as_long : length places ≡ length columns
  as_long = sym (length-map places (new_column kept)) ∙ ap length same

  settled_wide : width (taken places low) ≡ width (taken columns p)
  settled_wide = length-map places column_output ∙ as_long ∙ sym (length-map columns column_output)

  pub settled_plan : IsRewritten (taken columns p) (taken places low)
  settled_plan = record {
    as_wide = settled_wide;
    well_formed = λ good. (
      (good.0, columns_over (width p) kept there, (let long = length-map kept column_output in let most = good.2 in let wide = length-map columns column_output in omega (arith, long, most, wide, few))),
      columns_over (length (map column_output kept)) places (subst (λ (n : ℕ). AllByRecursion (λ place. place < n) places) (sym (length-map kept column_output)) inside),
      subst (λ (n : ℕ). n ≤ greatest_width) (sym settled_wide) good.2,
    );
    rows = λ graph. settled_each (rows_of graph p);
    sure = λ graph sure. (
      (sure.0, any_rows (HasCells (map column_output kept)) (λ row. columns_have_cells row kept) (rows_of graph p)),
      any_rows (HasCells (map column_output places)) (λ row. columns_have_cells row places) (rows_of graph low),
    );
    bounded = λ graph tables each.
        let under = All-tail (IsWithin graph tables) (taken columns p) (parts p) each in
        let top : IsWithin graph tables (taken places low) =
        same_within graph tables (taken columns p) (taken places low) (settled_each (rows_of graph p)) (All-head (IsWithin graph tables) (taken columns p) (parts p) each) in
        All-cons (IsWithin graph tables) (taken places low) (low ∷ parts p) top
        (All-cons (IsWithin graph tables) low (parts p) (below_projection total graph tables low (map column_output places) top) under);
  }
