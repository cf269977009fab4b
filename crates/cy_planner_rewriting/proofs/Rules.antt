-- What stands in place of a part: one rule each.
use Rattle.std.proofs.Common.{◌≡◌, ℕ, ◌≤◌, true, List, [], ◌∷◌, length, map, filter, refl, sym, ap, subst, ◌∙◌, arith}
use Rattle.std.specs.List.{All}
use Rattle.std.proofs.lemmas.List.{append-nil, length-map}
use Rattle.std.proofs.lemmas.List.Elements.{All-cons, All-head, All-nil, All-tail}
use Rattle.cy_values.specs.declared.rows.Cell.{Cell}
use Rattle.cy_expr.specs.Graphs.{are_different}
use Rattle.cy_planner_algebra.specs.Plans as plan
use Rattle.cy_planner_algebra.specs.Plans.{Plan, Output, width}
use Rattle.cy_planner_algebra.specs.Expressions.{projected, relationships_at}
use Rattle.cy_planner_algebra.specs.Keys.{meet}
use Rattle.cy_planner_algebra.specs.Meaning.{paired, rows_of}
use Rattle.cy_planner_algebra.specs.Parts.{parts}
use Rattle.cy_planner_algebra.specs.Sure.{HasCell, HasCells}
use Rattle.cy_planner_algebra.specs.WellFormed.{IsOutputOver, IsWellFormed, greatest_width}
use Rattle.cy_planner_algebra.specs.Within.{IsWithin}
use Rattle.cy_planner_algebra.proofs.Widths.{wide_rows}
use Rattle.cy_planner_rewriting.specs.internal.Columns.{AreColumns, ArePicked, are_columns_from, renumbered_output}
use Rattle.cy_planner_rewriting.specs.Rewritten.{IsRewritten}
use Rattle.cy_planner_rewriting.proofs.Congruent.{same_within}
use Rattle.cy_planner_rewriting.proofs.Projections.{all_over, all_picked, all_sure, as_many, as_many_picked, columns_cells, columns_inside, first_cells, picked_cells, renumbered_cells}

-- ---- a join with the empty row

each_alone : (rows : List (List Cell)) → paired [] (filter (meet [] []) rows) ≡ rows
each_alone [] = refl
each_alone (row ∷ rows) = ap (λ rest. row ∷ rest) (each_alone rows)

pub join_with_unit : (p : Plan) → IsRewritten (plan.join plan.unit p []) p
join_with_unit p = record {
  as_wide = omega arith;
  well_formed = λ well. well.1;
  rows = λ graph. sym (append-nil (paired [] (filter (meet [] []) (rows_of graph p))) ∙ each_alone (rows_of graph p));
  sure = λ graph sure. sure.1;
  bounded = λ graph tables each. All-tail (IsWithin graph tables) plan.unit (parts p) (All-tail (IsWithin graph tables) (plan.join plan.unit p []) (plan.unit ∷ parts p) each);
}

-- ---- a test of no column

each_passes : (rows : List (List Cell)) → filter (λ row. are_different (relationships_at [] row)) rows ≡ rows
each_passes [] = refl
each_passes (row ∷ rows) = ap (λ rest. row ∷ rest) (each_passes rows)

pub different_in_none : (p : Plan) → IsRewritten (plan.all_different p []) p
different_in_none p = record {
  as_wide = refl;
  well_formed = λ well. well.0;
  rows = λ graph. sym (each_passes (rows_of graph p));
  sure = λ graph sure. sure;
  bounded = λ graph tables each. All-tail (IsWithin graph tables) (plan.all_different p []) (parts p) each;
}

-- ---- a projection to all columns

each_kept : (outputs : List Output) (rows : List (List Cell)) → are_columns_from 0 outputs ≡ true → All (λ row. length row ≡ length outputs) rows → map (projected outputs) rows ≡ rows
each_kept outputs [] is long = refl
each_kept outputs (row ∷ rows) is long =
    λ i. first_cells row outputs is (sym (All-head (λ r. length r ≡ length outputs) row rows long)) i
    ∷ each_kept outputs rows is (All-tail (λ r. length r ≡ length outputs) row rows long) i

pub project_to_all : (p : Plan) (outputs : List Output) → IsWellFormed p → are_columns_from 0 outputs ≡ true → width p ≡ length outputs → IsRewritten (plan.project p outputs) p
project_to_all p outputs well is wide = record {
  as_wide = wide;
  well_formed = λ good. good.0;
  rows = λ graph. sym (each_kept outputs (rows_of graph p) is (subst (λ (n : ℕ). All (λ row. length row ≡ n) (rows_of graph p)) wide (wide_rows graph p well)));
  sure = λ graph sure. sure.0;
  bounded = λ graph tables each. All-tail (IsWithin graph tables) (plan.project p outputs) (parts p) each;
}

-- ---- a projection of a projection

module _ (p : Plan) (outer inner : List Output) (columns : List ℕ) (are : AreColumns inner columns) (well : IsWellFormed (plan.project (plan.project p inner) outer)) where
  abbrev merged : List Output
  merged = map (renumbered_output columns) outer

  over_columns : All (IsOutputOver (length columns)) outer
  over_columns = subst (λ (n : ℕ). All (IsOutputOver n) outer) (sym (as_many inner columns are)) well.1

  merged_row : (row : List Cell) → projected merged row ≡ projected outer (projected inner row)
  merged_row row = renumbered_cells row columns outer over_columns ∙ ap (projected outer) (sym (columns_cells row inner columns are))

  merged_rows : (rows : List (List Cell)) → map (projected merged) rows ≡ map (projected outer) (map (projected inner) rows)
  merged_rows [] = refl
  merged_rows (row ∷ rows) = λ i. merged_row row i ∷ merged_rows rows i

  merged_sure : (rows : List (List Cell)) → All (HasCells outer) (map (projected inner) rows) → All (HasCells merged) rows
  merged_sure [] each = All-nil (HasCells merged)
  merged_sure (row ∷ rows) each =
      All-cons (HasCells merged) row rows
      (all_sure row columns outer over_columns (subst (HasCells outer) (columns_cells row inner columns are) (All-head (HasCells outer) (projected inner row) (map (projected inner) rows) each)))
      (merged_sure rows (All-tail (HasCells outer) (projected inner row) (map (projected inner) rows) each))

  pub project_twice : IsRewritten (plan.project (plan.project p inner) outer) (plan.project p merged)
  project_twice = record {
    as_wide = length-map outer (renumbered_output columns);
    well_formed = λ good. (
      good.0.0,
      all_over (width p) columns outer (columns_inside (width p) inner columns are good.0.1) over_columns,
      subst (λ (n : ℕ). n ≤ greatest_width) (sym (length-map outer (renumbered_output columns))) good.2,
    );
    rows = λ graph. merged_rows (rows_of graph p);
    sure = λ graph sure. (sure.0.0, merged_sure (rows_of graph p) sure.1);
    bounded = λ graph tables each.
        All-cons (IsWithin graph tables) (plan.project p merged) (parts p)
        (same_within graph tables (plan.project (plan.project p inner) outer) (plan.project p merged) (merged_rows (rows_of graph p))
        (All-head (IsWithin graph tables) (plan.project (plan.project p inner) outer) (plan.project p inner ∷ parts p) each))
        (All-tail (IsWithin graph tables) (plan.project p inner) (parts p)
        (All-tail (IsWithin graph tables) (plan.project (plan.project p inner) outer) (plan.project p inner ∷ parts p) each));
  }

-- ---- columns of a projection

module _ (p : Plan) (outer inner : List Output) (columns : List ℕ) (made : List Output) (are : AreColumns outer columns) (picks : ArePicked inner columns made) where
  picked_row : (row : List Cell) → projected made row ≡ projected outer (projected inner row)
  picked_row row = picked_cells row inner columns made picks ∙ sym (columns_cells (projected inner row) outer columns are)

  picked_rows : (rows : List (List Cell)) → map (projected made) rows ≡ map (projected outer) (map (projected inner) rows)
  picked_rows [] = refl
  picked_rows (row ∷ rows) = λ i. picked_row row i ∷ picked_rows rows i

  picked_sure : (rows : List (List Cell)) → All (HasCells inner) rows → All (HasCells made) rows
  picked_sure [] each = All-nil (HasCells made)
  picked_sure (row ∷ rows) each =
      All-cons (HasCells made) row rows (all_picked (HasCell row) inner columns made picks (All-head (HasCells inner) row rows each)) (picked_sure rows (All-tail (HasCells inner) row rows each))

  as_wide_made : length made ≡ length outer
  as_wide_made = as_many_picked inner columns made picks ∙ as_many outer columns are

  pub project_of_picked : IsRewritten (plan.project (plan.project p inner) outer) (plan.project p made)
  project_of_picked = record {
    as_wide = as_wide_made;
    well_formed = λ good. (good.0.0, all_picked (IsOutputOver (width p)) inner columns made picks good.0.1, subst (λ (n : ℕ). n ≤ greatest_width) (sym as_wide_made) good.2);
    rows = λ graph. picked_rows (rows_of graph p);
    sure = λ graph sure. (sure.0.0, picked_sure (rows_of graph p) sure.0.1);
    bounded = λ graph tables each.
        All-cons (IsWithin graph tables) (plan.project p made) (parts p)
        (same_within graph tables (plan.project (plan.project p inner) outer) (plan.project p made) (picked_rows (rows_of graph p))
        (All-head (IsWithin graph tables) (plan.project (plan.project p inner) outer) (plan.project p inner ∷ parts p) each))
        (All-tail (IsWithin graph tables) (plan.project p inner) (parts p)
        (All-tail (IsWithin graph tables) (plan.project (plan.project p inner) outer) (plan.project p inner ∷ parts p) each));
  }
