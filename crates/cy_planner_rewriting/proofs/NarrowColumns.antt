-- Columns of the rows of plans, and parts over them.
use Rattle.std.proofs.Common.{◌≡◌, ℕ, ◌+◌, ◌<◌, ◌≤◌, List, [], ◌∷◌, ◌++◌, length, map, take, refl, sym, ap, subst, ◌∙◌, arith}
use Rattle.std.specs.Prelude.{Option, Some, option_map}
use Rattle.std.specs.List.{AllByRecursion, range_with_len}
use Rattle.std.specs.Option.{option_and_then}
use Rattle.std.proofs.lemmas.List.{length-map, map-append}
use Rattle.std.proofs.Math.Seq.{take-length}
use Rattle.std.proofs.lemmas.List.Elements.{All-cons, All-head, All-tail}
use Rattle.std.proofs.lemmas.List.FromFn.{length-map-range_with_len}
use Rattle.std.proofs.lemmas.Option.{slice_get-get_or, slice_get-map}
use Rattle.cy_graph.specs.Graph.{Content}
use Rattle.cy_planner_algebra.specs.declared.operators.Attribute.{Attribute}
use Rattle.cy_planner_algebra.specs.Plans as plan
use Rattle.cy_planner_algebra.specs.Plans.{Plan, Output, computed, width}
use Rattle.cy_planner_algebra.specs.Expressions.{null, projected}
use Rattle.cy_planner_algebra.specs.Meaning.{rows_of}
use Rattle.cy_planner_algebra.specs.Parts.{parts}
use Rattle.cy_planner_algebra.specs.Sure.{HasCells}
use Rattle.cy_planner_algebra.specs.WellFormed.{IsWellFormed, greatest_width}
use Rattle.cy_planner_algebra.specs.Within.{IsWithin}
use Rattle.cy_planner_rows.specs.declared.places.Wanted.{Wanted}
use Rattle.cy_planner_rows.specs.Columns.{column_output}
use Rattle.cy_planner_rows.specs.Renumbered.{new_column}
use Rattle.cy_planner_rows.specs.internal.Lookups.{first_columns}
use Rattle.cy_planner_rows.proofs.Lists.{first_elements, map_same}
use Rattle.cy_planner_rows.proofs.OverRows.{IsLong, any_rows, columns_have_cells, columns_over, columns_read, first_over, long_rows, own_part, width_bounded}
use Rattle.cy_planner_rows.specs.Columns.{taken_column}
use Rattle.cy_planner_rewriting.specs.internal.Columns.{AreColumns, renumbered_output}
use Rattle.cy_planner_rewriting.specs.internal.Lowered.{lookup_at, moved}
use Rattle.cy_planner_rewriting.specs.Rewritten.{IsRewritten}
use Rattle.cy_planner_rewriting.proofs.Congruent.{rewritten_again, same_within}
use Rattle.cy_planner_rewriting.proofs.Passing.{all_through_project}
use Rattle.cy_planner_rewriting.proofs.Projections.{as_many, columns_cells, columns_inside, output_known}
use Rattle.cy_planner_rewriting.proofs.Rules.{project_twice}
use Rattle.cy_planner_rewriting.specs.internal.Narrows.{taken}

-- ---- columns

pub are_columns : (columns : List ℕ) → AreColumns (map column_output columns) columns
are_columns [] = refl
are_columns (c ∷ columns) = ap (λ (taken : List (Option ℕ)). Some c ∷ taken) (are_columns columns)

pub width_taken : (columns : List ℕ) (p : Plan) → width (taken columns p) ≡ length columns
width_taken columns p = length-map columns column_output

-- columns taken lie in the rows
pub taken_inside : (columns : List ℕ) (p : Plan) → IsWellFormed (taken columns p) → AllByRecursion (λ c. c < width p) columns
taken_inside columns p well = columns_inside (width p) (map column_output columns) columns (are_columns columns) well.1

-- ---- all columns of a plan

module _ (p : Plan) (well : IsWellFormed p) where
  abbrev all : List ℕ
  all = range_with_len 0 (width p)

  all_rows : (graph : Content) → rows_of graph (taken all p) ≡ rows_of graph p
  all_rows graph =
      map_same (IsLong (width p)) (projected (first_columns (width p)))
      (λ row long. columns_read row all ∙ first_elements row null (width p) (omega (arith, long)) ∙ ap (λ (m : ℕ). take m row) (sym long) ∙ take-length row) (rows_of graph p) (long_rows graph p well)

  pub whole_plan : IsRewritten p (taken all p)
  whole_plan = record {
    as_wide = length-map-range_with_len column_output 0 (width p);
    well_formed = λ good. (
      good,
      first_over (width p) (width p) (omega arith),
      subst (λ (n : ℕ). n ≤ greatest_width) (sym (length-map-range_with_len column_output 0 (width p))) (width_bounded p good),
    );
    rows = all_rows;
    sure = λ graph sure. (sure, any_rows (HasCells (first_columns (width p))) (λ row. columns_have_cells row all) (rows_of graph p));
    bounded = λ graph tables each.
        All-cons (IsWithin graph tables) (taken all p) (parts p) (same_within graph tables p (taken all p) (all_rows graph) (own_part (IsWithin graph tables) p each)) each;
  }

pub whole_columns : (p : Plan) (columns : List ℕ) → IsWellFormed p → columns ≡ range_with_len 0 (width p) → IsRewritten p (taken columns p)
whole_columns p columns well all = subst (λ (cs : List ℕ). IsRewritten p (taken cs p)) (sym all) (whole_plan p well)

-- ---- a projection that takes over columns

module _ (p : Plan) (outputs : List Output) (columns : List ℕ) (are : AreColumns outputs columns) where
  alone_rows : (graph : Content) → rows_of graph (taken columns p) ≡ rows_of graph (plan.project p outputs)
  alone_rows graph = λ i. map (λ row. (columns_read row columns ∙ sym (columns_cells row outputs columns are)) i) (rows_of graph p)

  alone_wide : width (taken columns p) ≡ width (plan.project p outputs)
  alone_wide = length-map columns column_output ∙ as_many outputs columns are

  pub columns_alone : IsRewritten (plan.project p outputs) (taken columns p)
  columns_alone = record {
    as_wide = alone_wide;
    well_formed = λ good. (good.0, columns_over (width p) columns (columns_inside (width p) outputs columns are good.1), subst (λ (n : ℕ). n ≤ greatest_width) (sym alone_wide) good.2);
    rows = alone_rows;
    sure = λ graph sure. (sure.0, any_rows (HasCells (map column_output columns)) (λ row. columns_have_cells row columns) (rows_of graph p));
    bounded = λ graph tables each.
        All-cons (IsWithin graph tables) (taken columns p) (parts p)
        (same_within graph tables (plan.project p outputs) (taken columns p) (alone_rows graph) (All-head (IsWithin graph tables) (plan.project p outputs) (parts p) each))
        (All-tail (IsWithin graph tables) (plan.project p outputs) (parts p) each);
  }

column_renumbered : (columns : List ℕ) (o : Output) (c : ℕ) → taken_column o ≡ Some c → taken_column (renumbered_output columns o) ≡ Some (new_column columns c)
column_renumbered columns o c is =
    let known = output_known o c is in
    ap (λ (q : Output). taken_column (renumbered_output columns q)) known.1 ∙ ap (option_map (new_column columns)) known.2

pub columns_renumbered : (columns : List ℕ) (outputs : List Output) (others : List ℕ) → AreColumns outputs others → AreColumns (map (renumbered_output columns) outputs) (map (new_column columns) others)
columns_renumbered columns [] [] are = refl
columns_renumbered columns [] (c ∷ others) are = cc
columns_renumbered columns (o ∷ outputs) [] are = cc
columns_renumbered columns (o ∷ outputs) (c ∷ others) are =
    let first : taken_column o ≡ Some c = cc in
    let rest : AreColumns outputs others = cc in
    λ i. column_renumbered columns o c first i ∷ columns_renumbered columns outputs others rest i

module _ (p : Plan) (columns : List ℕ) (outputs : List Output) (well : IsWellFormed (plan.project (taken columns p) outputs)) where
  pub projected_again : IsRewritten (plan.project (taken columns p) outputs) (plan.project p (map (renumbered_output columns) outputs))
  projected_again = project_twice p outputs (map column_output columns) columns (are_columns columns) well

  pub columns_again : (others : List ℕ) → AreColumns outputs others → IsRewritten (plan.project (taken columns p) outputs) (taken (map (new_column columns) others) p)
  columns_again others are =
      let merged : List Output = map (renumbered_output columns) outputs in
      rewritten_again (plan.project (taken columns p) outputs) (plan.project p merged) (taken (map (new_column columns) others) p) projected_again
      (columns_alone p merged (map (new_column columns) others) (columns_renumbered columns outputs others are))

-- ---- a look-up

module _ (p : Plan) (columns : List ℕ) (column : ℕ) (attribute : Attribute) (well : IsWellFormed (plan.lookup (taken columns p) column attribute)) (room : width p + 1 ≤ greatest_width) where
  inside : column < length columns
  inside = subst (λ (n : ℕ). column < n) (width_taken columns p) well.1

  abbrev place : ℕ
  place = new_column columns column

  abbrev w : Wanted
  w = lookup_at attribute column

  abbrev m : Wanted
  m = lookup_at attribute place

  place_moved : moved (map column_output columns) w ≡ Some m
  place_moved =
      ap (λ (o : Option Output). option_map (lookup_at attribute) (option_and_then taken_column o))
      (slice_get-map column_output columns column ∙ ap (option_map column_output) (slice_get-get_or columns column column inside))

  pub lookup_through : IsRewritten (plan.lookup (taken columns p) column attribute) (taken (columns ++ width p ∷ []) (plan.lookup p place attribute))
  lookup_through =
      subst (λ (os : List Output). IsRewritten (plan.lookup (taken columns p) column attribute) (plan.project (plan.lookup p place attribute) os))
      (sym (map-append column_output columns (width p ∷ [])))
      (all_through_project (w ∷ []) (m ∷ []) p (map column_output columns) (ap (λ (o : Option Wanted). o ∷ []) place_moved) room well)
