-- A condition on columns of a plan, put on the plan itself; and what it is to the rows.
use Rattle.std.proofs.Common.{◌≡◌, ℕ, ◌+◌, ◌≤◌, true, List, [], length, map, filter, take, sym, ap, subst, ◌∙◌, arith}
use Rattle.std.specs.Prelude.{IsOk, Result}
use Rattle.std.specs.List.{All, AllByRecursion}
use Rattle.std.proofs.lemmas.List.Elements.{All-cons}
use Rattle.std.proofs.Math.Seq.{take-append_seam}
use Rattle.cy_values.specs.declared.rows.Cell.{Cell}
use Rattle.cy_values.specs.declared.truth.Truth.{Truth}
use Rattle.cy_values.specs.Bag.{count_of}
use Rattle.cy_values.proofs.Lists.{each_both}
use Rattle.cy_trees.specs.Trees.{Expression}
use Rattle.cy_scope_kinds.specs.declared.kinds.Kind.TheVariants as kind
use Rattle.cy_scope_kinds.specs.Rows.{row_fits}
use Rattle.cy_graph.specs.Graph.{State, IsGraph}
use Rattle.cy_expr.specs.declared.faults.EvalFault.{EvalFault}
use Rattle.cy_expr.specs.Faults.{on_one}
use Rattle.cy_expr.specs.Graphs.{lookups}
use Rattle.cy_expr.specs.Logic.{truth_of}
use Rattle.cy_expr.specs.Operators.{value_in_cell}
use Rattle.cy_expr.specs.Reading.{reads_below}
use Rattle.cy_planner_algebra.specs.Plans as plan
use Rattle.cy_planner_algebra.specs.Plans.{Plan, width}
use Rattle.cy_planner_algebra.specs.Expressions.{holds, is_true, truth_on}
use Rattle.cy_planner_algebra.specs.Meaning.{rows_of}
use Rattle.cy_planner_algebra.specs.Parts.{parts}
use Rattle.cy_planner_algebra.specs.Sure.{HasTruth, IsSureOn}
use Rattle.cy_planner_algebra.specs.WellFormed.{IsWellFormed, greatest_width}
use Rattle.cy_planner_algebra.specs.Within.{IsWithin}
use Rattle.cy_planner_algebra.proofs.Counts.{count_passing}
use Rattle.cy_planner_rows.specs.declared.places.Wanted.{Wanted}
use Rattle.cy_planner_rows.specs.internal.Lowered.{lowered}
use Rattle.cy_planner_rows.specs.Places.{place}
use Rattle.cy_planner_rows.specs.Renumbered.{renumbered}
use Rattle.cy_planner_rows.proofs.RenumberedLemmas.{same_cell}
use Rattle.cy_planner_rows.specs.internal.Asked.{asked, wanted_of}
use Rattle.cy_planner_rows.specs.internal.Lookups.{narrowed, over, with_values}
use Rattle.cy_planner_rows.specs.Rows.{condition_on}
use Rattle.cy_planner_rows.proofs.Filtered.{same_value, wanted_inside}
use Rattle.cy_planner_rows.proofs.Lists.{all_of_each, each_mapped, sifted_same}
use Rattle.cy_planner_rows.proofs.OverRows.{cond_less, filter_within, long_rows, own_part, parts_narrowed, parts_over, rows_narrowed, rows_over, smaller_within, sure_narrowed, sure_over, width_narrowed, width_over, within_over}
use Rattle.cy_planner_rows.proofs.Placed.{asked_among}
use Rattle.cy_planner_pushdown.specs.internal.Conditions.{cells_at, keeps_cells}
use Rattle.cy_planner_pushdown.specs.internal.Pushed.{CanBePushed, IsPushed}
use Rattle.cy_planner_pushdown.proofs.SameKinds.{kinds_narrowed, kinds_over}
use Rattle.cy_planner_pushdown.proofs.Spread.{all_fit, as_many, read_over, row_spread, spread, spread_kinded, spread_wide}

module _ (below : Plan) (columns : List ℕ) (test : Expression) (well : IsWellFormed below) (can : CanBePushed below columns test) where
  abbrev condition : Expression
  condition = renumbered columns test

  abbrev wanted : List Wanted
  wanted = wanted_of condition

  abbrev over_columns : Expression
  over_columns = lowered (place (width below) wanted) condition

  abbrev kept : Plan
  kept = plan.filter (over below wanted) over_columns

  abbrev made : Plan
  made = narrowed (width below) kept

  module _ (room : width below + length wanted ≤ greatest_width) (graph : State) (is : IsGraph graph) where
    abbrev Seen : List Cell → Type 0
    Seen row = (row_fits can.0 (cells_at columns row) ≡ true) × (length row ≡ width below)

    seen : AllByRecursion Seen (rows_of graph.content below)
    seen =
        each_both (λ row. row_fits can.0 (cells_at columns row) ≡ true) (λ row. length row ≡ width below) (rows_of graph.content below)
        (all_fit below columns test well can graph.content) (long_rows graph.content below well)

    -- on the row with what is looked up
    same_truth : (row : List Cell) → Seen row → truth_on (with_values graph.content wanted row) over_columns ≡ condition_on graph.content test (cells_at columns row)
    same_truth row s =
        ap (λ o. on_one truth_of (on_one value_in_cell o))
        (same_value graph (spread can.0 columns 0 row) (width below) wanted condition is (spread_wide below columns test well can row s.1) (kind.Flag, spread_kinded below columns test well can row s.1)
        (asked_among [] (asked condition)) row (row_spread can.0 columns row s.0)
        ∙ same_cell (lookups graph.content) row columns test (subst (λ (n : ℕ). reads_below n test ≡ true) (as_many below columns can.0 can.1) can.2.reads))

    over_is : rows_of graph.content (over below wanted) ≡ map (with_values graph.content wanted) (rows_of graph.content below)
    over_is = rows_over graph.content below wanted well (wanted_inside below condition (read_over below columns test well can))

    module _ (is_well : IsWellFormed kept) where
      sifted_rows : rows_of graph.content made ≡ filter (keeps_cells graph.content test columns) (rows_of graph.content below)
      sifted_rows =
          rows_narrowed graph.content (width below) kept is_well (let e = width_over below wanted in omega (arith, e))
          ∙ ap (λ rows. map (take (width below)) (filter (holds over_columns) rows)) over_is
          ∙ sifted_same Seen (with_values graph.content wanted) (take (width below)) (holds over_columns) (keeps_cells graph.content test columns)
          (λ row s. ap (λ n. take n (with_values graph.content wanted row)) (sym s.1) ∙ take-append_seam row _)
          (λ row s. ap is_true (same_truth row s)) (rows_of graph.content below) seen

      sifted_sure : IsSureOn graph.content below → IsSureOn graph.content made
      sifted_sure sure =
          sure_narrowed graph.content (width below) kept (
            sure_over graph.content below wanted sure,
            subst (λ rows. All (HasTruth over_columns) rows) (sym over_is)
                (all_of_each (HasTruth over_columns) (map (with_values graph.content wanted) (rows_of graph.content below))
                (each_mapped Seen (HasTruth over_columns) (with_values graph.content wanted)
                (λ row s. subst (λ (o : Result Truth EvalFault). IsOk o) (sym (same_truth row s)) (can.2.has_truth graph.content (cells_at columns row) s.0)) (rows_of graph.content below) seen)),
          )

      sifted_bounded : (tables : List (List (List Cell))) → All (IsWithin graph.content tables) (parts below) → All (IsWithin graph.content tables) (parts made)
      sifted_bounded tables each =
          let own : IsWithin graph.content tables below = own_part (IsWithin graph.content tables) below each in
          let inside = wanted_inside below condition (read_over below columns test well can) in
          let wide : IsWithin graph.content tables (over below wanted) = within_over graph.content tables below wanted well inside room own in
          let all : All (IsWithin graph.content tables) (parts kept) =
          All-cons (IsWithin graph.content tables) kept (parts (over below wanted)) (filter_within graph.content tables (over below wanted) over_columns wide)
          (parts_over graph.content tables below wanted well inside room each own) in
          parts_narrowed graph.content tables (width below) kept all
          (λ row. smaller_within tables (count_of row (rows_of graph.content made)) (count_of row (rows_of graph.content below))
          (subst (λ rows. count_of row rows ≤ count_of row (rows_of graph.content below)) (sym sifted_rows)
          (subst (λ m. m ≤ count_of row (rows_of graph.content below)) (sym (count_passing (keeps_cells graph.content test columns) row (rows_of graph.content below)))
          (cond_less (keeps_cells graph.content test columns row) (count_of row (rows_of graph.content below)))))
          (own row))

  pub sifted : width below + length wanted ≤ greatest_width → IsWellFormed kept → IsPushed below columns test made
  sifted room is_well = record {
    as_wide = width_narrowed (width below) kept;
    kinds = kinds_narrowed below kept well is_well (kinds_over below wanted);
    rows = λ graph is. sifted_rows room graph is is_well;
    sure = λ graph is. sifted_sure room graph is is_well;
    bounded = λ graph tables is. sifted_bounded room graph is is_well tables;
  }
