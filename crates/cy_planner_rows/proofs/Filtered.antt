-- What is looked up for an expression, and a condition on it.
use Rattle.std.proofs.Common.{◌≡◌, ℕ, ◌+◌, ◌≤◌, true, List, [], length, map, filter, take, sym, ap, subst, ◌∙◌, arith}
use Rattle.std.specs.Prelude.{IfOk, IsOk, Result, Ok, Err}
use Rattle.std.specs.List.{All, AllByRecursion}
use Rattle.std.proofs.lemmas.List.Elements.{All-cons}
use Rattle.std.proofs.Math.Seq.{take-append_seam}
use Rattle.cy_values.specs.declared.rows.Cell.{Cell}
use Rattle.cy_values.specs.declared.truth.Truth.{Truth}
use Rattle.cy_values.specs.Bag.{count_of}
use Rattle.cy_values.proofs.Lists.{each_both}
use Rattle.cy_trees.specs.Trees.{Expression}
use Rattle.cy_scope_kinds.specs.Rows.{row_fits}
use Rattle.cy_scope_kinds.specs.Scopes.{Scope}
use Rattle.cy_graph.specs.Graph.{State, IsGraph}
use Rattle.cy_expr.specs.declared.faults.EvalFault.{EvalFault}
use Rattle.cy_expr.specs.Evaluation.{cell_of}
use Rattle.cy_expr.specs.Faults.{on_one}
use Rattle.cy_expr.specs.Graphs.{lookups}
use Rattle.cy_expr.specs.Logic.{truth_of}
use Rattle.cy_expr.specs.Operators.{value_in_cell}
use Rattle.cy_planner_algebra.specs.Plans as plan
use Rattle.cy_planner_algebra.specs.Plans.{Plan, width}
use Rattle.cy_planner_algebra.specs.Expressions.{holds, is_true, no_graph, truth_on}
use Rattle.cy_planner_algebra.specs.Meaning.{rows_of}
use Rattle.cy_planner_algebra.specs.Parts.{parts}
use Rattle.cy_planner_algebra.specs.Sure.{HasTruth, IsSureOn}
use Rattle.cy_planner_algebra.specs.WellFormed.{IsOver, IsWellFormed, greatest_width}
use Rattle.cy_planner_algebra.specs.Within.{IsWithin}
use Rattle.cy_planner_algebra.proofs.Counts.{count_passing}
use Rattle.cy_planner_rows.specs.declared.places.Wanted.{Wanted}
use Rattle.cy_planner_rows.specs.internal.Lowered.{lowered}
use Rattle.cy_planner_rows.specs.Places.{place}
use Rattle.cy_planner_rows.proofs.LoweredLemmas.{same}
use Rattle.cy_planner_rows.specs.internal.Asked.{asked, wanted_of}
use Rattle.cy_planner_rows.specs.internal.Lookups.{narrowed, over, with_values}
use Rattle.cy_planner_rows.specs.Rows.{FitsRows, IsFiltered, IsReadOver, condition_on, keeps}
use Rattle.cy_scope_kinds.specs.Kinded.{IsKinded}
use Rattle.cy_planner_rows.proofs.Lists.{all_of_each, each_mapped, sifted_same}
use Rattle.cy_planner_rows.proofs.Lowerable.{good, inside}
use Rattle.cy_planner_rows.proofs.OverRows.{IsInside, cond_less, filter_within, long_rows, own_part, parts_narrowed, parts_over, rows_narrowed, rows_over, smaller_within, sure_narrowed, sure_over, width_narrowed, well_over, width_over, within_over}
use Rattle.cy_planner_rows.proofs.Placed.{IsAmong, asked_among, asked_each}
use Rattle.cy_planner_rows.proofs.Stored.{no_null_stored}

-- it stands in columns of the rows
pub wanted_inside : (p : Plan) (e : Expression) → IsReadOver p e → AllByRecursion (IsInside (width p)) (wanted_of e)
wanted_inside p e read =
    subst (λ n. AllByRecursion (IsInside n) (wanted_of e)) read.1
    (asked_each (IsInside (length read.0)) [] (asked e) tt (inside read.0 [] e read.2.0 read.2.1))

-- the expression over columns reads these alone
pub lowered_over : (p : Plan) (wanted : List Wanted) (e : Expression) → IsReadOver p e → AllByRecursion (IsAmong wanted) (asked e) → IsOver (width (over p wanted)) (lowered (place (width p) wanted) e)
lowered_over p wanted e read among =
    subst (λ n. IsOver (width (over p wanted)) (lowered (place n wanted) e)) read.1
    (subst (λ n. IsOver n (lowered (place (length read.0) wanted) e)) (ap (λ n. n + length wanted) read.1 ∙ sym (width_over p wanted))
    (let g = good read.0 wanted e read.2.0 read.2.1 among in (g.0, g.1)))

-- and has the value of the expression
pub same_value : (graph : State) (scope : Scope) (n : ℕ) (wanted : List Wanted) (e : Expression) → IsGraph graph → length scope ≡ n → IsKinded scope e → AllByRecursion (IsAmong wanted) (asked e)
    → (row : List Cell) → row_fits scope row ≡ true → cell_of no_graph (with_values graph.content wanted row) (lowered (place n wanted) e) ≡ cell_of (lookups graph.content) row e
same_value graph scope n wanted e is long kinded among row fit =
    subst (λ m. cell_of no_graph (with_values graph.content wanted row) (lowered (place m wanted) e) ≡ cell_of (lookups graph.content) row e) long
    (same (place (length scope) wanted) (lookups graph.content) row (with_values graph.content wanted row) (no_null_stored graph is) e
    ((good scope wanted e kinded.0 kinded.1 among).2 graph.content row fit))

pub if_ok_map : {A E : Type 0} (P Q : A → Type 0) → ((x : A) → P x → Q x) → (r : Result A E) → IfOk r P → IfOk r Q
if_ok_map P Q step (Ok x) here = step x here
if_ok_map P Q step (Err fault) here = here

pub well_kept : (below : Plan) (test : Expression) → IsWellFormed below → width below + length (wanted_of test) ≤ greatest_width → IsReadOver below test
    → IsWellFormed (plan.filter (over below (wanted_of test)) (lowered (place (width below) (wanted_of test)) test))
well_kept below test well room read =
    (well_over below (wanted_of test) well (wanted_inside below test read) room, lowered_over below (wanted_of test) test read (asked_among [] (asked test)))

module _ (below : Plan) (test : Expression) (well : IsWellFormed below) (room : width below + length (wanted_of test) ≤ greatest_width) (read : IsReadOver below test) where
  abbrev wanted : List Wanted
  wanted = wanted_of test

  abbrev condition : Expression
  condition = lowered (place (width below) wanted) test

  abbrev kept : Plan
  kept = plan.filter (over below wanted) condition

  abbrev made : Plan
  made = narrowed (width below) kept

  abbrev Fits : Scope → List Cell → Type 0
  Fits scope row = row_fits scope row ≡ true

  module _ (graph : State) (scope : Scope) (is : IsGraph graph) (kinded : IsKinded scope test) (fits : FitsRows scope graph.content below) where
    abbrev Seen : List Cell → Type 0
    Seen row = Fits scope row × (length row ≡ width below)

    same_truth : (row : List Cell) → Fits scope row → truth_on (with_values graph.content wanted row) condition ≡ condition_on graph.content test row
    same_truth row fit = ap (λ o. on_one truth_of (on_one value_in_cell o)) (same_value graph scope (width below) wanted test is fits.0 kinded (asked_among [] (asked test)) row fit)

    seen : AllByRecursion Seen (rows_of graph.content below)
    seen = each_both (Fits scope) (λ row. length row ≡ width below) (rows_of graph.content below) fits.1 (long_rows graph.content below well)

    over_is : rows_of graph.content (over below wanted) ≡ map (with_values graph.content wanted) (rows_of graph.content below)
    over_is = rows_over graph.content below wanted well (wanted_inside below test read)

    module _ (is_well : IsWellFormed kept) where
      filtered_rows : rows_of graph.content made ≡ filter (keeps graph.content test) (rows_of graph.content below)
      filtered_rows =
          rows_narrowed graph.content (width below) kept is_well (let e = width_over below wanted in omega (arith, e))
          ∙ ap (λ rows. map (take (width below)) (filter (holds condition) rows)) over_is
          ∙ sifted_same Seen (with_values graph.content wanted) (take (width below)) (holds condition) (keeps graph.content test)
          (λ row s. ap (λ n. take n (with_values graph.content wanted row)) (sym s.1) ∙ take-append_seam row _)
          (λ row s. ap is_true (same_truth row s.0)) (rows_of graph.content below) seen

      filtered_sure : IsSureOn graph.content below → AllByRecursion (λ row. IsOk (condition_on graph.content test row)) (rows_of graph.content below) → IsSureOn graph.content made
      filtered_sure sure has =
          sure_narrowed graph.content (width below) kept (
            sure_over graph.content below wanted sure,
            subst (λ rows. All (HasTruth condition) rows) (sym over_is)
                (all_of_each (HasTruth condition) (map (with_values graph.content wanted) (rows_of graph.content below))
                (each_mapped (λ row. Fits scope row × IsOk (condition_on graph.content test row)) (HasTruth condition) (with_values graph.content wanted)
                (λ row both. subst (λ (o : Result Truth EvalFault). IsOk o) (sym (same_truth row both.0)) both.1) (rows_of graph.content below)
                (each_both (Fits scope) (λ row. IsOk (condition_on graph.content test row)) (rows_of graph.content below) fits.1 has))),
          )

      filtered_bounded : (tables : List (List (List Cell))) → All (IsWithin graph.content tables) (parts below) → All (IsWithin graph.content tables) (parts made)
      filtered_bounded tables each =
          let own : IsWithin graph.content tables below = own_part (IsWithin graph.content tables) below each in
          let wide : IsWithin graph.content tables (over below wanted) = within_over graph.content tables below wanted well (wanted_inside below test read) room own in
          let all : All (IsWithin graph.content tables) (parts kept) =
          All-cons (IsWithin graph.content tables) kept (parts (over below wanted)) (filter_within graph.content tables (over below wanted) condition wide)
          (parts_over graph.content tables below wanted well (wanted_inside below test read) room each own) in
          parts_narrowed graph.content tables (width below) kept all
          (λ row. smaller_within tables (count_of row (rows_of graph.content made)) (count_of row (rows_of graph.content below))
          (subst (λ rows. count_of row rows ≤ count_of row (rows_of graph.content below)) (sym filtered_rows)
          (subst (λ m. m ≤ count_of row (rows_of graph.content below)) (sym (count_passing (keeps graph.content test) row (rows_of graph.content below))) (cond_less (keeps graph.content test row) (count_of row (rows_of graph.content below)))))
          (own row))

  pub filtered : IsWellFormed kept → IsFiltered below test made
  filtered is_well = record {
    as_wide = width_narrowed (width below) kept;
    rows = λ graph scope is kinded fits. filtered_rows graph scope is kinded fits is_well;
    sure = λ graph scope is kinded fits. filtered_sure graph scope is kinded fits is_well;
    bounded = λ graph scope tables is kinded fits. filtered_bounded graph scope is kinded fits is_well tables;
  }
