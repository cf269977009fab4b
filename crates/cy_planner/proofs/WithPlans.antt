-- The plan of WITH with its WHERE.
use Rattle.std.proofs.Common.{◌≡◌, false, List, map, filter, refl, sym, ap, subst, ◌∙◌}
use Rattle.std.specs.Prelude.{IfOk, IsOk, IsTrue, Option, None, Some, Result, Ok, Err}
use Rattle.std.specs.List.{All, AllByRecursion, Contains}
use Rattle.std.specs.Cmp.{IsTotalOrder}
use Rattle.cy_values.specs.declared.rows.Cell.{Cell}
use Rattle.cy_values.specs.Bag.{IsSameBag}
use Rattle.cy_values.specs.Order.{row_cmp}
use Rattle.cy_trees.specs.Trees.{Expression, Projection, «with»}
use Rattle.cy_scope_kinds.specs.Rows.{row_fits}
use Rattle.cy_scope_kinds.specs.Scopes.{Scope}
use Rattle.cy_graph.specs.Graph.{State}
use Rattle.cy_expr.specs.declared.faults.EvalFault.{EvalFault}
use Rattle.cy_expr.specs.Faults.{on_one}
use Rattle.cy_oneshot_patterns.specs.Matching.{kept}
use Rattle.cy_oneshot_patterns.specs.Outcomes.{IsSameOutcome, joined}
use Rattle.cy_oneshot_meaning.proofs.BagLemmas.{permuted_bag}
use Rattle.cy_oneshot_meaning.proofs.Together.{all_kept}
use Rattle.cy_oneshot_meaning.proofs.SeenRows.{each_permuted}
use Rattle.cy_oneshot_meaning.specs.Projection.{projection_rows}
use Rattle.cy_oneshot_meaning.specs.Queries.{rows_after}
use Rattle.cy_planner_algebra.specs.Plans.{Plan}
use Rattle.cy_planner_algebra.specs.Meaning.{rows_of}
use Rattle.cy_planner_algebra.specs.Parts.{parts}
use Rattle.cy_planner_algebra.specs.Within.{IsWithin}
use Rattle.cy_planner_rows.specs.Rows.{FitsRows, IsFiltered, keeps}
use Rattle.cy_planner_optional.specs.Matched.{where_only}
use Rattle.cy_planner.specs.internal.Projections.{CanGoOn, CanProject, IsProjection, IsWith}
use Rattle.cy_planner_optional.proofs.RowBags.{sift_bag}
use Rattle.cy_planner_optional.proofs.Outcomes.{IsTested, kept_rows, selected_each, selected_rows, then_ok, where_selected}

-- an outcome without a fault, as its value
abbrev pub HasValue : Result (List (List Cell)) EvalFault → Type 0
HasValue o = (rows : List (List Cell)) × (o ≡ Ok rows)

has_value : (o : Result (List (List Cell)) EvalFault) → IsOk o → HasValue o
has_value (Ok rows) is = (rows, refl)
has_value (Err fault) is = cc

module _ (total : IsTotalOrder row_cmp) (below : Plan) (p : Projection) (q : Plan) (made : IsProjection below p q) where
  module _ (graph : State) (scope after : Scope) (test : Option Expression) (can : CanGoOn below p test graph scope after) where
    abbrev before : List (List Cell)
    before = rows_of graph.content below

    abbrev select : List (List Cell) → Result (List (List Cell)) EvalFault
    select rows = joined (map (kept graph.content (where_only test)) rows)

    projects : IsOk (projection_rows graph.content p before)
    projects = then_ok select (projection_rows graph.content p before) can.ok

    can_project : CanProject below p graph scope
    can_project = record { is = can.is; kinded = can.kinded; fits = can.fits; ok = projects }

    result : HasValue (projection_rows graph.content p before)
    result = has_value (projection_rows graph.content p before) projects

    same_rows : IsSameBag (rows_of graph.content q) result.0
    same_rows = subst (λ (o : Result (List (List Cell)) EvalFault). IsSameOutcome (Ok (rows_of graph.content q)) o) result.1 (made.rows graph scope can_project)

    of_rows : (P : List Cell → Type 0) → AllByRecursion P result.0 → AllByRecursion P (rows_of graph.content q)
    of_rows P each = each_permuted P (permuted_bag total (rows_of graph.content q) result.0 same_rows) each

    fits_q : FitsRows after graph.content q
    fits_q = (
      can.long ∙ sym made.as_wide,
      of_rows (λ row. IsTrue (row_fits after row))
          (subst (λ (o : Result (List (List Cell)) EvalFault). IfOk o (AllByRecursion (λ row. IsTrue (row_fits after row)))) result.1 can.made_fit),
    )

    selected_all : AllByRecursion (IsTested graph.content test) result.0
    selected_all =
        selected_each graph.content test result.0
        (subst (λ (o : Result (List (List Cell)) EvalFault). IsOk o) (where_selected graph.content test result.0)
        (subst (λ (o : Result (List (List Cell)) EvalFault). IsOk (on_one select o)) result.1 can.ok))

    meaning_is : rows_after graph.content («with» p (where_only test)) before ≡ Ok (kept_rows graph.content test result.0)
    meaning_is = ap (on_one select) result.1 ∙ where_selected graph.content test result.0 ∙ selected_rows graph.content test result.0 selected_all

    bounded_q : (tables : List (List (List Cell))) (table : List (List Cell)) → Contains tables table
        → IsSameOutcome (Ok table) (rows_after graph.content («with» (record p { distinct = false }) (where_only None)) before)
        → All (IsWithin graph.content tables) (parts below) → All (IsWithin graph.content tables) (parts q)
    bounded_q tables table there same each =
        made.bounded graph scope tables table can_project there
        (alone (projection_rows graph.content (record p { distinct = false }) before) same) each
      where
        alone : (o : Result (List (List Cell)) EvalFault) → IsSameOutcome (Ok table) (on_one (λ rows. joined (map (kept graph.content (where_only None)) rows)) o) → IsSameOutcome (Ok table) o
        alone (Ok rows) is = subst (λ (o : Result (List (List Cell)) EvalFault). IsSameOutcome (Ok table) o) (where_selected graph.content None rows ∙ all_kept graph.content rows) is
        alone (Err fault) is = is

  -- without WHERE
  pub with_alone : IsWith below p None q
  with_alone = record {
    as_wide = made.as_wide;
    rows = λ graph scope after can.
        subst (λ (o : Result (List (List Cell)) EvalFault). IsSameOutcome (Ok (rows_of graph.content q)) o) (sym (meaning_is graph scope after None can)) (same_rows graph scope after None can);
    sure = λ graph scope after can sure. made.sure graph scope (can_project graph scope after None can) sure;
    bounded = λ graph scope after tables table can there same each. bounded_q graph scope after None can tables table there same each;
  }

  -- with it
  module _ (test : Expression) (r : Plan) (filtered : IsFiltered q test r) where
    pub with_where : IsWith below p (Some test) r
    with_where = record {
      as_wide = filtered.as_wide ∙ made.as_wide;
      rows = λ graph scope after can.
          subst (λ (o : Result (List (List Cell)) EvalFault). IsSameOutcome (Ok (rows_of graph.content r)) o) (sym (meaning_is graph scope after (Some test) can))
          (subst (λ (rows : List (List Cell)). IsSameBag rows (filter (keeps graph.content test) (result graph scope after (Some test) can).0))
          (sym (filtered.rows graph after can.is can.test_kinded (fits_q graph scope after (Some test) can)))
          (sift_bag (keeps graph.content test) (rows_of graph.content q) (result graph scope after (Some test) can).0 (same_rows graph scope after (Some test) can)));
      sure = λ graph scope after can sure.
          filtered.sure graph after can.is can.test_kinded (fits_q graph scope after (Some test) can) (made.sure graph scope (can_project graph scope after (Some test) can) sure)
          (of_rows graph scope after (Some test) can (IsTested graph.content (Some test)) (selected_all graph scope after (Some test) can));
      bounded = λ graph scope after tables table can there same each.
          filtered.bounded graph after tables can.is can.test_kinded (fits_q graph scope after (Some test) can) (bounded_q graph scope after (Some test) can tables table there same each);
    }
