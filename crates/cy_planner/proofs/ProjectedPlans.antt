-- The plan of a projection.
use Rattle.std.proofs.Common.{◌≡◌, min, Bool, true, false, cond, List, [], ◌∷◌, map, refl, sym, ap, subst, ◌∙◌, inl, inr, arith}
use Rattle.std.specs.Prelude.{IsOk, Result, Ok, Err}
use Rattle.std.specs.List.{All, AllByRecursion, Contains}
use Rattle.std.proofs.lemmas.List.{length-map}
use Rattle.std.proofs.lemmas.List.Elements.{All-cons}
use Rattle.cy_values.specs.declared.rows.Cell.{Cell}
use Rattle.cy_values.specs.Bag.{count_of}
use Rattle.cy_values.specs.Order.{row_cmp}
use Rattle.cy_trees.specs.declared.clauses.Item as coded
use Rattle.cy_trees.specs.Trees.{Item, Projection}
use Rattle.cy_trees.specs.TreeModels.{expression_of, item_of}
use Rattle.cy_scope_kinds.specs.Scopes.{Scope}
use Rattle.cy_graph.specs.Graph.{Content, State}
use Rattle.cy_expr.specs.declared.faults.EvalFault.{EvalFault}
use Rattle.cy_expr.specs.Evaluation.{cell_of}
use Rattle.cy_expr.specs.Graphs.{lookups}
use Rattle.cy_oneshot_patterns.specs.Outcomes.{IsSameOutcome}
use Rattle.cy_oneshot_meaning.specs.Order.{Keyed, each_once, in_order, keyed_order}
use Rattle.cy_oneshot_meaning.specs.Projection.{projection_rows}
use Rattle.cy_planner_algebra.specs.Plans as plan
use Rattle.cy_planner_algebra.specs.Plans.{Plan, width}
use Rattle.cy_planner_algebra.specs.Meaning.{rows_of}
use Rattle.cy_planner_algebra.specs.Parts.{parts}
use Rattle.cy_planner_algebra.specs.Sure.{IsSureOn}
use Rattle.cy_planner_algebra.specs.Within.{IsWithin}
use Rattle.cy_planner_algebra.proofs.Counts.{count_once}
use Rattle.cy_planner_rows.specs.Rows.{AreReadOver, IsProjected, cells_on}
use Rattle.cy_planner.specs.internal.Projections.{CanProject, IsPlain, IsProjection, expressions_in}
use Rattle.cy_planner.proofs.PlainProjections.{HasCells, counted, counts_are, have_all, rows_are}

module _ (graph : Content) where
  expressions_have : (row : List Cell) (items : List Item) → AllByRecursion (λ (i : Item). IsOk (cell_of (lookups graph) row i.expression)) items
      → AllByRecursion (λ e. IsOk (cell_of (lookups graph) row e)) (expressions_in items)
  expressions_have row [] has = tt
  expressions_have row (i ∷ items) has = (has.0, expressions_have row items has.1)

  all_have : (items : List Item) (rows : List (List Cell)) → AllByRecursion (HasCells graph items) rows
      → AllByRecursion (λ row. AllByRecursion (λ e. IsOk (cell_of (lookups graph) row e)) (expressions_in items)) rows
  all_have items [] has = tt
  all_have items (row ∷ rows) has = (expressions_have row items has.0, all_have items rows has.1)

pub ok_of_same : (table : List (List Cell)) (o : Result (List (List Cell)) EvalFault) → IsSameOutcome (Ok table) o → IsOk o
ok_of_same table (Ok rows) same = refl
ok_of_same table (Err fault) same = absurd same

module _ (ordered : (descending : List Bool) (row : List Cell) (rows : List Keyed) → count_of row (map (λ k. k.row) (in_order (keyed_order descending) rows)) ≡ count_of row (map (λ k. k.row) rows))
    (once : (row : List Cell) (rows : List (List Cell)) → count_of row (each_once row_cmp rows) ≡ min 1 (count_of row rows))
    (below : Plan) (p : Projection) (q : Plan) (is_plain : IsPlain p) (read : AreReadOver below (expressions_in p.items)) (items : IsProjected below (expressions_in p.items) q) where
  abbrev made : Bool → Plan
  made distinct = cond distinct (plan.distinct q) q

  made_counts : (graph : Content) (row : List Cell) (distinct : Bool) → count_of row (rows_of graph (made distinct)) ≡ counted distinct (count_of row (rows_of graph q))
  made_counts graph row true = count_once row (rows_of graph q)
  made_counts graph row false = refl

  made_wide : (distinct : Bool) → width (made distinct) ≡ width q
  made_wide true = refl
  made_wide false = refl

  made_sure : (graph : Content) (distinct : Bool) → IsSureOn graph q → IsSureOn graph (made distinct)
  made_sure graph true sure = sure
  made_sure graph false sure = sure

  made_bounded : (graph : Content) (tables : List (List (List Cell))) (distinct : Bool) → All (IsWithin graph tables) (parts q) → All (IsWithin graph tables) (parts (made distinct))
  made_bounded graph tables true each =
      All-cons (IsWithin graph tables) (plan.distinct q) (parts q) (λ row. inl (let e = count_once row (rows_of graph q) in omega (arith, e))) each
  made_bounded graph tables false each = each

  module _ (graph : State) (scope : Scope) (can : CanProject below p graph scope) where
    abbrev before : List (List Cell)
    before = rows_of graph.content below

    items_rows : rows_of graph.content q ≡ map (cells_on graph.content (expressions_in p.items)) before
    items_rows = items.rows graph scope can.is can.kinded can.fits

    projected_same : IsSameOutcome (Ok (rows_of graph.content (made p.distinct))) (projection_rows graph.content p before)
    projected_same =
        subst (λ (o : Result (List (List Cell)) EvalFault). IsSameOutcome (Ok (rows_of graph.content (made p.distinct))) o) (sym (rows_are graph.content p is_plain before can.ok))
        (λ row.
        made_counts graph.content row p.distinct
        ∙ ap (λ rows. counted p.distinct (count_of row rows)) items_rows
        ∙ sym (counts_are ordered once graph.content p before row))

    projected_sure : IsSureOn graph.content below → IsSureOn graph.content (made p.distinct)
    projected_sure sure =
        made_sure graph.content p.distinct
        (items.sure graph scope can.is can.kinded can.fits sure (all_have graph.content p.items before (have_all graph.content p is_plain before can.ok)))

    -- the table without DISTINCT
    wide_counts : (table : List (List Cell)) → IsSameOutcome (Ok table) (projection_rows graph.content (record p { distinct = false }) before) → (row : List Cell)
        → count_of row (rows_of graph.content q) ≡ count_of row table
    wide_counts table same row =
        let wide : Projection = record p { distinct = false } in
        let is = rows_are graph.content wide is_plain before (ok_of_same table (projection_rows graph.content wide before) same) in
        let bag = subst (λ (o : Result (List (List Cell)) EvalFault). IsSameOutcome (Ok table) o) is same in
        ap (count_of row) items_rows ∙ sym (bag row ∙ counts_are ordered once graph.content wide before row)

    projected_bounded : (tables : List (List (List Cell))) (table : List (List Cell)) → Contains tables table
        → IsSameOutcome (Ok table) (projection_rows graph.content (record p { distinct = false }) before)
        → All (IsWithin graph.content tables) (parts below) → All (IsWithin graph.content tables) (parts (made p.distinct))
    projected_bounded tables table there same each =
        made_bounded graph.content tables p.distinct
        (items.bounded graph tables read each
        (λ row. inr (table, there, (row, (let e = wide_counts table same row in omega (arith, e))))))

  pub projection_made : IsProjection below p (made p.distinct)
  projection_made = record {
    as_wide = made_wide p.distinct ∙ items.as_wide ∙ length-map p.items _;
    rows = projected_same;
    sure = projected_sure;
    bounded = λ graph scope tables table can there same each. projected_bounded graph scope can tables table there same each;
  }

-- the expressions of items, as trees
pub expressions_are : (items : List coded.Item) → map (λ (i : coded.Item). expression_of i.expression) items ≡ expressions_in (map item_of items)
expressions_are [] = refl
expressions_are (i ∷ items) = ap (λ l. expression_of i.expression ∷ l) (expressions_are items)
