use Rattle.std.proofs.Common.{◌≡◌, List, [], length, map, sym, ap, subst, ◌∙◌, inl, inr}
use Rattle.std.proofs.lemmas.List.{length-map}
use Rattle.cy_trees.specs.declared.clauses.Query as coded
use Rattle.cy_trees.specs.Trees.{Statement}
use Rattle.cy_trees.specs.TreeModels.{query_of, statement_of}
use Rattle.cy_planner_algebra.specs.Plans as plan
use Rattle.cy_planner_algebra.specs.Plans.{Plan}
use Rattle.cy_planner_algebra.specs.PlanModels.{plan_of}
use Rattle.cy_planner_rows.proofs.Filtered.{if_ok_map}
use Rattle.cy_planner.specs.Serves.{Serves}
use Rattle.cy_planner.specs.internal.QueryPlans.{AreViewQueries, IsPlanOfAll}
use Rattle.cy_planner.proofs.Unions.{all_served, are_view_queries, once_served}
use Rattle.cy_planner.proofs.plans.united_rows.Goals as goal
use Rattle.cy_planner.proofs.plans.united_rows.Goals.{then-statement-via-then-statement, then-statement-via-else-statement+then-queries-eq1}

pub rows_of_all-requires : goal.rows_of_all-requires
rows_of_all-requires c =
    subst (λ (qs : List coded.Query). AreViewQueries (map query_of qs)) (sym c.as_slice-queries.ensures.value)
    (are_view_queries c.checked_statements.ensures.views c.checked_statements.ensures.columns (statement_of c.args.statement.now) c.requires)

pub returns-then-statement : goal.returns-then-statement
returns-then-statement c =
    let s : Statement = statement_of c.args.statement.now in
    let p : Plan = plan_of c.in_ok-rows.rows in
    all_served s p (subst (λ (qs : List coded.Query). IsPlanOfAll (map query_of qs) [] p) c.as_slice-queries.ensures.value c.in_ok-rows.ensures) c.meant.ensures
    (elim c.then-statement.branch [
      | then-statement-via-then-statement w ↦ inl w.if-statement.true
      | then-statement-via-else-statement+then-queries-eq1 w ↦ inr (length-map c.args.statement.now.queries.items query_of ∙ ap length (sym c.as_slice-queries.ensures.value) ∙ w.if-queries-eq1.true)
    ])

pub returns : goal.returns
returns c =
    let s : Statement = statement_of c.args.statement.now in
    let p : Plan = plan_of c.in_ok-rows.rows in
    if_ok_map (λ q. plan_of q ≡ plan.distinct p) (λ q. Serves (plan_of q) s)
    (λ q is.
    subst (λ (r : Plan). Serves r s) (sym is)
    (once_served s p (subst (λ (qs : List coded.Query). IsPlanOfAll (map query_of qs) [] p) c.as_slice-queries.ensures.value c.in_ok-rows.ensures) c.meant.ensures c.row_order_laws.ensures.total
    c.if-statement.false
    (λ one. c.if-queries-eq1.false (ap length c.as_slice-queries.ensures.value ∙ sym (length-map c.args.statement.now.queries.items query_of) ∙ one))))
    c.distinct.result c.distinct.ensures
