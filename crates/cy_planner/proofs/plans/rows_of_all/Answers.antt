use Rattle.std.proofs.Common.{ℕ, ◌+◌, List, drop, map, sym, ap, subst, ◌∙◌}
use Rattle.cy_trees.specs.declared.clauses.Clause as coded_clause
use Rattle.cy_trees.specs.declared.clauses.Query as coded
use Rattle.cy_trees.specs.Trees.{Query}
use Rattle.cy_trees.specs.TreeModels.{clause_of, query_of}
use Rattle.cy_scope.specs.Checked.{IsViewQuery, single}
use Rattle.cy_planner_algebra.specs.Plans.{Plan}
use Rattle.cy_planner_algebra.specs.PlanModels.{plan_of}
use Rattle.cy_planner.specs.internal.QueryPlans.{IsPlanOfAll, IsQueryPlan}
use Rattle.cy_planner.proofs.QuerySteps.{first_among, is_view, later_among, queries_left}
use Rattle.cy_planner.proofs.Unions.{first_planned, next_planned}
use Rattle.cy_planner.proofs.plans.rows_of_all.Goals as goal

pub query_rows-requires : goal.query_rows-requires
query_rows-requires c =
    let all : List coded.Query = c.args.queries.now in
    let first : coded.Query = c.in-Some.earliest.now in
    subst (λ (cs : List coded_clause.Clause). IsViewQuery (single (record { clauses = map clause_of cs }))) (sym c.deref.ensures.value)
    (is_view (map query_of all) (query_of first) c.requires (first_among all c.in-Some.later.now first c.in-Some.ensures.cases.0))

pub loop-query-init : goal.loop-query-init
loop-query-init c =
    let all : List coded.Query = c.args.queries.now in
    let later : List coded.Query = c.in-Some.later.now in
    let p : Plan = plan_of c.in_ok-rows.rows in
    first_planned (map query_of all) (query_of c.in-Some.earliest.now) (map query_of later) p c.requires (ap (map query_of) c.in-Some.ensures.cases.0)
    (subst (λ (cs : List coded_clause.Clause). IsQueryPlan (record { clauses = map clause_of cs }) p) c.deref.ensures.value c.in_ok-rows.ensures)

pub query_rows-requires-in-loop-query : goal.query_rows-requires-in-loop-query
query_rows-requires-in-loop-query c =
    let all : List coded.Query = c.args.queries.now in
    let later : List coded.Query = c.in-Some.later.now in
    let q : coded.Query = c.query-item.result in
    subst (λ (cs : List coded_clause.Clause). IsViewQuery (single (record { clauses = map clause_of cs }))) (sym c.deref-in-loop-query.ensures.value)
    (is_view (map query_of all) (query_of q) c.requires
    (later_among all later c.in-Some.earliest.now c.in-Some.ensures.cases.0 c.loop-query.query-index q c.loop-query-test.true c.query-item.is))

pub union-requires : goal.union-requires
union-requires c =
    let all : List coded.Query = c.args.queries.now in
    let later : List coded.Query = c.in-Some.later.now in
    let q : coded.Query = c.query-item.result in
    let more : Plan = plan_of c.in_ok-more.more in
    let is : IsQueryPlan (query_of q) more =
    subst (λ (cs : List coded_clause.Clause). IsQueryPlan (record { clauses = map clause_of cs }) more) c.deref-in-loop-query.ensures.value c.in_ok-more.ensures in
    sym (c.loop-query.invariant.long (query_of q) (later_among all later c.in-Some.earliest.now c.in-Some.ensures.cases.0 c.loop-query.query-index q c.loop-query-test.true c.query-item.is))
    ∙ is.long

pub loop-query-preserved : goal.loop-query-preserved
loop-query-preserved c =
    let all : List coded.Query = c.args.queries.now in
    let later : List coded.Query = c.in-Some.later.now in
    let i : ℕ = c.loop-query.query-index in
    let q : coded.Query = c.query-item.result in
    let before : Plan = plan_of c.loop-query.rows in
    let more : Plan = plan_of c.in_ok-more.more in
    let left : List Query = map query_of (drop (i + 1) later) in
    let is : IsQueryPlan (query_of q) more =
    subst (λ (cs : List coded_clause.Clause). IsQueryPlan (record { clauses = map clause_of cs }) more) c.deref-in-loop-query.ensures.value c.in_ok-more.ensures in
    subst (λ (p : Plan). IsPlanOfAll (map query_of all) left p) (sym c.in_ok-rows-2.ensures)
    (next_planned (map query_of all) c.view_queries.ensures.query c.requires (query_of q) left before more
    (later_among all later c.in-Some.earliest.now c.in-Some.ensures.cases.0 i q c.loop-query-test.true c.query-item.is)
    (subst (λ (qs : List Query). IsPlanOfAll (map query_of all) qs before) (queries_left later i q c.loop-query-test.true c.query-item.is) c.loop-query.invariant) is)
