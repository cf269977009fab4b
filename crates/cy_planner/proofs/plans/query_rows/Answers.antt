use Rattle.std.proofs.Common.{ℕ, ◌+◌, List, drop, map, sym, subst}
use Rattle.std.specs.Prelude.{IsOk}
use Rattle.cy_trees.specs.declared.clauses.Clause as coded
use Rattle.cy_trees.specs.Trees.{Clause, Query}
use Rattle.cy_trees.specs.TreeModels.{clause_of}
use Rattle.cy_graph.specs.Graph.{State, IsGraph}
use Rattle.cy_oneshot_meaning.specs.Queries.{query_rows}
use Rattle.cy_planner_algebra.specs.Plans.{Plan}
use Rattle.cy_planner_algebra.specs.PlanModels.{plan_of}
use Rattle.cy_planner.specs.internal.Stands.{IsUnderWay}
use Rattle.cy_planner.proofs.QuerySteps.{left_is, none_left}
use Rattle.cy_planner.proofs.UnderWay.{all_planned, next_given, next_planned, under_way}
use Rattle.cy_planner.proofs.plans.query_rows.Goals as goal

pub loop-clause-init : goal.loop-clause-init
loop-clause-init c =
    let query : Query = record { clauses = map clause_of c.args.clauses.now } in
    subst (λ (p : Plan). IsUnderWay query query.clauses p) (sym c.unit-rows.ensures) (under_way c.checked_statements.ensures.kinded query c.requires)

pub clause_rows-requires : goal.clause_rows-requires
clause_rows-requires c =
    let all : List coded.Clause = c.args.clauses.now in
    let query : Query = record { clauses = map clause_of all } in
    let i : ℕ = c.loop-clause.clause-index in
    let clause : coded.Clause = c.clause-item.result in
    let below : Plan = plan_of c.loop-clause.rows in
    let left : List Clause = map clause_of (drop (i + 1) all) in
    let ok : (graph : State) → IsGraph graph → IsOk (query_rows graph.content query) = λ graph is. c.view_queries.ensures.query graph.content query c.requires in
    next_given c.row_order_laws.ensures.total c.clauses_on_bags.ensures.bags query ok (clause_of clause) left below
    (subst (λ (cs : List Clause). IsUnderWay query cs below) (left_is all i clause c.loop-clause-test.true c.clause-item.is) c.loop-clause.invariant)

pub loop-clause-preserved : goal.loop-clause-preserved
loop-clause-preserved c =
    let all : List coded.Clause = c.args.clauses.now in
    let query : Query = record { clauses = map clause_of all } in
    let i : ℕ = c.loop-clause.clause-index in
    let clause : coded.Clause = c.clause-item.result in
    let below : Plan = plan_of c.loop-clause.rows in
    let left : List Clause = map clause_of (drop (i + 1) all) in
    let ok : (graph : State) → IsGraph graph → IsOk (query_rows graph.content query) = λ graph is. c.view_queries.ensures.query graph.content query c.requires in
    next_planned c.row_order_laws.ensures.total c.clauses_on_bags.ensures.bags query ok (clause_of clause) left below (plan_of c.in_ok-rows.rows)
    (subst (λ (cs : List Clause). IsUnderWay query cs below) (left_is all i clause c.loop-clause-test.true c.clause-item.is) c.loop-clause.invariant)
    c.in_ok-rows.ensures

pub returns : goal.returns
returns c =
    let all : List coded.Clause = c.args.clauses.now in
    let query : Query = record { clauses = map clause_of all } in
    let p : Plan = plan_of c.loop-clause.rows in
    all_planned query p (subst (λ (cs : List Clause). IsUnderWay query cs p) (none_left all c.loop-clause.clause-index c.loop-clause-test.false) c.loop-clause.invariant) c.meant.ensures
