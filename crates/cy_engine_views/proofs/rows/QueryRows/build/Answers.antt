use Rattle.std.proofs.lemmas.Result.{err_from_is_err_and}
use Rattle.std.proofs.Common.{◌∙◌, Ok, Err, refl, sym, subst}
use Rattle.cy_trees.specs.TreeModels.{statement_of}
use Rattle.cy_planner_algebra.specs.PlanModels.{plan_of}
use Rattle.cy_planner_algebra.specs.declared.operators.Operator.{Operator}
use Rattle.cy_network_relevance.specs.Masks.{Covers}
use Rattle.cy_planner.specs.Serves.{Serves}
use Rattle.cy_engine_views.proofs.Served.{light, unbuilt, unplanned}
use Rattle.cy_engine_views.proofs.rows.QueryRows.build.Goals as goal

pub build-requires : goal.build-requires
build-requires c = record { sure = c.in_ok-plan.ensures.serves.sure }

pub returns-in_err-plan-clause-refused : goal.returns-in_err-plan-clause-refused
returns-in_err-plan-clause-refused c =
    let p = err_from_is_err_and c.from_residual.result c.from_residual.ensures.1 in
    rw (p.1, p.2) (unplanned (statement_of c.args.query) c.args.store.now.graph.now.content (Err c.in_err-plan.field-0.0) c.in_err-plan.field-0.0 refl c.in_err-plan.ensures.too_large)

pub returns-in_err-network-clause-refused : goal.returns-in_err-network-clause-refused
returns-in_err-network-clause-refused c =
    let p = err_from_is_err_and c.from_residual-in_err-network.result c.from_residual-in_err-network.ensures.1 in
    let few = light (statement_of c.args.query) c.args.store.now.graph.now.content (Ok c.in_ok-plan.plan) c.in_ok-plan.plan refl c.in_ok-plan.ensures.too_large in
    rw (p.1, p.2) (unbuilt (statement_of c.args.query) c.args.store.now.graph.now.content c.in_ok-plan.plan c.in_err-network.field-0.0 few c.in_ok-plan.ensures.serves c.in_err-network.ensures.too_many)

pub returns-clause-light : goal.returns-clause-light
returns-clause-light c = light (statement_of c.args.query) c.args.store.now.graph.now.content (Ok c.in_ok-plan.plan) c.in_ok-plan.plan refl c.in_ok-plan.ensures.too_large

pub returns-clause-stands : goal.returns-clause-stands
returns-clause-stands c = record {
  is_graph = (c.args.store.now.graph.now, c.laws.ensures, refl);
  serves = subst (λ (p : Operator). Serves (plan_of p) (statement_of c.args.query)) (sym c.in_ok-network.ensures.plan) c.in_ok-plan.ensures.serves;
  reads = subst (λ (p : Operator). Covers c.of_plan-reads.result (plan_of p)) (c.root.ensures.same ∙ sym c.in_ok-network.ensures.plan) c.of_plan-reads.ensures;
  network = c.in_ok-network.ensures.stands;
}
