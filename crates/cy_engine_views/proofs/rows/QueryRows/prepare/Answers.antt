use Rattle.std.proofs.Common.{◌≤◌, ◌*◌, refl, sym, subst}
use Rattle.cy_network_sources.specs.Costs.{cost}
use Rattle.std.proofs.lemmas.Result.{err_from_is_err_and}
use Rattle.cy_trees.specs.TreeModels.{statement_of}
use Rattle.cy_planner_algebra.specs.PlanModels.{plan_of}
use Rattle.cy_planner_algebra.specs.declared.operators.Operator.{Operator}
use Rattle.cy_network_relevance.specs.Masks.{Covers}
use Rattle.cy_planner.specs.Serves.{Serves}
use Rattle.cy_network_sources.specs.Changes.{before_change}
use Rattle.cy_engine_views.specs.Upkeep.{StandsFor, network_of}
use Rattle.cy_engine_views.proofs.Served.{unprepared}
use Rattle.cy_engine_views.proofs.rows.QueryRows.prepare.Goals as goal

pub prepare_change-requires : goal.prepare_change-requires
prepare_change-requires c = record { change = c.requires.change; stands = c.requires.stands.network }

pub returns-clause-prepared : goal.returns-clause-prepared
returns-clause-prepared c =
    let graph = c.args.sight.now.graph in
    let same = c.prepare_change.ensures.plan in
    let upkeep = c.in_ok-prepare_change.ensures.upkeep refl in
    record {
      from_graph = c.requires.stands.is_graph;
      to_graph = (graph.now, c.requires.change.graph_now, refl);
      serves = subst (λ (p : Operator). Serves (plan_of p) (statement_of c.args.self.now.query)) (sym same) c.requires.stands.serves;
      reads = subst (λ (p : Operator). Covers c.args.self.now.reads (plan_of p)) (sym same) c.requires.stands.reads;
      network = c.in_ok-prepare_change.ensures.prepared;
      steps = record { touches = upkeep.0; change = upkeep.1.0; within = subst (λ (p : Operator). (network_of (record c.args.self.now { network = c.prepare_change.new.self })).steps ≤ 16 * cost upkeep.0 (before_change graph).content graph.now.content (plan_of p)) (sym same) upkeep.1.1 };
    }

pub returns-in_err-prepare_change-clause-err : goal.returns-in_err-prepare_change-clause-err
returns-in_err-prepare_change-clause-err c =
    let p = err_from_is_err_and c.from_residual.result c.from_residual.ensures.1 in
    let stands : StandsFor (record c.args.self.now { network = c.prepare_change.new.self }) (before_change c.args.sight.now.graph).content = record {
      is_graph = c.requires.stands.is_graph;
      serves = subst (λ (p : Operator). Serves (plan_of p) (statement_of c.args.self.now.query)) (sym c.prepare_change.ensures.plan) c.requires.stands.serves;
      reads = subst (λ (p : Operator). Covers c.args.self.now.reads (plan_of p)) (sym c.prepare_change.ensures.plan) c.requires.stands.reads;
      network = c.in_err-prepare_change.ensures.err;
    } in
    rw p.1 stands

pub returns-in_err-prepare_change-clause-refused : goal.returns-in_err-prepare_change-clause-refused
returns-in_err-prepare_change-clause-refused c =
    let p = err_from_is_err_and c.from_residual.result c.from_residual.ensures.1 in
    rw (p.1, p.2) (unprepared (network_of c.args.self.now).plan c.args.sight.now.graph.now.content c.in_err-prepare_change.field-0.0 c.in_err-prepare_change.ensures.too_many)
