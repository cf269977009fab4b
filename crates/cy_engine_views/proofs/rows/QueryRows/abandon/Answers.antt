use Rattle.std.proofs.Common.{sym, subst}
use Rattle.cy_trees.specs.TreeModels.{statement_of}
use Rattle.cy_planner_algebra.specs.PlanModels.{plan_of}
use Rattle.cy_planner_algebra.specs.declared.operators.Operator.{Operator}
use Rattle.cy_network_relevance.specs.Masks.{Covers}
use Rattle.cy_planner.specs.Serves.{Serves}
use Rattle.cy_engine_views.proofs.rows.QueryRows.abandon.Goals as goal

pub returns-clause-stands : goal.returns-clause-stands
returns-clause-stands c = λ before after prepared. record {
  is_graph = prepared.from_graph;
  serves = subst (λ (p : Operator). Serves (plan_of p) (statement_of c.args.self.now.query)) (sym c.abandon.ensures.plan) prepared.serves;
  reads = subst (λ (p : Operator). Covers c.args.self.now.reads (plan_of p)) (sym c.abandon.ensures.plan) prepared.reads;
  network = c.abandon.ensures.stands before.content after.content prepared.network;
}
