use Rattle.std.proofs.Common.{sym, subst}
use Rattle.cy_trees.specs.TreeModels.{statement_of}
use Rattle.cy_planner_algebra.specs.PlanModels.{plan_of}
use Rattle.cy_planner_algebra.specs.declared.operators.Operator.{Operator}
use Rattle.cy_network_relevance.specs.Masks.{Covers}
use Rattle.cy_planner.specs.Serves.{Serves}
use Rattle.cy_engine_views.proofs.rows.QueryRows.settle.Goals as goal

pub settle-requires : goal.settle-requires
settle-requires c = (c.requires.0.content, (c.requires.1.0.content, c.requires.1.1.network))

pub returns-clause-stands : goal.returns-clause-stands
returns-clause-stands c = λ before after prepared. record {
  is_graph = prepared.to_graph;
  serves = subst (λ (p : Operator). Serves (plan_of p) (statement_of c.args.self.now.query)) (sym c.settle.ensures.plan) prepared.serves;
  reads = subst (λ (p : Operator). Covers c.args.self.now.reads (plan_of p)) (sym c.settle.ensures.plan) prepared.reads;
  network = c.settle.ensures.stands before.content after.content prepared.network;
}
