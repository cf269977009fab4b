use Rattle.std.proofs.Common.{ℕ, Option, subst}
use Rattle.std.specs.List.{All}
use Rattle.cy_graph.specs.declared.nodes.Rel.{Rel}
use Rattle.cy_graph.specs.Graph.{Versions, rel_at}
use Rattle.cy_planner_algebra.specs.PlanModels.{plan_of}
use Rattle.cy_network_relevance.specs.internal.Kept.{IsRelUnchanged}
use Rattle.cy_network_relevance.proofs.Untouched.{untouched}
use Rattle.cy_network_relevance.proofs.plans.is_relevant.Goals as goal

pub returns-clause-untouched : goal.returns-clause-untouched
returns-clause-untouched c = λ no before change.
    let p = plan_of c.args.part.now in
    untouched before c.args.sight.now.graph.now c.args.change.now change p (c.changes_by_nodes.ensures.unchanged c.if-changes_by_nodes.false)
    (subst (λ (g : Versions). All (λ (e : ℕ × Option Rel). IsRelUnchanged e.1 (rel_at (record { 0 = e.0 }) g.now) p) c.args.change.now.rels) c.changes_by_nodes.ensures.graph (c.changes_by_rels.ensures.unchanged no))
