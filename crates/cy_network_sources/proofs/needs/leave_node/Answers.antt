use Rattle.std.proofs.Common.{[], ◌∷◌, sym, ◌∙◌}
use Rattle.cy_planner_algebra.specs.PlanModels.{plan_of}
use Rattle.cy_network_sources.proofs.NeededLabels.{leaves_node}
use Rattle.cy_network_sources.proofs.needs.leave_node.Goals as goal

pub returns-then-has_label : goal.returns-then-has_label
returns-then-has_label c = λ yes.
    let first = c.gives_first.ensures yes in
    leaves_node c.in-Some.label.now c.args.node.now (plan_of c.args.projection.now) first.0 first.1.0 (plan_of c.args.filter.now ∷ plan_of c.args.lookup.now ∷ plan_of c.args.nodes.now ∷ []) c.in-Some.ensures (sym c.has_label.ensures ∙ c.if-has_label.true) first.1.1.0 first.1.1.1
