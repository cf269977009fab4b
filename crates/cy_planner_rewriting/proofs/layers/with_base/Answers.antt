use Rattle.std.proofs.Common.{◌∙◌}
use Rattle.cy_planner_algebra.specs.PlanModels.{plan_of}
use Rattle.cy_planner_rows.specs.internal.Lookups.{over}
use Rattle.cy_planner_rewriting.specs.internal.Layers.{layered}
use Rattle.cy_planner_rewriting.proofs.Stacking.{settled}
use Rattle.cy_planner_rewriting.proofs.layers.with_base.Goals as goal

pub returns-in_ok-settle-clause-same : goal.returns-in_ok-settle-clause-same
returns-in_ok-settle-clause-same c =
    (λ i. layered (c.in_ok-settle.ensures.layers i) (over (plan_of c.args.base) (c.in_ok-settle.ensures.pending i))) ∙ settled c.args.layers.items c.args.pending.items (plan_of c.args.base)
