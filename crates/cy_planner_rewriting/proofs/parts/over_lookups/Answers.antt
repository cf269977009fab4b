use Rattle.std.proofs.Common.{sym, subst}
use Rattle.std.proofs.lemmas.Result.{IfOk-weaker}
use Rattle.cy_planner_algebra.specs.Plans.{Plan}
use Rattle.cy_planner_algebra.specs.PlanModels.{plan_of}
use Rattle.cy_planner_algebra.specs.WellFormed.{IsWellFormed}
use Rattle.cy_planner_rewriting.specs.Rewritten.{IsRewritten}
use Rattle.cy_planner_rewriting.proofs.Stacking.{all_settled}
use Rattle.cy_planner_rewriting.proofs.parts.over_lookups.Goals as goal

pub layered-requires : goal.layered-requires
layered-requires c =
    subst IsWellFormed (sym (all_settled c.args.layers.items c.settle.new.layers.items c.reverse.new.self.items c.args.lookups.items (plan_of c.args.base) c.in_ok-settle.ensures.layers c.reverse.ensures.items)) c.requires

pub returns : goal.returns
returns c =
    let same = all_settled c.args.layers.items c.settle.new.layers.items c.reverse.new.self.items c.args.lookups.items (plan_of c.args.base) c.in_ok-settle.ensures.layers c.reverse.ensures.items in
    IfOk-weaker c.layered.result _ _ (λ p is. subst (λ (q : Plan). IsRewritten q (plan_of p)) same is) c.layered.ensures
