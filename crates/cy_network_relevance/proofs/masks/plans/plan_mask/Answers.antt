use Rattle.cy_planner_algebra.specs.PlanModels.{plan_of}
use Rattle.cy_network_relevance.proofs.Covering.{covers}
use Rattle.cy_network_relevance.proofs.masks.plans.plan_mask.Goals as goal

pub returns : goal.returns
returns c = covers c.parts_mask.result (plan_of c.args.part.now) c.parts_mask.ensures
