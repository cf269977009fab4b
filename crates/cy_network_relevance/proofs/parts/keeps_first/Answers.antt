use Rattle.cy_planner_algebra.specs.PlanModels.{output_of}
use Rattle.cy_network_relevance.proofs.Rules.{first_kept}
use Rattle.cy_network_relevance.proofs.parts.keeps_first.Goals as goal

pub returns-in-Some : goal.returns-in-Some
returns-in-Some c = λ yes. first_kept output_of c.args.outputs.now c.in-Some.output.now c.in-Some.ensures.value (c.is_first.ensures yes)
