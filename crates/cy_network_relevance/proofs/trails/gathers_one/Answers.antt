use Rattle.std.proofs.Common.{sym, ◌∙◌}
use Rattle.cy_values.proofs.Lists.{any_mapped}
use Rattle.cy_planner_algebra.specs.PlanModels.{output_of}
use Rattle.cy_network_relevance.specs.Trails.{gathers_both}
use Rattle.cy_network_relevance.proofs.trails.gathers_one.Goals as goal

pub returns : goal.returns
returns c = c.any_gathers.ensures ∙ sym (any_mapped (gathers_both 0 c.args.second) output_of c.args.outputs.now)
