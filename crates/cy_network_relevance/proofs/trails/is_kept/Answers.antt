use Rattle.std.proofs.Common.{map, sym, ◌∙◌}
use Rattle.cy_values.proofs.Lists.{any_mapped}
use Rattle.cy_planner_algebra.specs.PlanModels.{output_of}
use Rattle.cy_network_relevance.specs.Trails.{is_alone}
use Rattle.cy_network_relevance.proofs.AnyOutput.{at_kept}
use Rattle.cy_network_relevance.proofs.trails.is_kept.Goals as goal

pub returns-then-is_at : goal.returns-then-is_at
returns-then-is_at c = sym (at_kept (map output_of c.args.outputs.now) c.args.place c.args.column (sym c.is_at.ensures ∙ c.if-is_at.true))

pub returns : goal.returns
returns c = c.any_alone.ensures ∙ sym (any_mapped (is_alone c.args.column) output_of c.args.outputs.now)
