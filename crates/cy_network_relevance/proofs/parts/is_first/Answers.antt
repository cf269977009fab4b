use Rattle.std.proofs.Common.{ap, sym, ◌∙◌}
use Rattle.cy_planner_algebra.specs.PlanModels.{output_of}
use Rattle.cy_network_sources.specs.Scans.{is_this}
use Rattle.cy_network_relevance.proofs.Rules.{alone_is}
use Rattle.cy_network_relevance.proofs.parts.is_first.Goals as goal

pub returns-in-Some : goal.returns-in-Some
returns-in-Some c = λ yes. alone_is 0 (output_of c.args.output.now) ∙ ap (is_this 0) (sym c.in-Some.ensures) ∙ yes
