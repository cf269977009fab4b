use Rattle.std.proofs.Common.{map, sym, ◌∙◌}
use Rattle.cy_planner_algebra.specs.PlanModels.{output_of, plan_of}
use Rattle.cy_network_relevance.proofs.RowKeys.{rows_told}
use Rattle.cy_network_relevance.proofs.trails.tells_apart.Goals as goal

pub returns-clause-rows : goal.returns-clause-rows
returns-clause-rows c is graph is_graph = rows_told graph is_graph (plan_of c.args.part.now) (map output_of c.args.outputs.now) c.requires (sym c.is_told_apart.ensures ∙ is)
