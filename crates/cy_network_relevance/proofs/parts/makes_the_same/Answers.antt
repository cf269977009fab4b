use Rattle.cy_planner_algebra.specs.Plans as plan
use Rattle.cy_network_relevance.proofs.Rules.{none_kept}
use Rattle.cy_network_relevance.proofs.parts.makes_the_same.Goals as goal

pub returns-else-keeps_rel : goal.returns-else-keeps_rel
returns-else-keeps_rel c = λ yes orientation. none_kept c.args.entity.now (plan.rels c.args.types.now orientation) (c.makes_no_rel.ensures yes orientation)
