use Rattle.std.proofs.Common.{rules}
use Rattle.cy_graph.proofs.Joined.{retained}
use Rattle.cy_graph.proofs.adjacency.drop_removed.Goals as goal

pub returns : goal.returns
returns c = retained _ _ _ (λ x b g y call. search rules) _ _ c.retain.ensures.filtered
