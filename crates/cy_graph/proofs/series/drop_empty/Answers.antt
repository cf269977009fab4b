use Rattle.std.proofs.Common.{rules}
use Rattle.indexmap.proofs.CallerLemmas.{filter-RetainsPairs}
use Rattle.cy_graph.proofs.series.drop_empty.Goals as goal

pub returns : goal.returns
returns g c = filter-RetainsPairs _ _ _ (λ k v b w g call. search rules) _ _ c.retain.ensures.filtered
