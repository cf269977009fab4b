use Rattle.std.proofs.Common.{sym, ap, ◌∙◌}
use Rattle.std.specs.Option.{option_and_then}
use Rattle.cy_network_relevance.specs.Lists.{most_named}
use Rattle.cy_network_relevance.proofs.Elsewhere.{most_else}
use Rattle.cy_network_relevance.proofs.at_most.+at_most.Goals as goal

pub most_below-returns-in-None : goal.most_below-returns-in-None
most_below-returns-in-None t c =
    sym (c.loop-part.invariant.2 ∙ most_else c.loop-part.part.now c.loop-part.column c.in_default.not-Rels c.in_default.not-Join c.in_default.not-Outer c.in_default.not-Lookup c.in_default.not-Distinct c.in_default.not-Project c.in_default.not-Union
    ∙ ap (λ q. option_and_then (λ p. most_named p c.loop-part.column) q) (sym c.in-None.ensures.plan))
