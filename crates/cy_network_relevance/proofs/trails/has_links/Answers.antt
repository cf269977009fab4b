use Rattle.std.proofs.Common.{false, sym, ap, ◌∙◌}
use Rattle.std.specs.Option.{option_map_or}
use Rattle.cy_network_relevance.specs.Trails.{has_links}
use Rattle.cy_network_relevance.proofs.Elsewhere.{links_else}
use Rattle.cy_network_relevance.proofs.trails.has_links.Goals as goal

pub returns-in-None : goal.returns-in-None
returns-in-None c =
    sym (c.loop-part.invariant ∙ links_else c.loop-part.part.now c.in_default.not-Rels c.in_default.not-Join c.in_default.not-Lookup c.in_default.not-Project
    ∙ ap (λ q. option_map_or has_links q false) (sym c.in-None.ensures.plan))
