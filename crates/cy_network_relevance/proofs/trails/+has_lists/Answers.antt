use Rattle.std.proofs.Common.{false, sym, ap, ◌∙◌}
use Rattle.std.specs.Option.{option_map_or}
use Rattle.cy_network_relevance.specs.Trails.{has_lists}
use Rattle.cy_network_relevance.proofs.Elsewhere.{lists_else}
use Rattle.cy_network_relevance.proofs.trails.+has_lists.Goals as goal

pub returns-in-None : goal.returns-in-None
returns-in-None t c =
    sym (c.loop-part.invariant.0 ∙ lists_else c.loop-part.part.now c.in_default.not-Lookup c.in_default.not-Project c.in_default.not-Union
    ∙ ap (λ q. option_map_or has_lists q false) (sym c.in-None.ensures.plan))
