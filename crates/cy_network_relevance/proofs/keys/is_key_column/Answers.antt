use Rattle.std.proofs.Common.{false, sym, ap, ◌∙◌}
use Rattle.std.specs.Option.{option_map_or}
use Rattle.cy_network_relevance.specs.Trails.{is_key_column}
use Rattle.cy_network_relevance.proofs.Elsewhere.{key_column_else}
use Rattle.cy_network_relevance.proofs.keys.is_key_column.Goals as goal

pub returns-in-None-sifted : goal.returns-in-None-sifted
returns-in-None-sifted c =
    sym (c.loop-part.invariant.1 ∙ key_column_else c.loop-part.part.now c.loop-part.column c.in_default.not-Nodes c.in_default.not-Rels c.in_default.not-Join c.in_default.not-Lookup c.in_default.not-Project
    ∙ ap (λ q. option_map_or (λ p. is_key_column p c.loop-part.column) q false) (sym c.in-None-sifted.ensures.plan))
