use Rattle.std.proofs.Common.{ap, sym, subst, ◌∙◌, nat_eq}
use Rattle.std.specs.List.{IsDistinct}
use Rattle.std.specs.Map.{keys_of}
use Rattle.std.specs.Option.{option_copied}
use Rattle.std.proofs.lemmas.Map.Made.{keys_of-map_values}
use Rattle.cy_network_sources.specs.Changes.{Touches}
use Rattle.cy_network_sources.proofs.noted.Noted.once.Goals as goal

pub returns-clause-nodes : goal.returns-clause-nodes
returns-clause-nodes c =
    subst (IsDistinct nat_eq) (sym (keys_of-map_values option_copied c.self.inside.nodes.entries) ∙ ap (λ (t : Touches). keys_of t.nodes) c.self.view_is) c.len.ensures.unique

pub returns-clause-rels : goal.returns-clause-rels
returns-clause-rels c =
    subst (IsDistinct nat_eq) (sym (keys_of-map_values option_copied c.self.inside.rels.entries) ∙ ap (λ (t : Touches). keys_of t.rels) c.self.view_is) c.len-2.ensures.unique
