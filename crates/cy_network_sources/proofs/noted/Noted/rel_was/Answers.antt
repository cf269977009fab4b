use Rattle.std.proofs.Common.{sym, ap, ◌∙◌, nat_eq}
use Rattle.std.specs.Option.{option_copied, option_map}
use Rattle.std.proofs.lemmas.Map.Made.{lookup-map_values}
use Rattle.cy_network_sources.specs.Changes.{Touches, image_at}
use Rattle.cy_network_sources.proofs.noted.Noted.rel_was.Goals as goal

pub returns : goal.returns
returns c =
    ap (option_map option_copied) (c.copied.ensures ∙ c.get.ensures.value)
    ∙ sym (lookup-map_values option_copied (nat_eq c.args.id.0) c.self.inside.rels.entries)
    ∙ ap (λ (t : Touches). image_at c.args.id.0 t.rels) c.self.view_is
