use Rattle.std.proofs.Common.{None, Some, sym, ap, ◌∙◌}
use Rattle.std.specs.Option.{option_copied}
use Rattle.cy_network_sources.specs.Changes.{Touches, image_at}
use Rattle.cy_network_sources.specs.declared.changes.Source.{Source}
use Rattle.cy_network_sources.specs.internal.Sources.{touches_in}
use Rattle.cy_network_sources.proofs.Gathering.{node_image}
use Rattle.cy_network_sources.proofs.changes.GraphChange.node_was.Goals as goal

pub returns-in-Some : goal.returns-in-Some
returns-in-Some c =
    node_image c.in-All.store.now.graph.now c.args.id (Some c.in-Some.field-0.now) (sym (ap option_copied c.in-Some.is) ∙ c.node.ensures)
    ∙ ap (λ (s : Source). image_at c.args.id.0 (touches_in s).nodes) (sym c.in-All.is)
    ∙ ap (λ (t : Touches). image_at c.args.id.0 t.nodes) c.self.view_is

pub returns-in-None : goal.returns-in-None
returns-in-None c =
    node_image c.in-All.store.now.graph.now c.args.id None (sym (ap option_copied c.in-None.is) ∙ c.node.ensures)
    ∙ ap (λ (s : Source). image_at c.args.id.0 (touches_in s).nodes) (sym c.in-All.is)
    ∙ ap (λ (t : Touches). image_at c.args.id.0 t.nodes) c.self.view_is
