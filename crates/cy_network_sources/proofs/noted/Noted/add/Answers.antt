use Rattle.std.proofs.Common.{Some, cond, sym, ap, ◌∙◌, nat_eq}
use Rattle.std.specs.Option.{option_copied, option_map}
use Rattle.cy_values.specs.declared.numbers.Entity.{Entity}
use Rattle.cy_graph.specs.Touched.{old_value}
use Rattle.cy_network_sources.specs.Changes.{Touches, image_at}
use Rattle.cy_network_sources.specs.internal.Images.{node_noted, rel_noted}
use Rattle.cy_network_sources.proofs.Gathering.{added}
use Rattle.cy_network_sources.proofs.noted.Noted.add.Goals as goal

pub returns-in_ok-insert-in-Node-clause-nodes : goal.returns-in_ok-insert-in-Node-clause-nodes
returns-in_ok-insert-in-Node-clause-nodes c = λ number.
    added option_copied c.in-Node.id.0 number c.node_of.result c.self.inside.nodes.entries c.insert.new.self.entries (c.in_ok-insert-in-Node.ensures.updates.0 number)
    ∙ ap (λ (t : Touches). cond (nat_eq c.in-Node.id.0 number) (Some (option_copied c.node_of.result)) (image_at number t.nodes)) c.self.view_is
    ∙ ap (λ o. cond (nat_eq c.in-Node.id.0 number) (Some o) (image_at number c.args.self.now.nodes)) c.node_of.ensures
    ∙ sym (ap (λ (e : Entity). node_noted number (e, option_map old_value c.args.touched.was) (image_at number c.args.self.now.nodes)) c.in-Node.is)

pub returns-in_ok-insert-in-Rel-clause-rels : goal.returns-in_ok-insert-in-Rel-clause-rels
returns-in_ok-insert-in-Rel-clause-rels c = λ number.
    added option_copied c.in-Rel.id.0 number c.rel_of.result c.self.inside.rels.entries c.insert-in-Rel.new.self.entries (c.in_ok-insert-in-Rel.ensures.updates.0 number)
    ∙ ap (λ (t : Touches). cond (nat_eq c.in-Rel.id.0 number) (Some (option_copied c.rel_of.result)) (image_at number t.rels)) c.self.view_is
    ∙ ap (λ o. cond (nat_eq c.in-Rel.id.0 number) (Some o) (image_at number c.args.self.now.rels)) c.rel_of.ensures
    ∙ sym (ap (λ (e : Entity). rel_noted number (e, option_map old_value c.args.touched.was) (image_at number c.args.self.now.rels)) c.in-Rel.is)
