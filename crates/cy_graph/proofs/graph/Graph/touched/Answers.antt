use Rattle.std.proofs.Common.{◌≡◌, List, ◌++◌, IsSome, map, sym, ap, subst, ◌∙◌, arith}
use Rattle.std.specs.Option.{option_copied}
use Rattle.cy_graph.specs.Touched.{BeforeImage, before_image}
use Rattle.cy_graph.specs.internal.BeforeImages.{node_image, rel_image}
use Rattle.cy_graph.specs.Graph.{Versions}
use Rattle.cy_graph.proofs.Relating.{some_in_nodes, some_in_rels}
use Rattle.cy_graph.proofs.Same.{same_node, same_rel}
use Rattle.cy_graph.proofs.Touching.{versions_touched, versions_graphs}
use Rattle.cy_graph.proofs.graph.Graph.touched.Goals as goal

-- what is found fits into memory, and a change is open in both
pub differing-requires : goal.differing-requires
differing-requires c =
    let going = subst (λ (v : Versions). IsSome v.was) (sym c.self.view_is) c.requires in
    (omega arith, (some_in_nodes c.self.inside.nodes.was c.self.inside.rels.was c.self.invariant.both going, same_node))

pub differing-requires-2 : goal.differing-requires-2
differing-requires-2 c =
    let going = subst (λ (v : Versions). IsSome v.was) (sym c.self.view_is) c.requires in
    (omega arith, (some_in_rels c.self.inside.nodes.was c.self.inside.rels.was c.self.invariant.both going, same_rel))

-- the nodes and the relationships that differ are reported
pub returns-clause-ok : goal.returns-clause-ok
returns-clause-ok c =
    let found = map (λ f. (f.0, option_copied f.1)) c.in_ok-differing.field-0.items in
    let rels_found = map (λ f. (f.0, option_copied f.1)) c.in_ok-differing-2.field-0.items in
    let entries = map before_image c.push_rels.new.touched.items in
    let nodes_pushed : map before_image c.push_nodes.new.touched.items ≡ map node_image found =
    c.in_ok-push_nodes.ensures.ok ∙ ap (λ es. map before_image es ++ map node_image (map (λ f. (f.0, option_copied f.1)) c.deref-2.result.now)) c.new-touched.ensures.items
    ∙ ap (λ es. map node_image (map (λ f. (f.0, option_copied f.1)) es)) c.deref-2.ensures in
    let gathered : entries ≡ map node_image found ++ map rel_image rels_found =
    c.in_ok-push_rels.ensures.ok ∙ ap (λ (es : List BeforeImage). es ++ map rel_image (map (λ f. (f.0, option_copied f.1)) c.deref-4.result.now)) nodes_pushed
    ∙ ap (λ fs. map node_image found ++ map rel_image (map (λ f. (f.0, option_copied f.1)) fs)) c.deref-4.ensures in
    versions_touched c.self.inside.nodes c.self.inside.rels c.args.self.now found rels_found entries c.self.view_is gathered c.in_ok-differing.ensures.ok c.in_ok-differing-2.ensures.ok

pub returns-clause-graphs : goal.returns-clause-graphs
returns-clause-graphs c =
    versions_graphs c.self.inside.nodes c.self.inside.rels c.self.inside.outgoing c.self.inside.incoming c.args.self.now c.self.view_is c.self.invariant c.in_ok-differing.ensures.numbered c.in_ok-differing-2.ensures.numbered
