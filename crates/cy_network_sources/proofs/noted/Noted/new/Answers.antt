use Rattle.std.proofs.Common.{None, [], ◌∷◌, map, sym, ap, ◌∙◌}
use Rattle.std.proofs.lemmas.List.{map-append, map-id}
use Rattle.std.proofs.lemmas.Iterator.Consumers.{YieldsList-end}
use Rattle.std.proofs.lemmas.Iterator.Adapters.{YieldsList-from_vec}
use Rattle.cy_graph.specs.Touched.{before_image}
use Rattle.cy_network_sources.specs.internal.Images.{node_noted, nodes_noted, rel_noted, rels_noted}
use Rattle.cy_network_sources.proofs.Gathering.{gathered, nodes_more, rels_more}
use Rattle.cy_network_sources.proofs.noted.Noted.new.Goals as goal

pub loop-entity-preserved : goal.loop-entity-preserved
loop-entity-preserved c = record {
  nodes = λ number.
      c.in_ok-add.ensures.nodes number
      ∙ ap (node_noted number (before_image c.in-Some.entity)) (c.loop-entity.invariant.nodes number)
      ∙ sym (nodes_more number (map before_image c.loop-entity.yielded) (before_image c.in-Some.entity) None)
      ∙ ap (λ es. nodes_noted number es None) (sym (map-append before_image c.loop-entity.yielded (c.in-Some.entity ∷ [])));
  rels = λ number.
      c.in_ok-add.ensures.rels number
      ∙ ap (rel_noted number (before_image c.in-Some.entity)) (c.loop-entity.invariant.rels number)
      ∙ sym (rels_more number (map before_image c.loop-entity.yielded) (before_image c.in-Some.entity) None)
      ∙ ap (λ es. rels_noted number es None) (sym (map-append before_image c.loop-entity.yielded (c.in-Some.entity ∷ [])));
}

pub returns : goal.returns
returns c =
    let gives = c.into_iter-entity-iterator.ensures.into_iter_gives in
    let seen = YieldsList-end (YieldsList-from_vec {s = c.into_iter-entity-iterator.result} c.in-Ok.touched.items gives.0 (gives.1 ∙ c.in-Ok.touched.ok.0)) c.loop-entity.yielded c.loop-entity.entity-iterator c.loop-entity.yielded_by c.next.result c.next.new.self c.in-None.is c.next.ensures.steps in
    record {
      change =
          gathered c.args.sight.now.graph (map before_image c.in-Ok.touched.items) c.requires c.in-Ok.ensures.ok c.in-Ok.ensures.graphs c.loop-entity.change
          (λ number. c.loop-entity.invariant.nodes number ∙ ap (λ es. nodes_noted number (map before_image es) None) (sym (map-id c.loop-entity.yielded) ∙ seen.0))
          (λ number. c.loop-entity.invariant.rels number ∙ ap (λ es. rels_noted number (map before_image es) None) (sym (map-id c.loop-entity.yielded) ∙ seen.0))
          c.once.ensures.nodes c.once.ensures.rels;
    }
