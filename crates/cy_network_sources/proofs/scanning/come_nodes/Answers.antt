use Rattle.std.proofs.Common.{◌≡◌, ℕ, ◌+◌, ◌-◌, ◌^◌, ◌≤◌, min, List, ◌∷◌, [], ◌++◌, Option, map, sym, ap, subst, ◌∙◌, arith}
use Rattle.cy_graph.specs.declared.nodes.Node.{Node}
use Rattle.cy_graph.specs.Graph.{Versions, node_at}
use Rattle.cy_index.specs.Index.{SightState}
use Rattle.cy_network_operators.specs.Deltas.{deltas_of}
use Rattle.cy_network_operators.proofs.DeltaLemmas.{made_more}
use Rattle.cy_planner_algebra.specs.PlanModels.{plan_of}
use Rattle.cy_network_sources.proofs.AttributeLemmas.{one_more_read}
use Rattle.cy_network_sources.specs.internal.Through.{IsNodeFit, node_made, recounted}
use Rattle.cy_network_sources.proofs.FirstScans.{come, one_read}
use Rattle.cy_network_sources.proofs.scanning.come_nodes.Goals as goal

pub add_node-requires-clause-new : goal.add_node-requires-clause-new
add_node-requires-clause-new c =
    subst (IsNodeFit (map (λ part. plan_of part.now) c.args.parts.now) c.in-Some.id.0)
    (sym (c.node-new.ensures.node ∙ ap (λ (g : Versions). node_at c.in-Some.id g.now) c.loop-id.invariant.graph)) (c.requires.fit c.in-Some.id.0)

pub loop-id-preserved : goal.loop-id-preserved
loop-id-preserved c =
    let ps = map (λ part. plan_of part.now) c.args.parts.now in
    let so_far = c.loop-id.invariant in
    let now = c.node-new.ensures.node ∙ ap (λ (g : Versions). node_at c.in-Some.id g.now) so_far.graph in
    record {
      made = λ row.
          c.in_ok-add_node.ensures.made row
          ∙ ap (λ (o : Option Node). deltas_of row c.loop-id.deltas.items ++ recounted [] (node_made ps c.in-Some.id.0 o) row) now
          ∙ ap (λ made. made ++ come c.args.sight.now.graph.now ps row c.in-Some.id) (so_far.made row)
          ∙ sym (made_more (come c.args.sight.now.graph.now ps row) c.loop-id.yielded c.in-Some.id);
      bounded = c.in_ok-add_node.ensures.bounded so_far.bounded;
      graph = ap (λ (s : SightState). s.graph) c.node-new.ensures.read ∙ so_far.graph;
      reads = one_more_read c.loop-id.yielded c.in-Some.id c.args.sight.now.reads c.loop-id.sight.reads c.node-new.new.self.reads so_far.reads
          (one_read c.loop-id.sight c.node-new.new.self c.node-new.ensures.read);
    }
