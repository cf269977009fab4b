use Rattle.std.proofs.Common.{◌≡◌, refl, sym, ap, ◌∙◌}
use Rattle.std.specs.Option.{option_copied}
use Rattle.cy_graph.specs.Graph.{Versions, node_at}
use Rattle.cy_index.specs.Index.{SightState}
use Rattle.cy_network_relevance.specs.declared.masks.bits.Bits.{Bits}
use Rattle.cy_network_relevance.specs.NameBits.{joined_bits, node_bits, no_bits}
use Rattle.cy_network_relevance.specs.Masks.{with_nodes}
use Rattle.cy_network_relevance.proofs.TouchedBits.{next_node}
use Rattle.cy_network_relevance.proofs.masks.touched.touched_nodes.Goals as goal

pub loop-number-init : goal.loop-number-init
loop-number-init c =
    record { bits = ap (with_nodes c.args.sight.now.graph.now no_bits) (c.into_iter-number-iterator.ensures.into_iter_gives ∙ c.nodes-number-items.ensures); graph = refl }

pub loop-number-preserved : goal.loop-number-preserved
loop-number-preserved c =
    let so_far = c.loop-number.invariant in
    let graph = c.args.sight.now.graph.now in
    let now = c.node-now.ensures.node ∙ ap (λ (g : Versions). node_at (record { 0 = c.in-Some.number }) g.now) so_far.graph in
    let both : c.with-bits.result ≡ joined_bits (joined_bits c.loop-number.bits (node_bits (option_copied c.in-Some.was))) (node_bits (option_copied c.node-now.result)) =
    c.with-bits.ensures ∙ (λ i. joined_bits (c.with-before.ensures i) (c.node_bits-new.ensures i)) ∙ (λ i. joined_bits (joined_bits c.loop-number.bits (c.node_bits-old.ensures i)) (node_bits (option_copied c.node-now.result))) in
    record {
      bits = ap (λ (b : Bits). with_nodes graph b c.next.new.self) both
          ∙ next_node graph c.loop-number.number-iterator c.next.new.self c.in-Some.number (option_copied c.in-Some.was) (option_copied c.node-now.result) c.loop-number.bits c.in-Some.ensures.steps now ∙ so_far.bits;
      graph = ap (λ (s : SightState). s.graph) c.node-now.ensures.read ∙ so_far.graph;
    }

pub returns-clause-bits : goal.returns-clause-bits
returns-clause-bits c =
    sym (ap (with_nodes c.args.sight.now.graph.now c.loop-number.bits) c.in-None.ensures.steps.0) ∙ c.loop-number.invariant.bits
