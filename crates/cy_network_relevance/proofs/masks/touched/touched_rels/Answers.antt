use Rattle.std.proofs.Common.{◌≡◌, refl, sym, ap, ◌∙◌}
use Rattle.std.specs.Option.{option_copied}
use Rattle.cy_graph.specs.Graph.{Versions, rel_at}
use Rattle.cy_index.specs.Index.{SightState}
use Rattle.cy_network_relevance.specs.declared.masks.bits.Bits.{Bits}
use Rattle.cy_network_relevance.specs.NameBits.{joined_bits, rel_bits, no_bits}
use Rattle.cy_network_relevance.specs.Masks.{with_rels}
use Rattle.cy_network_relevance.proofs.TouchedBits.{next_rel}
use Rattle.cy_network_relevance.proofs.masks.touched.touched_rels.Goals as goal

pub loop-number-init : goal.loop-number-init
loop-number-init c =
    record { bits = ap (with_rels c.args.sight.now.graph.now no_bits) (c.into_iter-number-iterator.ensures.into_iter_gives ∙ c.rels-number-items.ensures); graph = refl }

pub loop-number-preserved : goal.loop-number-preserved
loop-number-preserved c =
    let so_far = c.loop-number.invariant in
    let graph = c.args.sight.now.graph.now in
    let now = c.rel-now.ensures.rel ∙ ap (λ (g : Versions). rel_at (record { 0 = c.in-Some.number }) g.now) so_far.graph in
    let both : c.with-bits.result ≡ joined_bits (joined_bits c.loop-number.bits (rel_bits (option_copied c.in-Some.was))) (rel_bits (option_copied c.rel-now.result)) =
    c.with-bits.ensures ∙ (λ i. joined_bits (c.with-before.ensures i) (c.rel_bits-new.ensures i)) ∙ (λ i. joined_bits (joined_bits c.loop-number.bits (c.rel_bits-old.ensures i)) (rel_bits (option_copied c.rel-now.result))) in
    record {
      bits = ap (λ (b : Bits). with_rels graph b c.next.new.self) both
          ∙ next_rel graph c.loop-number.number-iterator c.next.new.self c.in-Some.number (option_copied c.in-Some.was) (option_copied c.rel-now.result) c.loop-number.bits c.in-Some.ensures.steps now ∙ so_far.bits;
      graph = ap (λ (s : SightState). s.graph) c.rel-now.ensures.read ∙ so_far.graph;
    }

pub returns-clause-bits : goal.returns-clause-bits
returns-clause-bits c =
    sym (ap (with_rels c.args.sight.now.graph.now c.loop-number.bits) c.in-None.ensures.steps.0) ∙ c.loop-number.invariant.bits
