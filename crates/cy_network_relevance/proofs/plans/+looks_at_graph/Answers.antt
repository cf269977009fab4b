use Rattle.std.proofs.Common.{sym, ap, ◌∙◌, arith}
use Rattle.cy_network_sources.specs.Work.{looks_at_graph}
use Rattle.cy_network_relevance.proofs.Elsewhere.{either, looks_else}
use Rattle.cy_network_relevance.proofs.plans.+looks_at_graph.Goals as goal

pub returns-in-None : goal.returns-in-None
returns-in-None t c =
    sym (c.loop-part.invariant.0 ∙ looks_else c.loop-part.part.now c.in_default.not-Nodes c.in_default.not-Rels c.in_default.not-Lookup ∙ ap (either looks_at_graph) (sym c.in-None.ensures.plans))

pub loop-part-preserved-in-One : goal.loop-part-preserved-in-One
loop-part-preserved-in-One t c =
    let less = c.in-One.ensures.smaller in
    let within = c.loop-part.invariant.1 in
    (c.loop-part.invariant.0 ∙ looks_else c.loop-part.part.now c.in_default.not-Nodes c.in_default.not-Rels c.in_default.not-Lookup ∙ ap (either looks_at_graph) (sym c.in-One.ensures.plans), omega (arith, less, within))
