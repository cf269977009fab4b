use Rattle.std.proofs.Common.{subst, arith}
use Rattle.cy_network_relevance.specs.internal.Kept.{IsUnchanged}
use Rattle.cy_network_relevance.proofs.Elsewhere.{Both, unchanged_else}
use Rattle.cy_network_relevance.proofs.reads.+labels_matter.Goals as goal

pub returns-in-None : goal.returns-in-None
returns-in-None t c = λ known.
    let e = c.args.entity.now in
    c.loop-part.invariant.0 known (unchanged_else c.loop-part.part.now e c.in_default.not-Nodes c.in_default.not-Rels c.in_default.not-Lookup (subst (Both (IsUnchanged e)) c.in-None.ensures.plans tt))

pub loop-part-preserved-in-One : goal.loop-part-preserved-in-One
loop-part-preserved-in-One t c =
    let e = c.args.entity.now in
    let less = c.in-One.ensures.smaller in
    let within = c.loop-part.invariant.1 in (
      λ known below. c.loop-part.invariant.0 known (unchanged_else c.loop-part.part.now e c.in_default.not-Nodes c.in_default.not-Rels c.in_default.not-Lookup (subst (Both (IsUnchanged e)) c.in-One.ensures.plans below)),
      omega (arith, less, within),
    )
