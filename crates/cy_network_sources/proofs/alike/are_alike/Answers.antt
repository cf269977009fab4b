use Rattle.std.proofs.Common.{map, ap, sym, ◌∙◌, arith}
use Rattle.std.proofs.lemmas.List.{drop_all, length-map}
use Rattle.cy_planner_algebra.specs.PlanModels.{plan_of}
use Rattle.cy_network_sources.specs.internal.Through.{attribute_in, through}
use Rattle.cy_network_sources.proofs.ThroughScans.{alike_more}
use Rattle.cy_network_sources.proofs.alike.are_alike.Goals as goal

pub loop-part-preserved : goal.loop-part-preserved
loop-part-preserved c = λ rest.
    c.loop-part.invariant
    (alike_more (attribute_in c.args.old) (attribute_in c.args.new) c.args.parts.now c.loop-part.part-index c.part-item.result c.loop-part-test.true c.part-item.is (c.is_alike.ensures c.if-not-is_alike.false) rest)

pub returns : goal.returns
returns c = λ yes.
    let plans = map (λ part. plan_of part.now) c.args.parts.now in
    let many = length-map c.args.parts.now (λ part. plan_of part.now) in
    let end = c.loop-part-test.false in
    let none = drop_all c.loop-part.part-index plans (omega (arith, many, end)) in
    c.loop-part.invariant (λ rows. ap (λ ps. through (attribute_in c.args.old) ps rows) none ∙ sym (ap (λ ps. through (attribute_in c.args.new) ps rows) none))
