use Rattle.std.proofs.Common.{◌∙◌, sym, ap, inl}
use Rattle.std.proofs.lemmas.List.{nil_from_length}
use Rattle.std.specs.Vec.Iter.{into_iter_items}
use Rattle.cy_expr.specs.Lists.{elements}
use Rattle.cy_expr.proofs.Rules.{behind, behind-nothing, behind-one, stopped, all_made}
use Rattle.cy_expr.proofs.lists.list_of.Goals as goal

pub loop-value-init : goal.loop-value-init
loop-value-init c =
    rw (c.in_ok-elements.ensures.items, c.into_iter-value-iterator.ensures.into_iter_gives.0) (behind-nothing (elements c.args.values.items))

-- a list among the values
pub returns-in_err-element : goal.returns-in_err-element
returns-in_err-element c =
    inl (stopped c.loop-value.elements.items c.in-Some.value (into_iter_items c.loop-value.value-iterator) (into_iter_items c.next.new.self) c.args.values.items c.in_err-element.field-0.0 _
    c.in_err-element.ensures c.in-Some.ensures.steps.0 c.loop-value.invariant c.from_residual-in_err-element.ensures)

pub loop-value-preserved : goal.loop-value-preserved
loop-value-preserved c =
    let es = c.loop-value.elements.items in
    let step = behind-one es c.in_ok-element.field-0 c.in-Some.value (elements (into_iter_items c.next.new.self)) (sym c.in_ok-element.ensures) in
    rw c.in_ok-push.ensures.items (step ∙ ap (λ vs. behind es (elements vs)) (sym c.in-Some.ensures.steps.0) ∙ c.loop-value.invariant)

pub returns : goal.returns
returns c =
    let left = into_iter_items c.loop-value.value-iterator in
    let none = nil_from_length left (sym c.loop-value.value-iterator.rest.ok.0 ∙ c.in-None.ensures.steps.0) in
    inl (rw c.in_ok-new.ensures (all_made c.loop-value.elements.items left c.args.values.items none c.loop-value.invariant))
