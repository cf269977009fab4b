use Rattle.std.proofs.Common.{sym, ap, ◌∙◌}
use Rattle.std.specs.Option.{option_map}
use Rattle.cy_graph.specs.internal.Slots.{slot_at}
use Rattle.cy_graph.proofs.Slots.{same_look_up, slot_found}
use Rattle.cy_graph.proofs.series.slot_of.Goals as goal

-- the slot at the place that the number gives is its own
pub returns-clause-slot : goal.returns-clause-slot
returns-clause-slot g c =
    let slots = c.args.slots.now.entries in
    let found = c.in-Some.found.now in
    sym c.in-Some.ensures.value ∙ same_look_up found slots ∙ ap (λ k. slot_at k slots) c.if-found-number.true

-- the number is in no slot
pub returns-in_err-place-clause-slot : goal.returns-in_err-place-clause-slot
returns-in_err-place-clause-slot g c =
    ap (option_map (λ found. found.1.now)) c.from_residual.ensures ∙ c.in_err-place.ensures.value ∙ same_look_up c.args.number c.args.slots.now.entries

-- it is found by its hash
pub returns-2-clause-slot : goal.returns-2-clause-slot
returns-2-clause-slot g c = c.in_ok-place.ensures.value ∙ same_look_up c.args.number c.args.slots.now.entries

pub returns-2-clause-place : goal.returns-2-clause-place
returns-2-clause-place g c =
    let arm = c.in_ok-place in
    slot_found c.args.number arm._number.now c.args.slots.now.entries arm.place arm.slot.now arm.ensures.key arm.ensures.entry
