use Rattle.std.proofs.Common.{ℕ, Option, Some, None, is_some, sym, ap, ◌∙◌}
use Rattle.cy_graph.specs.Graph.{number_end}
use Rattle.cy_graph.proofs.Slots.{same_look_up, value_found}
use Rattle.cy_graph.proofs.series.place_of.Goals as goal

-- the number is in no slot
pub returns-in_err-place-clause-found : goal.returns-in_err-place-clause-found
returns-in_err-place-clause-found g c =
    let slots = c.args.slots.now.entries in
    ap is_some c.from_residual.ensures
    ∙ ap is_some (value_found number_end c.args.number slots None c.requires (c.in_err-place.ensures.slot ∙ sym (same_look_up c.args.number slots)))

-- its slot is empty
pub returns-in_err-as_ref-clause-found : goal.returns-in_err-as_ref-clause-found
returns-in_err-as_ref-clause-found g c =
    let slots = c.args.slots.now.entries in
    let slot = c.in_ok-place.slot.now in
    ap is_some c.from_residual-in_err-as_ref.ensures
    ∙ ap is_some (c.in_err-as_ref.ensures.value ∙ value_found number_end c.args.number slots (Some slot) c.requires (c.in_ok-place.ensures.slot ∙ sym (same_look_up c.args.number slots)))

-- its slot has the value
pub returns-clause-place : goal.returns-clause-place
returns-clause-place g c =
    c.in_ok-place.ensures.place
    ∙ ap (λ (s : Option g.row.V.Denot). let e : Option (ℕ × Option g.row.V.Denot) = Some (c.args.number, s) in e) (sym c.in_ok-as_ref.ensures.value)

pub returns-clause-found : goal.returns-clause-found
returns-clause-found g c =
    let slots = c.args.slots.now.entries in
    let slot = c.in_ok-place.slot.now in
    ap is_some (c.in_ok-as_ref.ensures.value ∙ value_found number_end c.args.number slots (Some slot) c.requires (c.in_ok-place.ensures.slot ∙ sym (same_look_up c.args.number slots)))
