use Rattle.std.proofs.Common.{Some, None, sym, ap, ◌∙◌}
use Rattle.std.specs.Option.{option_copied}
use Rattle.cy_graph.proofs.Slots.{same_look_up, value_found, live_rises}
use Rattle.cy_graph.proofs.series.Series.get.Goals as goal

-- the number was not given out, or its value is gone since a compaction
pub returns-in_err-slot_of : goal.returns-in_err-slot_of
returns-in_err-slot_of g c =
    let inside = c.self.inside in
    rw (← c.self.view_is) (record {
      value = ap option_copied c.from_residual.ensures ∙ value_found inside.next c.args.number inside.slots.entries None c.self.invariant.rising (c.in_err-slot_of.ensures.slot ∙ sym (same_look_up c.args.number inside.slots.entries));
      numbered = record { rising = live_rises 1 inside.next inside.slots.entries c.self.invariant.rising; range = c.self.invariant.range };
    })

-- what stands in the slot is what stands under the number
pub returns : goal.returns
returns g c =
    let inside = c.self.inside in
    rw (← c.self.view_is) (record {
      value = c.as_ref.ensures.value ∙ value_found inside.next c.args.number inside.slots.entries (Some c.in_ok-slot_of.field-0.1.now) c.self.invariant.rising (c.in_ok-slot_of.ensures.slot ∙ sym (same_look_up c.args.number inside.slots.entries));
      numbered = record { rising = live_rises 1 inside.next inside.slots.entries c.self.invariant.rising; range = c.self.invariant.range };
    })
