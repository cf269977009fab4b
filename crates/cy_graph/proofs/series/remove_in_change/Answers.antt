use Rattle.std.proofs.Common.{ℕ, Option, Some, refl, sym, ap, ◌∙◌}
use Rattle.indexmap.specs.IndexMap.{set_value_at}
use Rattle.cy_graph.proofs.Slots.{value_read}
use Rattle.cy_graph.proofs.Steps.{keeps_since}
use Rattle.cy_graph.proofs.series.remove_in_change.Goals as goal

-- the value went out of its slot, and was kept if it had to be
pub returns-in-Some-take-clause-ok : goal.returns-in-Some-take-clause-ok
returns-in-Some-take-clause-ok g c =
    let slots = c.args.slots.now.entries in
    let there = c.in-Some.ensures.place in
    let read = value_read slots c.in-Some.slot c.args.number (Some c.in-Some._value.now) c.index_mut.result.now there c.index_mut.ensures.value in
    record {
      slot = c.in-Some.slot;
      value = c.in-Some-take.value;
      there = there ∙ ap (λ (s : Option g.row.V.Denot). let e : Option (ℕ × Option g.row.V.Denot) = Some (c.args.number, s) in e) (sym (c.in-Some-take.ensures.value ∙ read));
      kept = keeps_since c.in-Some.slot c.args.number c.in-Some-take.value c.args.start.now _ c.keep_taken.new.self (record { same = refl; entries = c.in_ok-reserve.ensures.entries }) c.keep_taken.ensures;
      written = ap (set_value_at slots c.in-Some.slot) c.take.ensures.after;
    }

-- the value was there
pub returns-in_default-take-clause-ok : goal.returns-in_default-take-clause-ok
returns-in_default-take-clause-ok g c =
    let slots = c.args.slots.now.entries in
    let read = value_read slots c.in-Some.slot c.args.number (Some c.in-Some._value.now) c.index_mut.result.now c.in-Some.ensures.place c.index_mut.ensures.value in
    let empty = sym c.in_default-take.is ∙ c.take.ensures.value ∙ read in
    cc
