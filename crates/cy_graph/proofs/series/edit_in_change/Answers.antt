use Rattle.std.proofs.Common.{Some, Result, Ok, Err, OnErr, inr, ap, ◌∙◌}
use Rattle.std.specs.Option.{option_map}
use Rattle.indexmap.specs.IndexMap.{set_value_at}
use Rattle.cy_graph.proofs.Slots.{value_read}
use Rattle.cy_graph.proofs.series.edit_in_change.Goals as goal

-- what holds at any answer holds at an error
on_err : {T E P : Type 0} → (answer : Result T E) → P → OnErr answer P
on_err (Ok x) here = tt
on_err (Err e) here = here

-- the slot stays as it was
pub returns-in_err-edit_in-clause-err : goal.returns-in_err-edit_in-clause-err
returns-in_err-edit_in-clause-err g c =
    let slots = c.args.slots.now.entries in
    let there = c.in-Some.ensures.place in
    let read = value_read slots c.in-Some.slot c.args.number (Some c.in-Some.value.now) c.index_mut.result.now there c.index_mut.ensures.value in
    on_err c.from_residual-in_err-edit_in.result (inr (record {
      slot = c.in-Some.slot;
      value = c.in-Some.value.now;
      there = there;
      kept = c.in_ok-keep.ensures.ok;
      written = ap (set_value_at slots c.in-Some.slot) (c.in_err-edit_in.ensures.err ∙ read);
    }))

-- the slot has the value as it is then
pub returns-clause-ok : goal.returns-clause-ok
returns-clause-ok g c =
    let slots = c.args.slots.now.entries in
    let there = c.in-Some.ensures.place in
    let read = value_read slots c.in-Some.slot c.args.number (Some c.in-Some.value.now) c.index_mut.result.now there c.index_mut.ensures.value in
    record {
      slot = c.in-Some.slot;
      value = c.in-Some.value.now;
      there = there;
      kept = c.in_ok-keep.ensures.ok;
      written = ap (set_value_at slots c.in-Some.slot) (c.in_ok-edit_in.ensures.ok ∙ ap (option_map (g.E.Edit.edited c.args.edit)) read);
    }
