use Rattle.std.proofs.Common.{◌<◌, ◌∙◌, arith, Some}
use Rattle.std.specs.Prelude.{nat_eq}
use Rattle.indexmap.proofs.CallerLemmas.{insert_entry-new}
use Rattle.cy_graph.specs.Graph.{number_end}
use Rattle.cy_graph.proofs.Slots.{absent_next}
use Rattle.cy_graph.proofs.Steps.{added_line, is_kept_added}
use Rattle.cy_graph.proofs.series.Series.add.Goals as goal

-- the value goes last
pub invariant_of-self-2 : goal.invariant_of-self-2
invariant_of-self-2 g c =
    let inside = c.self.inside in
    let last = c.in_ok-insert.ensures.entries ∙ insert_entry-new nat_eq inside.slots inside.next (Some c.args.value) (absent_next 1 inside.next inside.slots.entries c.self.invariant.rising) in
    let left : inside.next < number_end = omega (arith, c.self.invariant.range) in
    rw last (is_kept_added inside.slots.entries inside.next inside.change c.args.value c.self.invariant left)

-- and the view has it
pub returns-clause-added : goal.returns-clause-added
returns-clause-added g c =
    let inside = c.self.inside in
    let last = c.in_ok-insert.ensures.entries ∙ insert_entry-new nat_eq inside.slots inside.next (Some c.args.value) (absent_next 1 inside.next inside.slots.entries c.self.invariant.rising) in
    rw (← c.self.view_is, last) (added_line inside.slots.entries inside.next inside.change c.args.value c.self.invariant)
