use Rattle.std.proofs.Common.{sym, ap, subst, ◌∙◌}
use Rattle.std.proofs.lemmas.Result.{on_ok_weaker, on_err_weaker}
use Rattle.cy_graph.specs.Graph.{number_end}
use Rattle.cy_graph.specs.internal.Series.{IsKept, series_versions}
use Rattle.cy_graph.specs.internal.Versions.{with_edited}
use Rattle.cy_graph.specs.Model.{SeriesVersions}
use Rattle.cy_graph.proofs.Slots.{raised}
use Rattle.cy_graph.proofs.Steps.{edited_kept, edited_line, unchanged_kept, unchanged_line, either}
use Rattle.cy_graph.proofs.series.Series.edit.Goals as goal

-- the numbers are below the greatest that may be given out
pub edit_in_change-done-requires-clause-rising : goal.edit_in_change-done-requires-clause-rising
edit_in_change-done-requires-clause-rising g c =
    let inside = c.self.inside in
    raised 1 inside.next number_end inside.slots.entries c.self.invariant.range.1 c.self.invariant.rising

-- the numbers rise as before
pub invariant_of-self-2 : goal.invariant_of-self-2
invariant_of-self-2 g c =
    let inside = c.self.inside in
    let slots = inside.slots.entries in
    let done = c.edit_in_change-done.ensures in
    let start = c.in-Some.start in
    let new = c.edit_in_change-done.new in
    let kept = subst (IsKept slots inside.next) (sym c.take.ensures.value ∙ c.in-Some.is) c.self.invariant in
    either c.edit_in_change-done.result done.ok done.err
    (λ changed. edited_kept slots new.slots.entries inside.next c.args.number start new.start kept (g.E.Edit.edited c.args.edit) changed)
    (λ same. unchanged_kept slots new.slots.entries inside.next c.args.number start new.start kept same)

-- the value is edited
pub returns-clause-ok : goal.returns-clause-ok
returns-clause-ok g c =
    let inside = c.self.inside in
    let slots = inside.slots.entries in
    let start = c.in-Some.start in
    let new = c.edit_in_change-done.new in
    let open_change = sym c.take.ensures.value ∙ c.in-Some.is in
    let kept = subst (IsKept slots inside.next) open_change c.self.invariant in
    let now = sym (ap (series_versions slots inside.next) open_change) ∙ c.self.view_is in
    on_ok_weaker c.edit_in_change-done.result (λ changed.
    edited_line slots new.slots.entries inside.next c.args.number start new.start kept (g.E.Edit.edited c.args.edit) changed
    ∙ ap (λ (l : SeriesVersions g.row.V.Denot). let m : SeriesVersions g.row.V.Denot = record { now = with_edited (g.E.Edit.edited c.args.edit) c.args.number l.now; was = l.was } in m) now) c.edit_in_change-done.ensures.ok

-- nothing changed
pub returns-clause-err : goal.returns-clause-err
returns-clause-err g c =
    let inside = c.self.inside in
    let slots = inside.slots.entries in
    let start = c.in-Some.start in
    let new = c.edit_in_change-done.new in
    let open_change = sym c.take.ensures.value ∙ c.in-Some.is in
    let kept = subst (IsKept slots inside.next) open_change c.self.invariant in
    let now = sym (ap (series_versions slots inside.next) open_change) ∙ c.self.view_is in
    on_err_weaker c.edit_in_change-done.result (λ same. unchanged_line slots new.slots.entries inside.next c.args.number start new.start kept same ∙ now) c.edit_in_change-done.ensures.err
