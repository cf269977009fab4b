use Rattle.std.proofs.Common.{sym, ap, subst, ◌∙◌}
use Rattle.std.proofs.lemmas.Result.{on_ok_weaker, on_err_weaker}
use Rattle.cy_graph.specs.Graph.{number_end}
use Rattle.cy_graph.specs.internal.Series.{IsKept, series_versions}
use Rattle.cy_graph.specs.internal.Versions.{without_number}
use Rattle.cy_graph.specs.Model.{SeriesVersions}
use Rattle.cy_graph.proofs.Slots.{raised}
use Rattle.cy_graph.proofs.Steps.{removed_kept, removed_line, unchanged_kept, unchanged_line, either}
use Rattle.cy_graph.proofs.series.Series.remove.Goals as goal

-- the numbers are below the greatest that may be given out
pub remove_in_change-done-requires-clause-rising : goal.remove_in_change-done-requires-clause-rising
remove_in_change-done-requires-clause-rising g c =
    let inside = c.self.inside in
    raised 1 inside.next number_end inside.slots.entries c.self.invariant.range.1 c.self.invariant.rising

-- the numbers rise as before
pub invariant_of-self-then-is_ok : goal.invariant_of-self-then-is_ok
invariant_of-self-then-is_ok g c =
    let inside = c.self.inside in
    let slots = inside.slots.entries in
    let done = c.remove_in_change-done.ensures in
    let start = c.in-Some.start in
    let new = c.remove_in_change-done.new in
    let kept = subst (IsKept slots inside.next) (sym c.take.ensures.value ∙ c.in-Some.is) c.self.invariant in
    either c.remove_in_change-done.result done.ok done.err
    (λ changed. removed_kept slots new.slots.entries inside.next c.args.number start new.start kept changed)
    (λ same. unchanged_kept slots new.slots.entries inside.next c.args.number start new.start kept same)

pub invariant_of-self-else-is_ok : goal.invariant_of-self-else-is_ok
invariant_of-self-else-is_ok g c =
    let inside = c.self.inside in
    let slots = inside.slots.entries in
    let done = c.remove_in_change-done.ensures in
    let start = c.in-Some.start in
    let new = c.remove_in_change-done.new in
    let kept = subst (IsKept slots inside.next) (sym c.take.ensures.value ∙ c.in-Some.is) c.self.invariant in
    either c.remove_in_change-done.result done.ok done.err
    (λ changed. removed_kept slots new.slots.entries inside.next c.args.number start new.start kept changed)
    (λ same. unchanged_kept slots new.slots.entries inside.next c.args.number start new.start kept same)

-- the value is gone
pub returns-then-is_ok-clause-ok : goal.returns-then-is_ok-clause-ok
returns-then-is_ok-clause-ok g c =
    let inside = c.self.inside in
    let slots = inside.slots.entries in
    let start = c.in-Some.start in
    let new = c.remove_in_change-done.new in
    let open_change = sym c.take.ensures.value ∙ c.in-Some.is in
    let kept = subst (IsKept slots inside.next) open_change c.self.invariant in
    let now = sym (ap (series_versions slots inside.next) open_change) ∙ c.self.view_is in
    on_ok_weaker c.remove_in_change-done.result (λ changed.
    removed_line slots new.slots.entries inside.next c.args.number start new.start kept changed
    ∙ ap (λ (l : SeriesVersions g.row.V.Denot). let m : SeriesVersions g.row.V.Denot = record { now = without_number c.args.number l.now; was = l.was } in m) now) c.remove_in_change-done.ensures.ok

-- nothing changed
pub returns-else-is_ok-clause-err : goal.returns-else-is_ok-clause-err
returns-else-is_ok-clause-err g c =
    let inside = c.self.inside in
    let slots = inside.slots.entries in
    let start = c.in-Some.start in
    let new = c.remove_in_change-done.new in
    let open_change = sym c.take.ensures.value ∙ c.in-Some.is in
    let kept = subst (IsKept slots inside.next) open_change c.self.invariant in
    let now = sym (ap (series_versions slots inside.next) open_change) ∙ c.self.view_is in
    on_err_weaker c.remove_in_change-done.result (λ same. unchanged_line slots new.slots.entries inside.next c.args.number start new.start kept same ∙ now) c.remove_in_change-done.ensures.err
