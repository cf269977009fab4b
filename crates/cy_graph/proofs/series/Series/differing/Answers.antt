use Rattle.std.proofs.Common.{ℕ, ◌++◌, List, drop, take, IfSome, Option, map, ap, subst, sym, ◌∙◌}
use Rattle.std.specs.Option.{option_copied}
use Rattle.cy_graph.specs.internal.Differences.{AreDifferences, changed_of, added_of}
use Rattle.cy_graph.specs.internal.Series.{series_versions}
use Rattle.cy_graph.specs.internal.Versions.{IsNumbered}
use Rattle.cy_graph.specs.Model.{SeriesVersions}
use Rattle.cy_graph.proofs.Differing.{are_differences}
use Rattle.cy_graph.proofs.Slots.{live_rises, restored_rises}
use Rattle.cy_graph.proofs.series.Series.differing.Goals as goal

-- the kept ones that are different now, then the new ones
pub returns-clause-ok : goal.returns-clause-ok
returns-clause-ok g c =
    let inside = c.self.inside in
    let slots = inside.slots.entries in
    let start = c.in-Some.start in
    let eq = g.V.PartialEq.eq in
    let list = map (λ f. (f.0, option_copied f.1)) c.push_added.new.found.items in
    let now = sym (ap (series_versions slots inside.next) c.in-Some.is) ∙ c.self.view_is in
    let added = added_of (drop start.slots slots) in
    let gathered = c.in_ok-push_added.ensures.ok ∙ ap (λ (es : List (ℕ × Option g.row.V.Denot)). es ++ added) c.in_ok-found.ensures.ok
    ∙ sym (ap (λ (l : SeriesVersions g.row.V.Denot). changed_of eq l.now start.before.entries ++ added) now) in
    subst (λ (l : SeriesVersions g.row.V.Denot). IfSome l.was (λ before. AreDifferences before l.now list)) now
    (are_differences slots start inside.next eq c.requires.decides (g.met.V.Eq.laws).refl c.self.invariant.rising (c.self.invariant.was start c.in-Some.is) c.in_ok-found.ensures.distinct list gathered)

pub returns-clause-numbered : goal.returns-clause-numbered
returns-clause-numbered g c =
    let inside = c.self.inside in
    let slots = inside.slots.entries in
    let start = c.in-Some.start in
    let before = c.self.invariant.was start c.in-Some.is in
    let now = sym (ap (series_versions slots inside.next) c.in-Some.is) ∙ c.self.view_is in
    subst (λ (l : SeriesVersions g.row.V.Denot). IsNumbered l.now × IfSome l.was IsNumbered) now (
      record { rising = live_rises 1 inside.next slots c.self.invariant.rising; range = c.self.invariant.range },
      record {
        rising = live_rises 1 start.next _ (restored_rises start.before.entries 1 start.next (take start.slots slots) before.rising);
        range = before.range;
      },
    )
