use Rattle.std.proofs.Common.{◌≡◌, map}
use Rattle.std.specs.Vec.Iter.{into_iter_items}
use Rattle.cy_oneshot_patterns.specs.Outcomes.{together, gathered}
use Rattle.cy_oneshot_meaning.specs.Reading.{AreInGraph}
use Rattle.cy_oneshot_meaning.specs.internal.Answers.{on_value}
use Rattle.cy_oneshot_meaning.specs.internal.Seen.{keyed_by, projected_of}
use Rattle.cy_oneshot_projections.specs.SortKeys.{sort_key_of}
use Rattle.cy_oneshot_projections.specs.internal.Keys.{keyed_of}
use Rattle.cy_oneshot_projections.proofs.projection.keyed_rows.Given as goal

-- the rows so far, and those that are left
abbrev pub invariant-loop-seen : goal.invariant-loop-seen
invariant-loop-seen l =
    (together (on_value (map keyed_of) l.keyed) (gathered (map (keyed_by l.store.graph.now.content (map sort_key_of l.keys)) (map (projected_of l.width) (into_iter_items l.seen-iterator))))
    ≡ gathered (map (keyed_by l.store.graph.now.content (map sort_key_of l.keys)) (map (projected_of l.width) l.fn.seen.items)))
    × AreInGraph l.store.graph.now.content (into_iter_items l.seen-iterator)
