use Rattle.std.proofs.Common.{◌≡◌, [], map}
use Rattle.std.specs.Vec.Iter.{into_iter_items}
use Rattle.cy_oneshot_projections.specs.internal.Grouping.{with_rows}
use Rattle.cy_oneshot_projections.specs.internal.Keys.{gathering_of, grouped_of}
use Rattle.cy_oneshot_projections.proofs.groups.groups_by_keys.Given as goal

-- the groups so far, and the rows that are left
abbrev pub invariant-loop-next : goal.invariant-loop-next
invariant-loop-next l =
    with_rows (map gathering_of l.groups.entries) (map grouped_of (into_iter_items l.next-iterator)) ≡ with_rows [] (map grouped_of l.fn.grouped.items)
