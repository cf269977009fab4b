use Rattle.std.proofs.Common.{◌≡◌, ◌++◌, map}
use Rattle.std.specs.Vec.Iter.{into_iter_items}
use Rattle.cy_oneshot_projections.specs.internal.Keys.{grouped_of}
use Rattle.cy_oneshot_projections.proofs.groups.one_group.Given as goal

-- the rows so far, and those that are left
abbrev pub invariant-loop-grouped : goal.invariant-loop-grouped
invariant-loop-grouped l =
    l.rows.items ++ map (λ g. g.row) (map grouped_of (into_iter_items l.grouped-iterator)) ≡ map (λ g. g.row) (map grouped_of l.fn.grouped.items)
