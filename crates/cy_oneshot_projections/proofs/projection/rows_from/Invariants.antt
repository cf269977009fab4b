use Rattle.std.proofs.Common.{◌≡◌, ◌++◌, drop, map}
use Rattle.std.specs.Vec.Iter.{into_iter_items}
use Rattle.cy_oneshot_projections.proofs.projection.rows_from.Given as goal

-- the rows so far, and those that are left
abbrev pub invariant-loop-keyed : goal.invariant-loop-keyed
invariant-loop-keyed l =
    l.rows.items ++ drop l.left_out (map (λ k. k.row) (into_iter_items l.keyed-iterator)) ≡ drop l.count (map (λ k. k.row) l.fn.keyed.items)
