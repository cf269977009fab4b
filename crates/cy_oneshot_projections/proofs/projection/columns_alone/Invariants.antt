use Rattle.std.proofs.Common.{◌≡◌, ◌++◌, map, take}
use Rattle.std.specs.Vec.Iter.{into_iter_items}
use Rattle.cy_oneshot_projections.proofs.projection.columns_alone.Given as goal

-- the rows so far, and those that are left
abbrev pub invariant-loop-seen : goal.invariant-loop-seen
invariant-loop-seen l = l.rows.items ++ map (take l.width) (into_iter_items l.seen-iterator) ≡ map (take l.width) l.fn.seen.items
