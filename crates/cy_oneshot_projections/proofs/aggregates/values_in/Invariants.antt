use Rattle.std.proofs.Common.{◌≡◌}
use Rattle.std.specs.Vec.Iter.{into_iter_items}
use Rattle.cy_oneshot_meaning.specs.Groups.{values_in}
use Rattle.cy_oneshot_patterns.specs.Outcomes.{together}
use Rattle.cy_oneshot_projections.proofs.aggregates.values_in.Given as goal

-- the values so far, and those in the cells that are left
abbrev pub invariant-loop-cell : goal.invariant-loop-cell
invariant-loop-cell l = together l.values (values_in (into_iter_items l.cell-iterator)) ≡ values_in l.fn.cells.items
