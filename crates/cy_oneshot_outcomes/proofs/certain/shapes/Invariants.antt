-- The shapes of the row, and of the places so far.
use Rattle.std.proofs.Common.{◌≡◌, ◌++◌, map, take}
use Rattle.cy_oneshot_outcomes.specs.internal.Certain.{shape_in, shape_of}
use Rattle.cy_oneshot_patterns.specs.internal.Patterns.{place_of}
use Rattle.cy_oneshot_outcomes.proofs.certain.shapes.Given as goal

abbrev pub invariant-loop-cell : goal.invariant-loop-cell
invariant-loop-cell l = l.shapes.items ≡ map shape_of (take l.cell-index l.row)

abbrev pub invariant-loop-at : goal.invariant-loop-at
invariant-loop-at l = l.shapes.items ≡ map shape_of l.row ++ map (shape_in (map place_of l.places)) (take l.at-index l.new)
