-- The keys so far.
use Rattle.std.proofs.Common.{◌≡◌, take}
use Rattle.cy_planner_optional.specs.internal.Told.{alike}
use Rattle.cy_planner_optional.proofs.paths.telling_values.alike_keys.Given as goal

abbrev pub invariant-loop-column : goal.invariant-loop-column
invariant-loop-column l = l.keys.items ≡ alike (take l.column-index l.columns)
