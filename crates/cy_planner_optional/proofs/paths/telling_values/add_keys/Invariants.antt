-- The keys so far.
use Rattle.std.proofs.Common.{◌≡◌, ◌++◌}
use Rattle.std.specs.List.{range_with_len}
use Rattle.cy_planner_optional.specs.internal.Told.{alike}
use Rattle.cy_planner_optional.proofs.paths.telling_values.add_keys.Given as goal

abbrev pub invariant-loop-more : goal.invariant-loop-more
invariant-loop-more l = l.keys.items ≡ l.initial.keys.items ++ alike (range_with_len l.first l.more)
