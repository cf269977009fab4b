-- Those so far.
use Rattle.std.proofs.Common.{◌≡◌, map, take}
use Rattle.cy_planner_optional.proofs.paths.telling_values.named_columns.Given as goal

abbrev pub invariant-loop-key : goal.invariant-loop-key
invariant-loop-key l = l.columns.items ≡ map (λ k. k.left) (take l.key-index l.keys)
