-- What is told so far, and of the values that are left.
use Rattle.std.proofs.Common.{◌≡◌, ◌++◌, drop, map}
use Rattle.cy_trees.specs.TreeModels.{expression_of}
use Rattle.cy_planner_optional.specs.internal.Told.{told}
use Rattle.cy_planner_optional.proofs.paths.telling_values.told_values.Given as goal

abbrev pub invariant-loop-value : goal.invariant-loop-value
invariant-loop-value l =
    map expression_of l.told.items ++ told (map (λ e. expression_of e.now) (drop l.value-index l.values)) ≡ told (map (λ e. expression_of e.now) l.values)
