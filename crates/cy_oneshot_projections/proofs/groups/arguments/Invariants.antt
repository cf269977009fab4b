use Rattle.std.proofs.Common.{◌≡◌, ◌++◌, drop, map}
use Rattle.cy_trees.specs.TreeModels.{expression_of, item_of}
use Rattle.cy_oneshot_meaning.specs.Groups.{arguments}
use Rattle.cy_oneshot_projections.proofs.groups.arguments.Given as goal

-- the arguments so far, and those of the items that are left
abbrev pub invariant-loop-item : goal.invariant-loop-item
invariant-loop-item l = map (λ e. expression_of e.now) l.found.items ++ arguments (map item_of (drop l.item-index l.items)) ≡ arguments (map item_of l.items)
