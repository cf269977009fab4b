use Rattle.std.proofs.Common.{◌≡◌, ◌++◌, drop, map}
use Rattle.cy_trees.specs.TreeModels.{expression_of, item_of}
use Rattle.cy_oneshot_meaning.specs.Groups.{grouping}
use Rattle.cy_oneshot_projections.proofs.groups.grouping.Given as goal

-- the expressions so far, and those of the items that are left
abbrev pub invariant-loop-item : goal.invariant-loop-item
invariant-loop-item l =
    map (λ e. expression_of e.now) l.expressions.items ++ map (λ i. i.expression) (grouping (map item_of (drop l.item-index l.items)))
    ≡ map (λ i. i.expression) (grouping (map item_of l.items))
