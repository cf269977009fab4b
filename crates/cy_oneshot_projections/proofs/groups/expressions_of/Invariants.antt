use Rattle.std.proofs.Common.{◌≡◌, map, take}
use Rattle.cy_trees.specs.TreeModels.{expression_of}
use Rattle.cy_oneshot_projections.proofs.groups.expressions_of.Given as goal

-- the expressions so far
abbrev pub invariant-loop-item : goal.invariant-loop-item
invariant-loop-item l = map (λ e. expression_of e.now) l.expressions.items ≡ map (λ i. expression_of i.expression) (take l.item-index l.items)
