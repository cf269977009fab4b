use Rattle.std.proofs.Common.{◌≡◌, drop, map}
use Rattle.std.specs.List.{position_from}
use Rattle.cy_trees.specs.TreeModels.{expression_of, item_of}
use Rattle.cy_scope_kinds.specs.Same.{same}
use Rattle.cy_scope.proofs.repeats.place_of_item.Given as goal

-- the items that are left settle the answer
abbrev pub invariant-loop-place : goal.invariant-loop-place
invariant-loop-place l =
    position_from (λ i. same i.expression (expression_of l.expression)) l.place (map item_of (drop l.place l.items))
    ≡ position_from (λ i. same i.expression (expression_of l.expression)) 0 (map item_of l.items)
