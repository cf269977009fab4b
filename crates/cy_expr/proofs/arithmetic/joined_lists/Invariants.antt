use Rattle.std.proofs.Common.{◌≡◌, ◌++◌, take}
use Rattle.cy_expr.proofs.arithmetic.joined_lists.Given as goal

-- what was taken from the left list
abbrev pub invariant-loop-element : goal.invariant-loop-element
invariant-loop-element l = l.joined.items ≡ take l.element-index l.left

-- the left list and what was taken from the right one
abbrev pub invariant-loop-element-2 : goal.invariant-loop-element-2
invariant-loop-element-2 l = l.joined.items ≡ l.left ++ take l.element-index l.right
