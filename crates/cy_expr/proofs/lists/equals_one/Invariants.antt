use Rattle.std.proofs.Common.{◌≡◌, drop}
use Rattle.cy_values.specs.Truth.{one_at_least}
use Rattle.cy_values.specs.Compare.{lent}
use Rattle.cy_expr.specs.Lists.{equals_one}
use Rattle.cy_expr.proofs.lists.equals_one.Given as goal

-- what is known so far, and the elements that are left
abbrev pub invariant-loop-element : goal.invariant-loop-element
invariant-loop-element l = one_at_least l.any (equals_one (lent l.value) (drop l.element-index l.elements)) ≡ equals_one (lent l.value) l.elements
