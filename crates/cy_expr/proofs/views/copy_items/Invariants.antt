use Rattle.std.proofs.Common.{◌≡◌, take}
use Rattle.cy_expr.proofs.views.copy_items.Given as goal

-- what was copied so far
abbrev pub invariant-loop-item : goal.invariant-loop-item
invariant-loop-item g l = l.twins.items ≡ take l.item-index l.items
