use Rattle.std.proofs.Common.{◌≡◌}
use Rattle.std.specs.Vec.Iter.{into_iter_items}
use Rattle.cy_expr.specs.Lists.{elements}
use Rattle.cy_expr.proofs.Rules.{behind}
use Rattle.cy_expr.proofs.lists.list_of.Given as goal

-- the elements so far, and the values that are left
abbrev pub invariant-loop-value : goal.invariant-loop-value
invariant-loop-value l = behind l.elements.items (elements (into_iter_items l.value-iterator)) ≡ elements l.fn.values.items
