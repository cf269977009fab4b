-- The parts that are left settle the answer.
use Rattle.std.proofs.Common.{◌≡◌, drop, map}
use Rattle.cy_trees.specs.TreeModels.{expression_of, expressions_from}
use Rattle.cy_scope_kinds.specs.Sure as spec
use Rattle.cy_scope_kinds.proofs.sure.have_size.Given as goal

abbrev pub invariant-loop-element : goal.invariant-loop-element
invariant-loop-element l =
    spec.have_size l.scope (expressions_from (map expression_of (drop l.element-index l.elements))) ≡ spec.have_size l.scope (expressions_from (map expression_of l.elements))
