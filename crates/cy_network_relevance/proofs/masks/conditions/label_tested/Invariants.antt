use Rattle.std.proofs.Common.{ℕ, List}
use Rattle.cy_trees.specs.declared.expressions.Expr.{size-Expr}
use Rattle.cy_trees.specs.TreeModels.{expression_of}
use Rattle.cy_network_relevance.specs.internal.Labelled.{Asks}
use Rattle.cy_network_relevance.proofs.masks.conditions.label_tested.Given as goal

-- the whole asks for a label where the condition that is left does
abbrev pub invariant-loop-test : goal.invariant-loop-test
invariant-loop-test l = (label : List ℕ) → Asks label (expression_of l.test) → Asks label (expression_of l.fn.test)

abbrev pub decreases-loop-test : goal.decreases-loop-test
decreases-loop-test l = size-Expr l.test
