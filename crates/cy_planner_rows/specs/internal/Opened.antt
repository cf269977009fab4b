-- Conditions that are taken apart at AND. (own)
use Rattle.std.specs.Prelude.{◌≡◌, ℕ, zero, suc, ◌+◌, ◌<◌, ◌≤◌, List, [], ◌∷◌, ◌++◌}
use Rattle.cy_trees.specs.declared.expressions.BinaryOperator.TheVariants.{And}
use Rattle.cy_trees.specs.declared.expressions.Expr.{Expr}
use Rattle.cy_trees.specs.Trees.{Expression, binary}
use Rattle.cy_trees.specs.TreeModels.{expression_of}
use Rattle.cy_planner_rows.specs.declared.conjunctions.Opened.{Opened}
use Rattle.cy_planner_rows.specs.declared.conjunctions.Opened.TheVariants as opened
use Rattle.cy_planner_rows.specs.internal.Conjuncts.{conjuncts}

-- two conditions that AND joins, or one that is no AND
abbrev pub IsOpened : Expression → Opened → Type 0
IsOpened e (opened.Both left right) = e ≡ binary And (expression_of left) (expression_of right)
IsOpened e (opened.One test) = (expression_of test ≡ e) × (conjuncts e ≡ e ∷ [])

-- the conditions in a stack of trees, the last tree first
abbrev pub waiting : List Expr → List Expression
waiting [] = []
waiting (e ∷ es) = waiting es ++ conjuncts (expression_of e)

-- how often a tree can be taken apart, twice
abbrev pub branches : Expression → ℕ
branches (binary operator a b) = suc (suc (branches a + branches b))
branches e = zero

abbrev pub steps_left : List Expr → ℕ
steps_left [] = zero
steps_left (e ∷ es) = suc (branches (expression_of e)) + steps_left es

-- of a number of conditions so many pairs and others are made, and these are left: fewer in all, once one pair is made of two or more
abbrev pub AreFewer : ℕ → ℕ → ℕ → Type 0
AreFewer count zero left = left ≡ count
AreFewer count (suc made) left = suc made + left ≤ count × (1 < count → suc made + left < count)
