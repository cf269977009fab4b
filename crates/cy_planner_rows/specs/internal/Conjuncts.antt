-- The conditions that AND joins. (openCypher 9, Boolean operators; own)
use Rattle.std.specs.Prelude.{◌≡◌, List, [], ◌∷◌, ◌++◌, Option, None, Some}
use Rattle.cy_trees.specs.declared.expressions.BinaryOperator.{BinaryOperator}
use Rattle.cy_trees.specs.declared.expressions.BinaryOperator.TheVariants.{And}
use Rattle.cy_trees.specs.declared.expressions.Expr.{Expr}
use Rattle.cy_trees.specs.Trees.{Expression, binary}
use Rattle.cy_trees.specs.TreeModels.{expression_of}

-- of two operands the conditions of both, if the operator is AND; of another one the whole
abbrev pub joined_by : BinaryOperator → List Expression → List Expression → Expression → List Expression
joined_by And left right whole = left ++ right
joined_by operator left right whole = whole ∷ []

-- the conditions that AND joins in a condition, from the left
abbrev pub conjuncts : Expression → List Expression
conjuncts (binary operator a b) = joined_by operator (conjuncts a) (conjuncts b) (binary operator a b)
conjuncts e = e ∷ []

abbrev pub all_conjuncts : List Expr → List Expression
all_conjuncts [] = []
all_conjuncts (e ∷ es) = conjuncts (expression_of e) ++ all_conjuncts es

-- what several conditions are together
abbrev pub IsAllOf : List Expr → Option Expr → Type 0
IsAllOf tests None = all_conjuncts tests ≡ []
IsAllOf tests (Some e) = conjuncts (expression_of e) ≡ all_conjuncts tests
