-- Worked rows: UNWIND, and the smallest code of a clause.
use Rattle.std.proofs.Common.{◌≡◌, [], ◌∷◌, refl, true}
use Rattle.std.specs.Prelude.{Ok, Err}
use Rattle.cy_values.specs.declared.scalars.Value.TheVariants as value
use Rattle.cy_values.specs.declared.rows.Cell.TheVariants as cell
use Rattle.cy_trees.specs.declared.expressions.BinaryOperator.TheVariants.{Divide}
use Rattle.cy_trees.specs.Trees.{Expressions, null, boolean, text, binary, no_more, more, unwind}
use Rattle.cy_expr.specs.declared.faults.EvalFault.TheVariants.{WrongType}
use Rattle.cy_oneshot_meaning.proofs.ExampleGraphs.{empty}
use Rattle.cy_oneshot_meaning.proofs.ExampleTrees.{answer, named, var, int, two, unwinding, item, column, returning, number_cell, text_cell, null_cell, a, x, y}

abbrev some_values : Expressions
some_values = more (int 3) (more null (two (text a) (boolean true)))

-- `UNWIND [3, null, 'a', true] AS x RETURN x`: in canonical order
canonical : answer empty (unwinding some_values x ∷ returning (column x ∷ []) ∷ [])
    ≡ Ok ((text_cell a ∷ []) ∷ (cell.Value (value.Bool true) ∷ []) ∷ (number_cell 3 ∷ []) ∷ (null_cell ∷ []) ∷ [])
canonical = refl

-- `UNWIND [0, 'a'] AS x RETURN 1 / x AS y`: of two faults of a clause the smaller code counts
smaller_code : answer empty (unwinding (two (int 0) (text a)) x ∷ returning (item (binary Divide (int 1) (var x)) y ∷ []) ∷ [])
    ≡ Err WrongType
smaller_code = refl

-- `UNWIND [] AS x RETURN x`, `UNWIND null AS x RETURN x`, `UNWIND 1 AS x RETURN x`
no_elements : answer empty (unwinding no_more x ∷ returning (column x ∷ []) ∷ []) ≡ Ok []
no_elements = refl

elements_of_null : answer empty (unwind null (named x) ∷ returning (column x ∷ []) ∷ []) ≡ Ok []
elements_of_null = refl

elements_of_a_number : answer empty (unwind (int 1) (named x) ∷ returning (column x ∷ []) ∷ []) ≡ Err WrongType
elements_of_a_number = refl
