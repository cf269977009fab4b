-- Worked rows: RETURN alone, on the one empty row.
use Rattle.std.proofs.Common.{◌≡◌, ℕ, [], ◌∷◌, refl, true, false}
use Rattle.std.specs.Prelude.{Bool, pos, negsuc, Ok, Err}
use Rattle.cy_values.specs.declared.scalars.Value.TheVariants as value
use Rattle.cy_values.specs.declared.rows.Cell.{Cell}
use Rattle.cy_values.specs.declared.rows.Cell.TheVariants as cell
use Rattle.cy_trees.specs.declared.expressions.BinaryOperator.TheVariants.{Or, And, In, Add, Divide, Remainder}
use Rattle.cy_trees.specs.declared.expressions.Comparator.TheVariants.{Equal, Less}
use Rattle.cy_trees.specs.Trees.{null, boolean, integer, text, binary, comparison, list, no_more, no_links, link}
use Rattle.cy_expr.specs.declared.faults.EvalFault.TheVariants.{NotBoolean, Overflow}
use Rattle.cy_oneshot_meaning.proofs.ExampleGraphs.{empty}
use Rattle.cy_oneshot_meaning.proofs.ExampleTrees.{answer, int, two, item, returning, null_cell, a, b, c, d, e, x}

abbrev below : ℕ → Cell
below n = cell.Value (value.Int (negsuc n))

abbrev truth : Bool → Cell
truth holds = cell.Value (value.Bool holds)

-- `RETURN null = null AS a, null OR true AS b, 1 = 'a' AS c, 1 < 'a' AS d`
truths : answer empty (returning (item (comparison null (link Equal null no_links)) a ∷ item (binary Or null (boolean true)) b
    ∷ item (comparison (int 1) (link Equal (text a) no_links)) c ∷ item (comparison (int 1) (link Less (text a) no_links)) d ∷ []) ∷ [])
    ≡ Ok ((null_cell ∷ truth true ∷ truth false ∷ null_cell ∷ []) ∷ [])
truths = refl

-- `RETURN 9223372036854775807 + 1 AS x`, `RETURN -9223372036854775808 AS x`
too_great : answer empty (returning (item (binary Add (integer (pos 9223372036854775807)) (int 1)) x ∷ []) ∷ []) ≡ Err Overflow
too_great = refl

least : answer empty (returning (item (integer (negsuc 9223372036854775807)) x ∷ []) ∷ []) ≡ Ok ((below 9223372036854775807 ∷ []) ∷ [])
least = refl

-- `RETURN -7 / 2 AS a, -7 % 2 AS b, 1 < 2 < 3 AS c, null IN [] AS d, 1 IN [2, null] AS e`
operators : answer empty (returning (item (binary Divide (integer (negsuc 6)) (int 2)) a ∷ item (binary Remainder (integer (negsuc 6)) (int 2)) b
    ∷ item (comparison (int 1) (link Less (int 2) (link Less (int 3) no_links))) c
    ∷ item (binary In null (list no_more)) d ∷ item (binary In (int 1) (list (two (int 2) null))) e ∷ []) ∷ [])
    ≡ Ok ((below 2 ∷ below 0 ∷ truth true ∷ truth false ∷ null_cell ∷ []) ∷ [])
operators = refl

-- `RETURN 1 / 0 AS a, 1 AND 1 AS b`: of two items the smaller code counts, though it stands to the right
right_item : answer empty (returning (item (binary Divide (int 1) (int 0)) a ∷ item (binary And (int 1) (int 1)) b ∷ []) ∷ []) ≡ Err NotBoolean
right_item = refl
