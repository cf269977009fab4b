-- Worked rows: DISTINCT, ORDER BY, SKIP and LIMIT.
use Rattle.std.proofs.Common.{◌≡◌, [], ◌∷◌, refl, true, Some}
use Rattle.std.specs.Prelude.{Ok, Err}
use Rattle.cy_values.specs.declared.scalars.Value.TheVariants as value
use Rattle.cy_values.specs.declared.rows.Cell.TheVariants as cell
use Rattle.cy_trees.specs.declared.expressions.BinaryOperator.TheVariants.{And, Add, Remainder}
use Rattle.cy_trees.specs.declared.expressions.Comparator.TheVariants.{Greater}
use Rattle.cy_trees.specs.Trees.{null, boolean, text, binary, comparison, no_links, link as and_link, more, «with», «return»}
use Rattle.cy_expr.specs.declared.faults.EvalFault.TheVariants.{WrongType}
use Rattle.cy_oneshot_meaning.proofs.ExampleGraphs.{A, empty, twice_five}
use Rattle.cy_oneshot_meaning.proofs.ExampleTrees.{answer, var, int, property_of, two, node_with_label, single, matching, unwinding, item, column, projection, returning, returning_distinct, ascending, descending, number_cell, text_cell, null_cell, a, n, x, no_where, only}

-- `UNWIND [3, null, 'a', true] AS x RETURN x ORDER BY x DESC`
turned_round : answer empty (unwinding (more (int 3) (more null (two (text a) (boolean true)))) x
    ∷ «return» (record (projection (column x ∷ [])) { order = descending (var x) ∷ [] }) ∷ [])
    ≡ Ok ((null_cell ∷ []) ∷ (number_cell 3 ∷ []) ∷ (cell.Value (value.Bool true) ∷ []) ∷ (text_cell a ∷ []) ∷ [])
turned_round = refl

-- `UNWIND [3, 1, 2] AS x WITH x ORDER BY x DESC LIMIT 2 RETURN x`: the order decides what LIMIT leaves, and isn't kept
limit_by_order : answer empty (unwinding (more (int 3) (two (int 1) (int 2))) x
    ∷ «with» (record (projection (column x ∷ [])) { order = descending (var x) ∷ []; limit = Some 2 }) no_where
    ∷ returning (column x ∷ []) ∷ [])
    ≡ Ok ((number_cell 2 ∷ []) ∷ (number_cell 3 ∷ []) ∷ [])
limit_by_order = refl

-- `MATCH (n:A) RETURN DISTINCT n.x AS x`
distinct_values : answer twice_five (matching (single (node_with_label n A) ∷ []) ∷ returning_distinct (item (property_of n x) x ∷ []) ∷ [])
    ≡ Ok ((number_cell 5 ∷ []) ∷ [])
distinct_values = refl

-- `MATCH (n:A) RETURN n ORDER BY n.x DESC SKIP 1`: the key sees the variables before, and ties go in canonical order
ties : answer twice_five (matching (single (node_with_label n A) ∷ [])
    ∷ «return» (record (projection (column n ∷ [])) { order = descending (property_of n x) ∷ []; skip = Some 1 }) ∷ [])
    ≡ Ok ((cell.Node (record { 0 = 2 }) ∷ []) ∷ [])
ties = refl

-- `RETURN 1 + 'a' AS x ORDER BY 1 AND 1`: items come before keys, though the key's code is smaller
first_step : answer empty («return» (record (projection (item (binary Add (int 1) (text a)) x ∷ [])) { order = ascending (binary And (int 1) (int 1)) ∷ [] }) ∷ [])
    ≡ Err WrongType
first_step = refl

-- `UNWIND [3, 1, 2] AS x WITH x ORDER BY x LIMIT 2 WHERE x > 1 RETURN x`: WHERE comes after LIMIT
where_after_limit : answer empty (unwinding (more (int 3) (two (int 1) (int 2))) x
    ∷ «with» (record (projection (column x ∷ [])) { order = ascending (var x) ∷ []; limit = Some 2 }) (only (comparison (var x) (and_link Greater (int 1) no_links)))
    ∷ returning (column x ∷ []) ∷ [])
    ≡ Ok ((number_cell 2 ∷ []) ∷ [])
where_after_limit = refl

-- `UNWIND [3, 1, 2] AS x RETURN x % 2 AS a, x ORDER BY a DESC, x DESC SKIP 1`: a key is a column, the next one decides ties
two_keys : answer empty (unwinding (more (int 3) (two (int 1) (int 2))) x
    ∷ «return» (record (projection (item (binary Remainder (var x) (int 2)) a ∷ column x ∷ [])) { order = descending (var a) ∷ descending (var x) ∷ []; skip = Some 1 }) ∷ [])
    ≡ Ok ((number_cell 1 ∷ number_cell 1 ∷ []) ∷ (number_cell 0 ∷ number_cell 2 ∷ []) ∷ [])
two_keys = refl

-- `UNWIND [3, 1, 3] AS x RETURN DISTINCT x ORDER BY x DESC LIMIT 5`, with `LIMIT 0`, and with `SKIP 5`
distinct_in_order : answer empty (unwinding (more (int 3) (two (int 1) (int 3))) x
    ∷ «return» (record (projection (column x ∷ [])) { distinct = true; order = descending (var x) ∷ []; limit = Some 5 }) ∷ [])
    ≡ Ok ((number_cell 3 ∷ []) ∷ (number_cell 1 ∷ []) ∷ [])
distinct_in_order = refl

none_left : answer empty (unwinding (more (int 3) (two (int 1) (int 3))) x
    ∷ «return» (record (projection (column x ∷ [])) { distinct = true; order = descending (var x) ∷ []; limit = Some 0 }) ∷ []) ≡ Ok []
none_left = refl

all_skipped : answer empty (unwinding (more (int 3) (two (int 1) (int 3))) x
    ∷ «return» (record (projection (column x ∷ [])) { distinct = true; order = descending (var x) ∷ []; skip = Some 5 }) ∷ []) ≡ Ok []
all_skipped = refl
