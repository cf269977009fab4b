-- Worked rows: aggregates, with groups and without.
use Rattle.std.proofs.Common.{◌≡◌, [], ◌∷◌, refl, true}
use Rattle.std.specs.Prelude.{codes, pos, negsuc, Ok, Err}
use Rattle.cy_values.specs.declared.scalars.Scalar.TheVariants as scalar
use Rattle.cy_values.specs.declared.scalars.Value.TheVariants as value
use Rattle.cy_values.specs.declared.rows.Cell.TheVariants as cell
use Rattle.cy_trees.specs.declared.expressions.BinaryOperator.TheVariants.{And, Divide}
use Rattle.cy_trees.specs.Trees.{Expression, null, boolean, integer, text, binary, list, no_more, more}
use Rattle.cy_scope_kinds.specs.Functions.{function_named}
use Rattle.cy_expr.specs.declared.faults.EvalFault.TheVariants.{NotBoolean, WrongType, Overflow, NestedList}
use Rattle.cy_oneshot_meaning.proofs.ExampleGraphs.{empty}
use Rattle.cy_oneshot_meaning.proofs.ExampleTrees.{answer, var, int, property_of, two, apply, apply_distinct, count_star, node_named, single, matching, optional, unwinding, item, column, returning, number_cell, text_cell, null_cell, a, b, c, d, e, n, s, x}

-- `MATCH (n) RETURN count(*) AS c, sum(n.x) AS s, min(n.x) AS m, collect(n.x) AS l` where there is no node: one row
over_nothing : answer empty (matching (single (node_named n) ∷ [])
    ∷ returning (item count_star c ∷ item (apply (codes "sum") (property_of n x)) s ∷ item (apply (codes "min") (property_of n x)) (codes "m")
    ∷ item (apply (codes "collect") (property_of n x)) (codes "l") ∷ []) ∷ [])
    ≡ Ok ((number_cell 0 ∷ number_cell 0 ∷ null_cell ∷ cell.Value (value.List []) ∷ []) ∷ [])
unfolding function_named
over_nothing = refl

-- `UNWIND [1, 1, null, 2] AS x RETURN count(*) AS a, count(x) AS b, count(DISTINCT x) AS c, sum(DISTINCT x) AS d, collect(x) AS e`
with_null : answer empty (unwinding (more (int 1) (more (int 1) (two null (int 2)))) x
    ∷ returning (item count_star a ∷ item (apply (codes "count") (var x)) b ∷ item (apply_distinct (codes "count") (var x)) c
    ∷ item (apply_distinct (codes "sum") (var x)) d ∷ item (apply (codes "collect") (var x)) e ∷ []) ∷ [])
    ≡ Ok ((number_cell 4 ∷ number_cell 3 ∷ number_cell 2 ∷ number_cell 3
    ∷ cell.Value (value.List (scalar.Int (pos 1) ∷ scalar.Int (pos 1) ∷ scalar.Int (pos 2) ∷ [])) ∷ []) ∷ [])
unfolding function_named
with_null = refl

-- `UNWIND [] AS x RETURN x, count(*) AS c`: no rows, no groups
no_groups : answer empty (unwinding no_more x ∷ returning (column x ∷ item count_star c ∷ []) ∷ []) ≡ Ok []
unfolding function_named
no_groups = refl

-- `UNWIND [null, 1, null] AS x RETURN x, count(*) AS c`: null is in one group with null
group_of_null : answer empty (unwinding (more null (two (int 1) null)) x ∷ returning (column x ∷ item count_star c ∷ []) ∷ [])
    ≡ Ok ((number_cell 1 ∷ number_cell 1 ∷ []) ∷ (null_cell ∷ number_cell 2 ∷ []) ∷ [])
unfolding function_named
group_of_null = refl

abbrev greatest : Expression
greatest = integer (pos 9223372036854775807)

-- `UNWIND [9223372036854775807, 1, -1] AS x RETURN sum(x) AS s`: the total fits
total_that_fits : answer empty (unwinding (more greatest (two (int 1) (integer (negsuc 0)))) x ∷ returning (item (apply (codes "sum") (var x)) s ∷ []) ∷ [])
    ≡ Ok ((number_cell 9223372036854775807 ∷ []) ∷ [])
unfolding function_named
total_that_fits = refl

-- `UNWIND [9223372036854775807, 1] AS x RETURN sum(x) AS s`
total_too_great : answer empty (unwinding (two greatest (int 1)) x ∷ returning (item (apply (codes "sum") (var x)) s ∷ []) ∷ []) ≡ Err Overflow
unfolding function_named
total_too_great = refl

-- `UNWIND [1, 'a'] AS x RETURN sum(x) AS s`
total_of_a_text : answer empty (unwinding (two (int 1) (text a)) x ∷ returning (item (apply (codes "sum") (var x)) s ∷ []) ∷ []) ≡ Err WrongType
unfolding function_named
total_of_a_text = refl

-- `UNWIND [0, 1] AS x RETURN 1 / x AS a, min(1 AND x) AS b`: a group counts though another row's grouping item faults
group_beside_a_fault : answer empty (unwinding (two (int 0) (int 1)) x
    ∷ returning (item (binary Divide (int 1) (var x)) a ∷ item (apply (codes "min") (binary And (int 1) (var x))) b ∷ []) ∷ []) ≡ Err NotBoolean
unfolding function_named
group_beside_a_fault = refl

-- `OPTIONAL MATCH (n) RETURN count(n) AS a, count(*) AS b` where there is no node: count takes no null node
count_of_null : answer empty (optional (single (node_named n) ∷ []) ∷ returning (item (apply (codes "count") (var n)) a ∷ item count_star b ∷ []) ∷ [])
    ≡ Ok ((number_cell 0 ∷ number_cell 1 ∷ []) ∷ [])
unfolding function_named
count_of_null = refl

-- `UNWIND [3, 'a', null, true] AS x RETURN min(x) AS a, max(x) AS b`: texts come before booleans and integers
least_and_greatest : answer empty (unwinding (more (int 3) (more (text a) (two null (boolean true)))) x
    ∷ returning (item (apply (codes "min") (var x)) a ∷ item (apply (codes "max") (var x)) b ∷ []) ∷ [])
    ≡ Ok ((text_cell a ∷ number_cell 3 ∷ []) ∷ [])
unfolding function_named
least_and_greatest = refl

-- `RETURN collect([1]) AS a`
list_in_a_list : answer empty (returning (item (apply (codes "collect") (list (more (int 1) no_more))) a ∷ []) ∷ []) ≡ Err NestedList
unfolding function_named
list_in_a_list = refl
