-- Worked examples over trees: a RETURN's expression on a row.
use Rattle.std.proofs.Common.{◌≡◌, List, [], ◌∷◌, refl}
use Rattle.std.specs.Prelude.{ℕ, true, false, pos, codes, Some, Result, Ok, Err}
use Rattle.cy_values.specs.declared.scalars.Scalar.TheVariants as scalar
use Rattle.cy_values.specs.declared.scalars.Value.{Value}
use Rattle.cy_values.specs.declared.scalars.Value.TheVariants as value
use Rattle.cy_values.specs.declared.rows.Cell.{Cell}
use Rattle.cy_values.specs.declared.rows.Cell.TheVariants as cell
use Rattle.cy_trees.specs.declared.expressions.UnaryOperator.TheVariants.{Not}
use Rattle.cy_trees.specs.declared.expressions.BinaryOperator.TheVariants.{And, In, Add, Divide}
use Rattle.cy_trees.specs.declared.expressions.Comparator.TheVariants.{Less, Greater}
use Rattle.cy_trees.specs.Trees.{Expression, null, boolean, integer, text, variable, property, has_labels, unary, binary, comparison, list, case, call, Expressions, no_more, more, no_links, link, no_arms, arm, otherwise}
use Rattle.cy_scope_kinds.specs.Functions.{function_named}
use Rattle.cy_expr.specs.declared.faults.EvalFault.{EvalFault}
use Rattle.cy_expr.specs.declared.faults.EvalFault.TheVariants.{WrongType, DivisionByZero, NestedList}
use Rattle.cy_expr.specs.Lookups.{Lookups}
use Rattle.cy_expr.specs.Evaluation.{cell_of}

abbrev int : ℕ → Expression
int n = integer (pos n)

abbrev gives : Value → Result Cell EvalFault
gives v = Ok (cell.Value v)

abbrev one_of : Expression → Expressions
one_of e = more e no_more

-- a graph in which each node has the label `A` and the property `k`, 7
abbrev graph : Lookups
graph = record { property_of = λ x key. Some (value.Int (pos 7)); labels_of = λ n. codes "A" ∷ []; type_of = λ r. codes "T" }

abbrev n : Expression
n = variable (record { name = codes "n"; column = Some 0 })

abbrev row : List Cell
row = cell.Node (record { 0 = 5 }) ∷ []

abbrev division : Expression
division = binary Divide (int 1) (int 0)

-- `1 / 0 + (1 AND 1)`: the left fault counts
left_fault : cell_of graph row (binary Add division (binary And (int 1) (int 1))) ≡ Err DivisionByZero
left_fault = refl

-- `1 AND 1 / 0`: the operand's fault comes before the operator's own
operand_first : cell_of graph row (binary And (int 1) division) ≡ Err DivisionByZero
operand_first = refl

-- `1 < 2 < 3`, `3 > 1 / 0 > 2`
chain_of_three : cell_of graph row (comparison (int 1) (link Less (int 2) (link Less (int 3) no_links))) ≡ gives (value.Bool true)
chain_of_three = refl

chain_with_a_fault : cell_of graph row (comparison (int 3) (link Greater division (link Greater (int 2) no_links))) ≡ Err DivisionByZero
chain_with_a_fault = refl

-- `CASE WHEN null THEN 1 / 0 ELSE 2 END`, `coalesce(null, 3, 1 / 0)`
case_of_null : cell_of graph row (case (arm null division no_arms) (otherwise (int 2))) ≡ gives (value.Int (pos 2))
case_of_null = refl

first_that_is : cell_of graph row (call (codes "coalesce") false (more null (more (int 3) (one_of division)))) ≡ gives (value.Int (pos 3))
unfolding function_named
first_that_is = refl

-- `[[1]]`, `1 IN 'abc'`
list_in_list : cell_of graph row (list (one_of (list (one_of (int 1))))) ≡ Err NestedList
list_in_list = refl

in_text : cell_of graph row (binary In (int 1) (text (codes "abc"))) ≡ Err WrongType
in_text = refl

-- `n.k`, `n:A:B`, `id(n)`, `labels(n)`, `exists(n.k)`, and of null
property_of_node : cell_of graph row (property n (codes "k")) ≡ gives (value.Int (pos 7))
property_of_node = refl

labels_of_node : cell_of graph row (has_labels n (codes "A" ∷ codes "B" ∷ [])) ≡ gives (value.Bool false)
labels_of_node = refl

number_of_node : cell_of graph row (call (codes "id") false (one_of n)) ≡ gives (value.Int (pos 5))
unfolding function_named
number_of_node = refl

list_of_labels : cell_of graph row (call (codes "labels") false (one_of n)) ≡ gives (value.List (scalar.Text (codes "A") ∷ []))
unfolding function_named
list_of_labels = refl

property_there : cell_of graph row (call (codes "exists") false (one_of (property n (codes "k")))) ≡ gives (value.Bool true)
unfolding function_named
property_there = refl

property_of_null : cell_of graph (cell.Value value.Null ∷ []) (call (codes "exists") false (one_of (property n (codes "k")))) ≡ gives value.Null
unfolding function_named
property_of_null = refl

-- `NOT NOT NOT true`
not_three_times : cell_of graph row (unary Not (unary Not (unary Not (boolean true)))) ≡ gives (value.Bool false)
not_three_times = refl
