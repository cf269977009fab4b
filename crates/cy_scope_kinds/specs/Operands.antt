-- The kinds of operands that operators, properties, labels, lists and CASE take: one table for the faults of expressions and for the
-- kinds of those that have none. What functions take stands with them. (own)
use Rattle.std.specs.Prelude.{Bool, true, ◌&&◌, ◌||◌}
use Rattle.cy_trees.specs.declared.expressions.UnaryOperator.{UnaryOperator}
use Rattle.cy_trees.specs.declared.expressions.UnaryOperator.TheVariants as unary_operator
use Rattle.cy_trees.specs.declared.expressions.BinaryOperator.{BinaryOperator}
use Rattle.cy_trees.specs.declared.expressions.Comparator.{Comparator}
use Rattle.cy_trees.specs.declared.expressions.Comparator.TheVariants as comparator
use Rattle.cy_scope_kinds.specs.declared.kinds.Kind.{Kind}
use Rattle.cy_scope_kinds.specs.Kinds.{is_value, is_entity, is_node, is_relationship}

-- a property is read of a node or a relationship
abbrev pub takes_property : Kind → Bool
takes_property = is_entity

-- labels are asked of a node
abbrev pub takes_labels : Kind → Bool
takes_labels = is_node

-- IS NULL takes whatever there is, the others a value
abbrev pub takes_unary : UnaryOperator → Kind → Bool
takes_unary unary_operator.Not k = is_value k
takes_unary unary_operator.Plus k = is_value k
takes_unary unary_operator.Minus k = is_value k
takes_unary unary_operator.IsNull k = true
takes_unary unary_operator.IsNotNull k = true

-- each operator between two operands takes values
abbrev pub takes_binary : BinaryOperator → Kind → Kind → Bool
takes_binary operator a b = is_value a && is_value b

-- two nodes, two relationships, or two values
abbrev pub are_alike : Kind → Kind → Bool
are_alike a b = (is_node a && is_node b) || (is_relationship a && is_relationship b) || (is_value a && is_value b)

-- `=` and `<>` compare what is alike, the others values
abbrev pub compares : Comparator → Kind → Kind → Bool
compares comparator.Equal a b = are_alike a b
compares comparator.NotEqual a b = are_alike a b
compares comparator.Less a b = is_value a && is_value b
compares comparator.LessOrEqual a b = is_value a && is_value b
compares comparator.Greater a b = is_value a && is_value b
compares comparator.GreaterOrEqual a b = is_value a && is_value b

-- the elements of a list are values
abbrev pub takes_element : Kind → Bool
takes_element = is_value

-- so are the conditions of CASE, and its results
abbrev pub takes_condition : Kind → Bool
takes_condition = is_value

abbrev pub takes_result : Kind → Bool
takes_result = is_value
