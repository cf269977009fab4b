-- Expressions that surely have a cell: seen by their form and by the kinds of what stands in the columns.
use Rattle.std.specs.Prelude.{ℕ, Bool, true, false, ◌&&◌, List, Option, Some, None, slice_get, slice_index_or}
use Rattle.std.specs.Option.{option_map_or}
use Rattle.cy_values.specs.declared.scalars.Value.TheVariants as value
use Rattle.cy_values.specs.declared.rows.Cell.{Cell}
use Rattle.cy_values.specs.declared.rows.Cell.TheVariants as cell
use Rattle.cy_trees.specs.declared.expressions.BinaryOperator.{BinaryOperator}
use Rattle.cy_trees.specs.declared.expressions.BinaryOperator.TheVariants as binary_operator
use Rattle.cy_trees.specs.declared.expressions.Comparator.{Comparator}
use Rattle.cy_trees.specs.declared.expressions.Comparator.TheVariants as comparator
use Rattle.cy_trees.specs.declared.expressions.UnaryOperator.{UnaryOperator}
use Rattle.cy_trees.specs.declared.expressions.UnaryOperator.TheVariants as unary_operator
use Rattle.cy_trees.specs.Trees.{Expression, null, boolean, integer, text, variable, property, has_labels as label_test, unary, binary, comparison, list, case, call, call_star, Expressions, no_more, more, Links, no_links, link}
use Rattle.cy_scope_kinds.specs.declared.functions.Function.{Function}
use Rattle.cy_scope_kinds.specs.declared.functions.Function.TheVariants as function
use Rattle.cy_scope_kinds.specs.Functions.{function_named}
use Rattle.cy_scope_kinds.specs.Sure.{is_known_list, is_literal, is_sure_binary, is_sure_unary}
use Rattle.cy_oneshot_outcomes.specs.declared.certain.Shape.{Shape}
use Rattle.cy_oneshot_outcomes.specs.declared.certain.Shape.TheVariants as shape
use Rattle.cy_oneshot_patterns.specs.Places.{Place, node, relationship, relationships}

-- ---- shapes

abbrev pub shape_of : Cell → Shape
shape_of (cell.Node id) = shape.Node
shape_of (cell.Rel id) = shape.Relationship
shape_of (cell.Rels ids) = shape.Relationships
shape_of (cell.Value value.Null) = shape.Null
shape_of (cell.Value (value.Bool b)) = shape.Boolean
shape_of (cell.Value v) = shape.Value

-- that of what may stand in a place
abbrev pub shape_at : Place → Shape
shape_at (node n) = shape.Node
shape_at (relationship r) = shape.Relationship
shape_at (relationships r l) = shape.Relationships

abbrev pub shape_in : List Place → ℕ → Shape
shape_in places at = option_map_or shape_at (slice_get places at) shape.Null

-- properties, labels and types can be asked for
abbrev pub has_properties : Shape → Bool
has_properties shape.Node = true
has_properties shape.Relationship = true
has_properties shape.Null = true
has_properties _ = false

abbrev pub has_labels : Shape → Bool
has_labels shape.Node = true
has_labels shape.Null = true
has_labels _ = false

abbrev pub has_type : Shape → Bool
has_type shape.Relationship = true
has_type shape.Null = true
has_type _ = false

-- a size can be asked for, whatever the value is
abbrev pub has_size : Shape → Bool
has_size shape.Relationships = true
has_size shape.Null = true
has_size _ = false

-- that of a value, and of a boolean or null
abbrev pub is_value : Shape → Bool
is_value shape.Null = true
is_value shape.Boolean = true
is_value shape.Value = true
is_value _ = false

abbrev pub is_flag : Shape → Bool
is_flag shape.Null = true
is_flag shape.Boolean = true
is_flag _ = false

-- ---- by form, where these are the shapes of the columns

abbrev pub column_shape : List Shape → Option ℕ → Shape
column_shape shapes None = shape.Null
column_shape shapes (Some column) = slice_index_or shapes column shape.Null

-- that of a variable; a value's for another expression, which gives nothing but values
abbrev pub variable_shape : List Shape → Expression → Shape
variable_shape shapes (variable v) = column_shape shapes v.column
variable_shape shapes _ = shape.Value

-- that of an only argument, and of what has the property that an only argument asks for
abbrev pub first_shape : List Shape → Expressions → Shape
first_shape shapes (more e no_more) = variable_shape shapes e
first_shape shapes _ = shape.Value

abbrev pub owner_shape : List Shape → Expression → Shape
owner_shape shapes (property e key) = variable_shape shapes e
owner_shape shapes _ = shape.Value

abbrev pub asked_shape : List Shape → Expressions → Shape
asked_shape shapes (more e no_more) = owner_shape shapes e
asked_shape shapes _ = shape.Value

-- a cell of it is a value
abbrev pub gives_value : List Shape → Expression → Bool
gives_value shapes (variable v) = is_value (column_shape shapes v.column)
gives_value shapes _ = true

abbrev pub gives_truth : BinaryOperator → Bool
gives_truth binary_operator.Add = false
gives_truth binary_operator.Subtract = false
gives_truth binary_operator.Multiply = false
gives_truth binary_operator.Divide = false
gives_truth binary_operator.Remainder = false
gives_truth _ = true

abbrev pub is_test : UnaryOperator → Bool
is_test unary_operator.Plus = false
is_test unary_operator.Minus = false
is_test _ = true

abbrev pub is_exists : Option Function → Bool
is_exists (Some function.Exists) = true
is_exists _ = false

-- a cell of it is a boolean or null
abbrev pub gives_flag : List Shape → Expression → Bool
gives_flag shapes null = true
gives_flag shapes (boolean b) = true
gives_flag shapes (variable v) = is_flag (column_shape shapes v.column)
gives_flag shapes (label_test e labels) = true
gives_flag shapes (unary operator e) = is_test operator
gives_flag shapes (binary operator a b) = gives_truth operator
gives_flag shapes (comparison e links) = true
gives_flag shapes (call name distinct es) = is_exists (function_named name)
gives_flag shapes _ = false

-- any two cells may be equal; only values are less than one another
abbrev pub may_compare : Comparator → Bool → Bool
may_compare comparator.Equal values = true
may_compare comparator.NotEqual values = true
may_compare _ values = values

-- a call, by the shapes of what it asks for, and by whether its arguments surely have values
abbrev pub is_certain_call : Option Function → Shape → Shape → Bool → Bool
is_certain_call (Some function.Id) first asked all = has_properties first
is_certain_call (Some function.Type) first asked all = has_type first
is_certain_call (Some function.Labels) first asked all = has_labels first
is_certain_call (Some function.Size) first asked all = has_size first
is_certain_call (Some function.Exists) first asked all = has_properties asked
is_certain_call (Some function.Coalesce) first asked all = all
is_certain_call _ first asked all = false

abbrev pub are_literals : Expressions → Bool
are_literals no_more = true
are_literals (more e es) = is_literal e && are_literals es

abbrev mutual
  pub is_certain : List Shape → Expression → Bool
  is_certain shapes null = true
  is_certain shapes (boolean b) = true
  is_certain shapes (integer n) = true
  is_certain shapes (text t) = true
  is_certain shapes (variable v) = true
  is_certain shapes (property e key) = has_properties (variable_shape shapes e)
  is_certain shapes (label_test e labels) = has_labels (variable_shape shapes e)
  is_certain shapes (unary operator e) = is_certain shapes e && is_sure_unary operator (gives_flag shapes e)
  is_certain shapes (binary operator a b) =
      is_certain shapes a && is_certain shapes b && gives_value shapes a && gives_value shapes b
      && is_sure_binary operator (gives_flag shapes a && gives_flag shapes b) (is_known_list b)
  is_certain shapes (comparison e links) = is_certain shapes e && are_certain_links shapes (gives_value shapes e) links
  is_certain shapes (list es) = are_literals es
  is_certain shapes (case arms e) = false
  is_certain shapes (call name distinct es) = is_certain_call (function_named name) (first_shape shapes es) (asked_shape shapes es) (are_certain shapes es)
  is_certain shapes (call_star name) = false

  -- they surely have values
  pub are_certain : List Shape → Expressions → Bool
  are_certain shapes no_more = true
  are_certain shapes (more e es) = is_certain shapes e && gives_value shapes e && are_certain shapes es

  -- they may be compared with what stands before them, which may be a value
  pub are_certain_links : List Shape → Bool → Links → Bool
  are_certain_links shapes value no_links = true
  are_certain_links shapes value (link comparator e links) =
      is_certain shapes e && may_compare comparator (value && gives_value shapes e) && are_certain_links shapes (gives_value shapes e) links

-- it surely has a truth
abbrev pub is_certain_flag : List Shape → Expression → Bool
is_certain_flag shapes e = is_certain shapes e && gives_flag shapes e
