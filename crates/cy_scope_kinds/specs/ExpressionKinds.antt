-- The kind of an expression that has no fault, in a scope (own).
use Rattle.std.specs.Prelude.{Bool, true, ◌&&◌, Option, Some, None}
use Rattle.cy_trees.specs.declared.expressions.UnaryOperator.{UnaryOperator}
use Rattle.cy_trees.specs.declared.expressions.UnaryOperator.TheVariants as unary_operator
use Rattle.cy_trees.specs.declared.expressions.BinaryOperator.{BinaryOperator}
use Rattle.cy_trees.specs.declared.expressions.BinaryOperator.TheVariants as binary_operator
use Rattle.cy_trees.specs.Trees.{Expression, null, boolean, integer, text, variable, property, has_labels, unary, binary, comparison, list, case, call, call_star, Expressions, no_more, more, Arms, no_arms, arm, Otherwise, nothing, otherwise}
use Rattle.cy_scope_kinds.specs.declared.kinds.Kind.{Kind}
use Rattle.cy_scope_kinds.specs.declared.kinds.Kind.TheVariants.{Value, Flag}
use Rattle.cy_scope_kinds.specs.declared.functions.Function.{Function}
use Rattle.cy_scope_kinds.specs.declared.functions.Function.TheVariants as function
use Rattle.cy_scope_kinds.specs.Scopes.{Scope, kind_in}
use Rattle.cy_scope_kinds.specs.Kinds.{is_flag, flag_if}
use Rattle.cy_scope_kinds.specs.Functions.{function_named}

abbrev pub unary_kind : UnaryOperator → Kind
unary_kind unary_operator.Not = Flag
unary_kind unary_operator.Plus = Value
unary_kind unary_operator.Minus = Value
unary_kind unary_operator.IsNull = Flag
unary_kind unary_operator.IsNotNull = Flag

abbrev pub binary_kind : BinaryOperator → Kind
binary_kind binary_operator.Or = Flag
binary_kind binary_operator.Xor = Flag
binary_kind binary_operator.And = Flag
binary_kind binary_operator.In = Flag
binary_kind binary_operator.Contains = Flag
binary_kind binary_operator.StartsWith = Flag
binary_kind binary_operator.EndsWith = Flag
binary_kind binary_operator.Add = Value
binary_kind binary_operator.Subtract = Value
binary_kind binary_operator.Multiply = Value
binary_kind binary_operator.Divide = Value
binary_kind binary_operator.Remainder = Value

-- what a function gives, by whether its operands are all flags
abbrev pub function_kind : Function → Bool → Kind
function_kind function.Coalesce flags = flag_if flags
function_kind function.Exists flags = Flag
function_kind _ flags = Value

abbrev pub call_kind : Option Function → Bool → Kind
call_kind None flags = Value
call_kind (Some function) flags = function_kind function flags

abbrev mutual
  pub kind_of : Scope → Expression → Kind
  kind_of scope null = Flag
  kind_of scope (boolean b) = Flag
  kind_of scope (integer n) = Value
  kind_of scope (text t) = Value
  kind_of scope (variable v) = kind_in scope v.name
  kind_of scope (property e key) = Value
  kind_of scope (has_labels e labels) = Flag
  kind_of scope (unary operator e) = unary_kind operator
  kind_of scope (binary operator a b) = binary_kind operator
  kind_of scope (comparison e links) = Flag
  kind_of scope (list es) = Value
  kind_of scope (case arms e) = flag_if (gives_flags scope arms && is_flag_otherwise scope e)
  kind_of scope (call name distinct es) = call_kind (function_named name) (are_flags scope es)
  kind_of scope (call_star name) = Value

  pub are_flags : Scope → Expressions → Bool
  are_flags scope no_more = true
  are_flags scope (more e es) = is_flag (kind_of scope e) && are_flags scope es

  -- the result of each arm is a flag
  pub gives_flags : Scope → Arms → Bool
  gives_flags scope no_arms = true
  gives_flags scope (arm condition outcome arms) = is_flag (kind_of scope outcome) && gives_flags scope arms

  -- without ELSE the result may be null, which is a flag too
  pub is_flag_otherwise : Scope → Otherwise → Bool
  is_flag_otherwise scope nothing = true
  is_flag_otherwise scope (otherwise e) = is_flag (kind_of scope e)
