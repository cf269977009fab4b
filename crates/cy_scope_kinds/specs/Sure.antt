-- Sure expressions: those whose form shows that they have a value on every row and every graph (own).
use Rattle.std.specs.Prelude.{Bool, true, false, ◌&&◌, ◌||◌, Option, Some, None}
use Rattle.cy_trees.specs.declared.expressions.UnaryOperator.{UnaryOperator}
use Rattle.cy_trees.specs.declared.expressions.UnaryOperator.TheVariants as unary_operator
use Rattle.cy_trees.specs.declared.expressions.BinaryOperator.{BinaryOperator}
use Rattle.cy_trees.specs.declared.expressions.BinaryOperator.TheVariants as binary_operator
use Rattle.cy_trees.specs.Trees.{Expression, null, boolean, integer, text, variable, property, has_labels, unary, binary, comparison, list, case, call, call_star, Expressions, no_more, more, Links, no_links, link, Arms, no_arms, arm, Otherwise, nothing, otherwise}
use Rattle.cy_scope_kinds.specs.declared.functions.Function.{Function}
use Rattle.cy_scope_kinds.specs.declared.functions.Function.TheVariants as function
use Rattle.cy_scope_kinds.specs.Scopes.{Scope, kind_in}
use Rattle.cy_scope_kinds.specs.Kinds.{is_flag, is_relationships}
use Rattle.cy_scope_kinds.specs.Functions.{function_named}
use Rattle.cy_scope_kinds.specs.ExpressionKinds.{kind_of}

-- null, a boolean, an integer or a text that is written out: no row and no graph changes it
abbrev pub is_literal : Expression → Bool
is_literal null = true
is_literal (boolean b) = true
is_literal (integer n) = true
is_literal (text t) = true
is_literal _ = false

-- the function is `labels`
abbrev pub gives_labels : Option Function → Bool
gives_labels (Some function.Labels) = true
gives_labels _ = false

-- a list that is written out, or `labels(..)`
abbrev pub is_known_list : Expression → Bool
is_known_list (list es) = true
is_known_list (call name distinct es) = gives_labels (function_named name)
is_known_list _ = false

-- what `size` can't fault on: the relationships of a length, or such a list
abbrev pub has_size : Scope → Expression → Bool
has_size scope (variable v) = is_relationships (kind_in scope v.name)
has_size scope e = is_known_list e

abbrev pub have_size : Scope → Expressions → Bool
have_size scope no_more = true
have_size scope (more e es) = has_size scope e && have_size scope es

-- with a sure operand, which may be a flag
abbrev pub is_sure_unary : UnaryOperator → Bool → Bool
is_sure_unary unary_operator.Not flag = flag
is_sure_unary unary_operator.Plus flag = false
is_sure_unary unary_operator.Minus flag = false
is_sure_unary unary_operator.IsNull flag = true
is_sure_unary unary_operator.IsNotNull flag = true

-- with sure operands, which may both be flags, and of which the right one may be a known list
abbrev pub is_sure_binary : BinaryOperator → Bool → Bool → Bool
is_sure_binary binary_operator.Or flags known = flags
is_sure_binary binary_operator.Xor flags known = flags
is_sure_binary binary_operator.And flags known = flags
is_sure_binary binary_operator.In flags known = known
is_sure_binary binary_operator.Contains flags known = true
is_sure_binary binary_operator.StartsWith flags known = true
is_sure_binary binary_operator.EndsWith flags known = true
is_sure_binary binary_operator.Add flags known = false
is_sure_binary binary_operator.Subtract flags known = false
is_sure_binary binary_operator.Multiply flags known = false
is_sure_binary binary_operator.Divide flags known = false
is_sure_binary binary_operator.Remainder flags known = false

-- with sure operands, which may have a size that is sure
abbrev pub is_sure_function : Function → Bool → Bool
is_sure_function function.Id sized = true
is_sure_function function.Type sized = true
is_sure_function function.Labels sized = true
is_sure_function function.Exists sized = true
is_sure_function function.Coalesce sized = true
is_sure_function function.Size sized = sized
is_sure_function _ sized = false

abbrev pub is_sure_call : Option Function → Bool → Bool
is_sure_call None sized = false
is_sure_call (Some function) sized = is_sure_function function sized

abbrev mutual
  pub is_sure : Scope → Expression → Bool
  is_sure scope null = true
  is_sure scope (boolean b) = true
  is_sure scope (integer n) = true
  is_sure scope (text t) = true
  is_sure scope (variable v) = true
  is_sure scope (property e key) = is_sure scope e
  is_sure scope (has_labels e labels) = is_sure scope e
  is_sure scope (unary operator e) = is_sure scope e && is_sure_unary operator (is_flag (kind_of scope e))
  is_sure scope (binary operator a b) =
      is_sure scope a && is_sure scope b && is_sure_binary operator (is_flag (kind_of scope a) && is_flag (kind_of scope b)) (is_known_list b)
  is_sure scope (comparison e links) = is_sure scope e && are_sure_links scope links
  is_sure scope (list es) = are_sure_elements scope es
  is_sure scope (case arms e) = are_sure_arms scope arms && is_sure_otherwise scope e
  is_sure scope (call name distinct es) = are_sure scope es && is_sure_call (function_named name) (have_size scope es)
  is_sure scope (call_star name) = false

  pub are_sure : Scope → Expressions → Bool
  are_sure scope no_more = true
  are_sure scope (more e es) = is_sure scope e && are_sure scope es

  -- each is a literal, or a sure flag
  pub are_sure_elements : Scope → Expressions → Bool
  are_sure_elements scope no_more = true
  are_sure_elements scope (more e es) = (is_literal e || (is_sure scope e && is_flag (kind_of scope e))) && are_sure_elements scope es

  pub are_sure_links : Scope → Links → Bool
  are_sure_links scope no_links = true
  are_sure_links scope (link comparator e links) = is_sure scope e && are_sure_links scope links

  -- conditions are sure flags
  pub are_sure_arms : Scope → Arms → Bool
  are_sure_arms scope no_arms = true
  are_sure_arms scope (arm condition outcome arms) =
      is_sure scope condition && is_flag (kind_of scope condition) && is_sure scope outcome && are_sure_arms scope arms

  pub is_sure_otherwise : Scope → Otherwise → Bool
  is_sure_otherwise scope nothing = true
  is_sure_otherwise scope (otherwise e) = is_sure scope e

-- what may stand after WHERE
abbrev pub is_sure_flag : Scope → Expression → Bool
is_sure_flag scope e = is_sure scope e && is_flag (kind_of scope e)
