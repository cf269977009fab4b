-- Two expressions have the same tree: a key of ORDER BY may repeat an item (own).
use Rattle.std.specs.Prelude.{Bool, true, false, ◌&&◌, List, [], ◌∷◌}
use Rattle.std.specs.Ordering.{int_eq}
use Rattle.std.specs.Str.{bytes_eq}
use Rattle.cy_trees.specs.declared.expressions.UnaryOperator.{UnaryOperator}
use Rattle.cy_trees.specs.declared.expressions.UnaryOperator.TheVariants as unary_operator
use Rattle.cy_trees.specs.declared.expressions.BinaryOperator.{BinaryOperator}
use Rattle.cy_trees.specs.declared.expressions.BinaryOperator.TheVariants as binary_operator
use Rattle.cy_trees.specs.declared.expressions.Comparator.{Comparator}
use Rattle.cy_trees.specs.declared.expressions.Comparator.TheVariants as comparator
use Rattle.cy_trees.specs.Trees.{Name, Expression, null, boolean, integer, text, variable, property, has_labels, unary, binary, comparison, list, case, call, call_star, Expressions, no_more, more, Links, no_links, link, Arms, no_arms, arm, Otherwise, nothing, otherwise}

abbrev pub same_unary : UnaryOperator → UnaryOperator → Bool
same_unary unary_operator.Not unary_operator.Not = true
same_unary unary_operator.Plus unary_operator.Plus = true
same_unary unary_operator.Minus unary_operator.Minus = true
same_unary unary_operator.IsNull unary_operator.IsNull = true
same_unary unary_operator.IsNotNull unary_operator.IsNotNull = true
same_unary _ _ = false

abbrev pub same_binary : BinaryOperator → BinaryOperator → Bool
same_binary binary_operator.Or binary_operator.Or = true
same_binary binary_operator.Xor binary_operator.Xor = true
same_binary binary_operator.And binary_operator.And = true
same_binary binary_operator.In binary_operator.In = true
same_binary binary_operator.Contains binary_operator.Contains = true
same_binary binary_operator.StartsWith binary_operator.StartsWith = true
same_binary binary_operator.EndsWith binary_operator.EndsWith = true
same_binary binary_operator.Add binary_operator.Add = true
same_binary binary_operator.Subtract binary_operator.Subtract = true
same_binary binary_operator.Multiply binary_operator.Multiply = true
same_binary binary_operator.Divide binary_operator.Divide = true
same_binary binary_operator.Remainder binary_operator.Remainder = true
same_binary _ _ = false

abbrev pub same_comparator : Comparator → Comparator → Bool
same_comparator comparator.Equal comparator.Equal = true
same_comparator comparator.NotEqual comparator.NotEqual = true
same_comparator comparator.Less comparator.Less = true
same_comparator comparator.LessOrEqual comparator.LessOrEqual = true
same_comparator comparator.Greater comparator.Greater = true
same_comparator comparator.GreaterOrEqual comparator.GreaterOrEqual = true
same_comparator _ _ = false

abbrev pub same_flags : Bool → Bool → Bool
same_flags true b = b
same_flags false true = false
same_flags false false = true

abbrev pub same_names : List Name → List Name → Bool
same_names [] [] = true
same_names (a ∷ names) (b ∷ others) = bytes_eq a b && same_names names others
same_names _ _ = false

abbrev mutual
  pub same : Expression → Expression → Bool
  same null null = true
  same (boolean a) (boolean b) = same_flags a b
  same (integer a) (integer b) = int_eq a b
  same (text a) (text b) = bytes_eq a b
  same (variable a) (variable b) = bytes_eq a.name b.name
  same (property a key) (property b other) = same a b && bytes_eq key other
  same (has_labels a labels) (has_labels b others) = same a b && same_names labels others
  same (unary by a) (unary other b) = same_unary by other && same a b
  same (binary by a c) (binary other b d) = same_binary by other && same a b && same c d
  same (comparison a links) (comparison b others) = same a b && same_links links others
  same (list es) (list others) = same_expressions es others
  same (case arms e) (case others f) = same_arms arms others && same_otherwise e f
  same (call name distinct es) (call other also others) = bytes_eq name other && same_flags distinct also && same_expressions es others
  same (call_star name) (call_star other) = bytes_eq name other
  same _ _ = false

  pub same_expressions : Expressions → Expressions → Bool
  same_expressions no_more no_more = true
  same_expressions (more a es) (more b others) = same a b && same_expressions es others
  same_expressions _ _ = false

  pub same_links : Links → Links → Bool
  same_links no_links no_links = true
  same_links (link by a links) (link other b others) = same_comparator by other && same a b && same_links links others
  same_links _ _ = false

  pub same_arms : Arms → Arms → Bool
  same_arms no_arms no_arms = true
  same_arms (arm a c arms) (arm b d others) = same a b && same c d && same_arms arms others
  same_arms _ _ = false

  pub same_otherwise : Otherwise → Otherwise → Bool
  same_otherwise nothing nothing = true
  same_otherwise (otherwise a) (otherwise b) = same a b
  same_otherwise _ _ = false
