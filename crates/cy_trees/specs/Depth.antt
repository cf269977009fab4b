-- The depth of an expression: 1 of a leaf, and of any other one more than that of its deepest part. Brackets add none (own).
use Rattle.std.specs.Prelude.{ℕ, suc, max}
use Rattle.cy_trees.specs.Trees.{Expression, null, boolean, integer, text, variable, property, has_labels, unary, binary, comparison, list, case, call, call_star, Expressions, no_more, more, Links, no_links, link, Arms, no_arms, arm, Otherwise, nothing, otherwise}

-- the greatest depth that an expression may have (own)
abbrev pub greatest_depth : ℕ
greatest_depth = 64

abbrev mutual
  pub depth : Expression → ℕ
  depth null = 1
  depth (boolean b) = 1
  depth (integer n) = 1
  depth (text t) = 1
  depth (variable v) = 1
  depth (property e key) = suc (depth e)
  depth (has_labels e labels) = suc (depth e)
  depth (unary operator e) = suc (depth e)
  depth (binary operator a b) = suc (max (depth a) (depth b))
  depth (comparison e links) = suc (max (depth e) (links_depth links))
  depth (list es) = suc (deepest es)
  depth (case arms e) = suc (max (arms_depth arms) (otherwise_depth e))
  depth (call function distinct es) = suc (deepest es)
  depth (call_star function) = 1

  pub deepest : Expressions → ℕ
  deepest no_more = 0
  deepest (more e es) = max (depth e) (deepest es)

  pub links_depth : Links → ℕ
  links_depth no_links = 0
  links_depth (link comparator e links) = max (depth e) (links_depth links)

  pub arms_depth : Arms → ℕ
  arms_depth no_arms = 0
  arms_depth (arm condition outcome arms) = max (max (depth condition) (depth outcome)) (arms_depth arms)

  pub otherwise_depth : Otherwise → ℕ
  otherwise_depth nothing = 0
  otherwise_depth (otherwise e) = depth e
