-- An expression whose variables have their columns; nothing else is changed (own).
use Rattle.cy_trees.specs.declared.expressions.Variable.{Variable}
use Rattle.cy_trees.specs.Trees.{Expression, null, boolean, integer, text, variable, property, has_labels, unary, binary, comparison, list, case, call, call_star, Expressions, no_more, more, Links, no_links, link, Arms, no_arms, arm, Otherwise, nothing, otherwise}
use Rattle.cy_scope_kinds.specs.Scopes.{Scope, find_column}

-- the column of the first variable of the name
abbrev pub resolved_variable : Scope → Variable → Variable
resolved_variable scope v = record v { column = find_column scope v.name }

abbrev mutual
  pub resolved : Scope → Expression → Expression
  resolved scope null = null
  resolved scope (boolean b) = boolean b
  resolved scope (integer n) = integer n
  resolved scope (text t) = text t
  resolved scope (variable v) = variable (resolved_variable scope v)
  resolved scope (property e key) = property (resolved scope e) key
  resolved scope (has_labels e labels) = has_labels (resolved scope e) labels
  resolved scope (unary operator e) = unary operator (resolved scope e)
  resolved scope (binary operator a b) = binary operator (resolved scope a) (resolved scope b)
  resolved scope (comparison e links) = comparison (resolved scope e) (resolved_links scope links)
  resolved scope (list es) = list (resolved_expressions scope es)
  resolved scope (case arms e) = case (resolved_arms scope arms) (resolved_otherwise scope e)
  resolved scope (call name distinct es) = call name distinct (resolved_expressions scope es)
  resolved scope (call_star name) = call_star name

  pub resolved_expressions : Scope → Expressions → Expressions
  resolved_expressions scope no_more = no_more
  resolved_expressions scope (more e es) = more (resolved scope e) (resolved_expressions scope es)

  pub resolved_links : Scope → Links → Links
  resolved_links scope no_links = no_links
  resolved_links scope (link by e links) = link by (resolved scope e) (resolved_links scope links)

  pub resolved_arms : Scope → Arms → Arms
  resolved_arms scope no_arms = no_arms
  resolved_arms scope (arm condition outcome arms) = arm (resolved scope condition) (resolved scope outcome) (resolved_arms scope arms)

  pub resolved_otherwise : Scope → Otherwise → Otherwise
  resolved_otherwise scope nothing = nothing
  resolved_otherwise scope (otherwise e) = otherwise (resolved scope e)
