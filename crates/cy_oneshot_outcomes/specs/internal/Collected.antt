-- Columns that are collected from left to right.
use Rattle.std.specs.Prelude.{ℕ, List, ◌++◌, Option}
use Rattle.cy_trees.specs.Trees.{Expression, null, boolean, integer, text, variable, property, has_labels, unary, binary, comparison, list, case, call, call_star, Expressions, no_more, more, Links, no_links, link, Arms, no_arms, arm, Otherwise, nothing, otherwise}
use Rattle.cy_oneshot_outcomes.specs.Columns.{column_list}

-- with that of a variable
unfoldable pub with_column : List ℕ → Option ℕ → List ℕ
with_column columns column = columns ++ column_list column

abbrev mutual
  -- with those of an expression
  pub with_columns : List ℕ → Expression → List ℕ
  with_columns columns null = columns
  with_columns columns (boolean b) = columns
  with_columns columns (integer n) = columns
  with_columns columns (text t) = columns
  with_columns columns (variable v) = with_column columns v.column
  with_columns columns (property e key) = with_columns columns e
  with_columns columns (has_labels e labels) = with_columns columns e
  with_columns columns (unary operator e) = with_columns columns e
  with_columns columns (binary operator a b) = with_columns (with_columns columns a) b
  with_columns columns (comparison e links) = with_links (with_columns columns e) links
  with_columns columns (list es) = with_elements columns es
  with_columns columns (case arms e) = with_otherwise (with_arms columns arms) e
  with_columns columns (call name distinct es) = with_elements columns es
  with_columns columns (call_star name) = columns

  pub with_elements : List ℕ → Expressions → List ℕ
  with_elements columns no_more = columns
  with_elements columns (more e es) = with_elements (with_columns columns e) es

  pub with_links : List ℕ → Links → List ℕ
  with_links columns no_links = columns
  with_links columns (link comparator e links) = with_links (with_columns columns e) links

  pub with_arms : List ℕ → Arms → List ℕ
  with_arms columns no_arms = columns
  with_arms columns (arm condition outcome arms) = with_arms (with_columns (with_columns columns condition) outcome) arms

  pub with_otherwise : List ℕ → Otherwise → List ℕ
  with_otherwise columns nothing = columns
  with_otherwise columns (otherwise e) = with_columns columns e
