-- Expressions whose variables have other columns. (own)
use Rattle.std.specs.Prelude.{ℕ, List, option_map, slice_index_or}
use Rattle.cy_trees.specs.declared.expressions.Comparator.{Comparator}
use Rattle.cy_trees.specs.declared.expressions.Variable.{Variable}
use Rattle.cy_trees.specs.Trees.{Expression, null, boolean, integer, text, variable, property, has_labels, unary, binary, comparison, list, case, call, call_star, Expressions, no_more, more, Links, no_links, link, Arms, no_arms, arm, Otherwise, nothing, otherwise}

-- the column that stands for another one; itself where there is none
abbrev pub new_column : List ℕ → ℕ → ℕ
new_column columns column = slice_index_or columns column column

-- by the columns that stand for those of a row
module _ (columns : List ℕ) where
  abbrev pub renumbered_variable : Variable → Variable
  renumbered_variable v = record { name = v.name; column = option_map (new_column columns) v.column }

  abbrev mutual
    pub renumbered : Expression → Expression
    renumbered null = null
    renumbered (boolean b) = boolean b
    renumbered (integer n) = integer n
    renumbered (text t) = text t
    renumbered (variable v) = variable (renumbered_variable v)
    renumbered (property e key) = property (renumbered e) key
    renumbered (has_labels e labels) = has_labels (renumbered e) labels
    renumbered (unary operator e) = unary operator (renumbered e)
    renumbered (binary operator a b) = binary operator (renumbered a) (renumbered b)
    renumbered (comparison e links) = comparison (renumbered e) (renumbered_links links)
    renumbered (list es) = list (renumbered_expressions es)
    renumbered (case arms e) = case (renumbered_arms arms) (renumbered_otherwise e)
    renumbered (call name distinct es) = call name distinct (renumbered_expressions es)
    renumbered (call_star name) = call_star name

    pub renumbered_expressions : Expressions → Expressions
    renumbered_expressions no_more = no_more
    renumbered_expressions (more e es) = more (renumbered e) (renumbered_expressions es)

    pub renumbered_links : Links → Links
    renumbered_links no_links = no_links
    renumbered_links (link comparator e links) = link comparator (renumbered e) (renumbered_links links)

    pub renumbered_arms : Arms → Arms
    renumbered_arms no_arms = no_arms
    renumbered_arms (arm condition outcome arms) = arm (renumbered condition) (renumbered outcome) (renumbered_arms arms)

    pub renumbered_otherwise : Otherwise → Otherwise
    renumbered_otherwise nothing = nothing
    renumbered_otherwise (otherwise e) = otherwise (renumbered e)

  -- a link and an arm, as pairs
  abbrev pub renumbered_link : Comparator × Expression → Comparator × Expression
  renumbered_link l = (l.0, renumbered l.1)

  abbrev pub renumbered_arm : Expression × Expression → Expression × Expression
  renumbered_arm a = (renumbered a.0, renumbered a.1)
