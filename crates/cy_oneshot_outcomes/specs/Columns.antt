-- Which columns of its row an expression reads: those of its variables (own).
use Rattle.std.specs.Prelude.{◌≡◌, ℕ, List, [], ◌∷◌, ◌++◌, Option, None, Some, slice_index_or}
use Rattle.std.specs.List.{AllByRecursion}
use Rattle.cy_values.specs.declared.scalars.Value.TheVariants as value
use Rattle.cy_values.specs.declared.rows.Cell.{Cell}
use Rattle.cy_values.specs.declared.rows.Cell.TheVariants as cell
use Rattle.cy_trees.specs.Trees.{Expression, null, boolean, integer, text, variable, property, has_labels, unary, binary, comparison, list, case, call, call_star, Expressions, no_more, more, Links, no_links, link, Arms, no_arms, arm, Otherwise, nothing, otherwise}

-- the column of a variable; one without a column reads none
abbrev pub column_list : Option ℕ → List ℕ
column_list None = []
column_list (Some column) = column ∷ []

-- the columns of all variables, in the order of the text
abbrev mutual
  pub columns_read : Expression → List ℕ
  columns_read null = []
  columns_read (boolean b) = []
  columns_read (integer n) = []
  columns_read (text t) = []
  columns_read (variable v) = column_list v.column
  columns_read (property e key) = columns_read e
  columns_read (has_labels e labels) = columns_read e
  columns_read (unary operator e) = columns_read e
  columns_read (binary operator a b) = columns_read a ++ columns_read b
  columns_read (comparison e links) = columns_read e ++ columns_of_links links
  columns_read (list es) = columns_of_elements es
  columns_read (case arms e) = columns_of_arms arms ++ columns_of_otherwise e
  columns_read (call name distinct es) = columns_of_elements es
  columns_read (call_star name) = []

  pub columns_of_elements : Expressions → List ℕ
  columns_of_elements no_more = []
  columns_of_elements (more e es) = columns_read e ++ columns_of_elements es

  pub columns_of_links : Links → List ℕ
  columns_of_links no_links = []
  columns_of_links (link comparator e links) = columns_read e ++ columns_of_links links

  pub columns_of_arms : Arms → List ℕ
  columns_of_arms no_arms = []
  columns_of_arms (arm condition outcome arms) = columns_read condition ++ (columns_read outcome ++ columns_of_arms arms)

  pub columns_of_otherwise : Otherwise → List ℕ
  columns_of_otherwise nothing = []
  columns_of_otherwise (otherwise e) = columns_read e

-- two rows have the same cells at these columns; past the end of a row there is null
abbrev pub AgreeOn : List ℕ → List Cell → List Cell → Type 0
AgreeOn columns row other = AllByRecursion (λ column. slice_index_or row column (cell.Value value.Null) ≡ slice_index_or other column (cell.Value value.Null)) columns
