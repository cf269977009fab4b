-- The plans of views, as trees: each operator makes a bag of rows out of the graph or out of the rows of the operators below it. What the
-- code boxes, or keeps in a vector, stands here itself. (own)
use Rattle.std.specs.Prelude.{ℕ, ◌+◌, List, length}
use Rattle.cy_trees.specs.Trees.{Name, Expression}
use Rattle.cy_planner_algebra.specs.declared.operators.Attribute.{Attribute}
use Rattle.cy_planner_algebra.specs.declared.operators.Keeping.{Keeping}
use Rattle.cy_planner_algebra.specs.declared.operators.KeyColumns.{KeyColumns}
use Rattle.cy_planner_algebra.specs.declared.operators.Orientation.{Orientation}

-- what stands in a column that a projection makes
pub data Output : Type 0 where
  -- the value of an expression
  computed : Expression → Output
  -- the list of the relationships that stand in these columns, from the first column to the last; of no column the empty list
  gathered : List ℕ → Output

pub data Plan : Type 0 where
  -- the empty row
  unit : Plan
  -- a row for each node
  nodes : Plan
  -- rows for each relationship of one of the types (of any, where none is named): itself, its two ends and its type
  rels : List Name → Orientation → Plan
  -- the rows of the left input, each with each row of the right one that has the same key
  join : Plan → Plan → List KeyColumns → Plan
  -- those of these rows for which a predicate is true; a row of the left input that finds none stands with nulls
  outer : Plan → Plan → List KeyColumns → Expression → Plan
  -- the rows of the left input for which the right one has a row with the same key, or those for which it has none
  semi : Plan → Plan → List KeyColumns → Keeping → Plan
  -- each row with an attribute of the entity in one of its columns
  lookup : Plan → ℕ → Attribute → Plan
  -- the rows for which an expression is true
  filter : Plan → Expression → Plan
  -- the rows in whose columns no relationship stands twice
  all_different : Plan → List ℕ → Plan
  -- of each row another one, cell by cell
  project : Plan → List Output → Plan
  -- each row once
  distinct : Plan → Plan
  -- the rows of both inputs
  union : Plan → Plan → Plan

-- how many columns its rows have
abbrev pub width : Plan → ℕ
width unit = 0
width nodes = 1
width (rels types orientation) = 4
width (join left right keys) = width left + width right
width (outer left right keys test) = width left + width right
width (semi left right keys keeping) = width left
width (lookup plan column attribute) = width plan + 1
width (filter plan test) = width plan
width (all_different plan columns) = width plan
width (project plan outputs) = length outputs
width (distinct plan) = width plan
width (union left right) = width left
