-- How many relationships the cells in a column of a plan's rows name, as far as the plan shows it, and operators of a plan that have no row in
-- common because of that. (own)
use Rattle.std.specs.Prelude.{◌≡◌, ℕ, ◌+◌, ◌-◌, ◌==◌, ◌≤◌, ◌⊎◌, ⊤, Bool, false, ◌||◌, List, Option, None, Some, fold, if◌then◌else◌, length, max, min, nat_lt, slice_get, sum_by}
use Rattle.std.specs.Option.{option_and_then, option_map_or}
use Rattle.cy_values.specs.declared.rows.Cell.{Cell}
use Rattle.cy_values.specs.Bag.{count_of}
use Rattle.cy_trees.specs.Trees.{variable}
use Rattle.cy_graph.specs.Graph.{Content}
use Rattle.cy_planner_algebra.specs.Plans as plan
use Rattle.cy_planner_algebra.specs.Plans.{Plan, Output, computed, gathered, width}
use Rattle.cy_planner_algebra.specs.Expressions.{cell_at, relationships_in}
use Rattle.cy_planner_algebra.specs.Meaning.{rows_of}

-- how many relationships a cell of a row names: a list as many as it is long
abbrev pub named : ℕ → List Cell → ℕ
named column row = length (relationships_in (cell_at row column))

-- the column that stands alone in one that a projection makes
abbrev pub column_alone : Output → Option ℕ
column_alone (computed (variable v)) = v.column
column_alone (computed e) = None
column_alone (gathered columns) = None

-- ---- at least

-- how many the cell names at least that a projection makes, where that of each column below it is given
abbrev pub least_made : (ℕ → ℕ) → Output → ℕ
least_made below (computed e) = option_map_or below (column_alone (computed e)) 0
least_made below (gathered columns) = sum_by below columns

-- how many the cell in a column of a row of a plan names at least
abbrev pub least_named : Plan → ℕ → ℕ
least_named plan.unit column = 0
least_named plan.nodes column = 0
least_named (plan.rels types orientation) column = if column == 0 then 1 else 0
least_named (plan.join left right keys) column = if nat_lt column (width left) then least_named left column else least_named right (column - width left)
least_named (plan.outer left right keys test) column = if nat_lt column (width left) then least_named left column else 0
least_named (plan.semi left right keys keeping) column = least_named left column
least_named (plan.lookup p c attribute) column = if nat_lt column (width p) then least_named p column else 0
least_named (plan.filter p test) column = least_named p column
least_named (plan.all_different p columns) column = least_named p column
least_named (plan.project p outputs) column = option_map_or (least_made (least_named p)) (slice_get outputs column) 0
least_named (plan.distinct p) column = least_named p column
least_named (plan.union left right) column = min (least_named left column) (least_named right column)

-- ---- at most, where the plan shows that

-- two numbers together, if both are known, and that is 65535 at most
abbrev pub together : Option ℕ → Option ℕ → Option ℕ
together None b = None
together (Some a) None = None
together (Some a) (Some b) = if nat_lt (a + b) 65536 then Some (a + b) else None

-- the greater one of two numbers, if both are known
abbrev pub greater : Option ℕ → Option ℕ → Option ℕ
greater None b = None
greater (Some a) None = None
greater (Some a) (Some b) = Some (max a b)

-- how many the cell names at most that a projection makes, where that of each column below it is given
abbrev pub most_made : (ℕ → Option ℕ) → Output → Option ℕ
most_made below (computed e) = option_and_then below (column_alone (computed e))
most_made below (gathered columns) = fold (λ so_far column. together so_far (below column)) (Some 0) columns

-- how many the cell in a column of a row of a plan names at most
abbrev pub most_named : Plan → ℕ → Option ℕ
most_named plan.unit column = None
most_named plan.nodes column = None
most_named (plan.rels types orientation) column = if column == 0 then Some 1 else None
most_named (plan.join left right keys) column = if nat_lt column (width left) then most_named left column else most_named right (column - width left)
most_named (plan.outer left right keys test) column = if nat_lt column (width left) then most_named left column else None
most_named (plan.semi left right keys keeping) column = most_named left column
most_named (plan.lookup p c attribute) column = if nat_lt column (width p) then most_named p column else None
most_named (plan.filter p test) column = most_named p column
most_named (plan.all_different p columns) column = most_named p column
most_named (plan.project p outputs) column = option_and_then (most_made (most_named p)) (slice_get outputs column)
most_named (plan.distinct p) column = most_named p column
most_named (plan.union left right) column = greater (most_named left column) (most_named right column)

-- ---- operators of a plan

-- this many at least are more than this many at most
abbrev pub is_above : ℕ → Option ℕ → Bool
is_above least None = false
is_above least (Some most) = nat_lt most least

-- the first cells of the rows of the one operator name more relationships than those of the other
abbrev pub are_apart : Plan → Plan → Bool
are_apart left right = is_above (least_named right 0) (most_named left 0) || is_above (least_named left 0) (most_named right 0)

-- a row stands among those of the one plan on no graph, or among those of the other on none
abbrev pub IsInOne : Plan → Plan → List Cell → Type 0
IsInOne left right row = ((graph : Content) → count_of row (rows_of graph left) ≡ 0) ⊎ ((graph : Content) → count_of row (rows_of graph right) ≡ 0)

-- a number is this one at most, if there is one
abbrev pub IsAtMost : Option ℕ → ℕ → Type 0
IsAtMost None n = ⊤
IsAtMost (Some most) n = n ≤ most
