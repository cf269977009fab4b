-- Which plans can be meant: columns lie in the rows, expressions read columns alone, and what stands together is equally wide. (own)
use Rattle.std.specs.Prelude.{◌≡◌, ℕ, ◌+◌, ◌<◌, ◌≤◌, ⊤, IsTrue, length}
use Rattle.std.specs.List.{All}
use Rattle.cy_trees.specs.Trees.{Expression}
use Rattle.cy_expr.specs.Reading.{reads_columns, reads_below}
use Rattle.cy_planner_algebra.specs.declared.operators.KeyColumns.{KeyColumns}
use Rattle.cy_planner_algebra.specs.Plans as plan
use Rattle.cy_planner_algebra.specs.Plans.{Plan, Output, computed, gathered, width}

-- the greatest number of columns of a row: 4294967295
abbrev pub greatest_width : ℕ
greatest_width = 4294967295

-- a column of a row with this many columns
abbrev pub IsColumn : ℕ → ℕ → Type 0
IsColumn count column = column < count

-- an expression over a row with this many columns: it reads them alone, and nothing of the graph
abbrev pub IsOver : ℕ → Expression → Type 0
IsOver count e = IsTrue (reads_columns e) × IsTrue (reads_below count e)

-- the columns of a key lie in the two rows
abbrev pub IsKeyBetween : ℕ → ℕ → KeyColumns → Type 0
IsKeyBetween left right key = (key.left < left) × (key.right < right)

abbrev pub IsOutputOver : ℕ → Output → Type 0
IsOutputOver count (computed e) = IsOver count e
IsOutputOver count (gathered columns) = All (IsColumn count) columns

abbrev pub IsWellFormed : Plan → Type 0
IsWellFormed plan.unit = ⊤
IsWellFormed plan.nodes = ⊤
IsWellFormed (plan.rels types orientation) = ⊤
IsWellFormed (plan.join left right keys) =
    IsWellFormed left × IsWellFormed right × All (IsKeyBetween (width left) (width right)) keys × (width left + width right ≤ greatest_width)
IsWellFormed (plan.outer left right keys test) =
    IsWellFormed left × IsWellFormed right × All (IsKeyBetween (width left) (width right)) keys × (width left + width right ≤ greatest_width)
    × IsOver (width left + width right) test
IsWellFormed (plan.semi left right keys keeping) =
    IsWellFormed left × IsWellFormed right × All (IsKeyBetween (width left) (width right)) keys
IsWellFormed (plan.lookup p column attribute) = IsWellFormed p × IsColumn (width p) column × (width p + 1 ≤ greatest_width)
IsWellFormed (plan.filter p test) = IsWellFormed p × IsOver (width p) test
IsWellFormed (plan.all_different p columns) = IsWellFormed p × All (IsColumn (width p)) columns
IsWellFormed (plan.project p outputs) = IsWellFormed p × All (IsOutputOver (width p)) outputs × (length outputs ≤ greatest_width)
IsWellFormed (plan.distinct p) = IsWellFormed p
IsWellFormed (plan.union left right) = IsWellFormed left × IsWellFormed right × (width left ≡ width right)
