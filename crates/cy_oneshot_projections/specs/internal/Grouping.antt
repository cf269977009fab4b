-- Rows with keys, and their groups.
use Rattle.std.specs.Prelude.{◌≡◌, Bool, true, false, List, [], ◌∷◌, ◌++◌, map, Option, None, Some, Result, Ok, Err, if◌then◌else◌}
use Rattle.std.specs.Ordering.{eq_by_cmp}
use Rattle.cy_values.specs.declared.rows.Cell.{Cell}
use Rattle.cy_values.specs.Order.{row_cmp}
use Rattle.cy_trees.specs.Trees.{Expression}
use Rattle.cy_graph.specs.Graph.{Content}
use Rattle.cy_expr.specs.declared.faults.EvalFault.{EvalFault}
use Rattle.cy_expr.specs.declared.faults.EvalFault.TheVariants.{NoMemory}
use Rattle.cy_expr.specs.Evaluation.{as_cell}
use Rattle.cy_expr.specs.Faults.{on_one}
use Rattle.cy_oneshot_meaning.specs.Groups.{Grouped, over_rows, rows_of_group}
use Rattle.cy_oneshot_meaning.specs.Order.{each_once}
use Rattle.cy_oneshot_patterns.specs.Outcomes.{smaller}
use Rattle.cy_oneshot_meaning.specs.internal.Seen.{key_by}

-- a key with the rows that have it
pub record Gathering : Type 0 where
  pub key : List Cell
  pub rows : List (List Cell)

-- a row among groups: with those of its key, where there are some, else in a group of its own after the others
abbrev pub with_row : List Gathering → Grouped → List Gathering
with_row [] g = (record { key = g.key; rows = g.row ∷ [] }) ∷ []
with_row (h ∷ hs) g = if eq_by_cmp row_cmp g.key h.key then (record { key = h.key; rows = h.rows ++ g.row ∷ [] }) ∷ hs else h ∷ with_row hs g

-- rows among groups, one after another
abbrev pub with_rows : List Gathering → List Grouped → List Gathering
with_rows hs [] = hs
with_rows hs (g ∷ gs) = with_rows (with_row hs g) gs

-- a row with its key, if it has one
abbrev pub with_key : List Cell → Result (List Cell) EvalFault → Result Grouped EvalFault
with_key row key = on_one (λ cells. Ok (record { key = cells; row = row })) key

-- a row with what expressions give on it; where they fault, other ones are looked at too
abbrev pub grouped_by : Content → List Expression → List Expression → List Cell → Result Grouped EvalFault
grouped_by graph expressions others row = with_key row (key_by graph expressions others row)

-- the groups of rows
abbrev pub AreGroups : List Grouped → List Gathering → Type 0
AreGroups gs groups = groups ≡ map (λ key. record { key = key; rows = rows_of_group key gs }) (each_once row_cmp (map (λ g. g.key) gs))

-- and without keys the one group of all
abbrev pub AreGroupsOf : Bool → List Grouped → List Gathering → Type 0
AreGroupsOf true gs groups = groups ≡ (record { key = []; rows = map (λ g. g.row) gs }) ∷ []
AreGroupsOf false gs groups = AreGroups gs groups

-- the cell of a group's key for the next item, where an aggregate has none, and the cells that are left
abbrev pub kept_of : Bool → List Cell → Option Cell × List Cell
kept_of true key = (None, key)
kept_of false [] = (None, [])
kept_of false (c ∷ key) = (Some c, key)

-- the cell of an item: that of the key, or an aggregate of the group's rows
abbrev pub item_cell : Content → Expression → List (List Cell) → Option Cell → Result Cell EvalFault
item_cell graph e rows None = as_cell (over_rows graph e rows)
item_cell graph e rows (Some c) = Ok c

-- the one of things, if there is one alone
abbrev pub one_of : {A : Type 0} → List A → Option A
one_of (x ∷ []) = Some x
one_of _ = None

-- the smaller of a fault and that of what was looked at after it, if that is one; being out of memory comes before both
abbrev pub smaller_of : {A : Type 0} → Result A EvalFault → EvalFault → EvalFault
smaller_of (Ok x) fault = fault
smaller_of (Err NoMemory) fault = NoMemory
smaller_of (Err other) fault = smaller other fault
