-- Scans: the operators of a plan whose rows come of one entity each, and name it. Such an operator stands over `nodes` or `rels` alone; it looks up
-- attributes of this entity, leaves out rows, and makes of a row one that still names it. So what changes of its rows where the graph changes
-- comes from the touched entities alone. (own)
use Rattle.std.specs.Prelude.{◌≡◌, ℕ, suc, ◌==◌, Bool, false, List, [], ◌∷◌, Option, None, Some, IsSome, if◌then◌else◌, length}
use Rattle.std.specs.Option.{option_map}
use Rattle.cy_trees.specs.Trees.{variable}
use Rattle.cy_graph.specs.Graph.{State}
use Rattle.cy_planner_algebra.specs.Plans as plan
use Rattle.cy_planner_algebra.specs.Plans.{Plan, Output, computed, gathered}
use Rattle.cy_planner_algebra.specs.Sure.{IsSure}
use Rattle.cy_network_sources.specs.Changes.{IsChange, Touches}

-- an expression's column is this one
abbrev pub is_this : ℕ → Option ℕ → Bool
is_this column None = false
is_this column (Some other) = other == column

-- a column that a projection makes is a column alone: this one
abbrev pub is_column : ℕ → Output → Bool
is_column column (computed (variable v)) = is_this column v.column
is_column column (computed e) = false
is_column column (gathered columns) = false

-- where a column stands among those that a projection makes: the first that is this column alone
abbrev pub kept_at : ℕ → List Output → Option ℕ
kept_at column [] = None
kept_at column (o ∷ os) = if is_column column o then Some 0 else option_map suc (kept_at column os)

-- where a column, if there is one, stands among those that a projection makes
abbrev pub kept : Option ℕ → List Output → Option ℕ
kept None outputs = None
kept (Some column) outputs = kept_at column outputs

-- a column, if it is this one
abbrev pub if_this : ℕ → Option ℕ → Option ℕ
if_this column None = None
if_this column (Some other) = if other == column then Some other else None

-- in which column each row of an operator names its entity, where that of the one operator below it is given
abbrev pub column_over : Plan → Option ℕ → Option ℕ
column_over plan.unit below = None
column_over plan.nodes below = Some 0
column_over (plan.rels types orientation) below = Some 0
column_over (plan.join left right keys) below = None
column_over (plan.outer left right keys test) below = None
column_over (plan.semi left right keys keeping) below = None
column_over (plan.lookup p column attribute) below = if_this column below
column_over (plan.filter p test) below = below
column_over (plan.all_different p columns) below = below
column_over (plan.project p outputs) below = kept below outputs
column_over (plan.distinct p) below = None
column_over (plan.union left right) below = None

-- in which column each row of a scan names its entity; none of an operator that is no scan
abbrev pub scan_column : Plan → Option ℕ
scan_column plan.unit = None
scan_column plan.nodes = Some 0
scan_column (plan.rels types orientation) = Some 0
scan_column (plan.join left right keys) = None
scan_column (plan.outer left right keys test) = None
scan_column (plan.semi left right keys keeping) = None
scan_column (plan.lookup p column attribute) = if_this column (scan_column p)
scan_column (plan.filter p test) = scan_column p
scan_column (plan.all_different p columns) = scan_column p
scan_column (plan.project p outputs) = kept (scan_column p) outputs
scan_column (plan.distinct p) = None
scan_column (plan.union left right) = None

-- the operators of a scan, from the whole down to the one that reads the graph
abbrev pub scan_parts : Plan → List Plan
scan_parts plan.unit = plan.unit ∷ []
scan_parts plan.nodes = plan.nodes ∷ []
scan_parts (plan.rels types orientation) = plan.rels types orientation ∷ []
scan_parts (plan.join left right keys) = plan.join left right keys ∷ []
scan_parts (plan.outer left right keys test) = plan.outer left right keys test ∷ []
scan_parts (plan.semi left right keys keeping) = plan.semi left right keys keeping ∷ []
scan_parts (plan.lookup p column attribute) = plan.lookup p column attribute ∷ scan_parts p
scan_parts (plan.filter p test) = plan.filter p test ∷ scan_parts p
scan_parts (plan.all_different p columns) = plan.all_different p columns ∷ scan_parts p
scan_parts (plan.project p outputs) = plan.project p outputs ∷ scan_parts p
scan_parts (plan.distinct p) = plan.distinct p ∷ []
scan_parts (plan.union left right) = plan.union left right ∷ []

-- how many entities a scan reads: each touched node, or each touched relationship
abbrev pub scan_reads : Touches → Plan → ℕ
scan_reads touches plan.unit = 0
scan_reads touches plan.nodes = length touches.nodes
scan_reads touches (plan.rels types orientation) = length touches.rels
scan_reads touches (plan.join left right keys) = 0
scan_reads touches (plan.outer left right keys test) = 0
scan_reads touches (plan.semi left right keys keeping) = 0
scan_reads touches (plan.lookup p column attribute) = scan_reads touches p
scan_reads touches (plan.filter p test) = scan_reads touches p
scan_reads touches (plan.all_different p columns) = scan_reads touches p
scan_reads touches (plan.project p outputs) = scan_reads touches p
scan_reads touches (plan.distinct p) = 0
scan_reads touches (plan.union left right) = 0

-- a scan with these operators, over a change from one graph to another
pub record IsScan (before now : State) (touches : Touches) (given : List Plan) (p : Plan) : Type 0 where
  pub parts : given ≡ scan_parts p
  pub column : IsSome (scan_column p)
  pub sure : IsSure p
  pub change : IsChange before now touches
