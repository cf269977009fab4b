-- What a network stands for. Its rows are those of a plan on a graph; a change of the graph is prepared, and then settled or abandoned. (own)
use Rattle.std.specs.Prelude.{◌≡◌, ℕ, ◌≤◌, Bool, true, List, [], Option, Some, None, is_none, length, map, sum_by}
use Rattle.std.specs.declared.alloc.Global.{Global}
use Rattle.std.specs.declared.vec.Vec.{Vec}
use Rattle.cy_values.specs.declared.rows.Cell.{Cell}
use Rattle.cy_bags.specs.declared.changes.Change.{Change}
use Rattle.cy_bags.specs.Difference.{IsDifference}
use Rattle.cy_graph.specs.Graph.{Content}
use Rattle.cy_network_memory.specs.declared.memory.Memory.{Ghosts}
use Rattle.cy_network_memory.specs.Counts.{Counts}
use Rattle.cy_planner_algebra.specs.declared.operators.Operator.{Operator}
use Rattle.cy_planner_algebra.specs.Plans.{Plan}
use Rattle.cy_planner_algebra.specs.Meaning.{rows_of}
use Rattle.cy_planner_algebra.specs.Sure.{IsSure}
use Rattle.cy_planner_algebra.specs.PlanModels.{plan_of}
use Rattle.cy_network_operators.specs.Deltas.{counts}
use Rattle.cy_network.specs.declared.networks.Network.{Network}
use Rattle.cy_network.specs.Places.{Place, entries_in, place_in, place_of, room_in, rows_by}
use Rattle.cy_network_parts.specs.Counted.{ArePositive, counted, written}
use Rattle.cy_network_parts.specs.Memories.{AreHeld}
pub use Rattle.cy_network_parts.specs.Limits.{HasTooManyRows}

-- A network: its plan; of its memories the key columns, how often each row counts as it was and as it is staged, and how many steps they took
-- since they were made; where the rows that count stand, those in the table and how many it has room for beside them; the counts that are written over these when the change
-- that is prepared is settled, and whether it leaves them and the memories as they are; what it changes, if one is prepared; and the steps of the last
-- one.
pub record NetworkState : Type 0 where
  pub plan : Plan
  pub columns : List (List ℕ)
  pub was : List Counts
  pub staged : List Counts
  pub taken : ℕ
  pub place : Place
  pub rows : List (List Cell × ℕ)
  pub room : ℕ
  pub next : List (List Cell × ℕ)
  pub unmoved : Bool
  pub pending : Option Change
  pub steps : ℕ

-- the counts that a prepared change leaves; none where none is prepared
abbrev pub next_counts : Option (Vec (List Cell × ℕ) Global) → List (List Cell × ℕ)
next_counts None = []
next_counts (Some next) = next.items

-- a network as the code holds it, by what its memories say of themselves
abbrev pub state_of : {M C : Type 0} → (M → List ℕ) → (M → Counts) → (M → Counts) → (M → ℕ) → Network M C → NetworkState
state_of key_columns was staged step_count n = record {
  plan = plan_of n.plan;
  columns = map key_columns n.memories.items;
  was = map was n.memories.items;
  staged = map staged n.memories.items;
  taken = sum_by step_count n.memories.items;
  place = place_in n.rows;
  rows = entries_in n.rows;
  room = room_in n.rows;
  next = next_counts n.next;
  unmoved = is_none n.next;
  pending = n.pending;
  steps = n.steps;
}

-- the plan of a network, as the code has it
abbrev pub operator_of : {M C : Type 0} → Network M C → Operator
operator_of n = n.plan

-- the network stands for the graph: its rows are those of its plan there, its memories hold those of the plan's operators, and nothing is prepared
pub record StandsFor (graph : Content) (n : NetworkState) : Type 0 where
  pub sure : IsSure n.plan
  pub held : AreHeld (Some graph) n.plan n.columns n.was n.staged
  pub placed : n.place ≡ place_of n.plan
  pub rows : rows_by n.place (counted n.rows) n.was ≡ counts (rows_of graph n.plan)
  pub positive : ArePositive n.rows
  pub idle : n.pending ≡ None

-- the network has the rows of its plan on the graph, whether or not a change is prepared
pub record HasRows (graph : Content) (n : NetworkState) : Type 0 where
  pub rows : rows_by n.place (counted n.rows) n.was ≡ counts (rows_of graph n.plan)
  pub positive : ArePositive n.rows

-- The network is prepared from one graph to another: it still has the rows of the first, what is staged stands for the second, and the difference
-- is pending.
pub record IsPrepared (before after : Content) (n : NetworkState) : Type 0 where
  pub sure : IsSure n.plan
  pub held : AreHeld (Some before) n.plan n.columns n.was n.was
  pub staged : AreHeld (Some after) n.plan n.columns n.staged n.staged
  pub placed : n.place ≡ place_of n.plan
  pub rows : rows_by n.place (counted n.rows) n.was ≡ counts (rows_of before n.plan)
  pub positive : ArePositive n.rows
  pub next : rows_by n.place (written n.next (counted n.rows)) n.staged ≡ counts (rows_of after n.plan)
  pub fits : length n.next ≤ n.room
  pub unmoved : n.unmoved ≡ true → n.staged ≡ n.was
  pub change : Change
  pub pending : n.pending ≡ Some change
  pub difference : IsDifference (rows_of before n.plan) (rows_of after n.plan) change

-- the network, as the code holds it, stands for the graph, by what its memories say of themselves
abbrev pub Stands : {M C : Type 0} → Ghosts M C → Content → Network M C → Type 0
Stands memory graph n = StandsFor graph (state_of memory.key_columns memory.was memory.staged memory.step_count n)

-- and is prepared from one graph to another
abbrev pub StandsPrepared : {M C : Type 0} → Ghosts M C → Content → Content → Network M C → Type 0
StandsPrepared memory before after n = IsPrepared before after (state_of memory.key_columns memory.was memory.staged memory.step_count n)

-- no memory of it took a step
abbrev pub TookNoStep : {M C : Type 0} → Ghosts M C → Network M C → Network M C → Type 0
TookNoStep memory old new = map memory.step_count new.memories.items ≡ map memory.step_count old.memories.items
