-- The state of the engine (own).
use Rattle.std.specs.Prelude.{ℕ, ◌-◌, ◌^◌, List, [], Option}
use Rattle.cy_graph.specs.Graph.{State, empty_state}
use Rattle.cy_index.specs.declared.keys.Pair.{Pair}
use Rattle.cy_engine_views.specs.RegisteredViews.{View, view_among}

-- the graph with its next numbers, the labels and keys that have an index and the views, each in the order in which they were made, the tick,
-- and how many entries a view's history has. How the views are kept up is no part of it: `KeptState` has that beside it
pub record EngineState : Type 0 where
  pub graph : State
  pub indexes : List Pair
  pub views : List View
  pub tick : ℕ
  pub history : ℕ

-- the last tick
abbrev pub last_tick : ℕ
last_tick = 2 ^ 62 - 1

-- an empty graph, no index, no view, tick 0
abbrev pub empty_engine : ℕ → EngineState
empty_engine history = record { graph = empty_state 1 1; indexes = []; views = []; tick = 0; history = history }

-- the view of a name
abbrev pub view_at : List ℕ → EngineState → Option View
view_at name state = view_among name state.views
