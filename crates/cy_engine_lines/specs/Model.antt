-- What an engine holds between two lines, and the state that it stands for (own).
use Rattle.std.specs.Prelude.{ℕ, List, [], map}
use Rattle.cy_graph.specs.Graph.{State, empty_state}
use Rattle.cy_index.specs.declared.keys.Pair.{Pair}
use Rattle.cy_engine_views.specs.HeldViews.{Held, view_of}
use Rattle.cy_engine_views.specs.RegisteredViews.{Entries}
use Rattle.cy_engine_lines.specs.State.{EngineState}

-- an engine between two lines, with the entries that the last line made
pub record Machine : Type 0 where
  pub graph : State
  pub indexes : List Pair
  pub views : List Held
  pub tick : ℕ
  pub history : ℕ
  pub entries : Entries

-- the state of an engine
abbrev pub state_of : Machine → EngineState
state_of m = record { graph = m.graph; indexes = m.indexes; views = map view_of m.views; tick = m.tick; history = m.history }

-- a new engine: an empty graph, no index, no view, tick 0 and no entries
abbrev pub new_machine : ℕ → Machine
new_machine history = record { graph = empty_state 1 1; indexes = []; views = []; tick = 0; history = history; entries = [] }
