-- The machine that the fields of an engine stand for (own).
use Rattle.std.specs.Prelude.{ℕ}
use Rattle.cy_index.specs.Index.{StoreState}
use Rattle.cy_engine_views.specs.declared.views.Views.{Views}
use Rattle.cy_engine_views.specs.RegisteredViews.{Entries}
use Rattle.cy_engine_views.specs.Upkeep.{held_in}
use Rattle.cy_engine_lines.specs.Model.{Machine}

-- the graph as it is with its indexes, and the views in the order in which they were made
abbrev pub machine_of : StoreState → Views → ℕ → ℕ → Entries → Machine
machine_of store views tick history entries =
    record { graph = store.graph.now; indexes = store.chosen; views = held_in views; tick = tick; history = history; entries = entries }
