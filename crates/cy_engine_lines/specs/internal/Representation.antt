-- What holds of what the engine keeps between lines.
use Rattle.std.specs.Prelude.{◌≡◌, ℕ, ◌≤◌, None}
use Rattle.cy_graph.specs.Graph.{Versions}
use Rattle.cy_engine_views.specs.declared.views.Views.{Views}
use Rattle.cy_engine_views.specs.Upkeep.{StandFor}
use Rattle.cy_engine_lines.specs.State.{last_tick}

-- no change is open between lines, the views stand for the graph at the tick, and the limits hold
pub record IsAtRest (graph : Versions) (views : Views) (tick history : ℕ) : Type 0 where
  pub closed : graph.was ≡ None
  pub stand : StandFor views graph.now.content tick
  pub in_time : tick ≤ last_tick
  pub some : 1 ≤ history
  pub most : history ≤ 4096
