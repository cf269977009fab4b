-- Lines that were answered so far.
use Rattle.std.specs.Prelude.{◌≡◌, ℕ, List, map}
use Rattle.cy_engine_lines.specs.EngineStep.{Answer}
use Rattle.cy_engine.specs.KeptRuns.{KeptRun}
use Rattle.cy_engine_lines.specs.KeptStep.{kept_state_of}
use Rattle.cy_engine_lines.specs.Model.{Machine}
use Rattle.cy_engine.specs.Runs.{Event, last_entries}

-- these lines may be answered so, with the views kept up, and the machine then has the entries of the last one
pub record RunsKept (old new : Machine) (lines : List (List ℕ)) (answers : List Answer) : Type 0 where
  pub events : List Event
  pub lines_are : map (λ e. e.line) events ≡ lines
  pub answers_are : map (λ e. e.answer) events ≡ answers
  pub run : KeptRun (kept_state_of old) events (kept_state_of new)
  pub entries_are : new.entries ≡ last_entries old.entries events
