-- Runs of the engine with the upkeep of its views (own).
use Rattle.std.specs.Prelude.{◌≡◌, List, [], ◌∷◌}
use Rattle.cy_engine_lines.specs.KeptStep.{KeptState, KeptStep, kept_state_of}
use Rattle.cy_engine_lines.specs.Model.{Machine}
use Rattle.cy_engine.specs.Runs.{Event, accepted}

-- from old, lines may be answered so, one after another, and lead to new, with the views kept up as is promised
abbrev pub KeptRun : KeptState → List Event → KeptState → Type 0
KeptRun old [] new = new ≡ old
KeptRun old (e ∷ events) new = (mid : KeptState) × KeptStep old e.line e.answer e.entries mid × KeptRun mid events new

-- Through these lines the views were kept up as is promised. Refused lines leave no trace in that: with the same plans and numbers of steps the
-- others may be answered as they were without them.
pub record AreKeptThrough (old new : Machine) (events : List Event) : Type 0 where
  pub run : KeptRun (kept_state_of old) events (kept_state_of new)
  pub without_refused : KeptRun (kept_state_of old) (accepted events) (kept_state_of new)

-- that refused lines leave no trace in the upkeep holds of every run
abbrev pub RefusedLinesKeepUpkeep : Type 0
RefusedLinesKeepUpkeep = (old new : KeptState) (events : List Event) → KeptRun old events new → KeptRun old (accepted events) new
