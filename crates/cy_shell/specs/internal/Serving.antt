-- What a run goes on with, by the engine that it has.
use Rattle.std.specs.Prelude.{Bool}
use Rattle.cy_engine_lines.specs.KeptStep.{kept_state_of}
use Rattle.cy_engine_lines.specs.Model.{Machine}
use Rattle.cy_shell.specs.Runs.{Serving}

abbrev pub serving : Machine → Bool → Serving
serving machine feed = record { engine = kept_state_of machine; feed = feed }
