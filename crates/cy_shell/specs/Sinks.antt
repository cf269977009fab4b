-- What a sink hands on. (own)
use Rattle.std.specs.Prelude.{◌≡◌}
use Rattle.cy_shell.specs.declared.streams.Sink.{Ghosts}

-- where all that was written was handed on, so is all that is written now
abbrev pub HandsAllOn : {W : Type 0} → Ghosts W → W → W → Type 0
HandsAllOn sink old new = sink.handed_on old ≡ sink.written old → sink.handed_on new ≡ sink.written new
