-- What the buffer of a line has.
use Rattle.std.specs.Prelude.{ℕ, nat_le, List, length, Option, Some, None, if◌then◌else◌}
use Rattle.cy_shell.specs.Lines.{line_limit}

-- a line is buffered up to the limit
abbrev pub buffered : List ℕ → Option (List ℕ)
buffered line = if nat_le (length line) line_limit then Some line else None
