-- The lines of an input (own). A line ends at LF, and a last line without LF counts if it isn't empty.
use Rattle.std.specs.Prelude.{ℕ, ◌==◌, List, [], ◌∷◌, ◌++◌, if◌then◌else◌}
use Rattle.cy_lexer.specs.Line.{longest_line}

-- the most bytes that a line may have, without its LF: those of the longest line that the lexer takes
abbrev pub line_limit : ℕ
line_limit = longest_line

-- LF, which ends a line
abbrev pub line_feed : ℕ
line_feed = 10

-- the lines that end in the bytes, of which the first begins with what was read of it before
abbrev pub ended_lines : List ℕ → List ℕ → List (List ℕ)
ended_lines begun [] = []
ended_lines begun (c ∷ cs) = if c == line_feed then begun ∷ ended_lines [] cs else ended_lines (begun ++ c ∷ []) cs

-- what was read of the line that doesn't end in them
abbrev pub begun_line : List ℕ → List ℕ → List ℕ
begun_line begun [] = begun
begun_line begun (c ∷ cs) = if c == line_feed then begun_line [] cs else begun_line (begun ++ c ∷ []) cs

-- the lines of which the end was read
abbrev pub whole_lines : List ℕ → List (List ℕ)
whole_lines bytes = ended_lines [] bytes

-- the bytes after the last LF
abbrev pub last_line : List ℕ → List ℕ
last_line bytes = begun_line [] bytes

-- a line, if it isn't empty
abbrev pub unless_empty : List ℕ → List (List ℕ)
unless_empty [] = []
unless_empty (c ∷ cs) = (c ∷ cs) ∷ []

-- all lines of an input that is at its end
abbrev pub lines_of : List ℕ → List (List ℕ)
lines_of bytes = whole_lines bytes ++ unless_empty (last_line bytes)

-- the lines that are served once a front of the input was read, and then a piece of it: those that end in the piece; where nothing
-- is read the input is at its end, and its last line is served
abbrev pub lines_after : List ℕ → List ℕ → List (List ℕ)
lines_after front [] = unless_empty (last_line front)
lines_after front (c ∷ piece) = ended_lines (last_line front) (c ∷ piece)
