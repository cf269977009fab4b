-- Spans: where the tokens of a line stand in it, by byte offsets (own: this profile's choice, not in any standard).
use Rattle.std.specs.Prelude.{ℕ, ◌<◌, ◌≤◌, List, [], ◌∷◌, slice_range, IsCharBoundary}
use Rattle.cy_lexer.specs.declared.tokens.Token.{Token}

-- the token's span is a slice of the line's text, and not empty
abbrev pub IsSpanOf : List ℕ → Token → Type 0
IsSpanOf line token = (token.start < token.end) × IsCharBoundary line token.start × IsCharBoundary line token.end

-- the slice of the line that the token spans
abbrev pub slice_of : List ℕ → Token → List ℕ
slice_of line token = slice_range line token.start token.end

-- the tokens' spans lie in the line between two places, each after the one before it
abbrev pub AreSpansOf : List ℕ → ℕ → List Token → ℕ → Type 0
AreSpansOf line from [] to = from ≤ to
AreSpansOf line from (t ∷ ts) to = (from ≤ t.start) × IsSpanOf line t × AreSpansOf line t.end ts to
