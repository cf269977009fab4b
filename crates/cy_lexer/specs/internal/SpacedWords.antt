-- The token of a word, and texts that are made of words. 32 is the space, 39 the single quote and 96 the backtick.
use Rattle.std.specs.Prelude.{◌≡◌, ⊤, ℕ, Bool, true, false, not, ◌&&◌, ◌||◌, if◌then◌else◌, nat_le, List, [], ◌∷◌, ◌++◌, ◌+◌, length, encode_utf8_all}
use Rattle.std.specs.Str.{all_scalars}
use Rattle.std.specs.Fmt.{decimal}
use Rattle.cy_lexer.specs.declared.symbols.Symbol.{Symbol}
use Rattle.cy_lexer.specs.declared.symbols.Symbol.TheVariants as sign
use Rattle.cy_lexer.specs.declared.tokens.TokenKind.{TokenKind}
use Rattle.cy_lexer.specs.declared.tokens.TokenKind.TheVariants as kind
use Rattle.cy_lexer.specs.declared.tokens.Token.{Token}
use Rattle.cy_lexer.specs.Numbers.{greatest_number}
use Rattle.cy_lexer.specs.Spans.{slice_of}
use Rattle.cy_lexer.specs.Keywords.{spelling}
use Rattle.cy_lexer.specs.Words.{Word, keyword, name, text, number, symbol, doubled, escaped, signs}

-- the kind of the word's token: a name stands in backticks
abbrev pub kind_of : Word → TokenKind
kind_of (keyword k) = kind.Keyword k
kind_of (name cs) = kind.QuotedName
kind_of (text cs) = kind.Text
kind_of (number n) = kind.Number n
kind_of (symbol s) = kind.Symbol s

-- The characters of a word: a keyword in capitals, a name in backticks, a text in single quotes, a number in decimal
-- digits.
abbrev pub characters : Word → List ℕ
characters (keyword k) = spelling k
characters (name cs) = 96 ∷ (doubled cs ++ 96 ∷ [])
characters (text cs) = 39 ∷ (escaped cs ++ 39 ∷ [])
characters (number n) = decimal n
characters (symbol s) = signs s

-- the characters that a word stands for: a name and a text without their quotes, each other word as it is written
abbrev pub meant : Word → List ℕ
meant (keyword k) = spelling k
meant (name cs) = cs
meant (text cs) = cs
meant (number n) = decimal n
meant (symbol s) = signs s

-- what can be written: a name isn't empty, names and texts have characters of Unicode, a number isn't too large
abbrev pub is_word : Word → Bool
is_word (keyword k) = true
is_word (name []) = false
is_word (name (c ∷ cs)) = all_scalars (c ∷ cs)
is_word (text cs) = all_scalars cs
is_word (number n) = nat_le n greatest_number
is_word (symbol s) = true

-- the first symbol and the beginning of the second one are another symbol, or open a comment
abbrev pub join : Symbol → Symbol → Bool
join sign.Dot sign.Dot = true
join sign.Dot sign.DotDot = true
join sign.Less sign.Greater = true
join sign.Less sign.GreaterOrEqual = true
join sign.Less sign.Equal = true
join sign.Greater sign.Equal = true
join sign.Slash sign.Slash = true
join sign.Slash sign.Star = true
join s t = false

-- The second word may stand directly after the first. Letters and digits would go on with a keyword and spoil a number,
-- as a dot may; a backtick would go on with a name.
abbrev pub may_touch : Word → Word → Bool
may_touch (keyword k) (keyword l) = false
may_touch (keyword k) (number n) = false
may_touch (number m) (keyword l) = false
may_touch (number m) (number n) = false
may_touch (number m) (symbol sign.Dot) = false
may_touch (name cs) (name ds) = false
may_touch (symbol s) (symbol t) = not (join s t)
may_touch w v = true

-- the characters of words, each with one space after it where it is marked so
abbrev pub space : Bool → List ℕ
space spaced = if spaced then 32 ∷ [] else []

abbrev pub written : List (Word × Bool) → List ℕ
written [] = []
written (w ∷ ws) = characters w.0 ++ (space w.1 ++ written ws)

-- all can be written, and the next word may stand directly after each that no space follows
abbrev pub may_touch_next : Word → List (Word × Bool) → Bool
may_touch_next w [] = true
may_touch_next w (v ∷ vs) = may_touch w v.0

abbrev pub are_words : List (Word × Bool) → Bool
are_words [] = true
are_words (w ∷ ws) = is_word w.0 && ((w.1 || may_touch_next w.0 ws) && are_words ws)

-- the words vs may stand after the word w and the words ws
abbrev pub may_follow_last : Word × Bool → List (Word × Bool) → List (Word × Bool) → Bool
may_follow_last w [] vs = w.1 || may_touch_next w.0 vs
may_follow_last w (u ∷ us) vs = may_follow_last u us vs

-- the words vs may stand after the words ws
abbrev pub may_follow : List (Word × Bool) → List (Word × Bool) → Bool
may_follow [] vs = true
may_follow (w ∷ ws) vs = may_follow_last w ws vs

-- the tokens of words that begin at a byte offset, one for each word, in order
abbrev pub bytes_of : Word → List ℕ
bytes_of w = encode_utf8_all (characters w)

abbrev pub tokens_at : ℕ → List (Word × Bool) → List Token
tokens_at at [] = []
tokens_at at (w ∷ ws) =
    let end = at + length (bytes_of w.0) in
    record { kind = kind_of w.0; start = at; end = end } ∷ tokens_at (end + length (space w.1)) ws

-- the token of a line is that of the word: its kind, and the slice that it spans
abbrev pub IsTokenOf : List ℕ → Token → Word → Type 0
IsTokenOf line token w = (token.kind ≡ kind_of w) × (slice_of line token ≡ bytes_of w)

-- the tokens of a line are those of the words, one for each, in order
abbrev pub AreTokensOf : List ℕ → List Token → List (Word × Bool) → Type 0
AreTokensOf line [] [] = ⊤
AreTokensOf line (t ∷ ts) (w ∷ ws) = IsTokenOf line t w.0 × AreTokensOf line ts ws
AreTokensOf line ts ws = ⊥
