-- What single tokens of a line stand for (openCypher 9, grammar, narrowed to this profile). The line is its bytes.
use Rattle.std.specs.Prelude.{ℕ, zero, suc, ℤ, pos, negsuc, Bool, true, false, not, ◌&&◌, ◌||◌, if◌then◌else◌, nat_lt, nat_le, ◌-◌, List, [], length, map, slice_index, slice_get, Option, Some, None, chars, encode_utf8_all}
use Rattle.std.specs.Char.{to_ascii_lowercase}
use Rattle.cy_lexer.specs.declared.tokens.TokenKind.{TokenKind}
use Rattle.cy_lexer.specs.declared.tokens.TokenKind.TheVariants as kind
use Rattle.cy_lexer.specs.declared.tokens.Token.{Token}
use Rattle.cy_lexer.specs.declared.symbols.Symbol.TheVariants as sign
use Rattle.cy_lexer.specs.Spans.{slice_of}
use Rattle.cy_lexer.specs.Tokens.{denoted}
use Rattle.cy_trees.specs.declared.expressions.BinaryOperator.{BinaryOperator}
use Rattle.cy_trees.specs.declared.expressions.BinaryOperator.TheVariants as operator
use Rattle.cy_trees.specs.declared.expressions.Comparator.{Comparator}
use Rattle.cy_trees.specs.declared.expressions.Comparator.TheVariants as comparator
use Rattle.cy_trees.specs.Trees.{Name}

-- a place where a character of the line begins, or where the line ends
abbrev pub is_boundary : List ℕ → ℕ → Bool
is_boundary line at =
    nat_le at (length line) && (not (nat_lt at (length line)) || nat_lt (slice_index line at) 128 || nat_le 192 (slice_index line at))

-- the token has a place in the line
abbrev pub is_within : List ℕ → Token → Bool
is_within line t = nat_lt t.start t.end && is_boundary line t.start && is_boundary line t.end

-- the bytes of what a token denotes: a quoted name and a text without their quotes, any other token as it is written;
-- nothing, where the token has no place in the line
unfoldable pub denotes : List ℕ → Token → Name
denotes line t = if is_within line t then encode_utf8_all (denoted t.kind (chars (slice_of line t))) else []

-- a name that is no keyword, or a quoted name
abbrev pub is_name : TokenKind → Bool
is_name kind.Name = true
is_name kind.QuotedName = true
is_name _ = false

-- any name, keywords too
abbrev pub is_word : TokenKind → Bool
is_word (kind.Keyword k) = true
is_word k = is_name k

-- a text with its ASCII letters in lower case
abbrev pub lowered : Name → Name
lowered = map to_ascii_lowercase

-- the number that a literal after a `-` stands for
abbrev pub negated : ℕ → ℤ
negated zero = pos 0
negated (suc n) = negsuc n

abbrev pub comparator_of : TokenKind → Option Comparator
comparator_of (kind.Symbol sign.Equal) = Some comparator.Equal
comparator_of (kind.Symbol sign.NotEqual) = Some comparator.NotEqual
comparator_of (kind.Symbol sign.Less) = Some comparator.Less
comparator_of (kind.Symbol sign.LessOrEqual) = Some comparator.LessOrEqual
comparator_of (kind.Symbol sign.Greater) = Some comparator.Greater
comparator_of (kind.Symbol sign.GreaterOrEqual) = Some comparator.GreaterOrEqual
comparator_of _ = None

abbrev pub sum_operator : TokenKind → Option BinaryOperator
sum_operator (kind.Symbol sign.Plus) = Some operator.Add
sum_operator (kind.Symbol sign.Minus) = Some operator.Subtract
sum_operator _ = None

abbrev pub product_operator : TokenKind → Option BinaryOperator
product_operator (kind.Symbol sign.Star) = Some operator.Multiply
product_operator (kind.Symbol sign.Slash) = Some operator.Divide
product_operator (kind.Symbol sign.Percent) = Some operator.Remainder
product_operator _ = None

-- the text of a token as it stands in the line; nothing, where it has no place in the line
unfoldable pub slice_in : List ℕ → Token → Name
slice_in line t = if is_within line t then slice_of line t else []

abbrev pub spanning : List ℕ → Option Token → Option Token → Name
spanning line (Some first) (Some last) = slice_in line (record { kind = first.kind; start = first.start; end = last.end })
spanning line _ _ = []

-- the text of the line from the first of the tokens to the last one
abbrev pub written : List ℕ → List Token → Name
written line own = spanning line (slice_get own 0) (slice_get own (length own - 1))
