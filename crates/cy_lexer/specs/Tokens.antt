-- The tokens of a text (openCypher 9, lexical rules, narrowed to this profile; the faults and their
-- offsets are own, which means that they are this profile's choice, not in any standard).
-- A text is the list of its characters. Places in it are byte offsets.
use Rattle.std.specs.Prelude.{ℕ, zero, suc, Bool, false, ◌&&◌, ◌||◌, ◌==◌, if◌then◌else◌, nat_lt, List, [], ◌∷◌, drop, length, take_while, Option, Some, None, option_map, Result, Ok, Err, chars, encode_utf8_all}
use Rattle.std.specs.Char.{is_whitespace, is_ascii_digit}
use Rattle.std.specs.List.{prefix_len}
use Rattle.cy_lexer.specs.declared.characters.Run.TheVariants as run
use Rattle.cy_lexer.specs.declared.faults.LexFault.{LexFault}
use Rattle.cy_lexer.specs.declared.faults.LexFault.TheVariants.{BadCharacter, UnclosedText, UnclosedComment, UnclosedName, BadNumber, NumberTooLarge, LineTooLong}
use Rattle.cy_lexer.specs.declared.tokens.TokenKind.{TokenKind}
use Rattle.cy_lexer.specs.declared.tokens.TokenKind.TheVariants as kind
use Rattle.cy_lexer.specs.declared.tokens.Token.{Token}
use Rattle.cy_lexer.specs.Keywords.{keyword_of}
use Rattle.cy_lexer.specs.Line.{longest_line}
use Rattle.cy_lexer.specs.Symbols.{symbol}
use Rattle.cy_lexer.specs.Characters.{offset_in, begins_with, starts_name, goes_on}
use Rattle.cy_lexer.specs.Numbers.{number_of, greatest_number, is_bad_number}
use Rattle.cy_lexer.specs.Quoted.{closes, quoted_len, between_quotes}

-- A piece of a text is a token, of a kind, or a gap between tokens, of no kind. It begins with a character, and takes so
-- many more.
abbrev pub Piece : Type 0
Piece = Option TokenKind × ℕ

infixl 10 ◌>>=◌
abbrev pub ◌>>=◌ : {A B : Type 0} → Result A LexFault → (A → Result B LexFault) → Result B LexFault
(Ok x) >>= f = f x
(Err e) >>= f = Err e

-- a name is a keyword, whatever the case of its ASCII letters, or not
abbrev pub word_kind : List ℕ → TokenKind
word_kind cs = elim (keyword_of (encode_utf8_all cs)) [ Some k ↦ kind.Keyword k | None ↦ kind.Name ]

-- a name: its characters go on as long as they have XID_Continue
abbrev pub word_piece : ℕ → List ℕ → Piece
word_piece c cs = (Some (word_kind (c ∷ take_while (goes_on run.Name) cs)), prefix_len (goes_on run.Name) cs)

-- A number, at its first digit c: all its digits are read before a fault is reported, a bad one before one that is too large.
abbrev pub number_piece : ℕ → ℕ → List ℕ → Result Piece LexFault
number_piece at c cs =
    let more = prefix_len (goes_on run.Digits) cs in
    let number = number_of 0 (c ∷ take_while (goes_on run.Digits) cs) in
    if is_bad_number c cs (drop more cs) then Err (BadNumber at) else
    if nat_lt greatest_number number then Err (NumberTooLarge at) else Ok (Some (kind.Number number), more)

-- how many characters after a `/*` belong to the comment: up to and with the next `*/`
abbrev pub block_len : List ℕ → Option ℕ
block_len [] = None
block_len (c ∷ cs) = if (c == 42) && begins_with 47 cs then Some 2 else option_map suc (block_len cs)

-- a comment of one line goes on to the next LF, or to the end of the text
abbrev pub line_comment : List ℕ → Piece
line_comment cs = (None, prefix_len (goes_on run.Line) cs)

-- a comment between `/*` and `*/`, where cs begins with its first `*`
abbrev pub block_comment : ℕ → List ℕ → Result Piece LexFault
block_comment at cs = elim (block_len (drop 1 cs)) [ Some n ↦ Ok (None, suc n) | None ↦ Err (UnclosedComment at) ]

-- the quote at the front closes what the same quote opened just before it
abbrev pub closes_at_once : ℕ → List ℕ → Bool
closes_at_once quote [] = false
closes_at_once quote (c ∷ cs) = closes quote c cs

-- a name in backticks; one with nothing in it is a bad character
abbrev pub quoted_name : (List ℕ → ℕ) → ℕ → List ℕ → Result Piece LexFault
quoted_name place at cs =
    if closes_at_once 96 cs then Err (BadCharacter at) else
    (quoted_len place (UnclosedName at) 96 0 cs >>= λ n. Ok (Some kind.QuotedName, n))

-- a text, in quotes
abbrev pub text_piece : (List ℕ → ℕ) → ℕ → ℕ → List ℕ → Result Piece LexFault
text_piece place at quote cs = quoted_len place (UnclosedText at) quote 0 cs >>= λ n. Ok (Some kind.Text, n)

-- a symbol, or no beginning of a token
abbrev pub symbol_piece : ℕ → ℕ → List ℕ → Result Piece LexFault
symbol_piece at c cs = elim (symbol c cs) [ Some p ↦ Ok (Some (kind.Symbol p.0), p.1) | None ↦ Err (BadCharacter at) ]

-- The token at the front of a text that begins with the character c and goes on with cs, the longest there is, or its
-- fault, where the text begins at the offset at. 96 is the backtick, 39 and 34 are the quotes.
abbrev pub token_piece : (List ℕ → ℕ) → ℕ → ℕ → List ℕ → Result Piece LexFault
token_piece place at c cs =
    if starts_name c then Ok (word_piece c cs) else
    if is_ascii_digit c then number_piece at c cs else
    if c == 96 then quoted_name place at cs else
    if (c == 39) || (c == 34) then text_piece place at c cs else
    symbol_piece at c cs

-- a `/` and a second character open a comment
abbrev pub opens_comment : ℕ → ℕ → List ℕ → Bool
opens_comment second c cs = (c == 47) && begins_with second cs

-- The piece at the front: white space, a comment or a token. 47 is `/` and 42 is `*`.
unfoldable pub piece : (List ℕ → ℕ) → ℕ → List ℕ → Result Piece LexFault
piece place c cs =
    if is_whitespace c then Ok (None, 0) else
    if opens_comment 47 c cs then Ok (line_comment cs) else
    if opens_comment 42 c cs then block_comment (place (c ∷ cs)) cs else
    token_piece place (place (c ∷ cs)) c cs

-- the token of this kind, if any, and then the others: its span goes from its first character to after its last one
abbrev pub with_token : (List ℕ → ℕ) → List ℕ → Piece → List Token → List Token
with_token place cs p ts = elim p.0 [
  | Some k ↦ record { kind = k; start = place cs; end = place (drop (suc p.1) cs) } ∷ ts
  | None ↦ ts
]

-- The tokens of the characters that are left, or the first fault from the left. The first skip characters belong to the piece
-- before them, and place has the offset at which the characters that are left begin.
unfoldable pub tokens_from : (List ℕ → ℕ) → ℕ → List ℕ → Result (List Token) LexFault
tokens_from place skip [] = Ok []
tokens_from place (suc skip) (c ∷ cs) = tokens_from place skip cs
tokens_from place zero (c ∷ cs) = piece place c cs >>= λ p. (tokens_from place p.1 cs >>= λ ts. Ok (with_token place (c ∷ cs) p ts))

-- the tokens of a line, which is given by its bytes, or its fault
unfoldable pub tokens_of : List ℕ → Result (List Token) LexFault
tokens_of line = if nat_lt longest_line (length line) then Err LineTooLong else tokens_from (offset_in (chars line)) 0 (chars line)

-- the number that a token of this kind denotes
abbrev pub number_in : TokenKind → Option ℕ
number_in (kind.Number n) = Some n
number_in _ = None

-- the characters that a token of this kind stands for, whose characters are cs: a quoted name and a text without their
-- quotes, each other token as it is written
abbrev pub denoted : TokenKind → List ℕ → List ℕ
denoted kind.QuotedName cs = between_quotes cs
denoted kind.Text cs = between_quotes cs
denoted _ cs = cs
