-- Texts, in single or double quotes, and quoted names, in backticks (openCypher 9, lexical rules, narrowed to this profile).
-- 39 is `'`, 34 is `"`, 92 is the backslash and 96 is the backtick.
use Rattle.std.specs.Prelude.{ℕ, zero, suc, ◌+◌, ◌*◌, Bool, not, ◌&&◌, ◌||◌, ◌==◌, if◌then◌else◌, nat_lt, nat_le, List, [], ◌∷◌, Option, Some, None, option_map, option_and_then, Result, Ok, Err}
use Rattle.std.specs.Char.{digit_value}
use Rattle.cy_lexer.specs.declared.faults.LexFault.{LexFault}
use Rattle.cy_lexer.specs.declared.faults.LexFault.TheVariants.{BadEscape}
use Rattle.cy_lexer.specs.Characters.{begins_with}

-- the number that this many hexadecimal digits at the front write, after digits that write `high`; none where one is missing
abbrev pub hexadecimal : ℕ → ℕ → List ℕ → Option ℕ
hexadecimal high zero cs = Some high
hexadecimal high (suc n) [] = None
hexadecimal high (suc n) (c ∷ cs) = if nat_lt (digit_value c) 16 then hexadecimal (high * 16 + digit_value c) n cs else None

-- a number that is the code of a character: no surrogate, and at most 10FFFF
abbrev pub is_character : ℕ → Bool
is_character code = nat_lt code 0xD800 || (nat_le 0xE000 code && nat_lt code 0x11_0000)

-- what one character after a backslash stands for: `\\ \' \"` for themselves, `\b \f \n \r \t` for 8, 12, 10, 13 and 9
abbrev pub plain_escape : ℕ → Option ℕ
plain_escape c =
    if (c == 92) || ((c == 39) || (c == 34)) then Some c else
    if c == 98 then Some 8 else
    if c == 102 then Some 12 else
    if c == 110 then Some 10 else
    if c == 114 then Some 13 else
    if c == 116 then Some 9 else None

-- the character whose code this many hexadecimal digits give, and how many characters that takes
abbrev pub coded_escape : ℕ → List ℕ → Option (ℕ × ℕ)
coded_escape digits cs = option_and_then (λ code. if is_character code then Some (code, digits) else None) (hexadecimal 0 digits cs)

-- one character more was taken
abbrev pub and_one : ℕ × ℕ → ℕ × ℕ
and_one p = (p.0, suc p.1)

-- The escape after a backslash: the character that it stands for, and how many characters it takes; none where it is bad.
-- 117 is `u`, with four digits, and 85 is `U`, with eight.
abbrev pub escape : List ℕ → Option (ℕ × ℕ)
escape [] = None
escape (c ∷ cs) =
    if c == 117 then option_map and_one (coded_escape 4 cs) else
    if c == 85 then option_map and_one (coded_escape 8 cs) else
    option_map (λ d. (d, 1)) (plain_escape c)

-- the character c, with cs after it, closes what the quote opened; a doubled backtick doesn't
abbrev pub closes : ℕ → ℕ → List ℕ → Bool
closes quote c cs = (c == quote) && not ((quote == 96) && begins_with 96 cs)

-- The character that c, with cs after it, stands for inside of the quotes, and how many characters of cs it takes.
-- A doubled backtick stands for one. In a text a backslash begins an escape; in a quoted name it doesn't.
abbrev pub character : ℕ → ℕ → List ℕ → Option (ℕ × ℕ)
character quote c cs =
    if quote == 96 then Some (c, if c == 96 then 1 else 0) else
    if c == 92 then escape cs else Some (c, 0)

-- one character more was passed
abbrev pub one_more : {E : Type 0} → Result ℕ E → Result ℕ E
one_more (Ok n) = Ok (suc n)
one_more (Err e) = Err e

-- How many characters stand after an opening quote, the closing one counted, or the fault that reading from the left
-- meets: a bad escape at its backslash, or unclosed at the end. The first skip characters belong to the character before
-- them, and place has the offset at which the characters that are left begin.
abbrev pub quoted_len : (List ℕ → ℕ) → LexFault → ℕ → ℕ → List ℕ → Result ℕ LexFault
quoted_len place unclosed quote skip [] = Err unclosed
quoted_len place unclosed quote (suc skip) (c ∷ cs) = one_more (quoted_len place unclosed quote skip cs)
quoted_len place unclosed quote zero (c ∷ cs) =
    if closes quote c cs then Ok 1 else
    elim (character quote c cs) [
      | Some p ↦ one_more (quoted_len place unclosed quote p.1 cs)
      | None ↦ Err (BadEscape (place (c ∷ cs)))
    ]

-- the characters that stand after an opening quote, up to the closing one, each escape and each doubled backtick as
-- what it stands for; the first skip characters belong to the character before them
abbrev pub unquoted : ℕ → ℕ → List ℕ → List ℕ
unquoted quote skip [] = []
unquoted quote (suc skip) (c ∷ cs) = unquoted quote skip cs
unquoted quote zero (c ∷ cs) =
    if closes quote c cs then [] else
    elim (character quote c cs) [
      | Some p ↦ p.0 ∷ unquoted quote p.1 cs
      | None ↦ []
    ]

-- the characters between the quote at the front and the next one that closes it
abbrev pub between_quotes : List ℕ → List ℕ
between_quotes [] = []
between_quotes (quote ∷ cs) = unquoted quote 0 cs
