-- How far the code has read. Only contracts of the lexer's private functions cite these words; no definition of the
-- language does.
use Rattle.std.specs.Prelude.{◌≡◌, ℕ, ◌-◌, ◌≤◌, ◌^◌, Bool, List, drop, length, chars, encode_utf8_all, Option, Some, None, Result, Ok, Err}
use Rattle.std.specs.Borrow.{Bor}
use Rattle.std.specs.Char.{to_ascii_uppercase}
use Rattle.cy_lexer.specs.declared.keywords.Keyword.{Keyword}
use Rattle.cy_lexer.specs.declared.tokens.TokenKind.{TokenKind}
use Rattle.cy_lexer.specs.Characters.{begins_with}
use Rattle.cy_lexer.specs.Keywords.{spelling}

-- where the characters that are left begin, in a line of this many bytes: the code counts from the line's end
abbrev pub offset : ℕ → List ℕ → ℕ
offset total left = total - length (encode_utf8_all left)

-- what was read at the front of a text, and the characters that are left after it: as the code has it, and by how many
-- of the text's characters were taken
abbrev pub seen : {A : Type 0} → A × Bor (List ℕ) → A × List ℕ
seen p = (p.0, chars p.1.now)

abbrev pub taken : {A : Type 0} → List ℕ → A × ℕ → A × List ℕ
taken cs p = (p.0, drop p.1 cs)

-- what was read of a gap, and of a token of a kind, where the code has only what is left
abbrev pub seen_gap : Bor (List ℕ) → Option TokenKind × List ℕ
seen_gap left = (None, chars left.now)

abbrev pub seen_token : TokenKind → Bor (List ℕ) → Option TokenKind × List ℕ
seen_token k left = (Some k, chars left.now)

abbrev pub map_ok : {A B E : Type 0} → (A → B) → Result A E → Result B E
map_ok f (Ok x) = Ok (f x)
map_ok f (Err e) = Err e

-- what 64 bits hold of a number: it, or nothing where it is too large for them
abbrev pub IsHeld : Option ℕ → ℕ → Type 0
IsHeld (Some held) n = held ≡ n
IsHeld None n = 2 ^ 64 ≤ n

-- the keyword begins with the letter, whatever its case
abbrev pub begins_keyword : ℕ → Keyword → Bool
begins_keyword letter keyword = begins_with (to_ascii_uppercase letter) (spelling keyword)
