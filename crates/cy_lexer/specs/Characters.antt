-- What is asked of the characters of a line (openCypher 9, lexical rules, narrowed to this profile). A character is its code
-- point: 10 is LF, 46 is `.` and 95 is `_`.
use Rattle.std.specs.Prelude.{ℕ, Bool, false, not, ◌&&◌, ◌||◌, ◌==◌, if◌then◌else◌, List, [], ◌∷◌, length, nat_eq}
use Rattle.std.specs.Char.{is_ascii_digit}
use Rattle.std.specs.Cmp.Lexicographic.{pointwise}
use Rattle.std.specs.Str.{encode_utf8_all}
use Rattle.unicode_ident.specs.Ident.{is_xid_start, is_xid_continue}
use Rattle.cy_lexer.specs.declared.characters.Run.{Run}
use Rattle.cy_lexer.specs.declared.characters.Run.TheVariants.{Name, Digits, Line, Quoted}

-- the characters of a line that stand before those that are left of it
abbrev pub before : List ℕ → List ℕ → List ℕ
before [] left = []
before (c ∷ cs) left = if pointwise nat_eq (c ∷ cs) left then [] else c ∷ before cs left

-- the byte offset at which the characters that are left of a line begin: after the bytes of those that stand before them
abbrev pub offset_in : List ℕ → List ℕ → ℕ
offset_in line left = length (encode_utf8_all (before line left))

-- the text begins with this character
abbrev pub begins_with : ℕ → List ℕ → Bool
begins_with d [] = false
begins_with d (c ∷ cs) = c == d

-- a name begins with a character that has XID_Start, or with `_`
abbrev pub starts_name : ℕ → Bool
starts_name c = is_xid_start c || (c == 95)

-- a character that goes on with a name (it has XID_Continue), with a number, or with a comment of one line, or that
-- neither ends nor escapes anything inside of quotes (92 is the backslash)
abbrev pub goes_on : Run → ℕ → Bool
goes_on Name c = is_xid_continue c
goes_on Digits c = is_ascii_digit c
goes_on Line c = not (c == 10)
goes_on (Quoted quote) c = not (c == quote) && not (c == 92)
