-- What stands between the tokens of a line: white space and comments, and nothing else (openCypher 9, lexical rules, narrowed to
-- this profile). This is said of a whole line at once, and takes nothing from how a line is read. 10 is LF, 42 is `*` and 47
-- is `/`.
use Rattle.std.specs.Prelude.{◌≡◌, ℕ, ◌+◌, Bool, false, ◌&&◌, ◌||◌, ◌==◌, IsTrue, IsFalse, List, [], ◌∷◌, ◌++◌, length, encode_utf8_all}
use Rattle.std.specs.Char.{is_whitespace}
use Rattle.std.specs.List.{list_any}
use Rattle.cy_lexer.specs.declared.tokens.Token.{Token}
use Rattle.cy_lexer.specs.Characters.{begins_with}

-- a LF stands somewhere in the text
abbrev pub has_line_end : List ℕ → Bool
has_line_end cs = list_any (λ c. c == 10) cs

-- a `*/` stands somewhere in the text
abbrev pub has_comment_end : List ℕ → Bool
has_comment_end [] = false
has_comment_end (c ∷ cs) = ((c == 42) && begins_with 47 cs) || has_comment_end cs

-- White space and comments, one after the other. A comment of one line goes on to the next LF, which stands after it.
-- The other comment goes on to the next `*/`, and has no such end inside.
pub data IsGap : List ℕ → Type 0 where
  nothing : IsGap []
  blank : (c : ℕ) (gap : List ℕ) → IsTrue (is_whitespace c) → IsGap gap → IsGap (c ∷ gap)
  line_comment : (inside gap : List ℕ) → IsFalse (has_line_end inside) → IsGap gap
      → IsGap (47 ∷ 47 ∷ (inside ++ 10 ∷ gap))
  block_comment : (inside gap : List ℕ) → IsFalse (has_comment_end inside) → IsGap gap
      → IsGap (47 ∷ 42 ∷ (inside ++ 42 ∷ 47 ∷ gap))

-- The characters cs, which begin at a byte offset, are a gap, the characters of the first token, a gap, those of the
-- next one, and so on, and each span is where its token's characters stand. What stands after the last token is a gap
-- once a LF ends the line, so a comment of one line may go on to the end.
abbrev pub LeavesGaps : ℕ → List ℕ → List Token → Type 0
LeavesGaps at cs [] = IsGap (cs ++ 10 ∷ [])
LeavesGaps at cs (t ∷ ts) =
    (gap : List ℕ) × (word : List ℕ) × (rest : List ℕ) × (cs ≡ gap ++ (word ++ rest)) × IsGap gap
    × (t.start ≡ at + length (encode_utf8_all gap)) × (t.end ≡ t.start + length (encode_utf8_all word))
    × LeavesGaps t.end rest ts
