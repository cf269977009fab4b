-- The tokens of words have their places in the line.
use Rattle.std.proofs.Common.{◌≡◌, ℕ, ◌+◌, ◌≤◌, ◌<◌, Bool, true, false, ◌&&◌, ◌||◌, List, [], ◌∷◌, ◌++◌, length, get_or, IsCharBoundary, refl, sym, ap, ◌∙◌, subst, append_assoc, append-nil, length-append, arith}
use Rattle.std.specs.Prelude.{⊤}
use Rattle.std.specs.Str.{encode_utf8_all}
use Rattle.std.proofs.lemmas.Bool.{and_parts}
use Rattle.std.proofs.lemmas.Bool.Decides.{nat_tests}
use Rattle.std.proofs.lemmas.List.{get_or-append-add}
use Rattle.std.proofs.lemmas.Str.{encodes-append, encode_ascii, IsCharBoundary-end, IsCharBoundary-before_ascii}
use Rattle.cy_lexer.specs.declared.symbols.Symbol.{Symbol}
use Rattle.cy_lexer.specs.declared.symbols.Symbol.TheVariants as sign
use Rattle.cy_lexer.specs.declared.tokens.Token.{Token}
use Rattle.cy_lexer.specs.Spans.{AreSpansOf}
use Rattle.cy_lexer.specs.Words.{Word, doubled, escaped}
use Rattle.cy_lexer.specs.Words as words
use Rattle.cy_lexer.specs.internal.SpacedWords.{is_word, space, written, may_touch_next, are_words, bytes_of, tokens_at, characters}
use Rattle.cy_lexer.proofs.WordsPiecesLemmas.{spelling-front, decimal-front}
use Rattle.cy_lexer.proofs.WordsLemmas.{bytes_of_space as encodes-space}
use Rattle.cy_trees.specs.Show.{word_text}
use Rattle.cy_parser_grammar.proofs.WithinLemmas.{within-span}
use Rattle.cy_parser_grammar.proofs.PiecesLemmas.{encodes-characters, AreTokens}
use Rattle.cy_parser_grammar.proofs.Stands.{Stands, nothing_stands, word_stands}

-- what doesn't begin in the middle of a character
abbrev IsFresh : List ℕ → Type 0
IsFresh [] = ⊤
IsFresh (c ∷ cs) = c < 128

-- a word begins with an ASCII character
abbrev Front : List ℕ → Type 0
Front bytes = (c : ℕ) × (more : List ℕ) × (bytes ≡ c ∷ more) × (c < 128)

signs-front : (s : Symbol) → Front (word_text (words.symbol s))
signs-front sign.Dot = (_, _, refl, omega arith)
signs-front s = (_, _, refl, omega arith)

word-front : (w : Word) → is_word w ≡ true → Front (bytes_of w)
word-front (words.keyword k) is =
    let front = spelling-front k in
    let letter = front.3.0 in
    (front.0, front.1, encodes-characters (words.keyword k) is ∙ front.2, grind (arith, nat_tests))
word-front (words.name cs) is = (96, encode_utf8_all (doubled cs ++ 96 ∷ []), ap (λ (x : List ℕ). x ++ encode_utf8_all (doubled cs ++ 96 ∷ [])) (encode_ascii 96 (omega arith)), omega arith)
word-front (words.text cs) is = (39, encode_utf8_all (escaped cs ++ 39 ∷ []), ap (λ (x : List ℕ). x ++ encode_utf8_all (escaped cs ++ 39 ∷ [])) (encode_ascii 39 (omega arith)), omega arith)
word-front (words.number n) is =
    let front = decimal-front n is in
    let digit = front.3 in
    (front.0, front.1, encodes-characters (words.number n) is ∙ front.2, grind (arith, nat_tests))
word-front (words.symbol s) is =
    let front = signs-front s in
    (front.0, front.1, encodes-characters (words.symbol s) is ∙ front.2, front.3)

-- where a text begins anew
fresh-boundary : (line front rest : List ℕ) (at : ℕ) → at ≡ length front → line ≡ front ++ rest → IsFresh rest → IsCharBoundary line at
fresh-boundary line front [] at e split fresh =
    let whole : length line ≡ at = ap length (split ∙ append-nil front) ∙ sym e in
    subst (λ (n : ℕ). IsCharBoundary line n) whole (IsCharBoundary-end line)
fresh-boundary line front (c ∷ cs) at e split fresh =
    let sizes : length line ≡ length front + length (c ∷ cs) = ap length split ∙ length-append front (c ∷ cs) in
    let first : get_or line (length front + 0) 0 ≡ c = ap (λ (x : List ℕ). get_or x (length front + 0) 0) split ∙ get_or-append-add front (c ∷ cs) 0 0 in
    let place : length front + 0 ≡ at = omega (arith, e) in
    let there : get_or line at 0 ≡ c = ap (λ (n : ℕ). get_or line n 0) (sym place) ∙ first in
    IsCharBoundary-before_ascii line at (omega (arith, sizes, e)) (omega (arith, there, fresh))

fresh-front : (bytes more : List ℕ) → Front bytes → IsFresh (bytes ++ more)
fresh-front bytes more front = subst (λ (x : List ℕ). IsFresh (x ++ more)) (sym front.2) front.3

encodes-word : (w : Word) (rest : List ℕ) → encode_utf8_all (characters w ++ rest) ≡ bytes_of w ++ encode_utf8_all rest
encodes-word w rest = encodes-append (characters w) rest

encodes-spaced : (b : Bool) (rest : List ℕ) → encode_utf8_all (space b ++ rest) ≡ space b ++ encode_utf8_all rest
encodes-spaced b rest = encodes-append (space b) rest ∙ ap (λ (x : List ℕ). x ++ encode_utf8_all rest) (encodes-space b)

fresh-words : (ws : List (Word × Bool)) → are_words ws ≡ true → IsFresh (encode_utf8_all (written ws))
fresh-words [] are = tt
fresh-words (w ∷ ws) are =
    let is = (and_parts (is_word w.0) ((w.1 || may_touch_next w.0 ws) && are_words ws) are).0 in
    let rest = space w.1 ++ written ws in
    subst (λ (x : List ℕ). IsFresh x) (sym (encodes-word w.0 rest)) (fresh-front (bytes_of w.0) (encode_utf8_all rest) (word-front w.0 is))

fresh-space : (b : Bool) (rest : List ℕ) → IsFresh rest → IsFresh (space b ++ rest)
fresh-space true rest fresh = omega arith
fresh-space false rest fresh = fresh

-- the spans of the tokens, after what stands in front
spans-from : (line front : List ℕ) (before at : ℕ) (ws : List (Word × Bool)) → before ≤ at → at ≡ length front → line ≡ front ++ encode_utf8_all (written ws) → are_words ws ≡ true → AreSpansOf line before (tokens_at at ws) (length line)
spans-from line front before at [] behind e split are =
    let sizes : length line ≡ length front + 0 = ap length split ∙ length-append front [] in
    omega (arith, behind, e, sizes)
spans-from line front before at (w ∷ ws) behind e split are =
    let parts = and_parts (is_word w.0) ((w.1 || may_touch_next w.0 ws) && are_words ws) are in
    let others = (and_parts (w.1 || may_touch_next w.0 ws) (are_words ws) parts.1).1 in
    let bytes = bytes_of w.0 in
    let rest = encode_utf8_all (written ws) in
    let end = at + length bytes in
    let first = word-front w.0 parts.0 in
    let some : length bytes ≡ length (first.0 ∷ first.1) = ap length first.2 in
    let here : line ≡ front ++ (bytes ++ (space w.1 ++ rest)) =
    split
    ∙ ap (λ (x : List ℕ). front ++ x) (encodes-word w.0 (space w.1 ++ written ws))
    ∙ ap (λ (x : List ℕ). front ++ (bytes ++ x)) (encodes-spaced w.1 (written ws)) in
    let there : line ≡ (front ++ bytes) ++ (space w.1 ++ rest) = here ∙ sym (append_assoc front bytes (space w.1 ++ rest)) in
    let onward : line ≡ ((front ++ bytes) ++ space w.1) ++ rest = there ∙ sym (append_assoc (front ++ bytes) (space w.1) rest) in
    let end_at : end ≡ length (front ++ bytes) = omega (arith, e, length-append front bytes) in
    let next_at : end + length (space w.1) ≡ length ((front ++ bytes) ++ space w.1) = omega (arith, end_at, length-append (front ++ bytes) (space w.1)) in (
      behind,
      (
        omega (arith, some),
        fresh-boundary line front (bytes ++ (space w.1 ++ rest)) at e here (fresh-front bytes (space w.1 ++ rest) first),
        fresh-boundary line (front ++ bytes) (space w.1 ++ rest) end end_at there (fresh-space w.1 rest (fresh-words ws others)),
      ),
      spans-from line ((front ++ bytes) ++ space w.1) end (end + length (space w.1)) ws (omega arith) next_at onward others,
    )

pub words-have_spans : (ws : List (Word × Bool)) → are_words ws ≡ true → AreSpansOf (encode_utf8_all (written ws)) 0 (tokens_at 0 ws) (length (encode_utf8_all (written ws)))
words-have_spans ws are = spans-from (encode_utf8_all (written ws)) [] 0 0 ws (omega arith) refl refl are

-- tokens of words that have places stand for the words
pub words-stand : (line : List ℕ) (ts : List Token) (ws : List Word) (before to : ℕ) → AreTokens line ts ws → AreSpansOf line before ts to → Stands line ws ts []
words-stand line [] [] before to are spans = nothing_stands []
words-stand line [] (w ∷ ws) before to are spans = absurd are
words-stand line (t ∷ ts) [] before to are spans = absurd are
words-stand line (t ∷ ts) (w ∷ ws) before to are spans =
    word_stands w ws t ts [] are.0 (within-span line t spans.1) (words-stand line ts ws t.end to are.1 spans.2)
