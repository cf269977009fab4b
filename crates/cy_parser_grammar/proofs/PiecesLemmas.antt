-- The text of pieces is a text of words, where each word may stand after the piece before it.
use Rattle.std.proofs.Common.{◌≡◌, ℕ, Bool, true, false, ◌&&◌, ◌||◌, List, [], ◌∷◌, ◌++◌, map, refl, sym, ap, ◌∙◌, subst, append_assoc, append-nil, arith}
use Rattle.std.specs.Prelude.{⊤}
use Rattle.std.specs.Char.{encode_utf8, is_ascii_digit}
use Rattle.std.specs.Fmt.{decimal}
use Rattle.std.specs.List.{list_all}
use Rattle.std.specs.Str.{encode_utf8_all}
use Rattle.std.proofs.lemmas.Bool.{and_parts, and_from}
use Rattle.std.proofs.lemmas.Bool.Decides.{nat_tests}
use Rattle.std.proofs.lemmas.Str.{encodes-append, encode_ascii}
use Rattle.cy_lexer.specs.declared.keywords.Keyword.{Keyword}
use Rattle.cy_lexer.specs.declared.keywords.Keyword.TheVariants as keyword
use Rattle.cy_lexer.specs.declared.symbols.Symbol.{Symbol}
use Rattle.cy_lexer.specs.declared.symbols.Symbol.TheVariants as sign
use Rattle.cy_lexer.specs.declared.tokens.Token.{Token}
use Rattle.cy_lexer.specs.Keywords.{spelling}
use Rattle.cy_lexer.specs.Words.{Word, signs}
use Rattle.cy_lexer.specs.Words as words
use Rattle.cy_lexer.specs.internal.SpacedWords.{is_word, may_touch, space, written, may_touch_next, are_words, IsTokenOf, AreTokensOf, characters}
use Rattle.cy_lexer.proofs.WordsPiecesLemmas.{decimal-front}
use Rattle.cy_lexer.proofs.WordsLemmas.{bytes_of_space}
use Rattle.cy_trees.specs.Show.{Piece, word_text, pieces_text}
use Rattle.cy_trees.specs.internal.PieceWords.{words_of}
use Rattle.cy_trees.specs.Show as piece

-- ---- what pieces may stand after

-- what stands before a piece: nothing or a space; a word after which a symbol may stand that is no dot; one after which
-- each symbol may stand; or this word
pub data Before : Type 0 where
  free : Before
  ended : Before
  owned : Before
  after : Word → Before

abbrev pub touches : Before → Word → Bool
touches free w = true
touches (after v) w = may_touch v w
touches owned (words.symbol s) = true
touches ended (words.symbol sign.Dot) = false
touches ended (words.symbol s) = true
touches b w = false

abbrev pub stands : Before → List Piece → Bool
stands b [] = true
stands b (piece.word w ∷ ps) = touches b w && (is_word w && stands (after w) ps)
stands free (piece.space ∷ ps) = false
stands b (piece.space ∷ ps) = stands free ps

-- what may stand after b may stand after c
pub record Allows (b c : Before) : Type 0 where
  pub allows : (qs : List Piece) → stands b qs ≡ true → stands c qs ≡ true

-- the pieces may stand after b, and after them whatever may stand after c
pub record Runs (b : Before) (ps : List Piece) (c : Before) : Type 0 where
  pub goes_on : (qs : List Piece) → stands c qs ≡ true → stands b (ps ++ qs) ≡ true

pub runs-stands : {b c : Before} {ps : List Piece} → Runs b ps c → stands b ps ≡ true
runs-stands {b} {c} {ps} run = subst (λ (x : List Piece). stands b x ≡ true) (append-nil ps) (run.goes_on [] refl)

pub no_pieces : {b : Before} → Runs b [] b
no_pieces = record { goes_on = λ qs h. h }

pub a_word : {b c : Before} {ps : List Piece} (w : Word) → touches b w ≡ true → is_word w ≡ true → Runs (after w) ps c → Runs b (piece.word w ∷ ps) c
a_word {b} {c} {ps} w touch is run =
    record { goes_on = λ qs h. and_from (touches b w) (is_word w && stands (after w) (ps ++ qs)) touch (and_from (is_word w) (stands (after w) (ps ++ qs)) is (run.goes_on qs h)) }

pub a_space : {w : Word} {c : Before} {ps : List Piece} → Runs free ps c → Runs (after w) (piece.space ∷ ps) c
a_space run = record { goes_on = λ qs h. run.goes_on qs h }

pub space_after : {c : Before} {ps : List Piece} → Runs free ps c → Runs ended (piece.space ∷ ps) c
space_after run = record { goes_on = λ qs h. run.goes_on qs h }

pub both : {a b c : Before} {ps qs : List Piece} → Runs a ps b → Runs b qs c → Runs a (ps ++ qs) c
both {a} {b} {c} {ps} {qs} first second =
    record { goes_on = λ rs h. subst (λ (x : List Piece). stands a x ≡ true) (sym (append_assoc ps qs rs)) (first.goes_on (qs ++ rs) (second.goes_on rs h)) }

pub from : {a b c : Before} {ps : List Piece} → Allows a b → Runs a ps c → Runs b ps c
from {a} {b} {c} {ps} allowed run = record { goes_on = λ qs h. allowed.allows (ps ++ qs) (run.goes_on qs h) }

pub to : {a b c : Before} {ps : List Piece} → Allows c b → Runs a ps b → Runs a ps c
to allowed run = record { goes_on = λ qs h. run.goes_on qs (allowed.allows qs h) }

-- ---- what allows what

-- symbols that join with none
abbrev pub is_quiet : Symbol → Bool
is_quiet sign.Dot = false
is_quiet sign.Less = false
is_quiet sign.Greater = false
is_quiet sign.Slash = false
is_quiet s = true

quiet_touches : (s : Symbol) (w : Word) → is_quiet s ≡ true → may_touch (words.symbol s) w ≡ true
quiet_touches sign.Dot w quiet = absurd cc
quiet_touches sign.Less w quiet = absurd cc
quiet_touches sign.Greater w quiet = absurd cc
quiet_touches sign.Slash w quiet = absurd cc
quiet_touches s (words.symbol t) quiet = refl
quiet_touches s w quiet = refl

-- after a quiet symbol may stand what begins a text
symbol_allows : (s : Symbol) → is_quiet s ≡ true → (qs : List Piece) → stands free qs ≡ true → stands (after (words.symbol s)) qs ≡ true
symbol_allows s quiet [] h = refl
symbol_allows s quiet (piece.word w ∷ ps) h = and_from (may_touch (words.symbol s) w) (is_word w && stands (after w) ps) (quiet_touches s w quiet) h
symbol_allows s quiet (piece.space ∷ ps) h = absurd cc

pub after_symbol : (s : Symbol) → is_quiet s ≡ true → Allows free (after (words.symbol s))
after_symbol s quiet = record { allows = symbol_allows s quiet }

abbrev pub is_end : Word → Bool
is_end (words.symbol s) = is_quiet s
is_end w = true

end_touches : (w v : Word) → is_end w ≡ true → touches ended v ≡ true → may_touch w v ≡ true
end_touches w (words.symbol sign.Dot) end touch = absurd cc
end_touches (words.keyword k) (words.symbol s) end touch = refl
end_touches (words.name cs) (words.symbol s) end touch = refl
end_touches (words.text cs) (words.symbol s) end touch = refl
end_touches (words.number n) (words.symbol s) end touch = refl
end_touches (words.symbol t) (words.symbol s) end touch = quiet_touches t (words.symbol s) end
end_touches w _ end touch = absurd cc

end_allows : (w : Word) → is_end w ≡ true → (qs : List Piece) → stands ended qs ≡ true → stands (after w) qs ≡ true
end_allows w end [] h = refl
end_allows w end (piece.word v ∷ ps) h =
    let parts = and_parts (touches ended v) (is_word v && stands (after v) ps) h in
    and_from (may_touch w v) (is_word v && stands (after v) ps) (end_touches w v end parts.0) parts.1
end_allows w end (piece.space ∷ ps) h = h

pub after_end : (w : Word) → is_end w ≡ true → Allows ended (after w)
after_end w end = record { allows = end_allows w end }

abbrev pub is_owner : Word → Bool
is_owner (words.name cs) = true
is_owner (words.symbol s) = is_quiet s
is_owner w = false

owner_touches : (w v : Word) → is_owner w ≡ true → touches owned v ≡ true → may_touch w v ≡ true
owner_touches (words.keyword k) (words.symbol s) end touch = absurd cc
owner_touches (words.name cs) (words.symbol s) end touch = refl
owner_touches (words.text cs) (words.symbol s) end touch = absurd cc
owner_touches (words.number n) (words.symbol s) end touch = absurd cc
owner_touches (words.symbol t) (words.symbol s) end touch = quiet_touches t (words.symbol s) end
owner_touches w _ end touch = absurd cc

owner_allows : (w : Word) → is_owner w ≡ true → (qs : List Piece) → stands owned qs ≡ true → stands (after w) qs ≡ true
owner_allows w end [] h = refl
owner_allows w end (piece.word v ∷ ps) h =
    let parts = and_parts (touches owned v) (is_word v && stands (after v) ps) h in
    and_from (may_touch w v) (is_word v && stands (after v) ps) (owner_touches w v end parts.0) parts.1
owner_allows w end (piece.space ∷ ps) h = h

pub after_owner : (w : Word) → is_owner w ≡ true → Allows owned (after w)
after_owner w end = record { allows = owner_allows w end }

ended_touches : (w : Word) → touches ended w ≡ true → touches owned w ≡ true
ended_touches (words.symbol s) touch = refl
ended_touches _ touch = absurd cc

ended_allows : (qs : List Piece) → stands ended qs ≡ true → stands owned qs ≡ true
ended_allows [] h = refl
ended_allows (piece.word v ∷ ps) h =
    let parts = and_parts (touches ended v) (is_word v && stands (after v) ps) h in
    and_from (touches owned v) (is_word v && stands (after v) ps) (ended_touches v parts.0) parts.1
ended_allows (piece.space ∷ ps) h = h

pub ended_owned : Allows ended owned
ended_owned = record { allows = ended_allows }

-- a last word
pub last : {b : Before} (w : Word) → touches b w ≡ true → is_word w ≡ true → is_end w ≡ true → Runs b (piece.word w ∷ []) ended
last w touch is end = a_word w touch is (to (after_end w end) no_pieces)

-- ---- the words with their spaces

abbrev is_spaced : List Piece → Bool
is_spaced [] = false
is_spaced (piece.word w ∷ ps) = false
is_spaced (piece.space ∷ ps) = true

abbrev pub spaced : List Piece → List (Word × Bool)
spaced [] = []
spaced (piece.word w ∷ ps) = (w, is_spaced ps) ∷ spaced ps
spaced (piece.space ∷ ps) = spaced ps

pub spaced-words : (ps : List Piece) → map (λ w. w.0) (spaced ps) ≡ words_of ps
spaced-words [] = refl
spaced-words (piece.word w ∷ ps) = ap (λ (ws : List Word). w ∷ ws) (spaced-words ps)
spaced-words (piece.space ∷ ps) = spaced-words ps

next_touches : (w : Word) (ps : List Piece) → stands (after w) ps ≡ true → (is_spaced ps || may_touch_next w (spaced ps)) ≡ true
next_touches w [] h = refl
next_touches w (piece.word v ∷ ps) h = (and_parts (may_touch w v) (is_word v && stands (after v) ps) h).0
next_touches w (piece.space ∷ ps) h = refl

pub spaced-are_words : (b : Before) (ps : List Piece) → stands b ps ≡ true → are_words (spaced ps) ≡ true
spaced-are_words b [] h = refl
spaced-are_words b (piece.word w ∷ ps) h =
    let parts = and_parts (is_word w) (stands (after w) ps) (and_parts (touches b w) (is_word w && stands (after w) ps) h).1 in
    and_from (is_word w) ((is_spaced ps || may_touch_next w (spaced ps)) && are_words (spaced ps)) parts.0
    (and_from (is_spaced ps || may_touch_next w (spaced ps)) (are_words (spaced ps)) (next_touches w ps parts.1) (spaced-are_words (after w) ps parts.1))
spaced-are_words free (piece.space ∷ ps) h = absurd cc
spaced-are_words ended (piece.space ∷ ps) h = spaced-are_words free ps h
spaced-are_words owned (piece.space ∷ ps) h = spaced-are_words free ps h
spaced-are_words (after w) (piece.space ∷ ps) h = spaced-are_words free ps h

-- ---- their text

digit_below : (c : ℕ) → is_ascii_digit c ≡ true → encode_utf8 c ≡ c ∷ []
digit_below c digit = encode_ascii c (grind (arith, nat_tests))

encodes-digits : (cs : List ℕ) → list_all is_ascii_digit cs ≡ true → encode_utf8_all cs ≡ cs
encodes-digits [] all = refl
encodes-digits (c ∷ cs) all =
    let parts = and_parts (is_ascii_digit c) (list_all is_ascii_digit cs) all in
    rw (digit_below c parts.0, encodes-digits cs parts.1) refl

encodes-spelling : (k : Keyword) → encode_utf8_all (spelling k) ≡ spelling k
unfolding encode_utf8
encodes-spelling keyword.All = refl
encodes-spelling k = refl

encodes-signs : (s : Symbol) → encode_utf8_all (signs s) ≡ signs s
unfolding encode_utf8
encodes-signs sign.Dot = refl
encodes-signs s = refl

pub encodes-characters : (w : Word) → is_word w ≡ true → encode_utf8_all (characters w) ≡ word_text w
encodes-characters (words.keyword k) is = encodes-spelling k
encodes-characters (words.name cs) is = refl
encodes-characters (words.text cs) is = refl
encodes-characters (words.number n) is =
    let front = decimal-front n is in
    encodes-digits (decimal n) (rw front.2 (and_from (is_ascii_digit front.0) (list_all is_ascii_digit front.1) front.3 front.4))
encodes-characters (words.symbol s) is = encodes-signs s

pub free_first : (ps : List Piece) → stands free ps ≡ true → is_spaced ps ≡ false
free_first [] h = refl
free_first (piece.word w ∷ ps) h = refl
free_first (piece.space ∷ ps) h = absurd cc

after_space : (ps : List Piece) → stands free ps ≡ true → space (is_spaced ps) ++ encode_utf8_all (written (spaced ps)) ≡ pieces_text ps → 32 ∷ encode_utf8_all (written (spaced ps)) ≡ 32 ∷ pieces_text ps
after_space ps h known = ap (λ (x : List ℕ). 32 ∷ x) (ap (λ (f : Bool). space f ++ encode_utf8_all (written (spaced ps))) (sym (free_first ps h)) ∙ known)

pub spaced-text : (b : Before) (ps : List Piece) → stands b ps ≡ true → space (is_spaced ps) ++ encode_utf8_all (written (spaced ps)) ≡ pieces_text ps
spaced-text b [] h = refl
spaced-text b (piece.word w ∷ ps) h =
    let parts = and_parts (is_word w) (stands (after w) ps) (and_parts (touches b w) (is_word w && stands (after w) ps) h).1 in
    encodes-append (characters w) (space (is_spaced ps) ++ written (spaced ps))
    ∙ ap (λ (x : List ℕ). x ++ encode_utf8_all (space (is_spaced ps) ++ written (spaced ps))) (encodes-characters w parts.0)
    ∙ ap (λ (x : List ℕ). word_text w ++ x)
    (encodes-append (space (is_spaced ps)) (written (spaced ps))
    ∙ ap (λ (x : List ℕ). x ++ encode_utf8_all (written (spaced ps))) (bytes_of_space (is_spaced ps))
    ∙ spaced-text (after w) ps parts.1)
spaced-text free (piece.space ∷ ps) h = absurd cc
spaced-text ended (piece.space ∷ ps) h = after_space ps h (spaced-text free ps h)
spaced-text owned (piece.space ∷ ps) h = after_space ps h (spaced-text free ps h)
spaced-text (after w) (piece.space ∷ ps) h = after_space ps h (spaced-text free ps h)

-- ---- the tokens

-- the tokens of a line are those of the words, one for each, in order
abbrev pub AreTokens : List ℕ → List Token → List Word → Type 0
AreTokens line [] [] = ⊤
AreTokens line (t ∷ ts) (w ∷ ws) = IsTokenOf line t w × AreTokens line ts ws
AreTokens line ts ws = ⊥

pub unspaced : (line : List ℕ) (ts : List Token) (ws : List (Word × Bool)) → AreTokensOf line ts ws → AreTokens line ts (map (λ w. w.0) ws)
unspaced line [] [] are = tt
unspaced line [] (w ∷ ws) are = absurd are
unspaced line (t ∷ ts) [] are = absurd are
unspaced line (t ∷ ts) (w ∷ ws) are = (are.0, unspaced line ts ws are.1)
