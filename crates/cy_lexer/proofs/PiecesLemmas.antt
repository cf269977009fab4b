-- Lemmas on the pieces of a line.
use Rattle.std.proofs.Common.{◌≡◌, ℕ, ◌≤◌, ◌<◌, true, false, List, ◌∷◌, drop, Some, None, Ok, Err, refl, sym, ap, ◌∙◌}
use Rattle.std.specs.Char.{is_ascii_digit, is_whitespace}
use Rattle.std.specs.List.{prefix_len, take_while}
use Rattle.std.specs.Str.{encode_utf8_all}
use Rattle.std.proofs.lemmas.List.Sums.{take_while-cons}
use Rattle.std.proofs.lemmas.Bool.{le-ltb, lt-ltb}
use Rattle.cy_lexer.specs.declared.characters.Run.TheVariants as run
use Rattle.cy_lexer.specs.declared.faults.LexFault.TheVariants.{NumberTooLarge}
use Rattle.cy_lexer.specs.declared.keywords.Keyword.{Keyword}
use Rattle.cy_lexer.specs.declared.tokens.TokenKind.{TokenKind}
use Rattle.cy_lexer.specs.declared.tokens.TokenKind.TheVariants as kind
use Rattle.cy_lexer.specs.Characters.{goes_on}
use Rattle.cy_lexer.specs.internal.Reading.{taken, map_ok, offset}
use Rattle.cy_lexer.specs.Keywords.{keyword_of}
use Rattle.cy_lexer.specs.Numbers.{number_of, is_bad_number}
use Rattle.cy_lexer.specs.Tokens.{word_kind, number_piece, token_piece, opens_comment, piece, denoted}

-- the digits of a number, of which the first is known
digits : (c : ℕ) (cs : List ℕ) → is_ascii_digit c ≡ true → take_while (goes_on run.Digits) (c ∷ cs) ≡ c ∷ take_while (goes_on run.Digits) cs
digits c cs d = take_while-cons (goes_on run.Digits) c cs ∙ rw d refl

pub number_piece-number : (at c held : ℕ) (text cs left : List ℕ) → text ≡ c ∷ cs → is_ascii_digit c ≡ true → false ≡ is_bad_number c cs left → left ≡ drop (prefix_len (goes_on run.Digits) cs) cs → held ≡ number_of 0 (take_while (goes_on run.Digits) text) → held ≤ 9223372036854775808 → Ok (Some (kind.Number held), left) ≡ map_ok (taken cs) (number_piece at c cs)
number_piece-number at c held text cs left e d good behind is small =
    let number-is : number_of 0 (c ∷ take_while (goes_on run.Digits) cs) ≡ held = ap (λ (x : List ℕ). number_of 0 x) (sym (digits c cs d)) ∙ ap (λ (x : List ℕ). number_of 0 (take_while (goes_on run.Digits) x)) (sym e) ∙ sym is in
    let fits = le-ltb 9223372036854775808 held small in
    let fine : is_bad_number c cs (drop (prefix_len (goes_on run.Digits) cs) cs) ≡ false = ap (λ (x : List ℕ). is_bad_number c cs x) (sym behind) ∙ sym good in
    rw behind (rw (fine, number-is) (rw fits refl))

pub number_piece-large : (at c : ℕ) (text cs left : List ℕ) → text ≡ c ∷ cs → is_ascii_digit c ≡ true → false ≡ is_bad_number c cs left → left ≡ drop (prefix_len (goes_on run.Digits) cs) cs → 9223372036854775808 < number_of 0 (take_while (goes_on run.Digits) text) → Err (NumberTooLarge at) ≡ map_ok (taken cs) (number_piece at c cs)
number_piece-large at c text cs left e d good behind large =
    let number-is : number_of 0 (c ∷ take_while (goes_on run.Digits) cs) ≡ number_of 0 (take_while (goes_on run.Digits) text) = ap (λ (x : List ℕ). number_of 0 x) (sym (digits c cs d)) ∙ ap (λ (x : List ℕ). number_of 0 (take_while (goes_on run.Digits) x)) (sym e) in
    let over = lt-ltb 9223372036854775808 (number_of 0 (take_while (goes_on run.Digits) text)) large in
    let fine : is_bad_number c cs (drop (prefix_len (goes_on run.Digits) cs) cs) ≡ false = ap (λ (x : List ℕ). is_bad_number c cs x) (sym behind) ∙ sym good in
    rw (fine, number-is) (rw over refl)

-- the kind of a word, from the keyword that was found
pub word_kind-keyword : (k : Keyword) (word : List ℕ) → keyword_of (encode_utf8_all word) ≡ Some k → word_kind word ≡ kind.Keyword k
word_kind-keyword k word e = rw (word_kind, e) refl

pub word_kind-name : (word : List ℕ) → keyword_of (encode_utf8_all word) ≡ None → word_kind word ≡ kind.Name
word_kind-name word e = rw (word_kind, e) refl

-- a piece that is neither white space nor a comment
pub piece-token : (total c : ℕ) (cs : List ℕ) → is_whitespace c ≡ false → false ≡ opens_comment 47 c cs → false ≡ opens_comment 42 c cs → piece (offset total) c cs ≡ token_piece (offset total) (offset total (c ∷ cs)) c cs
unfolding piece
piece-token total c cs w l b = rw (w, ← l, ← b) refl

-- a token that is neither a quoted name nor a text is as it is written
pub denoted-plain : (k : TokenKind) (cs : List ℕ) → (k ≡ kind.QuotedName → ⊥) → (k ≡ kind.Text → ⊥) → denoted k cs ≡ cs
denoted-plain kind.QuotedName cs q t = absurd (q refl)
denoted-plain kind.Text cs q t = absurd (t refl)
denoted-plain _ cs q t = refl
