-- The test of a token's place, and what it decides.
use Rattle.std.proofs.Common.{◌≡◌, ℕ, ◌<◌, ◌≤◌, Bool, true, false, List, length, IsCharBoundary, encode_utf8_all, chars, sym, ◌∙◌, arith, nat_lt, []}
use Rattle.std.proofs.lemmas.Bool.Decides.{nat_tests}
use Rattle.cy_lexer.specs.declared.tokens.Token.{Token}
use Rattle.cy_lexer.specs.Spans.{IsSpanOf, slice_of}
use Rattle.cy_lexer.specs.Tokens.{denoted}
use Rattle.cy_parser_grammar.specs.Words.{is_boundary, is_within, denotes, slice_in}

pub boundary-true : (line : List ℕ) (at : ℕ) → is_boundary line at ≡ true → IsCharBoundary line at
boundary-true line at e = grind (arith, nat_tests)

pub true-boundary : (line : List ℕ) (at : ℕ) → IsCharBoundary line at → is_boundary line at ≡ true
true-boundary line at h = let within : at ≤ length line = h.0 in let first = h.1 in grind (arith, nat_tests)

pub span-within : (line : List ℕ) (t : Token) → is_within line t ≡ true → IsSpanOf line t
span-within line t e =
    let first : nat_lt t.start t.end ≡ true = grind (arith, nat_tests) in
    let from : is_boundary line t.start ≡ true = grind (arith, nat_tests) in
    let to : is_boundary line t.end ≡ true = grind (arith, nat_tests) in
    (grind (arith, nat_tests), boundary-true line t.start from, boundary-true line t.end to)

pub within-span : (line : List ℕ) (t : Token) → IsSpanOf line t → is_within line t ≡ true
within-span line t h =
    let first : t.start < t.end = h.0 in
    let from = true-boundary line t.start h.1 in
    let to = true-boundary line t.end h.2 in
    grind (arith, nat_tests)

not-span : (line : List ℕ) (t : Token) → is_within line t ≡ false → ¬ (IsSpanOf line t)
not-span line t e h = let both : true ≡ false = sym (within-span line t h) ∙ e in cc

-- what a call of `denoted` gives is what the token denotes
pub denoted-denotes : (line : List ℕ) (t : Token) (found : List ℕ) (b : Bool) → is_within line t ≡ b →
    (IsSpanOf line t → found ≡ encode_utf8_all (denoted t.kind (chars (slice_of line t)))) →
    (¬ (IsSpanOf line t) → found ≡ []) → found ≡ denotes line t
unfolding denotes
denoted-denotes line t found true e value elsewhere = rw e (value (span-within line t e))
denoted-denotes line t found false e value elsewhere = rw e (elsewhere (not-span line t e))

pub sliced : (line : List ℕ) (t : Token) (found : List ℕ) (b : Bool) → is_within line t ≡ b →
    (IsSpanOf line t → found ≡ slice_of line t) → (¬ (IsSpanOf line t) → found ≡ []) → found ≡ slice_in line t
unfolding slice_in
sliced line t found true e within elsewhere = rw e (within (span-within line t e))
sliced line t found false e within elsewhere = rw e (elsewhere (not-span line t e))
