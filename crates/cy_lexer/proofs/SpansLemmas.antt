-- Lemmas on spans.
use Rattle.std.proofs.Common.{◌≡◌, ℕ, ◌+◌, ◌-◌, ◌≤◌, ◌<◌, List, [], ◌∷◌, length, take, drop, get_or, Option, Some, None, refl, ap, ◌∙◌, arith, add-zero}
use Rattle.std.specs.Borrow.{Bor}
use Rattle.std.specs.List.{slice_range}
use Rattle.std.specs.Option.{unwrap_or}
use Rattle.std.specs.Str.{IsUtf8, IsCharBoundary}
use Rattle.std.specs.Str.Pattern.{GetsRange}
use Rattle.std.proofs.lemmas.List.{get_or-take, get_or-drop, length-drop}
use Rattle.std.proofs.lemmas.Str.{IsCharBoundary-start, IsCharBoundary-from_take, IsCharBoundary-from_rest, IsUtf8-drop}
use Rattle.cy_lexer.specs.declared.tokens.Token.{Token}
use Rattle.cy_lexer.specs.Spans.{IsSpanOf}

-- a slice that is a text and isn't empty begins and ends between characters
boundaries : (bs : List ℕ) (i j : ℕ) → IsUtf8 bs → IsUtf8 (slice_range bs i j) → 0 < length (slice_range bs i j) → i < j → j ≤ length bs → IsCharBoundary bs i × IsCharBoundary bs j
boundaries bs i j u v some rises within =
    let slice = take (j - i) (drop i bs) in
    let first-is : get_or slice 0 0 ≡ get_or bs i 0 = get_or-take (j - i) (drop i bs) 0 0 (omega arith) ∙ get_or-drop i bs 0 0 ∙ ap (λ (n : ℕ). get_or bs n 0) (add-zero i) in
    let first = IsCharBoundary-start slice v in
    let front : IsCharBoundary bs i = (
      omega arith,
      λ below high.
          let high-first : 128 ≤ get_or slice 0 0 = rw first-is high in
          omega (arith, first.1 some high-first, first-is),
    ) in
    let behind = IsCharBoundary-from_take (drop i bs) (j - i) (IsUtf8-drop bs i u front) (omega (arith, length-drop i bs)) v in
    let sum : i + (j - i) ≡ j = omega arith in
    (front, rw sum at (IsCharBoundary-from_rest bs i (j - i) (omega arith) behind))

-- a list without a first element is empty
empty : (xs : List ℕ) → (0 < length xs → ⊥) → xs ≡ []
empty [] none = refl
empty (x ∷ xs) none = absurd (none (omega arith))

-- a slice that the line doesn't have, or that is empty
pub slice-elsewhere : (line : List ℕ) (token : Token) (found : Option (Bor (List ℕ))) (other : Bor (List ℕ)) → IsUtf8 line → IsUtf8 (unwrap_or found other).now → GetsRange line token.start token.end found → other.now ≡ [] → ¬ (IsSpanOf line token) → (unwrap_or found other).now ≡ []
slice-elsewhere line token None other u v got none elsewhere = none
slice-elsewhere line token (Some x) other u v got none elsewhere =
    empty x.now (λ some.
    let rises : token.start < token.end = omega (arith, got.1, some) in
    let ends = boundaries line token.start token.end u (rw got.0 at v) (rw got.0 at some) rises got.2 in
    elsewhere (rises, ends.0, ends.1))
