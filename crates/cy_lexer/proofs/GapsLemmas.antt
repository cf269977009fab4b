-- Lemmas on what stands between the tokens of a line.
use Rattle.std.proofs.Common.{◌≡◌, ℕ, zero, suc, ◌+◌, ◌≤◌, Bool, true, false, ◌&&◌, ◌||◌, ◌==◌, nat_lt, if◌then◌else◌, ◌⊎◌, inl, inr, List, [], ◌∷◌, ◌++◌, drop, take, length, Option, Some, None, Result, Ok, Err, IsFalse, refl, sym, subst, ap, ◌∙◌, append_assoc, append-nil, add-zero, arith, length-append}
use Rattle.std.specs.Char.{is_whitespace, is_ascii_digit}
use Rattle.std.specs.List.{prefix_len, take_while}
use Rattle.std.specs.Option.{option_map}
use Rattle.std.specs.Str.{chars, IsUtf8, encode_utf8_all}
use Rattle.std.proofs.lemmas.Bool.{eqb-true, and_parts}
use Rattle.std.proofs.lemmas.List.{take-append-drop, drop_at, length-drop}
use Rattle.std.proofs.lemmas.Str.{encodes-chars}
use Rattle.cy_lexer.proofs.CharactersLemmas.{size_of}
use Rattle.cy_lexer.proofs.QuotedLemmas.{some_is}
use Rattle.cy_lexer.proofs.TokensLemmas.{ok_is, tokens_from-skip, tokens_of-short}
use Rattle.cy_lexer.specs.declared.characters.Run.TheVariants as run
use Rattle.cy_lexer.specs.declared.faults.LexFault.{LexFault}
use Rattle.cy_lexer.specs.declared.faults.LexFault.TheVariants.{BadCharacter, UnclosedText, UnclosedComment, UnclosedName}
use Rattle.cy_lexer.specs.declared.symbols.Symbol.{Symbol}
use Rattle.cy_lexer.specs.declared.tokens.TokenKind.{TokenKind}
use Rattle.cy_lexer.specs.declared.tokens.TokenKind.TheVariants as kind
use Rattle.cy_lexer.specs.declared.tokens.Token.{Token}
use Rattle.cy_lexer.specs.Characters.{begins_with, starts_name, goes_on}
use Rattle.cy_lexer.specs.internal.Reading.{offset}
use Rattle.cy_lexer.specs.Gaps.{has_line_end, has_comment_end, IsGap, nothing, blank, line_comment, block_comment, LeavesGaps}
use Rattle.cy_lexer.specs.Line.{longest_line}
use Rattle.cy_lexer.specs.Numbers.{number_of, greatest_number, is_bad_number}
use Rattle.cy_lexer.specs.Quoted.{quoted_len}
use Rattle.cy_lexer.specs.Symbols.{symbol}
use Rattle.cy_lexer.specs.Tokens.{Piece, ◌>>=◌, word_kind, block_len, closes_at_once, line_comment as line_piece, block_comment as block_piece, opens_comment, token_piece, piece, with_token, tokens_from, tokens_of}

-- the text begins with the character
begins : (d : ℕ) (cs : List ℕ) → begins_with d cs ≡ true → (rest : List ℕ) × (cs ≡ d ∷ rest)
begins d [] e = absurd cc
begins d (c ∷ cs) e = (cs, ap (λ (x : ℕ). x ∷ cs) (eqb-true c d e))

-- how long a comment of one line is: up to the next LF, or to the end
abbrev LineShape : List ℕ → Type 0
LineShape cs =
    (inside : List ℕ) × IsFalse (has_line_end inside) × (prefix_len (goes_on run.Line) cs ≡ length inside) × ((cs ≡ inside) ⊎ ((rest : List ℕ) × (cs ≡ inside ++ 10 ∷ rest)))

by_line_end : (c : ℕ) (cs : List ℕ) (ends : Bool) → (c == 10) ≡ ends → LineShape cs → LineShape (c ∷ cs)
by_line_end c cs true e s = ([], refl, rw e refl, inr (cs, ap (λ (x : ℕ). x ∷ cs) (eqb-true c 10 e)))
by_line_end c cs false e s = (
  c ∷ s.0,
  rw e s.1,
  rw e (omega (arith, s.2)),
  elim s.3 [
    | inl all ↦ inl (ap (λ (x : List ℕ). c ∷ x) all)
    | inr more ↦ inr (more.0, ap (λ (x : List ℕ). c ∷ x) more.1)
  ],
)

line_shape : (cs : List ℕ) → LineShape cs
line_shape [] = ([], refl, refl, inl refl)
line_shape (c ∷ cs) = by_line_end c cs (c == 10) refl (line_shape cs)

-- how long a comment is that goes on to the next `*/`
abbrev BlockShape : List ℕ → ℕ → Type 0
BlockShape cs n =
    (inside : List ℕ) × (rest : List ℕ) × IsFalse (has_comment_end inside) × (n ≡ length inside + 2) × (cs ≡ inside ++ 42 ∷ 47 ∷ rest)

-- a `*` after the text brings it no `/` in front
begins-slash : (inside rest : List ℕ) → begins_with 47 inside ≡ begins_with 47 (inside ++ 42 ∷ rest)
begins-slash [] rest = refl
begins-slash (c ∷ inside) rest = refl

-- one character more is in a comment
by_inside : (c n : ℕ) (cs : List ℕ) (found : Option ℕ) → ((c == 42) && begins_with 47 cs) ≡ false → ((m : ℕ) → found ≡ Some m → BlockShape cs m) → option_map suc found ≡ Some n → BlockShape (c ∷ cs) n
by_inside c n cs None inside more e = absurd cc
by_inside c n cs (Some m) inside more e =
    let s = more m refl in
    let next : begins_with 47 s.0 ≡ begins_with 47 cs = begins-slash s.0 (47 ∷ s.1) ∙ ap (λ (x : List ℕ). begins_with 47 x) (sym s.4) in
    let inner : ((c == 42) && begins_with 47 s.0) ≡ false = ap (λ (b : Bool). (c == 42) && b) next ∙ inside in (
      c ∷ s.0,
      s.1,
      ap (λ (b : Bool). b || has_comment_end s.0) inner ∙ s.2,
      omega (arith, some_is (suc m) n e, s.3),
      ap (λ (x : List ℕ). c ∷ x) s.4,
    )

by_comment_end : (c n : ℕ) (cs : List ℕ) (ends : Bool) → ((c == 42) && begins_with 47 cs) ≡ ends → ((m : ℕ) → block_len cs ≡ Some m → BlockShape cs m) → (if ends then Some 2 else option_map suc (block_len cs)) ≡ Some n → BlockShape (c ∷ cs) n
by_comment_end c n cs true ends more e =
    let both = and_parts (c == 42) (begins_with 47 cs) ends in
    let slash = begins 47 cs both.1 in (
      [],
      slash.0,
      refl,
      sym (some_is 2 n e),
      ap (λ (x : ℕ). x ∷ cs) (eqb-true c 42 both.0) ∙ ap (λ (x : List ℕ). 42 ∷ x) slash.1,
    )
by_comment_end c n cs false inside more e = by_inside c n cs (block_len cs) inside more e

block_shape : (cs : List ℕ) (n : ℕ) → block_len cs ≡ Some n → BlockShape cs n
block_shape [] n e = absurd cc
block_shape (c ∷ cs) n e = by_comment_end c n cs ((c == 42) && begins_with 47 cs) refl (block_shape cs) e

-- What a piece that is no token takes of the characters after its first one: it is a gap in front of each gap, or, as a
-- comment of one line, in front of each LF and a gap.
abbrev GapShape : ℕ → List ℕ → ℕ → Type 0
GapShape c cs n =
    (inside : List ℕ) × (rest : List ℕ) × (cs ≡ inside ++ rest) × (n ≡ length inside) × (((gap : List ℕ) → IsGap gap → IsGap (c ∷ (inside ++ gap))) ⊎ (((gap : List ℕ) → IsGap gap → IsGap (c ∷ (inside ++ 10 ∷ gap))) × ((rest ≡ []) ⊎ ((more : List ℕ) × (rest ≡ 10 ∷ more)))))

-- a piece is a token, or a gap
abbrev IsShaped : ℕ → List ℕ → Result Piece LexFault → Type 0
IsShaped c cs (Ok p) = ((k : TokenKind) × (p.0 ≡ Some k)) ⊎ ((p.0 ≡ None) × GapShape c cs p.1)
IsShaped c cs (Err fault) = Unit {0}

if_shaped : (c : ℕ) (cs : List ℕ) (b : Bool) (one other : Result Piece LexFault) → (b ≡ true → IsShaped c cs one) → (b ≡ false → IsShaped c cs other) → IsShaped c cs (if b then one else other)
if_shaped c cs true one other shape else_shape = shape refl
if_shaped c cs false one other shape else_shape = else_shape refl

blank_shape : (c : ℕ) (cs : List ℕ) → is_whitespace c ≡ true → IsShaped c cs (Ok (None, 0))
blank_shape c cs white = inr (refl, ([], cs, refl, refl, inl (λ gap g. blank c gap white g)))

line_end_shape : (rest inside : List ℕ) (n : ℕ) → IsFalse (has_line_end inside) → n ≡ length inside → (rest ≡ inside) ⊎ ((more : List ℕ) × (rest ≡ inside ++ 10 ∷ more)) → GapShape 47 (47 ∷ rest) (1 + n)
line_end_shape rest inside n good e (inl all) = (
  47 ∷ inside,
  [],
  ap (λ (x : List ℕ). 47 ∷ x) (all ∙ sym (append-nil inside)),
  omega (arith, e),
  inr (λ gap g. line_comment inside gap good g, inl refl),
)
line_end_shape rest inside n good e (inr more) = (
  47 ∷ inside,
  10 ∷ more.0,
  ap (λ (x : List ℕ). 47 ∷ x) more.1,
  omega (arith, e),
  inr (λ gap g. line_comment inside gap good g, inr (more.0, refl)),
)

line_comment_shape : (c : ℕ) (cs : List ℕ) → opens_comment 47 c cs ≡ true → IsShaped c cs (Ok (line_piece cs))
line_comment_shape c cs opens =
    let both = and_parts (c == 47) (begins_with 47 cs) opens in
    let slash = begins 47 cs both.1 in
    let s = line_shape slash.0 in
    rw (eqb-true c 47 both.0, slash.1) (inr (refl, line_end_shape slash.0 s.0 (prefix_len (goes_on run.Line) slash.0) s.1 s.2 s.3))

by_block : (at : ℕ) (rest : List ℕ) (found : Option ℕ) → ((n : ℕ) → found ≡ Some n → BlockShape rest n) → IsShaped 47 (42 ∷ rest) (elim found [ Some n ↦ Ok (None, suc n) | None ↦ Err (UnclosedComment at) ])
by_block at rest (Some n) shape =
    let s = shape n refl in
    let shaped : GapShape 47 (42 ∷ rest) (suc n) = (
      42 ∷ (s.0 ++ 42 ∷ 47 ∷ []),
      s.1,
      ap (λ (x : List ℕ). 42 ∷ x) (s.4 ∙ sym (append_assoc s.0 (42 ∷ 47 ∷ []) s.1)),
      omega (arith, s.3, length-append s.0 (42 ∷ 47 ∷ [])),
      inl (λ gap g. rw (append_assoc s.0 (42 ∷ 47 ∷ []) gap) (block_comment s.0 gap s.2 g)),
    ) in
    inr (refl, shaped)
by_block at rest None shape = tt

block_comment_shape : (at c : ℕ) (cs : List ℕ) → opens_comment 42 c cs ≡ true → IsShaped c cs (block_piece at cs)
block_comment_shape at c cs opens =
    let both = and_parts (c == 47) (begins_with 42 cs) opens in
    let star = begins 42 cs both.1 in
    rw (eqb-true c 47 both.0, star.1) (by_block at star.0 (block_len star.0) (block_shape star.0))

-- a token has a kind
quoted_shape : (c : ℕ) (cs : List ℕ) (k : TokenKind) (read : Result ℕ LexFault) → IsShaped c cs (read >>= λ n. Ok (Some k, n))
quoted_shape c cs k (Ok n) = inl (k, refl)
quoted_shape c cs k (Err fault) = tt

symbol_shape : (at c : ℕ) (cs : List ℕ) (found : Option (Symbol × ℕ)) → IsShaped c cs (elim found [ Some p ↦ Ok (Some (kind.Symbol p.0), p.1) | None ↦ Err (BadCharacter at) ])
symbol_shape at c cs (Some p) = inl (kind.Symbol p.0, refl)
symbol_shape at c cs None = tt

token_shape : (total at c : ℕ) (cs : List ℕ) → IsShaped c cs (token_piece (offset total) at c cs)
token_shape total at c cs =
    if_shaped c cs (starts_name c) _ _ (λ _. inl (word_kind (c ∷ take_while (goes_on run.Name) cs), refl)) (λ _.
    if_shaped c cs (is_ascii_digit c) _ _
    (λ _. if_shaped c cs (is_bad_number c cs (drop (prefix_len (goes_on run.Digits) cs) cs)) _ _ (λ _. tt) (λ _.
    if_shaped c cs (nat_lt greatest_number (number_of 0 (c ∷ take_while (goes_on run.Digits) cs))) _ _ (λ _. tt) (λ _. inl (kind.Number (number_of 0 (c ∷ take_while (goes_on run.Digits) cs)), refl))))
    (λ _. if_shaped c cs (c == 96) _ _
    (λ _. if_shaped c cs (closes_at_once 96 cs) _ _ (λ _. tt) (λ _. quoted_shape c cs kind.QuotedName (quoted_len (offset total) (UnclosedName at) 96 0 cs)))
    (λ _. if_shaped c cs ((c == 39) || (c == 34)) _ _
    (λ _. quoted_shape c cs kind.Text (quoted_len (offset total) (UnclosedText at) c 0 cs))
    (λ _. symbol_shape at c cs (symbol c cs)))))

piece_shape : (total c : ℕ) (cs : List ℕ) → IsShaped c cs (piece (offset total) c cs)
unfolding piece
piece_shape total c cs =
    if_shaped c cs (is_whitespace c) _ _ (blank_shape c cs) (λ _.
    if_shaped c cs (opens_comment 47 c cs) _ _ (line_comment_shape c cs) (λ _.
    if_shaped c cs (opens_comment 42 c cs) _ _ (block_comment_shape (offset total (c ∷ cs)) c cs) (λ _.
    token_shape total (offset total (c ∷ cs)) c cs)))

-- what is a gap in front of each gap may stand before the first gap
prepend : (total : ℕ) (part rest : List ℕ) (ts : List Token) → length (encode_utf8_all (part ++ rest)) ≤ total → ((gap : List ℕ) → IsGap gap → IsGap (part ++ gap)) → LeavesGaps (offset total rest) rest ts → LeavesGaps (offset total (part ++ rest)) (part ++ rest) ts
prepend total part rest [] fits lift known = rw (append_assoc part rest (10 ∷ [])) (lift (rest ++ 10 ∷ []) known)
prepend total part rest (t ∷ ts) fits lift known = (
  part ++ known.0,
  known.1,
  known.2,
  ap (λ (x : List ℕ). part ++ x) known.3 ∙ sym (append_assoc part known.0 (known.1 ++ known.2)),
  lift known.0 known.4,
  omega (arith, known.5, fits, size_of part rest, size_of part known.0),
  known.6,
  known.7,
)

-- a token stands in front
with_word : (total : ℕ) (k : TokenKind) (word rest cs : List ℕ) (ts : List Token) → cs ≡ word ++ rest → length (encode_utf8_all cs) ≤ total → LeavesGaps (offset total rest) rest ts → LeavesGaps (offset total cs) cs (record { kind = k; start = offset total cs; end = offset total rest } ∷ ts)
with_word total k word rest cs ts split fits known = (
  [],
  word,
  rest,
  split,
  nothing,
  sym (add-zero (offset total cs)),
  omega (arith, fits, ap (λ (x : List ℕ). length (encode_utf8_all x)) split, size_of word rest),
  known,
)

-- the tokens of a text begin with those of its first piece
abbrev Step : ℕ → ℕ → List ℕ → List Token → Type 0
Step total c cs ts =
    (p : Piece) × (more : List Token) × IsShaped c cs (Ok p) × (tokens_from (offset total) p.1 cs ≡ Ok more) × (ts ≡ with_token (offset total) (c ∷ cs) p more)

by_more : (total c : ℕ) (cs : List ℕ) (ts : List Token) (p : Piece) (read : Result (List Token) LexFault) → IsShaped c cs (Ok p) → tokens_from (offset total) p.1 cs ≡ read → (read >>= λ more. Ok (with_token (offset total) (c ∷ cs) p more)) ≡ Ok ts → Step total c cs ts
by_more total c cs ts p (Ok more) shaped is e = (p, more, shaped, is, sym (ok_is (with_token (offset total) (c ∷ cs) p more) ts e))
by_more total c cs ts p (Err fault) shaped is e = absurd cc

by_front : (total c : ℕ) (cs : List ℕ) (ts : List Token) (read : Result Piece LexFault) → IsShaped c cs read → (read >>= λ p. (tokens_from (offset total) p.1 cs >>= λ more. Ok (with_token (offset total) (c ∷ cs) p more))) ≡ Ok ts → Step total c cs ts
by_front total c cs ts (Ok p) shaped e = by_more total c cs ts p (tokens_from (offset total) p.1 cs) shaped refl e
by_front total c cs ts (Err fault) shaped e = absurd cc

step : (total c : ℕ) (cs : List ℕ) (ts : List Token) → tokens_from (offset total) 0 (c ∷ cs) ≡ Ok ts → Step total c cs ts
unfolding tokens_from
step total c cs ts e = by_front total c cs ts (piece (offset total) c cs) (piece_shape total c cs) e

-- a LF is white space
past_line_end : (r : Result (List Token) LexFault) → (r >>= λ ts. Ok ts) ≡ r
past_line_end (Ok ts) = refl
past_line_end (Err fault) = refl

tokens_from-line_end : (total : ℕ) (cs : List ℕ) → tokens_from (offset total) 0 (10 ∷ cs) ≡ tokens_from (offset total) 0 cs
unfolding tokens_from piece
tokens_from-line_end total cs = past_line_end (tokens_from (offset total) 0 cs)

nothing_left : (total : ℕ) (ts : List Token) → tokens_from (offset total) 0 [] ≡ Ok ts → [] ≡ ts
unfolding tokens_from
nothing_left total ts e = ok_is [] ts e

-- the tokens of fewer characters leave gaps
abbrev LeavesGapsBelow : ℕ → ℕ → Type 0
LeavesGapsBelow fuel total =
    (cs : List ℕ) (ts : List Token) → length cs ≤ fuel → length (encode_utf8_all cs) ≤ total → tokens_from (offset total) 0 cs ≡ Ok ts → LeavesGaps (offset total cs) cs ts

-- a part of a gap is passed
past_part : (fuel total c : ℕ) (cs part rest : List ℕ) (ts : List Token) → LeavesGapsBelow fuel total → length cs ≤ fuel → length (encode_utf8_all (c ∷ cs)) ≤ total → cs ≡ part ++ rest → ((gap : List ℕ) → IsGap gap → IsGap (c ∷ (part ++ gap))) → tokens_from (offset total) 0 rest ≡ Ok ts → LeavesGaps (offset total (c ∷ cs)) (c ∷ cs) ts
past_part fuel total c cs part rest ts below less fits split lift e =
    let P : List ℕ → Type 0 = λ x. LeavesGaps (offset total x) x ts in
    let whole : c ∷ cs ≡ (c ∷ part) ++ rest = ap (λ (x : List ℕ). c ∷ x) split in
    let fits_whole : length (encode_utf8_all ((c ∷ part) ++ rest)) ≤ total = subst (λ (x : List ℕ). length (encode_utf8_all x) ≤ total) whole fits in
    let fewer : length rest ≤ fuel = omega (arith, less, ap length split, length-append part rest) in
    let fits_rest : length (encode_utf8_all rest) ≤ total = omega (arith, fits_whole, size_of (c ∷ part) rest) in
    subst P (sym whole) (prepend total (c ∷ part) rest ts fits_whole lift (below rest ts fewer fits_rest e))

-- the comment that the end of the line ends
last_comment : (total c : ℕ) (cs inside : List ℕ) (ts : List Token) → cs ≡ inside → ((gap : List ℕ) → IsGap gap → IsGap (c ∷ (inside ++ 10 ∷ gap))) → [] ≡ ts → LeavesGaps (offset total (c ∷ cs)) (c ∷ cs) ts
last_comment total c cs inside ts split lift none =
    let P : List Token → Type 0 = λ x. LeavesGaps (offset total (c ∷ cs)) (c ∷ cs) x in
    let Q : List ℕ → Type 0 = λ x. IsGap (c ∷ (x ++ 10 ∷ [])) in
    subst P none (subst Q (sym split) (lift [] nothing))

by_gap : (fuel total c : ℕ) (cs : List ℕ) (n : ℕ) (ts : List Token) → LeavesGapsBelow fuel total → length cs ≤ fuel → length (encode_utf8_all (c ∷ cs)) ≤ total → GapShape c cs n → tokens_from (offset total) 0 (drop n cs) ≡ Ok ts → LeavesGaps (offset total (c ∷ cs)) (c ∷ cs) ts
by_gap fuel total c cs n ts below less fits (inside, rest, split, taken, lifts) e =
    let left : drop n cs ≡ rest = ap (λ (x : List ℕ). drop n x) split ∙ drop_at inside rest n (sym taken) in
    let read : tokens_from (offset total) 0 rest ≡ Ok ts = ap (λ (x : List ℕ). tokens_from (offset total) 0 x) (sym left) ∙ e in
    elim lifts [
      | inl lift ↦ past_part fuel total c cs inside rest ts below less fits split lift read
      | inr (lift, inl none) ↦ last_comment total c cs inside ts (split ∙ ap (λ (x : List ℕ). inside ++ x) none ∙ append-nil inside) lift (nothing_left total ts (ap (λ (x : List ℕ). tokens_from (offset total) 0 x) (sym none) ∙ read))
      | inr (lift, inr (more, ends)) ↦ past_part fuel total c cs (inside ++ 10 ∷ []) more ts below less fits
          (split ∙ ap (λ (x : List ℕ). inside ++ x) ends ∙ sym (append_assoc inside (10 ∷ []) more))
          (λ gap g. rw (append_assoc inside (10 ∷ []) gap) (lift gap g))
          (sym (tokens_from-line_end total more) ∙ ap (λ (x : List ℕ). tokens_from (offset total) 0 x) (sym ends) ∙ read)
    ]

-- after the token's first character the others are passed
by_word : (fuel total c : ℕ) (cs : List ℕ) (k : TokenKind) (n : ℕ) (ts : List Token) → LeavesGapsBelow fuel total → length cs ≤ fuel → length (encode_utf8_all (c ∷ cs)) ≤ total → tokens_from (offset total) 0 (drop n cs) ≡ Ok ts → LeavesGaps (offset total (c ∷ cs)) (c ∷ cs) (with_token (offset total) (c ∷ cs) (Some k, n) ts)
by_word fuel total c cs k n ts below less fits e =
    let split : c ∷ cs ≡ (c ∷ take n cs) ++ drop n cs = ap (λ (x : List ℕ). c ∷ x) (sym (take-append-drop n cs)) in
    let fits_both : length (encode_utf8_all ((c ∷ take n cs) ++ drop n cs)) ≤ total = subst (λ (x : List ℕ). length (encode_utf8_all x) ≤ total) split fits in
    let fits_rest : length (encode_utf8_all (drop n cs)) ≤ total = omega (arith, fits_both, size_of (c ∷ take n cs) (drop n cs)) in
    with_word total k (c ∷ take n cs) (drop n cs) (c ∷ cs) ts split fits (below (drop n cs) ts (omega (arith, less, length-drop n cs)) fits_rest e)

by_step : (fuel total c : ℕ) (cs : List ℕ) (ts : List Token) → LeavesGapsBelow fuel total → length cs ≤ fuel → length (encode_utf8_all (c ∷ cs)) ≤ total → Step total c cs ts → LeavesGaps (offset total (c ∷ cs)) (c ∷ cs) ts
by_step fuel total c cs ts below less fits (p, more, shaped, read, is) =
    let rest : tokens_from (offset total) 0 (drop p.1 cs) ≡ Ok more = sym (tokens_from-skip total p.1 cs) ∙ read in
    let P : List Token → Type 0 = λ x. LeavesGaps (offset total (c ∷ cs)) (c ∷ cs) x in
    let Q : Option TokenKind → Type 0 = λ x. LeavesGaps (offset total (c ∷ cs)) (c ∷ cs) (with_token (offset total) (c ∷ cs) (x, p.1) more) in
    subst P (sym is) (elim shaped [
      | inl (k, some) ↦ subst Q (sym some) (by_word fuel total c cs k p.1 more below less fits rest)
      | inr (none, shape) ↦ subst Q (sym none) (by_gap fuel total c cs p.1 more below less fits shape rest)
    ])

leaves_gaps : (fuel total : ℕ) → LeavesGapsBelow fuel total
leaves_gaps fuel total [] ts less fits e =
    let P : List Token → Type 0 = λ x. LeavesGaps (offset total []) [] x in
    subst P (nothing_left total ts e) (blank 10 [] refl nothing)
leaves_gaps zero total (c ∷ cs) ts less fits e = absurd (omega (arith, less))
leaves_gaps (suc fuel) total (c ∷ cs) ts less fits e =
    by_step fuel total c cs ts (leaves_gaps fuel total) (omega (arith, less)) fits (step total c cs ts e)

-- the tokens of a line leave gaps
pub tokens_of-leaves_gaps : (line : List ℕ) (ts : List Token) → IsUtf8 line → length line ≤ longest_line → tokens_of line ≡ Ok ts → LeavesGaps 0 (chars line) ts
tokens_of-leaves_gaps line ts u short e =
    let size : length (encode_utf8_all (chars line)) ≡ length line = ap length (encodes-chars line u) in
    let begin : offset (length line) (chars line) ≡ 0 = omega (arith, size) in
    rw begin at (leaves_gaps (length (chars line)) (length line) (chars line) ts (omega arith) (omega (arith, size)) (sym (tokens_of-short line u short) ∙ e))
