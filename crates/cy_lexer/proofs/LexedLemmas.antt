-- Lemmas on the tokens of a line: where each stands, that its characters are characters of Unicode, and that from the
-- start of a token to the end of it or of a later one the line has a stretch that isn't empty.
use Rattle.std.proofs.Common.{◌≡◌, ℕ, zero, suc, ◌+◌, ◌-◌, ◌≤◌, ◌<◌, Bool, true, false, not, ◌&&◌, ◌||◌, ◌==◌, nat_lt, nat_le, if◌then◌else◌, List, [], ◌∷◌, ◌++◌, drop, take, length, slice_get, slice_index, slice_range, Option, Some, None, Result, Ok, Err, IsTrue, refl, sym, subst, ap, ◌∙◌, append_assoc, arith, length-append, length-drop, length-take-le, le-leb, ltb-false, ltb-true, lt-ltb}
use Rattle.std.specs.Prelude.{⊤}
use lib.Utf8.{scalar}
use Rattle.std.specs.Char.{is_whitespace, is_ascii_digit}
use Rattle.std.specs.List.{prefix_len, take_while}
use Rattle.std.specs.Str.{chars, IsUtf8, IsCharBoundary, encode_utf8_all, all_scalars}
use Rattle.std.proofs.lemmas.Bool.{eqb-true, and_parts, and_from}
use Rattle.std.proofs.lemmas.List.{take-append-drop, take_at, drop_at}
use Rattle.std.proofs.lemmas.Str.{chars-encodes, encodes-chars, scalars-chars, encodes-append, length-le-encodes, IsCharBoundary-at_seam, IsUtf8-between}
use Rattle.cy_lexer.proofs.CharactersLemmas.{size_of}
use Rattle.cy_lexer.proofs.PlacesLemmas.{tokens_from-end}
use Rattle.cy_lexer.proofs.LexedQuotedLemmas.{all_scalars-between_quotes, unquoted-some}
use Rattle.cy_lexer.proofs.QuotedLemmas.{some_is}
use Rattle.cy_lexer.proofs.TokensLemmas.{ok_is}
use Rattle.cy_lexer.specs.declared.characters.Run.TheVariants as run
use Rattle.cy_lexer.specs.declared.faults.LexFault.{LexFault}
use Rattle.cy_lexer.specs.declared.faults.LexFault.TheVariants.{BadCharacter, UnclosedText, UnclosedComment, UnclosedName, LineTooLong}
use Rattle.cy_lexer.specs.declared.keywords.Keyword.{Keyword}
use Rattle.cy_lexer.specs.declared.symbols.Symbol.{Symbol}
use Rattle.cy_lexer.specs.declared.tokens.TokenKind.{TokenKind}
use Rattle.cy_lexer.specs.declared.tokens.TokenKind.TheVariants as kind
use Rattle.cy_lexer.specs.declared.tokens.Token.{Token}
use Rattle.cy_lexer.specs.Characters.{offset_in, starts_name, goes_on}
use Rattle.cy_lexer.specs.internal.Reading.{offset}
use Rattle.cy_lexer.specs.Keywords.{keyword_of}
use Rattle.cy_lexer.specs.Line.{longest_line}
use Rattle.cy_lexer.specs.Numbers.{number_of, greatest_number, is_bad_number}
use Rattle.cy_lexer.specs.Quoted.{quoted_len}
use Rattle.cy_lexer.specs.Spans.{slice_of, AreSpansOf}
use Rattle.cy_lexer.specs.Symbols.{symbol}
use Rattle.cy_lexer.specs.Tokens.{Piece, ◌>>=◌, block_len, closes_at_once, number_piece, quoted_name, opens_comment, token_piece, piece, with_token, tokens_from, tokens_of, denoted}

-- ---- what is said of a token

-- each element has the property
abbrev pub Every : (Token → Type 0) → List Token → Type 0
Every P [] = ⊤
Every P (t ∷ ts) = P t × Every P ts

-- characters of Unicode, one at least
abbrev pub HasCharacters : List ℕ → Type 0
HasCharacters cs = (c : ℕ) × (more : List ℕ) × (cs ≡ c ∷ more) × IsTrue (all_scalars (c ∷ more))

-- a character begins there, or the line ends
abbrev pub is_place : List ℕ → ℕ → Bool
is_place line at =
    nat_le at (length line) && (not (nat_lt at (length line)) || nat_lt (slice_index line at) 128 || nat_le 192 (slice_index line at))

-- from the one place to the other the line has characters
pub record IsStretch (line : List ℕ) (from to : ℕ) : Type 0 where
  pub rises : from < to
  pub first : IsCharBoundary line from
  pub last : IsCharBoundary line to
  pub within : (nat_lt from to && is_place line from && is_place line to) ≡ true
  pub text : IsUtf8 (slice_range line from to)
  pub written : HasCharacters (chars (slice_range line from to))

-- what a token of the kind stands for: characters of Unicode, and nothing at all only as a text
abbrev pub IsMeant : TokenKind → List ℕ → Type 0
IsMeant kind.Text cs = IsTrue (all_scalars cs)
IsMeant k cs = HasCharacters cs

-- a token of the line
pub record IsLexed (line : List ℕ) (t : Token) : Type 0 where
  pub stretch : IsStretch line t.start t.end
  pub meant : IsMeant t.kind (denoted t.kind (chars (slice_of line t)))

-- where a token is no text, what it stands for has one character at least
pub IsMeant-some : (k : TokenKind) (cs : List ℕ) → (k ≡ kind.Text → ⊥) → IsMeant k cs → HasCharacters cs
IsMeant-some kind.Text cs other meant = absurd (other refl)
IsMeant-some _ cs other meant = meant

-- ---- characters of Unicode

all_scalars-parts : (xs ys : List ℕ) → all_scalars (xs ++ ys) ≡ true → (all_scalars xs ≡ true) × (all_scalars ys ≡ true)
all_scalars-parts [] ys are = (refl, are)
all_scalars-parts (x ∷ xs) ys are =
    let both = and_parts (scalar x) (all_scalars (xs ++ ys)) are in
    let more = all_scalars-parts xs ys both.1 in
    (and_from (scalar x) (all_scalars xs) both.0 more.0, more.1)

all_scalars-take : (n : ℕ) (cs : List ℕ) → all_scalars cs ≡ true → all_scalars (take n cs) ≡ true
all_scalars-take n cs are =
    (all_scalars-parts (take n cs) (drop n cs) (subst (λ (x : List ℕ). all_scalars x ≡ true) (sym (take-append-drop n cs)) are)).0

-- ---- pieces

-- a piece that begins with the character c and goes on with cs: where it is a token, what that stands for
abbrev IsMeantIf : Option TokenKind → List ℕ → Type 0
IsMeantIf None word = ⊤
IsMeantIf (Some k) word = IsMeant k (denoted k word)

abbrev IsPieceOf : ℕ → List ℕ → Result Piece LexFault → Type 0
IsPieceOf c cs (Ok p) = IsMeantIf p.0 (c ∷ take p.1 cs)
IsPieceOf c cs (Err fault) = ⊤

if_piece : (c : ℕ) (cs : List ℕ) (b : Bool) (one other : Result Piece LexFault) → (b ≡ true → IsPieceOf c cs one) → (b ≡ false → IsPieceOf c cs other) → IsPieceOf c cs (if b then one else other)
if_piece c cs true one other is else_is = is refl
if_piece c cs false one other is else_is = else_is refl

word_meant : (word : List ℕ) (c : ℕ) (cs : List ℕ) (found : Option Keyword) → all_scalars (c ∷ cs) ≡ true → IsMeantIf (Some (elim found [ Some k ↦ kind.Keyword k | None ↦ kind.Name ])) (c ∷ cs)
word_meant word c cs (Some k) are = (c, cs, refl, are)
word_meant word c cs None are = (c, cs, refl, are)

block_meant : (at c : ℕ) (cs : List ℕ) (found : Option ℕ) → IsPieceOf c cs (elim found [ Some n ↦ Ok (None, suc n) | None ↦ Err (UnclosedComment at) ])
block_meant at c cs (Some n) = tt
block_meant at c cs None = tt

symbol_meant : (at c : ℕ) (cs : List ℕ) (found : Option (Symbol × ℕ)) → ((n : ℕ) → all_scalars (c ∷ take n cs) ≡ true) → IsPieceOf c cs (elim found [ Some p ↦ Ok (Some (kind.Symbol p.0), p.1) | None ↦ Err (BadCharacter at) ])
symbol_meant at c cs (Some p) are = (c, take p.1 cs, refl, are p.1)
symbol_meant at c cs None are = tt

text_meant : (c : ℕ) (cs : List ℕ) (read : Result ℕ LexFault) → ((n : ℕ) → all_scalars (c ∷ take n cs) ≡ true) → IsPieceOf c cs (read >>= λ n. Ok (Some kind.Text, n))
text_meant c cs (Ok n) are = all_scalars-between_quotes (c ∷ take n cs) (are n)
text_meant c cs (Err fault) are = tt

name_meant : (total : ℕ) (unclosed : LexFault) (cs : List ℕ) (read : Result ℕ LexFault) → closes_at_once 96 cs ≡ false → quoted_len (offset total) unclosed 96 0 cs ≡ read → ((n : ℕ) → all_scalars (96 ∷ take n cs) ≡ true) → IsPieceOf 96 cs (read >>= λ n. Ok (Some kind.QuotedName, n))
name_meant total unclosed cs (Ok n) open_yet e are =
    let some = unquoted-some total n unclosed cs open_yet e in
    (some.0, some.1, some.2, subst (λ (x : List ℕ). all_scalars x ≡ true) some.2 (all_scalars-between_quotes (96 ∷ take n cs) (are n)))
name_meant total unclosed cs (Err fault) open_yet e are = tt

quoted_meant : (total at c : ℕ) (cs : List ℕ) → c ≡ 96 → ((n : ℕ) → all_scalars (c ∷ take n cs) ≡ true) → IsPieceOf c cs (quoted_name (offset total) at cs)
quoted_meant total at c cs e are =
    let P : ℕ → Type 0 = λ x. ((n : ℕ) → all_scalars (x ∷ take n cs) ≡ true) → IsPieceOf x cs (quoted_name (offset total) at cs) in
    subst P (sym e) (λ known. if_piece 96 cs (closes_at_once 96 cs) _ _ (λ _. tt) (λ open_yet. name_meant total (UnclosedName at) cs (quoted_len (offset total) (UnclosedName at) 96 0 cs) open_yet refl known)) are

number_meant : (at c : ℕ) (cs : List ℕ) → ((n : ℕ) → all_scalars (c ∷ take n cs) ≡ true) → IsPieceOf c cs (number_piece at c cs)
number_meant at c cs are =
    let more = prefix_len (goes_on run.Digits) cs in
    if_piece c cs (is_bad_number c cs (drop more cs)) _ _ (λ _. tt) (λ _.
    if_piece c cs (nat_lt greatest_number (number_of 0 (c ∷ take_while (goes_on run.Digits) cs))) _ _ (λ _. tt) (λ _. (c, take more cs, refl, are more)))

token_meant : (total at c : ℕ) (cs : List ℕ) → ((n : ℕ) → all_scalars (c ∷ take n cs) ≡ true) → IsPieceOf c cs (token_piece (offset total) at c cs)
token_meant total at c cs are =
    let word = c ∷ take_while (goes_on run.Name) cs in
    if_piece c cs (starts_name c) _ _ (λ _. word_meant word c (take (prefix_len (goes_on run.Name) cs) cs) (keyword_of (encode_utf8_all word)) (are (prefix_len (goes_on run.Name) cs))) (λ _.
    if_piece c cs (is_ascii_digit c) _ _ (λ _. number_meant at c cs are) (λ _.
    if_piece c cs (c == 96) _ _ (λ e. quoted_meant total at c cs (eqb-true c 96 e) are) (λ _.
    if_piece c cs ((c == 39) || (c == 34)) _ _ (λ _. text_meant c cs (quoted_len (offset total) (UnclosedText at) c 0 cs) are) (λ _.
    symbol_meant at c cs (symbol c cs) are))))

piece_meant : (total c : ℕ) (cs : List ℕ) → all_scalars (c ∷ cs) ≡ true → IsPieceOf c cs (piece (offset total) c cs)
unfolding piece
piece_meant total c cs scalars =
    let both = and_parts (scalar c) (all_scalars cs) scalars in
    let are : (n : ℕ) → all_scalars (c ∷ take n cs) ≡ true = λ n. and_from (scalar c) (all_scalars (take n cs)) both.0 (all_scalars-take n cs both.1) in
    if_piece c cs (is_whitespace c) _ _ (λ _. tt) (λ _.
    if_piece c cs (opens_comment 47 c cs) _ _ (λ _. tt) (λ _.
    if_piece c cs (opens_comment 42 c cs) _ _ (λ _. block_meant (offset total (c ∷ cs)) c cs (block_len (drop 1 cs))) (λ _.
    token_meant total (offset total (c ∷ cs)) c cs are)))

-- ---- tokens among the characters of their line

-- the token's characters stand in the line's where its span says
abbrev IsPlaced : List ℕ → Token → Type 0
IsPlaced whole t =
    (front : List ℕ) × (c : ℕ) × (more : List ℕ) × (rest : List ℕ) × (whole ≡ front ++ ((c ∷ more) ++ rest))
    × (t.start ≡ length (encode_utf8_all front)) × (t.end ≡ t.start + length (encode_utf8_all (c ∷ more)))
    × IsMeant t.kind (denoted t.kind (c ∷ more))

-- and each after the one before it
abbrev ArePlaced : List ℕ → ℕ → List Token → Type 0
ArePlaced whole from [] = ⊤
ArePlaced whole from (t ∷ ts) = (from ≤ t.start) × IsPlaced whole t × ArePlaced whole t.end ts

placed_earlier : (whole : List ℕ) (from to : ℕ) (ts : List Token) → from ≤ to → ArePlaced whole to ts → ArePlaced whole from ts
placed_earlier whole from to [] le known = tt
placed_earlier whole from to (t ∷ ts) le known = (omega (arith, le, known.0), known.1, known.2)

-- the first piece, and the tokens of what it leaves
abbrev Step : ℕ → ℕ → List ℕ → List Token → Type 0
Step total c cs ts =
    (p : Piece) × (more : List Token) × IsPieceOf c cs (Ok p) × (tokens_from (offset total) p.1 cs ≡ Ok more) × (ts ≡ with_token (offset total) (c ∷ cs) p more)

by_more : (total c : ℕ) (cs : List ℕ) (ts : List Token) (p : Piece) (read : Result (List Token) LexFault) → IsPieceOf c cs (Ok p) → tokens_from (offset total) p.1 cs ≡ read → (read >>= λ more. Ok (with_token (offset total) (c ∷ cs) p more)) ≡ Ok ts → Step total c cs ts
by_more total c cs ts p (Ok more) meant is e = (p, more, meant, is, sym (ok_is (with_token (offset total) (c ∷ cs) p more) ts e))
by_more total c cs ts p (Err fault) meant is e = absurd cc

by_front : (total c : ℕ) (cs : List ℕ) (ts : List Token) (read : Result Piece LexFault) → IsPieceOf c cs read → (read >>= λ p. (tokens_from (offset total) p.1 cs >>= λ more. Ok (with_token (offset total) (c ∷ cs) p more))) ≡ Ok ts → Step total c cs ts
by_front total c cs ts (Ok p) meant e = by_more total c cs ts p (tokens_from (offset total) p.1 cs) meant refl e
by_front total c cs ts (Err fault) meant e = absurd cc

step : (total c : ℕ) (cs : List ℕ) (ts : List Token) → all_scalars (c ∷ cs) ≡ true → tokens_from (offset total) 0 (c ∷ cs) ≡ Ok ts → Step total c cs ts
unfolding tokens_from
step total c cs ts are e = by_front total c cs ts (piece (offset total) c cs) (piece_meant total c cs are) e

-- where the last characters begin
offset_behind : (whole front cs : List ℕ) → whole ≡ front ++ cs → offset (length (encode_utf8_all whole)) cs ≡ length (encode_utf8_all front)
offset_behind whole front cs e =
    omega (arith, ap (λ (x : List ℕ). length (encode_utf8_all x)) e, size_of front cs)

with_placed : (whole front : List ℕ) (c : ℕ) (cs : List ℕ) (k : Option TokenKind) (n : ℕ) (more : List Token) → whole ≡ front ++ (c ∷ cs) → IsMeantIf k (c ∷ take n cs) → ArePlaced whole (offset (length (encode_utf8_all whole)) (drop n cs)) more → ArePlaced whole (offset (length (encode_utf8_all whole)) (c ∷ cs)) (with_token (offset (length (encode_utf8_all whole))) (c ∷ cs) (k, n) more)
with_placed whole front c cs k n more split meant known =
    let total = length (encode_utf8_all whole) in
    let parts : whole ≡ front ++ ((c ∷ take n cs) ++ drop n cs) = split ∙ ap (λ (x : List ℕ). front ++ (c ∷ x)) (sym (take-append-drop n cs)) in
    let onward : whole ≡ (front ++ (c ∷ take n cs)) ++ drop n cs = parts ∙ sym (append_assoc front (c ∷ take n cs) (drop n cs)) in
    let from = offset_behind whole front (c ∷ cs) split in
    let to = offset_behind whole (front ++ (c ∷ take n cs)) (drop n cs) onward in
    let size = size_of front (c ∷ take n cs) in
    by_kind whole front c cs k n more parts from (to ∙ size) meant known
  where
    by_kind : (whole front : List ℕ) (c : ℕ) (cs : List ℕ) (k : Option TokenKind) (n : ℕ) (more : List Token) → whole ≡ front ++ ((c ∷ take n cs) ++ drop n cs) → offset (length (encode_utf8_all whole)) (c ∷ cs) ≡ length (encode_utf8_all front) → offset (length (encode_utf8_all whole)) (drop n cs) ≡ length (encode_utf8_all front) + length (encode_utf8_all (c ∷ take n cs)) → IsMeantIf k (c ∷ take n cs) → ArePlaced whole (offset (length (encode_utf8_all whole)) (drop n cs)) more → ArePlaced whole (offset (length (encode_utf8_all whole)) (c ∷ cs)) (with_token (offset (length (encode_utf8_all whole))) (c ∷ cs) (k, n) more)
    by_kind whole front c cs None n more parts from to meant known = placed_earlier whole _ _ more (omega (arith, from, to)) known
    by_kind whole front c cs (Some k) n more parts from to meant known =
        (omega arith, (front, c, take n cs, drop n cs, parts, from, omega (arith, from, to), meant), known)

placed : (whole front : List ℕ) (skip : ℕ) (cs : List ℕ) (ts : List Token) → whole ≡ front ++ cs → all_scalars cs ≡ true → tokens_from (offset (length (encode_utf8_all whole))) skip cs ≡ Ok ts → ArePlaced whole (offset (length (encode_utf8_all whole)) (drop skip cs)) ts
unfolding tokens_from
placed whole front skip [] ts split are e =
    subst (λ (x : List Token). ArePlaced whole (offset (length (encode_utf8_all whole)) (drop skip [])) x) (ok_is [] ts e) tt
placed whole front (suc skip) (c ∷ cs) ts split are e =
    placed whole (front ++ c ∷ []) skip cs ts (split ∙ sym (append_assoc front (c ∷ []) cs)) (and_parts (scalar c) (all_scalars cs) are).1 e
placed whole front zero (c ∷ cs) ts split are e =
    let total = length (encode_utf8_all whole) in
    let s = step total c cs ts are e in
    let known = placed whole (front ++ c ∷ []) s.0.1 cs s.1 (split ∙ sym (append_assoc front (c ∷ []) cs)) (and_parts (scalar c) (all_scalars cs) are).1 s.3 in
    subst (λ (x : List Token). ArePlaced whole (offset total (c ∷ cs)) x) (sym s.4) (with_placed whole front c cs s.0.0 s.0.1 s.1 split s.2 known)

-- ---- stretches of the line

by_inside : (inside small large : Bool) → (inside ≡ true → small ≡ false → large ≡ true) → (not inside || small || large) ≡ true
by_inside false small large h = refl
by_inside true true large h = refl
by_inside true false large h = h refl refl

place : (line : List ℕ) (at : ℕ) → IsCharBoundary line at → is_place line at ≡ true
place line at is =
    and_from (nat_le at (length line)) (not (nat_lt at (length line)) || nat_lt (slice_index line at) 128 || nat_le 192 (slice_index line at)) (le-leb at (length line) is.0)
    (by_inside (nat_lt at (length line)) (nat_lt (slice_index line at) 128) (nat_le 192 (slice_index line at)) (λ inside small. le-leb 192 (slice_index line at) (is.1 (ltb-true at (length line) inside) (ltb-false (slice_index line at) 128 small))))

by_characters : (bs cs : List ℕ) → 0 < length bs → all_scalars cs ≡ true → encode_utf8_all cs ≡ bs → HasCharacters cs
by_characters bs [] some are e = absurd (omega (arith, some, ap length e))
by_characters bs (c ∷ cs) some are e = (c, cs, refl, are)

-- between two boundaries, one after the other
pub stretch : (line : List ℕ) (from to : ℕ) → IsUtf8 line → from < to → IsCharBoundary line from → IsCharBoundary line to → IsStretch line from to
stretch line from to u rises first last =
    let text : IsUtf8 (slice_range line from to) = IsUtf8-between line from to u (omega (arith, rises)) first last in
    let size : length (slice_range line from to) ≡ to - from = length-take-le (to - from) (drop from line) (omega (arith, rises, last.0, length-drop from line)) in
    let bs = slice_range line from to in
    record {
      rises = rises;
      first = first;
      last = last;
      within = and_from (nat_lt from to && is_place line from) (is_place line to) (and_from (nat_lt from to) (is_place line from) (lt-ltb from to rises) (place line from first)) (place line to last);
      text = text;
      written = by_characters bs (chars bs) (omega (arith, rises, size)) (scalars-chars bs text) (encodes-chars bs text);
    }

-- ---- tokens by bytes

slice_is : (line front word rest : List ℕ) (from to : ℕ) → line ≡ front ++ (word ++ rest) → from ≡ length front → to ≡ from + length word → slice_range line from to ≡ word
slice_is line front word rest from to split first last =
    let left : drop from line ≡ word ++ rest = ap (λ (x : List ℕ). drop from x) split ∙ drop_at front (word ++ rest) from (sym first) in
    ap (λ (x : List ℕ). take (to - from) x) left ∙ take_at word rest (to - from) (omega (arith, last))

placed_lexed : (line whole : List ℕ) (t : Token) → encode_utf8_all whole ≡ line → all_scalars whole ≡ true → IsPlaced whole t → IsLexed line t
placed_lexed line whole t bytes are (front, c, more, rest, split, first, last, meant) =
    let word = c ∷ more in
    let both = all_scalars-parts front (word ++ rest) (subst (λ (x : List ℕ). all_scalars x ≡ true) split are) in
    let parts = all_scalars-parts word rest both.1 in
    let behind : line ≡ encode_utf8_all front ++ encode_utf8_all (word ++ rest) = sym bytes ∙ ap encode_utf8_all split ∙ encodes-append front (word ++ rest) in
    let split_bytes : line ≡ encode_utf8_all front ++ (encode_utf8_all word ++ encode_utf8_all rest) = behind ∙ ap (λ (x : List ℕ). encode_utf8_all front ++ x) (encodes-append word rest) in
    let onward : line ≡ (encode_utf8_all front ++ encode_utf8_all word) ++ encode_utf8_all rest = split_bytes ∙ sym (append_assoc (encode_utf8_all front) (encode_utf8_all word) (encode_utf8_all rest)) in
    let u : IsUtf8 line = (whole, (are, bytes)) in
    let start = IsCharBoundary-at_seam line (encode_utf8_all front) (encode_utf8_all (word ++ rest)) behind (word ++ rest, (both.1, refl)) in
    let end = IsCharBoundary-at_seam line (encode_utf8_all front ++ encode_utf8_all word) (encode_utf8_all rest) onward (rest, (parts.1, refl)) in
    let end_is : length (encode_utf8_all front ++ encode_utf8_all word) ≡ t.end = omega (arith, first, last, length-append (encode_utf8_all front) (encode_utf8_all word)) in
    let slice : slice_of line t ≡ encode_utf8_all word = slice_is line (encode_utf8_all front) (encode_utf8_all word) (encode_utf8_all rest) t.start t.end split_bytes first last in
    let characters : chars (slice_of line t) ≡ word = ap chars slice ∙ chars-encodes word parts.0 in
    let some : 0 < length (encode_utf8_all word) = omega (arith, length-le-encodes word) in
    record {
      stretch = stretch line t.start t.end u (omega (arith, last, some)) (subst (λ (n : ℕ). IsCharBoundary line n) (sym first) start) (subst (λ (n : ℕ). IsCharBoundary line n) end_is end);
      meant = subst (λ (x : List ℕ). IsMeant t.kind (denoted t.kind x)) (sym characters) meant;
    }

placed_every : (line whole : List ℕ) (from : ℕ) (ts : List Token) → encode_utf8_all whole ≡ line → all_scalars whole ≡ true → ArePlaced whole from ts → Every (IsLexed line) ts
placed_every line whole from [] bytes are known = tt
placed_every line whole from (t ∷ ts) bytes are known =
    (placed_lexed line whole t bytes are known.1, placed_every line whole t.end ts bytes are known.2)

placed_spans : (line whole : List ℕ) (from : ℕ) (ts : List Token) → encode_utf8_all whole ≡ line → all_scalars whole ≡ true → from ≤ length line → ArePlaced whole from ts → AreSpansOf line from ts (length line)
placed_spans line whole from [] bytes are within known = within
placed_spans line whole from (t ∷ ts) bytes are within known =
    let s = (placed_lexed line whole t bytes are known.1).stretch in
    (known.0, (s.rises, s.first, s.last), placed_spans line whole t.end ts bytes are s.last.0 known.2)

-- ---- the tokens of a line

-- a line that has tokens isn't too long
by_length : (read : Result (List Token) LexFault) (ts : List Token) (long : Bool) → (if long then Err LineTooLong else read) ≡ Ok ts → read ≡ Ok ts
by_length read ts true e = absurd cc
by_length read ts false e = e

tokens_of-from : (line : List ℕ) (ts : List Token) → IsUtf8 line → tokens_of line ≡ Ok ts → tokens_from (offset (length line)) 0 (chars line) ≡ Ok ts
unfolding tokens_of
tokens_of-from line ts u e =
    sym (tokens_from-end line u) ∙ by_length (tokens_from (offset_in (chars line)) 0 (chars line)) ts (nat_lt longest_line (length line)) e

tokens_of-placed : (line : List ℕ) (ts : List Token) → IsUtf8 line → tokens_of line ≡ Ok ts → ArePlaced (chars line) 0 ts
tokens_of-placed line ts u e =
    let whole = chars line in
    let total : length line ≡ length (encode_utf8_all whole) = ap length (sym (encodes-chars line u)) in
    let read : tokens_from (offset (length (encode_utf8_all whole))) 0 whole ≡ Ok ts = ap (λ (n : ℕ). tokens_from (offset n) 0 whole) (sym total) ∙ tokens_of-from line ts u e in
    placed_earlier whole 0 (offset (length (encode_utf8_all whole)) whole) ts (omega arith) (placed whole [] 0 whole ts refl (scalars-chars line u) read)

-- each token of a line has a place in it, and stands for characters of Unicode
pub tokens_of-lexed : (line : List ℕ) (ts : List Token) → IsUtf8 line → tokens_of line ≡ Ok ts → Every (IsLexed line) ts
tokens_of-lexed line ts u e = placed_every line (chars line) 0 ts (encodes-chars line u) (scalars-chars line u) (tokens_of-placed line ts u e)

-- each stands after the one before it
pub tokens_of-spans : (line : List ℕ) (ts : List Token) → IsUtf8 line → tokens_of line ≡ Ok ts → AreSpansOf line 0 ts (length line)
tokens_of-spans line ts u e = placed_spans line (chars line) 0 ts (encodes-chars line u) (scalars-chars line u) (omega arith) (tokens_of-placed line ts u e)

-- ---- from one token to another

-- what holds for all tokens holds for some of them
pub Every-back : (P : Token → Type 0) (front back : List Token) → Every P (front ++ back) → Every P back
Every-back P [] back all = all
Every-back P (t ∷ ts) back all = Every-back P ts back all.1

pub AreSpansOf-back : (line : List ℕ) (from to : ℕ) (front back : List Token) → AreSpansOf line from (front ++ back) to → (at : ℕ) × AreSpansOf line at back to
AreSpansOf-back line from to [] back spans = (from, spans)
AreSpansOf-back line from to (t ∷ ts) back spans = AreSpansOf-back line t.end to ts back spans.2

-- from the first of some tokens to the last one
spans_last : (line : List ℕ) (from to : ℕ) (x : Token) (own after : List Token) (u : Token) → AreSpansOf line from (x ∷ (own ++ after)) to → slice_get (x ∷ own) (length own) ≡ Some u → (from < u.end) × IsCharBoundary line u.end
spans_last line from to x [] after u spans e =
    let same : x ≡ u = some_is x u e in
    (subst (λ (y : Token). from < y.end) same (omega (arith, spans.0, spans.1.0)), subst (λ (y : Token). IsCharBoundary line y.end) same spans.1.2)
spans_last line from to x (y ∷ own) after u spans e =
    let more = spans_last line x.end to y own after u spans.2 e in
    (omega (arith, spans.0, spans.1.0, more.0), more.1)

own_stretch : (line : List ℕ) (from to : ℕ) (own after : List Token) (t u : Token) → IsUtf8 line → AreSpansOf line from (own ++ after) to → slice_get own 0 ≡ Some t → slice_get own (length own - 1) ≡ Some u → IsStretch line t.start u.end
own_stretch line from to [] after t u utf8 spans first last = absurd cc
own_stretch line from to (x ∷ own) after t u utf8 spans first last =
    let same : x ≡ t = some_is x t first in
    let end : length (x ∷ own) - 1 ≡ length own = omega arith in
    let later = spans_last line x.start to x own after u (omega arith, spans.1, spans.2) (rw end at last) in
    subst (λ (y : Token). IsStretch line y.start u.end) same (stretch line x.start u.end utf8 later.0 spans.1.1 later.1)

pub tokens_of-own : (line : List ℕ) (before own after : List Token) (t u : Token) → IsUtf8 line → tokens_of line ≡ Ok (before ++ (own ++ after)) → slice_get own 0 ≡ Some t → slice_get own (length own - 1) ≡ Some u → IsStretch line t.start u.end
tokens_of-own line before own after t u utf8 e first last =
    let spans = AreSpansOf-back line 0 (length line) before (own ++ after) (tokens_of-spans line _ utf8 e) in
    own_stretch line spans.0 (length line) own after t u utf8 spans.1 first last
