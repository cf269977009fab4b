-- Lemmas on words: each is the piece at the front of a text, where what stands after it may follow it.
use Rattle.std.proofs.Common.{◌≡◌, inl, inr, ℕ, zero, suc, ◌+◌, ◌*◌, ◌-◌, ◌<◌, ◌≤◌, ◌^◌, ◌/◌, ◌%◌, Bool, true, false, ◌&&◌, ◌||◌, ◌==◌, List, [], ◌∷◌, ◌++◌, drop, take, length, Some, Ok, refl, sym, ap, ◌∙◌, append_assoc, arith, length-append}
use borrow.Author.Tests.{leb-true}
use Rattle.std.specs.Char.{is_ascii, is_whitespace, is_ascii_digit, is_ascii_alphabetic, is_ascii_alphanumeric, encode_utf8}
use Rattle.std.specs.Fmt.{decimal}
use Rattle.std.specs.List.{prefix_len, take_while, list_all}
use Rattle.std.specs.Str.{encode_utf8_all}
use Rattle.std.proofs.lemmas.Bool.{and_parts, or_parts, cases_Bool, le-ltb}
use Rattle.std.proofs.lemmas.Bool.Decides.{nat_tests}
use Rattle.std.proofs.lemmas.Fmt.{decimal_by_steps, decimal_digit, decimal_nonempty, first_decimal}
use Rattle.std.proofs.lemmas.List.Folds.{list_all-append}
use Rattle.std.proofs.lemmas.List.{take_at, drop_at}
use Rattle.unicode_ident.specs.Ident.{is_xid_continue}
use Rattle.cy_lexer.specs.declared.characters.Run.TheVariants as run
use Rattle.cy_lexer.specs.declared.faults.LexFault.TheVariants.{UnclosedText, UnclosedName}
use Rattle.cy_lexer.specs.declared.keywords.Keyword.{Keyword}
use Rattle.cy_lexer.specs.declared.keywords.Keyword.TheVariants as keyword
use Rattle.cy_lexer.specs.declared.symbols.Symbol.{Symbol}
use Rattle.cy_lexer.specs.declared.symbols.Symbol.TheVariants as sign
use Rattle.cy_lexer.specs.declared.tokens.TokenKind.TheVariants as kind
use Rattle.cy_lexer.specs.Characters.{begins_with, starts_name, goes_on}
use Rattle.cy_lexer.specs.internal.Reading.{offset}
use Rattle.cy_lexer.specs.Keywords.{spelling, keyword_of}
use Rattle.cy_lexer.specs.Numbers.{number_of, greatest_number, begins_with_digit, spoils_number}
use Rattle.cy_lexer.specs.Symbols.{symbol}
use Rattle.cy_lexer.specs.Tokens.{word_kind, word_piece, opens_comment, number_piece, symbol_piece, token_piece, piece}
use Rattle.cy_lexer.specs.Words.{Word, doubled, escaped, signs}
use Rattle.cy_lexer.specs.internal.SpacedWords.{is_word, kind_of, characters}
use Rattle.cy_lexer.specs.Words as word
use Rattle.cy_lexer.proofs.CharactersLemmas.{starts_name-ascii, goes_on-ascii}
use Rattle.cy_lexer.proofs.PiecesLemmas.{piece-token, word_kind-keyword}
use Rattle.cy_lexer.proofs.WordsQuotedLemmas.{quoted_len-doubled, quoted_len-escaped, closes_at_once-doubled}

-- the word is the piece at the front of its characters and a rest
abbrev pub IsPiece : Word → List ℕ → Type 0
IsPiece w rest =
    (c : ℕ) × (more : List ℕ) × (characters w ≡ c ∷ more) × ((total : ℕ) → piece (offset total) c (more ++ rest) ≡ Ok (Some (kind_of w), length more))

-- ---- runs of characters

-- a run that a text begins with and what stands after doesn't go on with
prefix_len-whole : (p : ℕ → Bool) (xs rest : List ℕ) → list_all p xs ≡ true → prefix_len p rest ≡ 0 → prefix_len p (xs ++ rest) ≡ length xs
prefix_len-whole p [] rest all stops = stops
prefix_len-whole p (x ∷ xs) rest all stops =
    let both = and_parts (p x) (list_all p xs) all in
    let more = prefix_len-whole p xs rest both.1 stops in
    rw both.0 (omega (arith, more))

take_while-whole : (p : ℕ → Bool) (xs rest : List ℕ) → list_all p xs ≡ true → prefix_len p rest ≡ 0 → take_while p (xs ++ rest) ≡ xs
take_while-whole p xs rest all stops = ap (λ (n : ℕ). take n (xs ++ rest)) (prefix_len-whole p xs rest all stops) ∙ take_at xs rest (length xs) refl

stops_at : (p : ℕ → Bool) (c : ℕ) (cs : List ℕ) → p c ≡ false → prefix_len p (c ∷ cs) ≡ 0
stops_at p c cs e = rw e refl

-- ---- keywords

-- a name goes on with the text
abbrev pub continues : List ℕ → Bool
continues [] = false
continues (c ∷ cs) = is_xid_continue c

stops_name : (rest : List ℕ) → continues rest ≡ false → prefix_len (goes_on run.Name) rest ≡ 0
stops_name [] e = refl
stops_name (c ∷ cs) e = stops_at (goes_on run.Name) c cs e

ascii_goes_on : (c : ℕ) → is_ascii c ≡ true → is_ascii_alphanumeric c ≡ true → is_xid_continue c ≡ true
ascii_goes_on c small letter = sym (goes_on-ascii run.Name c true refl small (sym letter))

all_go_on : (cs : List ℕ) → list_all (λ c. is_ascii c && is_ascii_alphanumeric c) cs ≡ true → list_all (goes_on run.Name) cs ≡ true
all_go_on [] e = refl
all_go_on (c ∷ cs) e =
    let both = and_parts (is_ascii c && is_ascii_alphanumeric c) (list_all (λ c. is_ascii c && is_ascii_alphanumeric c) cs) e in
    let first = and_parts (is_ascii c) (is_ascii_alphanumeric c) both.0 in
    rw (ascii_goes_on c first.0 first.1) (all_go_on cs both.1)

keyword_of-spelling : (k : Keyword) → keyword_of (encode_utf8_all (spelling k)) ≡ Some k
unfolding keyword_of encode_utf8
keyword_of-spelling keyword.All = refl
keyword_of-spelling k = refl

-- an ASCII letter, by which a name begins
abbrev pub IsLetter : ℕ → Type 0
IsLetter c = (is_ascii c ≡ true) × (is_ascii_alphabetic c ≡ true) × (is_whitespace c ≡ false) × ((c == 47) ≡ false)

pub spelling-front : (k : Keyword) → (c : ℕ) × (more : List ℕ) × (spelling k ≡ c ∷ more) × IsLetter c × (list_all (λ d. is_ascii d && is_ascii_alphanumeric d) more ≡ true)
spelling-front keyword.All = (_, _, refl, (refl, refl, refl, refl), refl)
spelling-front k = (_, _, refl, (refl, refl, refl, refl), refl)

-- a piece that begins with a letter
piece-letter : (total c : ℕ) (cs : List ℕ) → IsLetter c → piece (offset total) c cs ≡ Ok (word_piece c cs)
piece-letter total c cs letter =
    let no_slash : (d : ℕ) → false ≡ opens_comment d c cs = λ d. rw letter.3 refl in
    let starts : starts_name c ≡ true = sym (starts_name-ascii c true letter.0 (sym letter.1)) in
    piece-token total c cs letter.2 (no_slash 47) (no_slash 42) ∙ rw starts refl

pub piece-keyword : (k : Keyword) (rest : List ℕ) → continues rest ≡ false → IsPiece (word.keyword k) rest
piece-keyword k rest stops =
    let front = spelling-front k in
    let all = all_go_on front.1 front.4 in
    let kind-is : word_kind (front.0 ∷ front.1) ≡ kind.Keyword k = word_kind-keyword k (front.0 ∷ front.1) (ap (λ (x : List ℕ). keyword_of (encode_utf8_all x)) (sym front.2) ∙ keyword_of-spelling k) in (
      front.0,
      front.1,
      front.2,
      λ total.
          piece-letter total front.0 (front.1 ++ rest) front.3
          ∙ ap (λ (x : List ℕ). Ok (Some (word_kind (front.0 ∷ x)), prefix_len (goes_on run.Name) (front.1 ++ rest))) (take_while-whole (goes_on run.Name) front.1 rest all (stops_name rest stops))
          ∙ ap (λ (n : ℕ). Ok (Some (word_kind (front.0 ∷ front.1)), n)) (prefix_len-whole (goes_on run.Name) front.1 rest all (stops_name rest stops))
          ∙ rw kind-is refl,
    )

-- ---- quoted names and texts

-- a character of ASCII that begins no name
abbrev IsSign : ℕ → Type 0
IsSign c = (is_ascii c ≡ true) × ((is_ascii_alphabetic c || (c == 95)) ≡ false) × (is_whitespace c ≡ false) × (is_ascii_digit c ≡ false)

no_name : (c : ℕ) → IsSign c → starts_name c ≡ false
no_name c sign = sym (starts_name-ascii c (is_ascii_alphabetic c) sign.0 refl) ∙ sign.1

pub piece-name : (cs rest : List ℕ) → is_word (word.name cs) ≡ true → begins_with 96 rest ≡ false → IsPiece (word.name cs) rest
piece-name [] rest some stops = absurd cc
piece-name (c ∷ cs) rest some stops = (
  96,
  doubled (c ∷ cs) ++ 96 ∷ [],
  refl,
  λ total.
      let at = offset total (96 ∷ ((doubled (c ∷ cs) ++ 96 ∷ []) ++ rest)) in
      let split : (doubled (c ∷ cs) ++ 96 ∷ []) ++ rest ≡ doubled (c ∷ cs) ++ 96 ∷ rest = append_assoc (doubled (c ∷ cs)) (96 ∷ []) rest in
      let inside = closes_at_once-doubled c cs (96 ∷ rest) in
      let size = sym (length-append (doubled (c ∷ cs)) (96 ∷ [])) in
      piece-token total 96 ((doubled (c ∷ cs) ++ 96 ∷ []) ++ rest) refl refl refl
      ∙ ap (λ (x : List ℕ). token_piece (offset total) at 96 x) split
      ∙ rw (no_name 96 (refl, refl, refl, refl)) (rw inside (rw (quoted_len-doubled total (UnclosedName at) (c ∷ cs) rest stops) (ap (λ (n : ℕ). Ok (Some kind.QuotedName, n)) size))),
)

pub piece-text : (cs rest : List ℕ) → IsPiece (word.text cs) rest
piece-text cs rest = (
  39,
  escaped cs ++ 39 ∷ [],
  refl,
  λ total.
      let at = offset total (39 ∷ ((escaped cs ++ 39 ∷ []) ++ rest)) in
      let split : (escaped cs ++ 39 ∷ []) ++ rest ≡ escaped cs ++ 39 ∷ rest = append_assoc (escaped cs) (39 ∷ []) rest in
      let size = sym (length-append (escaped cs) (39 ∷ [])) in
      piece-token total 39 ((escaped cs ++ 39 ∷ []) ++ rest) refl refl refl
      ∙ ap (λ (x : List ℕ). token_piece (offset total) at 39 x) split
      ∙ rw (no_name 39 (refl, refl, refl, refl)) (rw (quoted_len-escaped total (UnclosedText at) cs rest) (ap (λ (n : ℕ). Ok (Some kind.Text, n)) size)),
)

-- ---- symbols

-- the symbol and the text after it begin another symbol, or open a comment
abbrev pub joins_on : Symbol → List ℕ → Bool
joins_on sign.Dot rest = begins_with 46 rest
joins_on sign.Less rest = begins_with 61 rest || begins_with 62 rest
joins_on sign.Greater rest = begins_with 61 rest
joins_on sign.Slash rest = begins_with 47 rest || begins_with 42 rest
joins_on s rest = false

-- a symbol's first character, and what follows it
abbrev IsFront : Symbol → List ℕ → ℕ → List ℕ → Type 0
IsFront s rest c more =
    (signs s ≡ c ∷ more) × (symbol c (more ++ rest) ≡ Some (s, length more)) × IsSign c × ((c == 96) ≡ false) × (((c == 39) || (c == 34)) ≡ false) × (opens_comment 47 c (more ++ rest) ≡ false) × (opens_comment 42 c (more ++ rest) ≡ false)

signs-front : (s : Symbol) (rest : List ℕ) → joins_on s rest ≡ false → (c : ℕ) × (more : List ℕ) × IsFront s rest c more
unfolding symbol
signs-front sign.Dot [] free = (_, _, (refl, refl, (refl, refl, refl, refl), refl, refl, refl, refl))
signs-front s [] free = (_, _, (refl, refl, (refl, refl, refl, refl), refl, refl, refl, refl))
signs-front sign.Dot (d ∷ rest) free = (_, _, (refl, rw free refl, (refl, refl, refl, refl), refl, refl, refl, refl))
signs-front sign.Less (d ∷ rest) free =
    let both = or_parts (d == 61) (d == 62) free in
    (_, _, (refl, rw (both.1, both.0) refl, (refl, refl, refl, refl), refl, refl, refl, refl))
signs-front sign.Greater (d ∷ rest) free = (_, _, (refl, rw free refl, (refl, refl, refl, refl), refl, refl, refl, refl))
signs-front sign.Slash (d ∷ rest) free =
    let both = or_parts (d == 47) (d == 42) free in
    (_, _, (refl, refl, (refl, refl, refl, refl), refl, refl, both.0, both.1))
signs-front s (d ∷ rest) free = (_, _, (refl, refl, (refl, refl, refl, refl), refl, refl, refl, refl))

pub piece-symbol : (s : Symbol) (rest : List ℕ) → joins_on s rest ≡ false → IsPiece (word.symbol s) rest
piece-symbol s rest free =
    let front = signs-front s rest free in
    let is = front.2 in (
      front.0,
      front.1,
      is.0,
      λ total.
          piece-token total front.0 (front.1 ++ rest) is.2.2 (sym is.5) (sym is.6)
          ∙ rw (no_name front.0 is.2, is.2.3, is.3, is.4) (rw (is.1, symbol_piece) refl),
    )

-- ---- numbers

-- digits that write the number
abbrev IsDecimal : ℕ → List ℕ → Type 0
IsDecimal n ds = (list_all is_ascii_digit ds ≡ true) × (number_of 0 ds ≡ n)

number_of-push : (high : ℕ) (ds : List ℕ) (d : ℕ) → number_of high (ds ++ d ∷ []) ≡ number_of high ds * 10 + (d - 48)
number_of-push high [] d = refl
number_of-push high (c ∷ ds) d = number_of-push (high * 10 + (c - 48)) ds d

digit_is : (d : ℕ) → d < 10 → is_ascii_digit (48 + d) ≡ true
digit_is d small = grind (arith, nat_tests)

one_digit : (n : ℕ) → n < 10 → IsDecimal n ((48 + n) ∷ [])
one_digit n small = (rw (digit_is n small) refl, omega arith)

more_digits : (n : ℕ) (ds : List ℕ) → 10 ≤ n → IsDecimal (n / 10) ds → IsDecimal n (ds ++ ((48 + n % 10) ∷ []))
more_digits n ds large known =
    let small : n % 10 < 10 = omega arith in (
      list_all-append is_ascii_digit ds ((48 + n % 10) ∷ []) ∙ rw (known.0, digit_is (n % 10) small) refl,
      number_of-push 0 ds (48 + n % 10) ∙ omega (arith, known.1),
    )

decimal_is : (n : ℕ) → n < 2 ^ 64 → IsDecimal n (decimal n)
decimal_is n held = decimal_by_steps IsDecimal one_digit more_digits n held

-- a digit is a character of ASCII that begins no name, and goes on with one
digit_sign : (c : ℕ) → is_ascii_digit c ≡ true → (is_ascii c ≡ true) × (is_ascii_alphanumeric c ≡ true) × ((is_ascii_alphabetic c || (c == 95)) ≡ false) × (is_whitespace c ≡ false) × ((c == 47) ≡ false)
digit_sign c digit = (
  grind (arith, nat_tests),
  grind (arith, nat_tests),
  grind (arith, nat_tests),
  grind (arith, nat_tests),
  grind (arith, nat_tests),
)

no_digit : (c : ℕ) → is_xid_continue c ≡ false → is_ascii_digit c ≡ false
no_digit c stops =
    elim (cases_Bool (is_ascii_digit c)) [
      | inl digit ↦ let s = digit_sign c digit in let goes : is_xid_continue c ≡ true = ascii_goes_on c s.0 s.1 in absurd (cc)
      | inr other ↦ other
    ]

no_digits : (rest : List ℕ) → spoils_number rest ≡ false → begins_with_digit rest ≡ false
no_digits [] stops = refl
no_digits (c ∷ cs) stops = no_digit c (or_parts (is_xid_continue c) ((c == 46) && begins_with_digit cs) stops).0

stops_digits : (rest : List ℕ) → begins_with_digit rest ≡ false → prefix_len (goes_on run.Digits) rest ≡ 0
stops_digits [] stops = refl
stops_digits (c ∷ cs) stops = stops_at (goes_on run.Digits) c cs stops

and_false : (b : Bool) → (b && false) ≡ false
and_false true = refl
and_false false = refl

-- a number has no leading zero
lead : (n c : ℕ) (more rest : List ℕ) → n < 2 ^ 64 → decimal n ≡ c ∷ more → begins_with_digit rest ≡ false → ((c == 48) && begins_with_digit (more ++ rest)) ≡ false
lead zero c more rest held e stops =
    let alone : c ∷ more ≡ 48 ∷ [] = sym e ∙ decimal_digit 0 (omega arith) in
    let none : more ≡ [] = cc in
    rw (none, stops) (and_false (c == 48))
lead (suc n) c more rest held e stops =
    let some : 48 < c = rw e at (first_decimal (suc n) (omega arith) held) in
    let other : (c == 48) ≡ false = grind (arith, nat_tests) in
    rw other refl

-- a list with a first element
uncons : (xs : List ℕ) → 0 < length xs → (x : ℕ) × (more : List ℕ) × (xs ≡ x ∷ more)
uncons [] some = absurd (omega arith)
uncons (x ∷ more) some = (x, more, refl)

number_piece-whole : (at n c : ℕ) (ds rest : List ℕ) → list_all is_ascii_digit ds ≡ true → number_of 0 (c ∷ ds) ≡ n → n ≤ greatest_number → ((c == 48) && begins_with_digit (ds ++ rest)) ≡ false → spoils_number rest ≡ false → number_piece at c (ds ++ rest) ≡ Ok (Some (kind.Number n), length ds)
number_piece-whole at n c ds rest all value small first stops =
    let end = stops_digits rest (no_digits rest stops) in
    let size = prefix_len-whole (goes_on run.Digits) ds rest all end in
    let front : take (length ds) (ds ++ rest) ≡ ds = take_at ds rest (length ds) refl in
    let left : drop (length ds) (ds ++ rest) ≡ rest = drop_at ds rest (length ds) refl in
    rw size (rw left (rw (first, stops) (rw front (rw value (rw (le-ltb greatest_number n small) refl)))))

pub piece-number : (n : ℕ) (rest : List ℕ) → is_word (word.number n) ≡ true → spoils_number rest ≡ false → IsPiece (word.number n) rest
piece-number n rest fits stops =
    let small : n ≤ 9223372036854775808 = leb-true n greatest_number fits in
    let held : n < 2 ^ 64 = omega arith in
    let front = uncons (decimal n) (decimal_nonempty n held) in
    let digits = decimal_is n held in
    let all = and_parts (is_ascii_digit front.0) (list_all is_ascii_digit front.1) (rw front.2 at digits.0) in
    let s = digit_sign front.0 all.0 in
    let no_slash : (d : ℕ) → false ≡ opens_comment d front.0 (front.1 ++ rest) = λ d. rw s.4 refl in
    let starts : starts_name front.0 ≡ false = sym (starts_name-ascii front.0 (is_ascii_alphabetic front.0) s.0 refl) ∙ s.2 in (
      front.0,
      front.1,
      front.2,
      λ total.
          piece-token total front.0 (front.1 ++ rest) s.3 (no_slash 47) (no_slash 42)
          ∙ rw (starts, all.0) (number_piece-whole (offset total (front.0 ∷ (front.1 ++ rest))) n front.0 front.1 rest all.1 (rw front.2 at digits.1) small (lead n front.0 front.1 rest held front.2 (no_digits rest stops)) stops),
    )

-- a number begins with a digit
pub decimal-front : (n : ℕ) → is_word (word.number n) ≡ true → (c : ℕ) × (more : List ℕ) × (decimal n ≡ c ∷ more) × (is_ascii_digit c ≡ true) × (list_all is_ascii_digit more ≡ true)
decimal-front n fits =
    let small : n ≤ 9223372036854775808 = leb-true n greatest_number fits in
    let held : n < 2 ^ 64 = omega arith in
    let front = uncons (decimal n) (decimal_nonempty n held) in
    let all = and_parts (is_ascii_digit front.0) (list_all is_ascii_digit front.1) (rw front.2 at (decimal_is n held).0) in
    (front.0, front.1, front.2, all.0, all.1)
