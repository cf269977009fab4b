-- Lemmas on texts that are made of words: their tokens are those of the words, one for each, in order.
use Rattle.std.proofs.Common.{◌≡◌, ℕ, ◌+◌, ◌-◌, ◌≤◌, Bool, true, false, not, ◌&&◌, ◌||◌, ◌==◌, List, [], ◌∷◌, ◌++◌, drop, take, length, Some, Result, Ok, Err, refl, sym, ap, ◌∙◌, append_assoc, arith, length-append}
use lib.Utf8.{scalar}
use Rattle.std.specs.Char.{is_ascii_digit, is_ascii_alphabetic, is_ascii_alphanumeric, encode_utf8}
use Rattle.std.specs.Fmt.{decimal}
use Rattle.std.specs.List.{list_all}
use Rattle.std.specs.Str.{all_scalars, encode_utf8_all, chars, IsUtf8}
use Rattle.std.proofs.lemmas.Bool.{and_parts, and_from, or_from}
use Rattle.std.proofs.lemmas.Bool.Decides.{nat_tests}
use Rattle.std.proofs.lemmas.List.{take_at, drop_at}
use Rattle.std.proofs.lemmas.Str.{encodes-append, chars-encodes}
use Rattle.unicode_ident.proofs.Computing.{unicode_ident}
use Rattle.cy_lexer.specs.declared.keywords.Keyword.{Keyword}
use Rattle.cy_lexer.specs.declared.keywords.Keyword.TheVariants as keyword
use Rattle.cy_lexer.specs.declared.symbols.Symbol.{Symbol}
use Rattle.cy_lexer.specs.declared.symbols.Symbol.TheVariants as sign
use Rattle.cy_lexer.specs.declared.tokens.TokenKind.{TokenKind}
use Rattle.cy_lexer.specs.declared.tokens.Token.{Token}
use Rattle.cy_lexer.specs.Characters.{begins_with}
use Rattle.cy_lexer.specs.internal.Reading.{offset}
use Rattle.cy_lexer.specs.Keywords.{spelling}
use Rattle.cy_lexer.specs.Line.{longest_line}
use Rattle.cy_lexer.specs.Numbers.{spoils_number}
use Rattle.cy_lexer.specs.Spans.{slice_of}
use Rattle.cy_lexer.specs.declared.faults.LexFault.{LexFault}
use Rattle.cy_lexer.specs.Tokens.{◌>>=◌, piece, tokens_from, tokens_of, denoted}
use Rattle.cy_lexer.specs.Words.{Word, doubled, escaped, signs}
use Rattle.cy_lexer.specs.internal.SpacedWords.{is_word, join, may_touch, space, written, may_touch_next, are_words, bytes_of, tokens_at, IsTokenOf, AreTokensOf, kind_of, characters, meant}
use Rattle.cy_lexer.specs.Words as word
use Rattle.cy_lexer.proofs.CharactersLemmas.{size_of}
use Rattle.cy_lexer.proofs.QuotedLemmas.{not_is}
use Rattle.cy_lexer.proofs.TokensLemmas.{tokens_from-skip, tokens_of-short}
use Rattle.cy_lexer.proofs.WordsQuotedLemmas.{unquoted-doubled, unquoted-escaped}
use Rattle.cy_lexer.proofs.WordsPiecesLemmas.{IsPiece, continues, joins_on, piece-keyword, piece-name, piece-text, piece-symbol, piece-number, spelling-front, decimal-front}

-- ---- what may stand after a word

abbrev may_precede : Word → List ℕ → Bool
may_precede (word.keyword k) rest = not (continues rest)
may_precede (word.name cs) rest = not (begins_with 96 rest)
may_precede (word.text cs) rest = true
may_precede (word.number n) rest = not (spoils_number rest)
may_precede (word.symbol s) rest = not (joins_on s rest)

piece-word : (w : Word) (rest : List ℕ) → is_word w ≡ true → may_precede w rest ≡ true → IsPiece w rest
piece-word (word.keyword k) rest is stands = piece-keyword k rest (not_is _ stands)
piece-word (word.name cs) rest is stands = piece-name cs rest is (not_is _ stands)
piece-word (word.text cs) rest is stands = piece-text cs rest
piece-word (word.number n) rest is stands = piece-number n rest is (not_is _ stands)
piece-word (word.symbol s) rest is stands = piece-symbol s rest (not_is _ stands)

-- nothing, and a space
precedes-nothing : (w : Word) → may_precede w [] ≡ true
precedes-nothing (word.symbol sign.Dot) = refl
precedes-nothing _ = refl

precedes-space : (w : Word) (rest : List ℕ) → may_precede w (32 ∷ rest) ≡ true
unfolding unicode_ident
precedes-space (word.symbol sign.Dot) rest = refl
precedes-space _ rest = refl

-- a character that no symbol begins with, or goes on with
abbrev IsPlain : ℕ → Type 0
IsPlain c =
    ((c == 46) ≡ false) × ((c == 61) ≡ false) × ((c == 62) ≡ false) × ((c == 47) ≡ false) × ((c == 42) ≡ false)

joins_on-plain : (s : Symbol) (c : ℕ) (cs : List ℕ) → IsPlain c → joins_on s (c ∷ cs) ≡ false
joins_on-plain sign.Dot c cs plain = plain.0
joins_on-plain sign.Less c cs plain = or_from _ _ plain.1 plain.2
joins_on-plain sign.Greater c cs plain = plain.1
joins_on-plain sign.Slash c cs plain = or_from _ _ plain.3 plain.4
joins_on-plain s c cs plain = refl

-- a letter or a digit is plain, and is no backtick
plain : (c : ℕ) → is_ascii_alphanumeric c ≡ true → IsPlain c × ((c == 96) ≡ false)
plain c letter = (
  (
    grind (arith, nat_tests),
    grind (arith, nat_tests),
    grind (arith, nat_tests),
    grind (arith, nat_tests),
    grind (arith, nat_tests),
  ),
  grind (arith, nat_tests),
)

letter_plain : (c : ℕ) → is_ascii_alphabetic c ≡ true → is_ascii_alphanumeric c ≡ true
letter_plain c letter = grind (arith, nat_tests)

digit_plain : (c : ℕ) → is_ascii_digit c ≡ true → is_ascii_alphanumeric c ≡ true
digit_plain c digit = grind (arith, nat_tests)

-- a keyword's letters and a number's digits
keyword_front : (k : Keyword) → (c : ℕ) × (more : List ℕ) × (spelling k ≡ c ∷ more) × IsPlain c × ((c == 96) ≡ false)
keyword_front k =
    let front = spelling-front k in
    let other = plain front.0 (letter_plain front.0 front.3.1) in
    (front.0, front.1, front.2, other.0, other.1)

number_front : (n : ℕ) → is_word (word.number n) ≡ true → (c : ℕ) × (more : List ℕ) × (decimal n ≡ c ∷ more) × IsPlain c × ((c == 96) ≡ false)
number_front n is =
    let front = decimal-front n is in
    let other = plain front.0 (digit_plain front.0 front.3) in
    (front.0, front.1, front.2, other.0, other.1)

-- symbols
continues-signs : (s : Symbol) (more : List ℕ) → continues (signs s ++ more) ≡ false
unfolding unicode_ident
continues-signs sign.Dot more = refl
continues-signs s more = refl

backtick-signs : (s : Symbol) (more : List ℕ) → begins_with 96 (signs s ++ more) ≡ false
backtick-signs sign.Dot more = refl
backtick-signs s more = refl

spoils-signs : (n : ℕ) (s : Symbol) (more : List ℕ) → may_touch (word.number n) (word.symbol s) ≡ true → spoils_number (signs s ++ more) ≡ false
unfolding unicode_ident
spoils-signs n sign.Dot more touch = absurd cc
spoils-signs n s more touch = refl

joins_on-signs : (s t : Symbol) (more : List ℕ) → join s t ≡ false → joins_on s (signs t ++ more) ≡ false
joins_on-signs sign.Dot sign.Dot more apart = absurd cc
joins_on-signs sign.Dot sign.DotDot more apart = absurd cc
joins_on-signs sign.Dot t more apart = refl
joins_on-signs sign.Less sign.Greater more apart = absurd cc
joins_on-signs sign.Less sign.GreaterOrEqual more apart = absurd cc
joins_on-signs sign.Less sign.Equal more apart = absurd cc
joins_on-signs sign.Less t more apart = refl
joins_on-signs sign.Greater sign.Equal more apart = absurd cc
joins_on-signs sign.Greater t more apart = refl
joins_on-signs sign.Slash sign.Slash more apart = absurd cc
joins_on-signs sign.Slash sign.Star more apart = absurd cc
joins_on-signs sign.Slash t more apart = refl
joins_on-signs s t more apart = refl

quote_plain : IsPlain 39
quote_plain = (refl, refl, refl, refl, refl)

backtick_plain : IsPlain 96
backtick_plain = (refl, refl, refl, refl, refl)

-- a word that may stand directly after another
precedes-word : (w v : Word) (more : List ℕ) → is_word v ≡ true → may_touch w v ≡ true → may_precede w (characters v ++ more) ≡ true
unfolding unicode_ident
precedes-word (word.keyword k) (word.keyword l) more is touch = absurd cc
precedes-word (word.keyword k) (word.name cs) more is touch = refl
precedes-word (word.keyword k) (word.text cs) more is touch = refl
precedes-word (word.keyword k) (word.number n) more is touch = absurd cc
precedes-word (word.keyword k) (word.symbol s) more is touch = rw (continues-signs s more) refl
precedes-word (word.name cs) (word.keyword l) more is touch = let front = keyword_front l in rw front.2 (rw front.4 refl)
precedes-word (word.name cs) (word.name ds) more is touch = absurd cc
precedes-word (word.name cs) (word.text ds) more is touch = refl
precedes-word (word.name cs) (word.number n) more is touch = let front = number_front n is in rw front.2 (rw front.4 refl)
precedes-word (word.name cs) (word.symbol s) more is touch = rw (backtick-signs s more) refl
precedes-word (word.text cs) v more is touch = refl
precedes-word (word.number m) (word.keyword l) more is touch = absurd cc
precedes-word (word.number m) (word.name cs) more is touch = refl
precedes-word (word.number m) (word.text cs) more is touch = refl
precedes-word (word.number m) (word.number n) more is touch = absurd cc
precedes-word (word.number m) (word.symbol s) more is touch = rw (spoils-signs m s more touch) refl
precedes-word (word.symbol s) (word.keyword l) more is touch = let front = keyword_front l in rw front.2 (rw (joins_on-plain s front.0 (front.1 ++ more) front.3) refl)
precedes-word (word.symbol s) (word.name cs) more is touch = rw (joins_on-plain s 96 ((doubled cs ++ 96 ∷ []) ++ more) backtick_plain) refl
precedes-word (word.symbol s) (word.text cs) more is touch = rw (joins_on-plain s 39 ((escaped cs ++ 39 ∷ []) ++ more) quote_plain) refl
precedes-word (word.symbol s) (word.number n) more is touch = let front = number_front n is in rw front.2 (rw (joins_on-plain s front.0 (front.1 ++ more) front.3) refl)
precedes-word (word.symbol s) (word.symbol t) more is touch = rw (joins_on-signs s t more (not_is (join s t) touch)) refl

-- a word among words
precedes-words : (w : Word) (spaced : Bool) (ws : List (Word × Bool)) → (spaced || may_touch_next w ws) ≡ true → are_words ws ≡ true → may_precede w (space spaced ++ written ws) ≡ true
precedes-words w true ws apart are = precedes-space w (written ws)
precedes-words w false [] apart are = precedes-nothing w
precedes-words w false (v ∷ vs) apart are = precedes-word w v.0 (space v.1 ++ written vs) (and_parts _ _ are).0 apart

-- ---- the tokens

past_space : (r : Result (List Token) LexFault) → (r >>= λ ts. Ok ts) ≡ r
past_space (Ok ts) = refl
past_space (Err fault) = refl

tokens_from-space : (total : ℕ) (spaced : Bool) (cs : List ℕ) → tokens_from (offset total) 0 (space spaced ++ cs) ≡ tokens_from (offset total) 0 cs
unfolding tokens_from piece
tokens_from-space total true cs = past_space (tokens_from (offset total) 0 cs)
tokens_from-space total false cs = refl

-- a token at the front
tokens_from-front : (total c : ℕ) (more rest : List ℕ) (k : TokenKind) (ts : List Token) → piece (offset total) c (more ++ rest) ≡ Ok (Some k, length more) → tokens_from (offset total) 0 rest ≡ Ok ts → tokens_from (offset total) 0 (c ∷ (more ++ rest)) ≡ Ok (record { kind = k; start = offset total (c ∷ (more ++ rest)); end = offset total rest } ∷ ts)
unfolding tokens_from
tokens_from-front total c more rest k ts read known =
    let left : drop (length more) (more ++ rest) ≡ rest = drop_at more rest (length more) refl in
    let others : tokens_from (offset total) (length more) (more ++ rest) ≡ Ok ts = tokens_from-skip total (length more) (more ++ rest) ∙ ap (λ (x : List ℕ). tokens_from (offset total) 0 x) left ∙ known in
    rw read (rw others (ap (λ (x : List ℕ). Ok (record { kind = k; start = offset total (c ∷ (more ++ rest)); end = offset total x } ∷ ts)) left))

-- the word at the front
tokens_from-word : (total at end : ℕ) (w : Word) (rest : List ℕ) (ts : List Token) → IsPiece w rest → at + length (encode_utf8_all (characters w ++ rest)) ≡ total → end ≡ at + length (bytes_of w) → tokens_from (offset total) 0 rest ≡ Ok ts → tokens_from (offset total) 0 (characters w ++ rest) ≡ Ok (record { kind = kind_of w; start = at; end = end } ∷ ts)
tokens_from-word total at end w rest ts p all ends known =
    let whole : characters w ++ rest ≡ p.0 ∷ (p.1 ++ rest) = ap (λ (x : List ℕ). x ++ rest) p.2 in
    let start_is : offset total (p.0 ∷ (p.1 ++ rest)) ≡ at = ap (λ (x : List ℕ). offset total x) (sym whole) ∙ omega arith in
    let end_is : offset total rest ≡ end = omega (arith, size_of (characters w) rest) in
    ap (λ (x : List ℕ). tokens_from (offset total) 0 x) whole
    ∙ tokens_from-front total p.0 p.1 rest (kind_of w) ts (p.3 total) known
    ∙ ap (λ (n : ℕ). Ok (record { kind = kind_of w; start = n; end = offset total rest } ∷ ts)) start_is
    ∙ ap (λ (n : ℕ). Ok (record { kind = kind_of w; start = at; end = n } ∷ ts)) end_is

-- a space is one byte
size_of_space : (spaced : Bool) → length (encode_utf8_all (space spaced)) ≡ length (space spaced)
unfolding encode_utf8
size_of_space true = refl
size_of_space false = refl

tokens_from-words : (total at : ℕ) (ws : List (Word × Bool)) → are_words ws ≡ true → at + length (encode_utf8_all (written ws)) ≡ total → tokens_from (offset total) 0 (written ws) ≡ Ok (tokens_at at ws)
unfolding tokens_from
tokens_from-words total at [] are all = refl
tokens_from-words total at (w ∷ ws) are all =
    let both = and_parts (is_word w.0) ((w.1 || may_touch_next w.0 ws) && are_words ws) are in
    let more = and_parts (w.1 || may_touch_next w.0 ws) (are_words ws) both.1 in
    let rest = space w.1 ++ written ws in
    let end = at + length (bytes_of w.0) in
    let p = piece-word w.0 rest both.0 (precedes-words w.0 w.1 ws more.0 more.1) in
    let left : (end + length (space w.1)) + length (encode_utf8_all (written ws)) ≡ total = omega (arith, all, size_of (characters w.0) rest, size_of (space w.1) (written ws), size_of_space w.1) in
    tokens_from-word total at end w.0 rest (tokens_at (end + length (space w.1)) ws) p all refl (tokens_from-space total w.1 (written ws) ∙ tokens_from-words total (end + length (space w.1)) ws more.1 left)

-- ---- the characters are a text

all_scalars-append : (xs ys : List ℕ) → all_scalars xs ≡ true → all_scalars ys ≡ true → all_scalars (xs ++ ys) ≡ true
all_scalars-append [] ys a b = b
all_scalars-append (x ∷ xs) ys a b =
    let both = and_parts (scalar x) (all_scalars xs) a in
    and_from (scalar x) (all_scalars (xs ++ ys)) both.0 (all_scalars-append xs ys both.1 b)

by_scalar_doubled : (c : ℕ) (cs : List ℕ) (backtick : Bool) → (c == 96) ≡ backtick → scalar c ≡ true → all_scalars (doubled cs) ≡ true → all_scalars (doubled (c ∷ cs)) ≡ true
by_scalar_doubled c cs true e one known = rw e (rw known refl)
by_scalar_doubled c cs false e one known = rw e (rw (one, known) refl)

all_scalars-doubled : (cs : List ℕ) → all_scalars cs ≡ true → all_scalars (doubled cs) ≡ true
all_scalars-doubled [] are = refl
all_scalars-doubled (c ∷ cs) are =
    let both = and_parts (scalar c) (all_scalars cs) are in
    by_scalar_doubled c cs (c == 96) refl both.0 (all_scalars-doubled cs both.1)

by_scalar_escaped : (c : ℕ) (cs : List ℕ) (marked : Bool) → ((c == 92) || (c == 39)) ≡ marked → scalar c ≡ true → all_scalars (escaped cs) ≡ true → all_scalars (escaped (c ∷ cs)) ≡ true
by_scalar_escaped c cs true e one known = rw e (rw (one, known) refl)
by_scalar_escaped c cs false e one known = rw e (rw (one, known) refl)

all_scalars-escaped : (cs : List ℕ) → all_scalars cs ≡ true → all_scalars (escaped cs) ≡ true
all_scalars-escaped [] are = refl
all_scalars-escaped (c ∷ cs) are =
    let both = and_parts (scalar c) (all_scalars cs) are in
    by_scalar_escaped c cs ((c == 92) || (c == 39)) refl both.0 (all_scalars-escaped cs both.1)

digit_scalar : (c : ℕ) → is_ascii_digit c ≡ true → scalar c ≡ true
digit_scalar c digit = grind (arith, nat_tests)

all_scalars-digits : (cs : List ℕ) → list_all is_ascii_digit cs ≡ true → all_scalars cs ≡ true
all_scalars-digits [] all = refl
all_scalars-digits (c ∷ cs) all =
    let both = and_parts (is_ascii_digit c) (list_all is_ascii_digit cs) all in
    and_from (scalar c) (all_scalars cs) (digit_scalar c both.0) (all_scalars-digits cs both.1)

all_scalars-spelling : (k : Keyword) → all_scalars (spelling k) ≡ true
all_scalars-spelling keyword.All = refl
all_scalars-spelling k = refl

all_scalars-signs : (s : Symbol) → all_scalars (signs s) ≡ true
all_scalars-signs sign.Dot = refl
all_scalars-signs s = refl

all_scalars-word : (w : Word) → is_word w ≡ true → all_scalars (characters w) ≡ true
all_scalars-word (word.keyword k) is = all_scalars-spelling k
all_scalars-word (word.name []) is = absurd cc
all_scalars-word (word.name (c ∷ cs)) is = all_scalars-append (doubled (c ∷ cs)) (96 ∷ []) (all_scalars-doubled (c ∷ cs) is) refl
all_scalars-word (word.text cs) is = all_scalars-append (escaped cs) (39 ∷ []) (all_scalars-escaped cs is) refl
all_scalars-word (word.number n) is =
    let front = decimal-front n is in
    rw front.2 (and_from (scalar front.0) (all_scalars front.1) (digit_scalar front.0 front.3) (all_scalars-digits front.1 front.4))
all_scalars-word (word.symbol s) is = all_scalars-signs s

all_scalars-space : (spaced : Bool) → all_scalars (space spaced) ≡ true
all_scalars-space true = refl
all_scalars-space false = refl

all_scalars-written : (ws : List (Word × Bool)) → are_words ws ≡ true → all_scalars (written ws) ≡ true
all_scalars-written [] are = refl
all_scalars-written (w ∷ ws) are =
    let both = and_parts (is_word w.0) ((w.1 || may_touch_next w.0 ws) && are_words ws) are in
    let more = and_parts (w.1 || may_touch_next w.0 ws) (are_words ws) both.1 in
    all_scalars-append (characters w.0) (space w.1 ++ written ws) (all_scalars-word w.0 both.0)
    (all_scalars-append (space w.1) (written ws) (all_scalars-space w.1) (all_scalars-written ws more.1))

-- ---- the law

-- a text of words has the tokens of the words
pub tokens_of-words : (ws : List (Word × Bool)) → are_words ws ≡ true → length (encode_utf8_all (written ws)) ≤ longest_line → tokens_of (encode_utf8_all (written ws)) ≡ Ok (tokens_at 0 ws)
tokens_of-words ws are short =
    let line = encode_utf8_all (written ws) in
    let u : IsUtf8 line = (written ws, (all_scalars-written ws are, refl)) in
    tokens_of-short line u short
    ∙ ap (λ (x : List ℕ). tokens_from (offset (length line)) 0 x) (chars-encodes (written ws) (all_scalars-written ws are))
    ∙ tokens_from-words (length line) 0 ws are (omega arith)

-- they are the words' tokens: their kinds are those of the words, and their slices the words as they are written
pub bytes_of_space : (spaced : Bool) → encode_utf8_all (space spaced) ≡ space spaced
unfolding encode_utf8
bytes_of_space true = refl
bytes_of_space false = refl

slice_front : (front part rest : List ℕ) (end : ℕ) → end ≡ length front + length part → take (end - length front) (drop (length front) (front ++ (part ++ rest))) ≡ part
slice_front front part rest end e =
    rw (drop_at front (part ++ rest) (length front) refl) (take_at part rest (end - length front) (omega arith))

AreTokensOf-from : (line front : List ℕ) (at : ℕ) (ws : List (Word × Bool)) → at ≡ length front → line ≡ front ++ encode_utf8_all (written ws) → AreTokensOf line (tokens_at at ws) ws
AreTokensOf-from line front at [] e split = tt
AreTokensOf-from line front at (w ∷ ws) e split =
    let rest = encode_utf8_all (written ws) in
    let end = at + length (bytes_of w.0) in
    let parts : line ≡ front ++ (bytes_of w.0 ++ (space w.1 ++ rest)) =
    split
    ∙ ap (λ (x : List ℕ). front ++ x) (encodes-append (characters w.0) (space w.1 ++ written ws))
    ∙ ap (λ (x : List ℕ). front ++ (bytes_of w.0 ++ x)) (encodes-append (space w.1) (written ws) ∙ ap (λ (x : List ℕ). x ++ rest) (bytes_of_space w.1)) in
    let next = front ++ (bytes_of w.0 ++ space w.1) in
    let onward : line ≡ next ++ rest =
    parts
    ∙ ap (λ (x : List ℕ). front ++ x) (sym (append_assoc (bytes_of w.0) (space w.1) rest))
    ∙ sym (append_assoc front (bytes_of w.0 ++ space w.1) rest) in
    let next_at : end + length (space w.1) ≡ length next = omega (arith, length-append front (bytes_of w.0 ++ space w.1), length-append (bytes_of w.0) (space w.1)) in
    let first : take (end - at) (drop at line) ≡ bytes_of w.0 = rw (parts, e) (slice_front front (bytes_of w.0) (space w.1 ++ rest) (length front + length (bytes_of w.0)) refl) in
    ((refl, first), AreTokensOf-from line next (end + length (space w.1)) ws next_at onward)

pub AreTokensOf-words : (ws : List (Word × Bool)) → AreTokensOf (encode_utf8_all (written ws)) (tokens_at 0 ws) ws
AreTokensOf-words ws = AreTokensOf-from (encode_utf8_all (written ws)) [] 0 ws refl refl

-- what they denote is what the words mean
pub denoted-characters : (w : Word) → denoted (kind_of w) (characters w) ≡ meant w
denoted-characters (word.name cs) = unquoted-doubled cs
denoted-characters (word.text cs) = unquoted-escaped cs
denoted-characters _ = refl

pub denoted-word : (w : Word) → is_word w ≡ true → denoted (kind_of w) (chars (bytes_of w)) ≡ meant w
denoted-word w is = ap (λ (x : List ℕ). denoted (kind_of w) x) (chars-encodes (characters w) (all_scalars-word w is)) ∙ denoted-characters w

pub denoted-token : (line : List ℕ) (t : Token) (w : Word) → is_word w ≡ true → IsTokenOf line t w → denoted t.kind (chars (slice_of line t)) ≡ meant w
denoted-token line t w is token =
    ap (λ (k : TokenKind). denoted k (chars (slice_of line t))) token.0
    ∙ ap (λ (x : List ℕ). denoted (kind_of w) (chars x)) token.1
    ∙ denoted-word w is
