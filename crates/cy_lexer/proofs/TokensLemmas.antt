-- Lemmas on the tokens of a line, piece by piece.
use Rattle.std.proofs.Common.{◌≡◌, ℕ, zero, suc, ◌+◌, ◌-◌, ◌≤◌, ◌<◌, List, [], ◌∷◌, ◌++◌, drop, length, Option, Some, None, Result, Ok, Err, refl, sym, ap, ◌∙◌, append_assoc, append-nil, arith}
use Rattle.std.specs.Str.{chars, IsUtf8, IsCharBoundary}
use Rattle.std.proofs.lemmas.Str.{IsCharBoundary-from_drop}
use Rattle.std.proofs.lemmas.List.{drop-drop}
use Rattle.std.proofs.lemmas.Bool.{le-ltb, lt-ltb}
use Rattle.std.specs.List.{All}
use Rattle.std.proofs.lemmas.List.Elements.{All-nil, All-cons}
use Rattle.cy_lexer.specs.declared.faults.LexFault.{LexFault}
use Rattle.cy_lexer.specs.declared.faults.LexFault.TheVariants.{LineTooLong}
use Rattle.cy_lexer.specs.declared.tokens.TokenKind.{TokenKind}
use Rattle.cy_lexer.specs.declared.tokens.Token.{Token}
use Rattle.cy_lexer.specs.Line.{longest_line}
use Rattle.cy_lexer.specs.internal.Reading.{taken, map_ok, offset}
use Rattle.cy_lexer.specs.Tokens.{Piece, ◌>>=◌, piece, with_token, tokens_from, tokens_of}
use Rattle.cy_lexer.specs.Spans.{IsSpanOf, AreSpansOf}
use Rattle.cy_lexer.proofs.CharactersLemmas.{offset-chars, suffix-drop}
use Rattle.cy_lexer.proofs.PlacesLemmas.{tokens_from-end}

-- characters that belong to the piece before them are passed
pub tokens_from-skip : (total skip : ℕ) (cs : List ℕ) → tokens_from (offset total) skip cs ≡ tokens_from (offset total) 0 (drop skip cs)
unfolding tokens_from
tokens_from-skip total zero [] = refl
tokens_from-skip total zero (c ∷ cs) = refl
tokens_from-skip total (suc skip) [] = refl
tokens_from-skip total (suc skip) (c ∷ cs) = tokens_from-skip total skip cs

-- the token of a piece between two places, if it has a kind
abbrev token_of : ℕ → Option TokenKind → List ℕ → List ℕ → List Token
token_of total (Some k) whole left = record { kind = k; start = offset total whole; end = offset total left } ∷ []
token_of total None whole left = []

-- the tokens in front, that of a piece, and then the others
joined : (total n : ℕ) (k : Option TokenKind) (cs left : List ℕ) (c : ℕ) (front : List Token) (read : Result (List Token) LexFault) → left ≡ drop n cs → map_ok (λ ts. front ++ ts) (read >>= λ ts. Ok (with_token (offset total) (c ∷ cs) (k, n) ts)) ≡ map_ok (λ ts. (front ++ token_of total k (c ∷ cs) left) ++ ts) read
joined total n (Some k) cs left c front (Ok ts) e = rw e (ap (λ (x : List Token). Ok x) (sym (append_assoc front _ ts)))
joined total n None cs left c front (Ok ts) e = ap (λ (x : List Token). Ok (x ++ ts)) (sym (append-nil front))
joined total n (Some k) cs left c front (Err f) e = refl
joined total n None cs left c front (Err f) e = refl

abbrev done : {A : Type 0} → A → Result A LexFault
done x = Ok x

pub ok_is : {A : Type 0} (x y : A) → done x ≡ done y → x ≡ y
ok_is x y e = cc

by_piece : (total c : ℕ) (k : Option TokenKind) (cs left : List ℕ) (front : List Token) (read : Result Piece LexFault) → Ok (k, left) ≡ map_ok (taken cs) read → map_ok (λ ts. front ++ ts) (read >>= λ p. (tokens_from (offset total) p.1 cs >>= λ ts. Ok (with_token (offset total) (c ∷ cs) p ts))) ≡ map_ok (λ ts. (front ++ token_of total k (c ∷ cs) left) ++ ts) (tokens_from (offset total) 0 left)
by_piece total c k cs left front (Ok p) e =
    let both = ok_is (k, left) (taken cs p) e in
    let left-is : left ≡ drop p.1 cs = ap (λ (x : Option TokenKind × List ℕ). x.1) both in
    let k-is : k ≡ p.0 = ap (λ (x : Option TokenKind × List ℕ). x.0) both in
    let tail : tokens_from (offset total) p.1 cs ≡ tokens_from (offset total) 0 left = tokens_from-skip total p.1 cs ∙ ap (λ (x : List ℕ). tokens_from (offset total) 0 x) (sym left-is) in
    ap (λ (r : Result (List Token) LexFault). map_ok (λ ts. front ++ ts) (r >>= λ ts. Ok (with_token (offset total) (c ∷ cs) p ts))) tail
    ∙ joined total p.1 p.0 cs left c front (tokens_from (offset total) 0 left) left-is
    ∙ ap (λ (x : Option TokenKind). map_ok (λ ts. (front ++ token_of total x (c ∷ cs) left) ++ ts) (tokens_from (offset total) 0 left)) (sym k-is)
by_piece total c k cs left front (Err f) e = absurd cc

-- a piece is read
tokens_from-piece : (total c : ℕ) (k : Option TokenKind) (whole cs left : List ℕ) (front : List Token) → whole ≡ c ∷ cs → Ok (k, left) ≡ map_ok (taken cs) (piece (offset total) c cs) → map_ok (λ ts. front ++ ts) (tokens_from (offset total) 0 whole) ≡ map_ok (λ ts. (front ++ token_of total k whole left) ++ ts) (tokens_from (offset total) 0 left)
unfolding tokens_from
tokens_from-piece total c k whole cs left front e read = rw e (by_piece total c k cs left front (piece (offset total) c cs) read)

by_fault : (total c : ℕ) (fault : LexFault) (cs : List ℕ) (front : List Token) (read : Result Piece LexFault) → map_ok (taken cs) read ≡ Err fault → map_ok (λ ts. front ++ ts) (read >>= λ p. (tokens_from (offset total) p.1 cs >>= λ ts. Ok (with_token (offset total) (c ∷ cs) p ts))) ≡ Err fault
by_fault total c fault cs front (Ok p) e = absurd cc
by_fault total c fault cs front (Err f) e = let same : f ≡ fault = cc in rw same refl

-- a piece has a fault
tokens_from-fault : (total c : ℕ) (fault : LexFault) (whole cs : List ℕ) (front : List Token) → whole ≡ c ∷ cs → map_ok (taken cs) (piece (offset total) c cs) ≡ Err fault → map_ok (λ ts. front ++ ts) (tokens_from (offset total) 0 whole) ≡ Err fault
unfolding tokens_from
tokens_from-fault total c fault whole cs front e read = rw e (by_fault total c fault cs front (piece (offset total) c cs) read)

-- nothing is left
tokens_from-nil : (total : ℕ) (whole : List ℕ) (front : List Token) → whole ≡ [] → map_ok (λ ts. front ++ ts) (tokens_from (offset total) 0 whole) ≡ Ok front
unfolding tokens_from
tokens_from-nil total whole front e = rw e (ap (λ (x : List Token). Ok x) (append-nil front))

-- what a piece leaves is the end of the text
taken_some : (cs left : List ℕ) (k : Option TokenKind) (read : Result Piece LexFault) → Ok (k, left) ≡ map_ok (taken cs) read → (n : ℕ) × (left ≡ drop n cs)
taken_some cs left k (Ok p) e = (p.1, ap (λ (x : Option TokenKind × List ℕ). x.1) (ok_is (k, left) (taken cs p) e))
taken_some cs left k (Err f) e = absurd cc

left-drop : (total c : ℕ) (k : Option TokenKind) (rest left : List ℕ) (cs : List ℕ) → IsUtf8 rest → IsUtf8 left → chars rest ≡ c ∷ cs → Ok (k, chars left) ≡ map_ok (taken cs) (piece (offset total) c cs) → left ≡ drop (length rest - length left) rest
left-drop total c k rest left cs u v e read =
    let behind = taken_some cs (chars left) k (piece (offset total) c cs) read in
    suffix-drop rest left (suc behind.0) u v (behind.1 ∙ ap (λ (x : List ℕ). drop (suc behind.0) x) (sym e))

drop-further : (line rest left : List ℕ) → length left ≤ length rest → length rest ≤ length line → rest ≡ drop (length line - length rest) line → left ≡ drop (length rest - length left) rest → left ≡ drop (length line - length left) line
drop-further line rest left shorter within at behind =
    let sum : (length line - length rest) + (length rest - length left) ≡ length line - length left = omega arith in
    behind ∙ ap (λ (x : List ℕ). drop (length rest - length left) x) at ∙ drop-drop (length rest - length left) (length line - length rest) line ∙ ap (λ (n : ℕ). drop n line) sum

-- the end of a line begins at a boundary
boundary-of_rest : (line rest : List ℕ) → IsUtf8 rest → rest ≡ drop (length line - length rest) line → IsCharBoundary line (length line - length rest)
boundary-of_rest line rest u e =
    IsCharBoundary-from_drop line (length line - length rest) (omega arith) (rw (← e) u)

-- spans with one more after them, or with room after them
AreSpansOf-push : (line : List ℕ) (from to : ℕ) (ts : List Token) (t : Token) → AreSpansOf line from ts to → to ≤ t.start → IsSpanOf line t → AreSpansOf line from (ts ++ t ∷ []) t.end
AreSpansOf-push line from to [] t s behind span = (omega (arith, s), span, omega arith)
AreSpansOf-push line from to (x ∷ ts) t s behind span = (s.0, s.1, AreSpansOf-push line x.end to ts t s.2 behind span)

AreSpansOf-widen : (line : List ℕ) (from to more : ℕ) (ts : List Token) → AreSpansOf line from ts to → to ≤ more → AreSpansOf line from ts more
AreSpansOf-widen line from to more [] s wide = omega (arith, s)
AreSpansOf-widen line from to more (x ∷ ts) s wide = (s.0, s.1, AreSpansOf-widen line x.end to more ts s.2 wide)

-- what the loop keeps: the tokens so far and those of the rest are those of the line, the rest ends the line, and the
-- spans rise
abbrev pub IsRead : List ℕ → List ℕ → List Token → Type 0
IsRead line rest ts =
    (map_ok (λ more. ts ++ more) (tokens_from (offset (length line)) 0 (chars rest)) ≡ tokens_from (offset (length line)) 0 (chars line)) × (length rest ≤ length line) × (rest ≡ drop (length line - length rest) line) × AreSpansOf line 0 ts (length line - length rest)

-- a token is read, and put after those before it
pub IsRead-token : (line rest left : List ℕ) (c : ℕ) (cs : List ℕ) (read : Option TokenKind) (k : TokenKind) (old new : List Token) → IsUtf8 rest → IsUtf8 left → chars rest ≡ c ∷ cs → Ok (read, chars left) ≡ map_ok (taken cs) (piece (offset (length line)) c cs) → read ≡ Some k → length left < length rest → new ≡ old ++ record { kind = k; start = length line - length rest; end = length line - length left } ∷ [] → IsRead line rest old → IsRead line left new
IsRead-token line rest left c cs read k old new u v split value some shorter pushed known =
    let total = length line in
    let t : Token = record { kind = k; start = total - length rest; end = total - length left } in
    let at = drop-further line rest left (omega arith) known.1 known.2 (left-drop total c read rest left cs u v split value) in
    let token-is : t ∷ [] ≡ token_of total read (chars rest) (chars left) =
    ap (λ (s : ℕ). record { kind = k; start = s; end = total - length left } ∷ []) (sym (offset-chars total rest u)) ∙ ap (λ (e : ℕ). record { kind = k; start = offset total (chars rest); end = e } ∷ []) (sym (offset-chars total left v)) ∙ ap (λ (x : Option TokenKind). token_of total x (chars rest) (chars left)) (sym some) in
    let span : IsSpanOf line t = (omega (arith, known.1), boundary-of_rest line rest u known.2, boundary-of_rest line left v at) in (
      ap (λ (x : List Token). map_ok (λ more. x ++ more) (tokens_from (offset total) 0 (chars left))) (pushed ∙ ap (λ (x : List Token). old ++ x) token-is) ∙ sym (tokens_from-piece total c read (chars rest) cs (chars left) old split value) ∙ known.0,
      omega (arith, known.1),
      at,
      rw pushed (AreSpansOf-push line 0 (total - length rest) old t known.3 (omega arith) span),
    )

-- a gap is passed
pub IsRead-gap : (line rest left : List ℕ) (c : ℕ) (cs : List ℕ) (read : Option TokenKind) (old : List Token) → IsUtf8 rest → IsUtf8 left → chars rest ≡ c ∷ cs → Ok (read, chars left) ≡ map_ok (taken cs) (piece (offset (length line)) c cs) → read ≡ None → length left < length rest → IsRead line rest old → IsRead line left old
IsRead-gap line rest left c cs read old u v split value none shorter known =
    let total = length line in
    let at = drop-further line rest left (omega arith) known.1 known.2 (left-drop total c read rest left cs u v split value) in
    let same : old ≡ old ++ token_of total read (chars rest) (chars left) = sym (append-nil old) ∙ ap (λ (x : Option TokenKind). old ++ token_of total x (chars rest) (chars left)) (sym none) in (
      ap (λ (x : List Token). map_ok (λ more. x ++ more) (tokens_from (offset total) 0 (chars left))) same ∙ sym (tokens_from-piece total c read (chars rest) cs (chars left) old split value) ∙ known.0,
      omega (arith, known.1),
      at,
      AreSpansOf-widen line 0 (total - length rest) (total - length left) old known.3 (omega arith),
    )

-- the tokens of a line that is too long, or not
pub tokens_of-long : (line : List ℕ) → longest_line < length line → tokens_of line ≡ Err LineTooLong
unfolding tokens_of
tokens_of-long line long = rw (lt-ltb longest_line (length line) long) refl

pub tokens_of-short : (line : List ℕ) → IsUtf8 line → length line ≤ longest_line → tokens_of line ≡ tokens_from (offset (length line)) 0 (chars line)
unfolding tokens_of
tokens_of-short line u short = rw (le-ltb longest_line (length line) short) (tokens_from-end line u)

-- nothing is left
pub IsRead-all : (line rest : List ℕ) (ts : List Token) → IsUtf8 line → length line ≤ longest_line → IsRead line rest ts → chars rest ≡ [] → tokens_of line ≡ Ok ts
IsRead-all line rest ts u short known e = tokens_of-short line u short ∙ sym known.0 ∙ tokens_from-nil (length line) (chars rest) ts e

pub IsRead-spans : (line rest : List ℕ) (ts : List Token) → IsRead line rest ts → AreSpansOf line 0 ts (length line)
IsRead-spans line rest ts known = AreSpansOf-widen line 0 (length line - length rest) (length line) ts known.3 (omega arith)

-- the piece at the front of the rest has a fault
pub IsRead-fault : (line rest : List ℕ) (ts : List Token) (c : ℕ) (cs : List ℕ) (fault : LexFault) → IsUtf8 line → length line ≤ longest_line → IsRead line rest ts → chars rest ≡ c ∷ cs → map_ok (taken cs) (piece (offset (length line)) c cs) ≡ Err fault → tokens_of line ≡ Err fault
IsRead-fault line rest ts c cs fault u short known split bad = tokens_of-short line u short ∙ sym known.0 ∙ tokens_from-fault (length line) c fault (chars rest) cs ts split bad

-- spans that rise in a line are slices of it
AreSpansOf-all : (line : List ℕ) (from to : ℕ) (ts : List Token) → AreSpansOf line from ts to → All (IsSpanOf line) ts
AreSpansOf-all line from to [] s = All-nil (IsSpanOf line)
AreSpansOf-all line from to (t ∷ ts) s = All-cons (IsSpanOf line) t ts s.1 (AreSpansOf-all line t.end to ts s.2)

pub IsRead-slices : (line rest : List ℕ) (ts : List Token) → IsRead line rest ts → All (IsSpanOf line) ts
IsRead-slices line rest ts known = AreSpansOf-all line 0 (length line - length rest) ts known.3

-- where a token was read, the line isn't one without tokens
with_one : (front : List Token) (t : Token) (more : List Token) → (front ++ t ∷ []) ++ more ≡ [] → ⊥
with_one [] t more is = cc
with_one (s ∷ front) t more is = cc

not_none : (front : List Token) (t : Token) (read : Result (List Token) LexFault) → map_ok (λ more. (front ++ t ∷ []) ++ more) read ≡ Ok [] → ⊥
not_none front t (Ok more) is = with_one front t more (ok_is ((front ++ t ∷ []) ++ more) [] is)
not_none front t (Err f) is = cc

pub IsRead-some : (line left : List ℕ) (front : List Token) (t : Token) → IsUtf8 line → length line ≤ longest_line → IsRead line left (front ++ t ∷ []) → tokens_of line ≡ Ok [] → ⊥
IsRead-some line left front t u short known none =
    not_none front t (tokens_from (offset (length line)) 0 (chars left)) (known.0 ∙ sym (tokens_of-short line u short) ∙ none)

-- a line with a fault isn't one without tokens
pub is_fault : (fault : LexFault) (line : List ℕ) → tokens_of line ≡ Err fault → tokens_of line ≡ Ok [] → ⊥
is_fault fault line bad none = let wrong : Err fault ≡ done [] = sym bad ∙ none in cc
