-- Two ways to say where characters begin give the same tokens, where they agree on what is left of a text at each point.
use Rattle.std.proofs.Common.{◌≡◌, ℕ, zero, suc, Bool, true, false, if◌then◌else◌, ◌||◌, ◌==◌, List, [], ◌∷◌, drop, length, Option, Some, None, Result, Ok, Err, refl, ap, ◌∙◌}
use Rattle.std.specs.Char.{is_whitespace, is_ascii_digit}
use Rattle.std.specs.Str.{chars, IsUtf8}
use Rattle.cy_lexer.specs.declared.faults.LexFault.{LexFault}
use Rattle.cy_lexer.specs.declared.faults.LexFault.TheVariants.{BadCharacter, BadEscape, UnclosedText, UnclosedName}
use Rattle.cy_lexer.specs.declared.tokens.TokenKind.{TokenKind}
use Rattle.cy_lexer.specs.declared.tokens.TokenKind.TheVariants as kind
use Rattle.cy_lexer.specs.declared.tokens.Token.{Token}
use Rattle.cy_lexer.specs.Characters.{offset_in, starts_name}
use Rattle.cy_lexer.specs.internal.Reading.{offset}
use Rattle.cy_lexer.specs.Quoted.{closes, character, one_more, quoted_len}
use Rattle.cy_lexer.specs.Tokens.{Piece, ◌>>=◌, word_piece, number_piece, line_comment, block_comment, closes_at_once, symbol_piece, token_piece, opens_comment, piece, with_token, tokens_from}
use Rattle.cy_lexer.proofs.CharactersLemmas.{offset_in-offset}

-- they agree on the text and on each end of it
abbrev Agree : (List ℕ → ℕ) → (List ℕ → ℕ) → List ℕ → Type 0
Agree f g cs = (n : ℕ) → f (drop n cs) ≡ g (drop n cs)

behind : (f g : List ℕ → ℕ) (c : ℕ) (cs : List ℕ) → Agree f g (c ∷ cs) → Agree f g cs
behind f g c cs agree n = agree (suc n)

-- ---- what stands between quotes

abbrev length_by : (List ℕ → ℕ) → LexFault → ℕ → ℕ → List ℕ → Bool → Option (ℕ × ℕ) → Result ℕ LexFault
length_by f unclosed quote c cs ends stands = if ends then Ok 1 else elim stands [
  | Some p ↦ one_more (quoted_len f unclosed quote p.1 cs)
  | None ↦ Err (BadEscape (f (c ∷ cs)))
]

by_character : (f g : List ℕ → ℕ) (unclosed : LexFault) (quote c : ℕ) (cs : List ℕ) (ends : Bool) (stands : Option (ℕ × ℕ))
    → ((skip : ℕ) → quoted_len f unclosed quote skip cs ≡ quoted_len g unclosed quote skip cs) → f (c ∷ cs) ≡ g (c ∷ cs)
    → length_by f unclosed quote c cs ends stands ≡ length_by g unclosed quote c cs ends stands
by_character f g unclosed quote c cs true stands known first = refl
by_character f g unclosed quote c cs false (Some p) known first = ap (λ (read : Result ℕ LexFault). one_more read) (known p.1)
by_character f g unclosed quote c cs false None known first = ap (λ (n : ℕ). Err (BadEscape n)) first

quoted_len-places : (f g : List ℕ → ℕ) (unclosed : LexFault) (quote skip : ℕ) (cs : List ℕ) → Agree f g cs → quoted_len f unclosed quote skip cs ≡ quoted_len g unclosed quote skip cs
quoted_len-places f g unclosed quote skip [] agree = refl
quoted_len-places f g unclosed quote (suc skip) (c ∷ cs) agree = ap (λ (read : Result ℕ LexFault). one_more read) (quoted_len-places f g unclosed quote skip cs (behind f g c cs agree))
quoted_len-places f g unclosed quote zero (c ∷ cs) agree =
    by_character f g unclosed quote c cs (closes quote c cs) (character quote c cs)
    (λ skip. quoted_len-places f g unclosed quote skip cs (behind f g c cs agree)) (agree 0)

-- ---- pieces

abbrev token_by : ℕ → ℕ → List ℕ → Result ℕ LexFault → Result ℕ LexFault → Result Piece LexFault
token_by at c cs name text =
    if starts_name c then Ok (word_piece c cs) else
    if is_ascii_digit c then number_piece at c cs else
    if c == 96 then (if closes_at_once 96 cs then Err (BadCharacter at) else (name >>= λ n. Ok (Some kind.QuotedName, n))) else
    if (c == 39) || (c == 34) then (text >>= λ n. Ok (Some kind.Text, n)) else
    symbol_piece at c cs

token_piece-places : (f g : List ℕ → ℕ) (at c : ℕ) (cs : List ℕ) → Agree f g cs → token_piece f at c cs ≡ token_piece g at c cs
token_piece-places f g at c cs agree =
    ap (λ (name : Result ℕ LexFault). token_by at c cs name (quoted_len f (UnclosedText at) c 0 cs)) (quoted_len-places f g (UnclosedName at) 96 0 cs agree)
    ∙ ap (λ (text : Result ℕ LexFault). token_by at c cs (quoted_len g (UnclosedName at) 96 0 cs) text) (quoted_len-places f g (UnclosedText at) c 0 cs agree)

abbrev piece_by : ℕ → ℕ → List ℕ → Result Piece LexFault → Result Piece LexFault
piece_by at c cs token =
    if is_whitespace c then Ok (None, 0) else
    if opens_comment 47 c cs then Ok (line_comment cs) else
    if opens_comment 42 c cs then block_comment at cs else
    token

piece-places : (f g : List ℕ → ℕ) (c : ℕ) (cs : List ℕ) → Agree f g (c ∷ cs) → piece f c cs ≡ piece g c cs
unfolding piece
piece-places f g c cs agree =
    ap (λ (at : ℕ). piece_by at c cs (token_piece f at c cs)) (agree 0)
    ∙ ap (λ (token : Result Piece LexFault). piece_by (g (c ∷ cs)) c cs token) (token_piece-places f g (g (c ∷ cs)) c cs (behind f g c cs agree))

-- ---- tokens

with_token-places : (f g : List ℕ → ℕ) (c : ℕ) (cs : List ℕ) (k : Option TokenKind) (n : ℕ) (ts : List Token) → Agree f g (c ∷ cs) → with_token f (c ∷ cs) (k, n) ts ≡ with_token g (c ∷ cs) (k, n) ts
with_token-places f g c cs None n ts agree = refl
with_token-places f g c cs (Some k) n ts agree =
    ap (λ (at : ℕ). record { kind = k; start = at; end = f (drop n cs) } ∷ ts) (agree 0)
    ∙ ap (λ (at : ℕ). record { kind = k; start = g (c ∷ cs); end = at } ∷ ts) (agree (suc n))

by_tokens : (f g : List ℕ → ℕ) (c : ℕ) (cs : List ℕ) (p : Piece) (read : Result (List Token) LexFault) → Agree f g (c ∷ cs)
    → (read >>= λ ts. Ok (with_token f (c ∷ cs) p ts)) ≡ (read >>= λ ts. Ok (with_token g (c ∷ cs) p ts))
by_tokens f g c cs p (Ok ts) agree = ap (λ (us : List Token). Ok us) (with_token-places f g c cs p.0 p.1 ts agree)
by_tokens f g c cs p (Err fault) agree = refl

by_piece : (f g : List ℕ → ℕ) (c : ℕ) (cs : List ℕ) (read : Result Piece LexFault) → Agree f g (c ∷ cs) → ((skip : ℕ) → tokens_from f skip cs ≡ tokens_from g skip cs)
    → (read >>= λ p. (tokens_from f p.1 cs >>= λ ts. Ok (with_token f (c ∷ cs) p ts))) ≡ (read >>= λ p. (tokens_from g p.1 cs >>= λ ts. Ok (with_token g (c ∷ cs) p ts)))
by_piece f g c cs (Ok p) agree known =
    ap (λ (more : Result (List Token) LexFault). more >>= λ ts. Ok (with_token f (c ∷ cs) p ts)) (known p.1)
    ∙ by_tokens f g c cs p (tokens_from g p.1 cs) agree
by_piece f g c cs (Err fault) agree known = refl

tokens_from-places : (f g : List ℕ → ℕ) (skip : ℕ) (cs : List ℕ) → Agree f g cs → tokens_from f skip cs ≡ tokens_from g skip cs
unfolding tokens_from
tokens_from-places f g skip [] agree = refl
tokens_from-places f g (suc skip) (c ∷ cs) agree = tokens_from-places f g skip cs (behind f g c cs agree)
tokens_from-places f g zero (c ∷ cs) agree =
    ap (λ (read : Result Piece LexFault). read >>= λ p. (tokens_from f p.1 cs >>= λ ts. Ok (with_token f (c ∷ cs) p ts))) (piece-places f g c cs agree)
    ∙ by_piece f g c cs (piece g c cs) agree (λ skip. tokens_from-places f g skip cs (behind f g c cs agree))

-- the tokens of a line, by what stands before each place in it and by what is left after it
pub tokens_from-end : (line : List ℕ) → IsUtf8 line → tokens_from (offset_in (chars line)) 0 (chars line) ≡ tokens_from (offset (length line)) 0 (chars line)
tokens_from-end line u = tokens_from-places (offset_in (chars line)) (offset (length line)) 0 (chars line) (λ n. offset_in-offset line n u)
