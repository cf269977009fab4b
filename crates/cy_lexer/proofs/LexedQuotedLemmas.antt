-- Lemmas on what stands between quotes: it has characters of Unicode alone, and a quoted name isn't empty.
use Rattle.std.proofs.Common.{◌≡◌, ℕ, zero, suc, Bool, true, false, cond, not, ltb, leb, ◌&&◌, ◌||◌, ◌==◌, if◌then◌else◌, List, [], ◌∷◌, take, Option, Some, None, Result, Ok, Err, option_map, option_and_then, refl, ap, ◌∙◌}
use Rattle.std.specs.Prelude.{⊤}
use lib.Utf8.{scalar}
use Rattle.std.specs.Str.{all_scalars}
use Rattle.std.proofs.lemmas.Bool.{eqb-true, and_parts, and_from}
use Rattle.cy_lexer.specs.declared.faults.LexFault.{LexFault}
use Rattle.cy_lexer.specs.Characters.{begins_with}
use Rattle.cy_lexer.specs.Quoted.{hexadecimal, is_character, plain_escape, coded_escape, and_one, escape, closes, character, one_more, quoted_len, unquoted, between_quotes}
use Rattle.cy_lexer.specs.Tokens.{closes_at_once}
use Rattle.cy_lexer.specs.internal.Reading.{offset}

-- ---- characters of Unicode

-- what was found, if anything, is a character of Unicode; and so with what it takes
abbrev IsFoundScalar : Option ℕ → Type 0
IsFoundScalar (Some c) = scalar c ≡ true
IsFoundScalar None = ⊤

abbrev IsTakenScalar : Option (ℕ × ℕ) → Type 0
IsTakenScalar (Some p) = scalar p.0 ≡ true
IsTakenScalar None = ⊤

if_found : (b : Bool) (one other : Option ℕ) → IsFoundScalar one → IsFoundScalar other → IsFoundScalar (if b then one else other)
if_found true one other is else_is = is
if_found false one other is else_is = else_is

if_taken : (b : Bool) (one other : Option (ℕ × ℕ)) → (b ≡ true → IsTakenScalar one) → IsTakenScalar other → IsTakenScalar (if b then one else other)
if_taken true one other is else_is = is refl
if_taken false one other is else_is = else_is

-- an escape by a code
from_or : (x y : Bool) → (x || y) ≡ true → cond x true y ≡ true
from_or true y e = refl
from_or false y e = e

by_code : (digits : ℕ) (found : Option ℕ) → IsTakenScalar (option_and_then (λ code. if is_character code then Some (code, digits) else None) found)
by_code digits None = tt
by_code digits (Some code) = if_taken (is_character code) (Some (code, digits)) None (λ e. from_or (ltb code 55296) (leb 57344 code && ltb code 1114112) e) tt

and_one_more : (found : Option (ℕ × ℕ)) → IsTakenScalar found → IsTakenScalar (option_map and_one found)
and_one_more None is = tt
and_one_more (Some p) is = is

coded : (digits : ℕ) (cs : List ℕ) → IsTakenScalar (option_map and_one (coded_escape digits cs))
coded digits cs = and_one_more (coded_escape digits cs) (by_code digits (hexadecimal 0 digits cs))

-- an escape by a letter
plain : (c : ℕ) → scalar c ≡ true → IsFoundScalar (plain_escape c)
plain c is =
    if_found ((c == 92) || ((c == 39) || (c == 34))) _ _ is
    (if_found (c == 98) _ _ refl
    (if_found (c == 102) _ _ refl
    (if_found (c == 110) _ _ refl
    (if_found (c == 114) _ _ refl
    (if_found (c == 116) _ _ refl tt)))))

by_plain : (found : Option ℕ) → IsFoundScalar found → IsTakenScalar (option_map (λ d. (d, 1)) found)
by_plain None is = tt
by_plain (Some d) is = is

escaped : (cs : List ℕ) → all_scalars cs ≡ true → IsTakenScalar (escape cs)
escaped [] are = tt
escaped (c ∷ cs) are =
    if_taken (c == 117) _ _ (λ _. coded 4 cs)
    (if_taken (c == 85) _ _ (λ _. coded 8 cs) (by_plain (plain_escape c) (plain c (and_parts (scalar c) (all_scalars cs) are).0)))

-- a character between quotes
inside : (quote c : ℕ) (cs : List ℕ) → scalar c ≡ true → all_scalars cs ≡ true → IsTakenScalar (character quote c cs)
inside quote c cs is are =
    if_taken (quote == 96) _ _ (λ _. is) (if_taken (c == 92) _ _ (λ _. escaped cs are) is)

by_closed : (closed : Bool) (cs : List ℕ) → all_scalars cs ≡ true → all_scalars (if closed then [] else cs) ≡ true
by_closed true cs are = refl
by_closed false cs are = are

by_character : (quote : ℕ) (cs : List ℕ) (found : Option (ℕ × ℕ)) → IsTakenScalar found → ((skip : ℕ) → all_scalars (unquoted quote skip cs) ≡ true) → all_scalars (elim found [ Some p ↦ p.0 ∷ unquoted quote p.1 cs | None ↦ [] ]) ≡ true
by_character quote cs (Some p) is known = and_from (scalar p.0) (all_scalars (unquoted quote p.1 cs)) is (known p.1)
by_character quote cs None is known = refl

all_scalars-unquoted : (quote skip : ℕ) (cs : List ℕ) → all_scalars cs ≡ true → all_scalars (unquoted quote skip cs) ≡ true
all_scalars-unquoted quote skip [] are = refl
all_scalars-unquoted quote (suc skip) (c ∷ cs) are = all_scalars-unquoted quote skip cs (and_parts (scalar c) (all_scalars cs) are).1
all_scalars-unquoted quote zero (c ∷ cs) are =
    let both = and_parts (scalar c) (all_scalars cs) are in
    by_closed (closes quote c cs) _ (by_character quote cs (character quote c cs) (inside quote c cs both.0 both.1) (λ skip. all_scalars-unquoted quote skip cs both.1))

-- what characters of Unicode have between quotes is such too
pub all_scalars-between_quotes : (cs : List ℕ) → all_scalars cs ≡ true → all_scalars (between_quotes cs) ≡ true
all_scalars-between_quotes [] are = refl
all_scalars-between_quotes (quote ∷ cs) are = all_scalars-unquoted quote 0 cs (and_parts (scalar quote) (all_scalars cs) are).1

-- ---- a quoted name isn't empty

one_more_is : (r : Result ℕ LexFault) (n : ℕ) → one_more r ≡ Ok n → (m : ℕ) × (r ≡ Ok m) × (n ≡ suc m)
one_more_is (Ok m) n e = (m, refl, cc)
one_more_is (Err fault) n e = absurd cc

not_closed : (b : Bool) → (true && not (true && b)) ≡ false → b ≡ true
not_closed true e = refl
not_closed false e = absurd cc

-- something stands between backticks
abbrev IsSome : ℕ → List ℕ → Type 0
IsSome n cs = (d : ℕ) × (ds : List ℕ) × (unquoted 96 0 (take n cs) ≡ d ∷ ds)

some-doubled : (n m c : ℕ) (cs : List ℕ) → c ≡ 96 → n ≡ suc (suc m) → IsSome n (96 ∷ c ∷ cs)
some-doubled n m c cs second size = (96, unquoted 96 0 (take m cs), rw (size, second) refl)

some-other : (n m c : ℕ) (cs : List ℕ) → (c == 96) ≡ false → n ≡ suc m → IsSome n (c ∷ cs)
some-other n m c cs other size = (c, unquoted 96 0 (take m cs), rw size (rw other refl))

-- a doubled backtick
by_second : (total n : ℕ) (unclosed : LexFault) (cs : List ℕ) → begins_with 96 cs ≡ true → one_more (quoted_len (offset total) unclosed 96 1 cs) ≡ Ok n → IsSome n (96 ∷ cs)
by_second total n unclosed [] second e = absurd cc
by_second total n unclosed (c ∷ cs) second e =
    let m = one_more_is (one_more (quoted_len (offset total) unclosed 96 0 cs)) n e in
    let l = one_more_is (quoted_len (offset total) unclosed 96 0 cs) m.0 m.1 in
    some-doubled n l.0 c cs (eqb-true c 96 second) (m.2 ∙ ap (λ (x : ℕ). suc x) l.2)

by_first : (total n : ℕ) (unclosed : LexFault) (c : ℕ) (cs : List ℕ) (backtick : Bool) → (c == 96) ≡ backtick → closes 96 c cs ≡ false → quoted_len (offset total) unclosed 96 0 (c ∷ cs) ≡ Ok n → IsSome n (c ∷ cs)
by_first total n unclosed c cs true first open_yet e =
    let second = not_closed (begins_with 96 cs) (rw first at open_yet) in
    let read : one_more (quoted_len (offset total) unclosed 96 1 cs) ≡ Ok n = rw (open_yet, first) at e in
    rw (eqb-true c 96 first) (by_second total n unclosed cs second read)
by_first total n unclosed c cs false first open_yet e =
    let read : one_more (quoted_len (offset total) unclosed 96 0 cs) ≡ Ok n = rw (open_yet, first) at e in
    let m = one_more_is (quoted_len (offset total) unclosed 96 0 cs) n read in
    some-other n m.0 c cs first m.2

pub unquoted-some : (total n : ℕ) (unclosed : LexFault) (cs : List ℕ) → closes_at_once 96 cs ≡ false → quoted_len (offset total) unclosed 96 0 cs ≡ Ok n → (d : ℕ) × (ds : List ℕ) × (unquoted 96 0 (take n cs) ≡ d ∷ ds)
unquoted-some total n unclosed [] open_yet e = absurd cc
unquoted-some total n unclosed (c ∷ cs) open_yet e = by_first total n unclosed c cs (c == 96) refl open_yet e
