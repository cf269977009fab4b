-- Lemmas on what stands between quotes.
use Rattle.std.proofs.Common.{◌≡◌, Bool, not, ◌==◌, ℕ, zero, suc, ◌+◌, ◌*◌, ◌<◌, true, false, List, [], ◌∷◌, ◌++◌, drop, Option, Some, None, Result, Ok, Err, refl, sym, ap, ◌∙◌, append_assoc, append-nil}
use Rattle.std.specs.Char.{digit_value, encode_utf8}
use Rattle.std.specs.Str.{chars, encode_utf8_all}
use Rattle.std.specs.Option.{option_map}
use Rattle.std.specs.List.{prefix_len}
use Rattle.std.proofs.lemmas.Bool.{lt-ltb, eqb-true, and_parts}
use Rattle.cy_lexer.specs.declared.characters.Run.TheVariants as run
use Rattle.cy_lexer.specs.declared.faults.LexFault.{LexFault}
use Rattle.cy_lexer.specs.declared.faults.LexFault.TheVariants.{BadEscape}
use Rattle.cy_lexer.specs.Characters.{goes_on}
use Rattle.cy_lexer.proofs.CharactersLemmas.{run_step}
use Rattle.cy_lexer.specs.internal.Reading.{taken, map_ok, offset}
use Rattle.cy_lexer.specs.Quoted.{hexadecimal, closes, character, one_more, quoted_len, unquoted, between_quotes}

-- one more hexadecimal digit
pub hexadecimal-step : (high n m c digit : ℕ) (whole cs : List ℕ) → whole ≡ c ∷ cs → n ≡ suc m → digit ≡ digit_value c → digit < 16 → hexadecimal high n whole ≡ hexadecimal (high * 16 + digit) m cs
hexadecimal-step high n m c digit whole cs e more is small =
    let fits : digit_value c < 16 = rw (← is) small in
    rw (e, more, is) (rw (lt-ltb _ _ fits) refl)

-- after one character more
left_one_more : (c : ℕ) (cs : List ℕ) (r : Result ℕ LexFault) → map_ok (λ n. drop n (c ∷ cs)) (one_more r) ≡ map_ok (λ n. drop n cs) r
left_one_more c cs (Ok n) = refl
left_one_more c cs (Err e) = refl

-- characters that belong to the one before them are passed
quoted_len-skip : (total : ℕ) (unclosed : LexFault) (quote skip : ℕ) (cs : List ℕ) → map_ok (λ n. drop n cs) (quoted_len (offset total) unclosed quote skip cs) ≡ map_ok (λ n. drop n (drop skip cs)) (quoted_len (offset total) unclosed quote 0 (drop skip cs))
quoted_len-skip total unclosed quote zero [] = refl
quoted_len-skip total unclosed quote zero (c ∷ cs) = refl
quoted_len-skip total unclosed quote (suc skip) [] = refl
quoted_len-skip total unclosed quote (suc skip) (c ∷ cs) =
    left_one_more c cs (quoted_len (offset total) unclosed quote skip cs) ∙ quoted_len-skip total unclosed quote skip cs

unquoted-skip : (quote skip : ℕ) (cs : List ℕ) → unquoted quote skip cs ≡ unquoted quote 0 (drop skip cs)
unquoted-skip quote zero [] = refl
unquoted-skip quote zero (c ∷ cs) = refl
unquoted-skip quote (suc skip) [] = refl
unquoted-skip quote (suc skip) (c ∷ cs) = unquoted-skip quote skip cs

pub some_is : {A : Type 0} (x y : A) → Some x ≡ Some y → x ≡ y
some_is x y e = cc

-- a character inside of the quotes, and what it leaves
by_character : (total : ℕ) (unclosed : LexFault) (quote c d : ℕ) (cs left : List ℕ) (r : Option (ℕ × ℕ)) → Some (d, left) ≡ option_map (taken cs) r → map_ok (λ n. drop n (c ∷ cs)) (elim r [ Some p ↦ one_more (quoted_len (offset total) unclosed quote p.1 cs) | None ↦ Err (BadEscape (offset total (c ∷ cs))) ]) ≡ map_ok (λ n. drop n left) (quoted_len (offset total) unclosed quote 0 left)
by_character total unclosed quote c d cs left (Some p) e =
    let left-is : left ≡ drop p.1 cs = ap (λ (x : ℕ × List ℕ). x.1) (some_is (d, left) (taken cs p) e) in
    left_one_more c cs (quoted_len (offset total) unclosed quote p.1 cs) ∙ quoted_len-skip total unclosed quote p.1 cs ∙ rw left-is refl
by_character total unclosed quote c d cs left None e = absurd cc

pub quoted_len-step : (total : ℕ) (unclosed : LexFault) (quote c d : ℕ) (whole cs left : List ℕ) → whole ≡ c ∷ cs → false ≡ closes quote c cs → Some (d, left) ≡ option_map (taken cs) (character quote c cs) → map_ok (λ n. drop n whole) (quoted_len (offset total) unclosed quote 0 whole) ≡ map_ok (λ n. drop n left) (quoted_len (offset total) unclosed quote 0 left)
quoted_len-step total unclosed quote c d whole cs left e inside took = rw (e, ← inside) (by_character total unclosed quote c d cs left (character quote c cs) took)

pub not_is : (b : Bool) → not b ≡ true → b ≡ false
not_is true e = absurd cc
not_is false e = refl

-- a character that stands for itself
plain_character : (quote c : ℕ) (cs : List ℕ) (backtick : Bool) → (quote == 96) ≡ backtick → (c == quote) ≡ false → (c == 92) ≡ false → Some (c, cs) ≡ option_map (taken cs) (character quote c cs)
plain_character quote c cs true e other no_escape =
    let no_backtick : (c == 96) ≡ false = ap (λ (x : ℕ). c == x) (sym (eqb-true quote 96 e)) ∙ other in
    rw (e, no_backtick) refl
plain_character quote c cs false e other no_escape = rw (e, no_escape) refl

-- a run of such characters is passed
by_plain : (total : ℕ) (unclosed : LexFault) (quote c : ℕ) (cs : List ℕ) (goes : Bool) → goes_on (run.Quoted quote) c ≡ goes → map_ok (λ n. drop n (drop (prefix_len (goes_on (run.Quoted quote)) cs) cs)) (quoted_len (offset total) unclosed quote 0 (drop (prefix_len (goes_on (run.Quoted quote)) cs) cs)) ≡ map_ok (λ n. drop n cs) (quoted_len (offset total) unclosed quote 0 cs) → map_ok (λ n. drop n (drop (prefix_len (goes_on (run.Quoted quote)) (c ∷ cs)) (c ∷ cs))) (quoted_len (offset total) unclosed quote 0 (drop (prefix_len (goes_on (run.Quoted quote)) (c ∷ cs)) (c ∷ cs))) ≡ map_ok (λ n. drop n (c ∷ cs)) (quoted_len (offset total) unclosed quote 0 (c ∷ cs))
by_plain total unclosed quote c cs true goes known =
    let both = and_parts (not (c == quote)) (not (c == 92)) goes in
    let other = not_is (c == quote) both.0 in
    let inside : false ≡ closes quote c cs = rw other refl in
    rw (run_step (goes_on (run.Quoted quote)) c (c ∷ cs) cs refl goes)
    (known ∙ sym (quoted_len-step total unclosed quote c c (c ∷ cs) cs cs refl inside (plain_character quote c cs (quote == 96) refl other (not_is (c == 92) both.1))))
by_plain total unclosed quote c cs false goes known = rw goes refl

quoted_len-run : (total : ℕ) (unclosed : LexFault) (quote : ℕ) (cs : List ℕ) → map_ok (λ n. drop n (drop (prefix_len (goes_on (run.Quoted quote)) cs) cs)) (quoted_len (offset total) unclosed quote 0 (drop (prefix_len (goes_on (run.Quoted quote)) cs) cs)) ≡ map_ok (λ n. drop n cs) (quoted_len (offset total) unclosed quote 0 cs)
quoted_len-run total unclosed quote [] = refl
quoted_len-run total unclosed quote (c ∷ cs) = by_plain total unclosed quote c cs (goes_on (run.Quoted quote) c) refl (quoted_len-run total unclosed quote cs)

pub quoted_len-plain : (total : ℕ) (unclosed : LexFault) (quote : ℕ) (whole left : List ℕ) → left ≡ drop (prefix_len (goes_on (run.Quoted quote)) whole) whole → map_ok (λ n. drop n left) (quoted_len (offset total) unclosed quote 0 left) ≡ map_ok (λ n. drop n whole) (quoted_len (offset total) unclosed quote 0 whole)
quoted_len-plain total unclosed quote whole left e = rw e (quoted_len-run total unclosed quote whole)

-- a bad escape
by_bad_escape : (total : ℕ) (unclosed : LexFault) (quote c : ℕ) (cs : List ℕ) (r : Option (ℕ × ℕ)) → option_map (taken cs) r ≡ None → map_ok (λ n. drop n (c ∷ cs)) (elim r [ Some p ↦ one_more (quoted_len (offset total) unclosed quote p.1 cs) | None ↦ Err (BadEscape (offset total (c ∷ cs))) ]) ≡ Err (BadEscape (offset total (c ∷ cs)))
by_bad_escape total unclosed quote c cs (Some p) e = absurd cc
by_bad_escape total unclosed quote c cs None e = refl

pub quoted_len-bad_escape : (total : ℕ) (unclosed : LexFault) (quote c : ℕ) (whole cs : List ℕ) → whole ≡ c ∷ cs → false ≡ closes quote c cs → option_map (taken cs) (character quote c cs) ≡ None → map_ok (λ n. drop n whole) (quoted_len (offset total) unclosed quote 0 whole) ≡ Err (BadEscape (offset total whole))
quoted_len-bad_escape total unclosed quote c whole cs e inside bad = rw (e, ← inside) (by_bad_escape total unclosed quote c cs (character quote c cs) bad)

-- what a character stands for, and then what its rest does
unquoted_character : (quote d : ℕ) (cs left : List ℕ) (r : Option (ℕ × ℕ)) → Some (d, left) ≡ option_map (taken cs) r → elim r [ Some p ↦ p.0 ∷ unquoted quote p.1 cs | None ↦ [] ] ≡ d ∷ unquoted quote 0 left
unquoted_character quote d cs left (Some p) e =
    let left-is : left ≡ drop p.1 cs = ap (λ (x : ℕ × List ℕ). x.1) (some_is (d, left) (taken cs p) e) in
    let d-is : d ≡ p.0 = ap (λ (x : ℕ × List ℕ). x.0) (some_is (d, left) (taken cs p) e) in
    rw (left-is, d-is) (ap (λ (x : List ℕ). p.0 ∷ x) (unquoted-skip quote p.1 cs))
unquoted_character quote d cs left None e = absurd cc

unquoted-step : (quote c d : ℕ) (whole cs left : List ℕ) → whole ≡ c ∷ cs → false ≡ closes quote c cs → Some (d, left) ≡ option_map (taken cs) (character quote c cs) → unquoted quote 0 whole ≡ d ∷ unquoted quote 0 left
unquoted-step quote c d whole cs left e inside took = rw (e, ← inside) (unquoted_character quote d cs left (character quote c cs) took)

-- a character is written after what was written before, and the rest after it
pub written-step : (quote c d : ℕ) (old new whole cs left all : List ℕ) → whole ≡ c ∷ cs → false ≡ closes quote c cs → Some (d, left) ≡ option_map (taken cs) (character quote c cs) → new ≡ old ++ encode_utf8 d → old ++ encode_utf8_all (unquoted quote 0 whole) ≡ all → new ++ encode_utf8_all (unquoted quote 0 left) ≡ all
written-step quote c d old new whole cs left all e inside took more known =
    ap (λ (x : List ℕ). x ++ encode_utf8_all (unquoted quote 0 left)) more ∙ append_assoc old (encode_utf8 d) (encode_utf8_all (unquoted quote 0 left)) ∙ ap (λ (x : List ℕ). old ++ encode_utf8_all x) (sym (unquoted-step quote c d whole cs left e inside took)) ∙ known

-- at the end nothing is left to be written
pub unquoted-closed : (quote c : ℕ) (whole cs : List ℕ) → whole ≡ c ∷ cs → true ≡ closes quote c cs → unquoted quote 0 whole ≡ []
unquoted-closed quote c whole cs e closed = rw (e, ← closed) refl

unquoted_bad_escape : (quote : ℕ) (cs : List ℕ) (r : Option (ℕ × ℕ)) → option_map (taken cs) r ≡ None → ◌≡◌ {A = List ℕ} (elim r [ Some p ↦ p.0 ∷ unquoted quote p.1 cs | None ↦ [] ]) []
unquoted_bad_escape quote cs (Some p) e = absurd cc
unquoted_bad_escape quote cs None e = refl

pub unquoted-bad_escape : (quote c : ℕ) (whole cs : List ℕ) → whole ≡ c ∷ cs → false ≡ closes quote c cs → option_map (taken cs) (character quote c cs) ≡ None → unquoted quote 0 whole ≡ []
unquoted-bad_escape quote c whole cs e inside bad = rw (e, ← inside) (unquoted_bad_escape quote cs (character quote c cs) bad)

pub unquoted-nil : (quote : ℕ) (whole : List ℕ) → whole ≡ [] → unquoted quote 0 whole ≡ []
unquoted-nil quote whole e = rw e refl

pub written-all : (quote : ℕ) (old first whole inner rest : List ℕ) → first ≡ [] → whole ≡ quote ∷ inner → unquoted quote 0 rest ≡ [] → old ++ encode_utf8_all (unquoted quote 0 rest) ≡ first ++ encode_utf8_all (unquoted quote 0 inner) → old ≡ encode_utf8_all (between_quotes whole)
written-all quote old first whole inner rest empty e done known =
    sym (append-nil old) ∙ ap (λ (x : List ℕ). old ++ encode_utf8_all x) (sym done) ∙ known ∙ ap (λ (x : List ℕ). x ++ encode_utf8_all (unquoted quote 0 inner)) empty ∙ ap (λ (x : List ℕ). encode_utf8_all (between_quotes x)) (sym e)

-- a text with nothing in it has nothing between quotes
pub written-nothing : (written text : List ℕ) → written ≡ encode_utf8_all (between_quotes (chars text)) → text ≡ [] → written ≡ []
unfolding chars
written-nothing written text value empty = value ∙ rw empty refl
