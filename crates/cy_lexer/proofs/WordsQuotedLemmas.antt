-- Lemmas on names and texts as words are written: between quotes they are whole, and denote their characters.
use Rattle.std.proofs.Common.{◌≡◌, ℕ, ◌+◌, Bool, true, false, ◌==◌, List, [], ◌∷◌, ◌++◌, length, Result, Ok, refl, sym, ap, arith}
use Rattle.std.proofs.lemmas.Bool.{eqb-true}
use Rattle.cy_lexer.specs.declared.faults.LexFault.{LexFault}
use Rattle.cy_lexer.specs.Characters.{begins_with}
use Rattle.cy_lexer.specs.Quoted.{quoted_len, unquoted}
use Rattle.cy_lexer.specs.Tokens.{closes_at_once}
use Rattle.cy_lexer.specs.Words.{doubled, escaped}
use Rattle.cy_lexer.specs.internal.Reading.{offset}

-- this many characters were passed
passed : (m n : ℕ) → m ≡ n → ◌≡◌ {A = Result ℕ LexFault} (Ok m) (Ok n)
passed m n e = ap (λ (x : ℕ). Ok x) e

-- a name in backticks
by_doubled : (total : ℕ) (unclosed : LexFault) (c : ℕ) (cs rest : List ℕ) (backtick : Bool) → (c == 96) ≡ backtick → quoted_len (offset total) unclosed 96 0 (doubled cs ++ 96 ∷ rest) ≡ Ok (length (doubled cs) + 1) → quoted_len (offset total) unclosed 96 0 (doubled (c ∷ cs) ++ 96 ∷ rest) ≡ Ok (length (doubled (c ∷ cs)) + 1)
by_doubled total unclosed c cs rest true e known = rw e (rw known (passed _ _ (omega arith)))
by_doubled total unclosed c cs rest false e known = rw e (rw e (rw known (passed _ _ (omega arith))))

pub quoted_len-doubled : (total : ℕ) (unclosed : LexFault) (cs rest : List ℕ) → begins_with 96 rest ≡ false → quoted_len (offset total) unclosed 96 0 (doubled cs ++ 96 ∷ rest) ≡ Ok (length (doubled cs) + 1)
quoted_len-doubled total unclosed [] rest single = rw single refl
quoted_len-doubled total unclosed (c ∷ cs) rest single = by_doubled total unclosed c cs rest (c == 96) refl (quoted_len-doubled total unclosed cs rest single)

-- a name that isn't empty
by_first : (c : ℕ) (cs rest : List ℕ) (backtick : Bool) → (c == 96) ≡ backtick → closes_at_once 96 (doubled (c ∷ cs) ++ rest) ≡ false
by_first c cs rest true e = rw e refl
by_first c cs rest false e = rw e (rw e refl)

pub closes_at_once-doubled : (c : ℕ) (cs rest : List ℕ) → closes_at_once 96 (doubled (c ∷ cs) ++ rest) ≡ false
closes_at_once-doubled c cs rest = by_first c cs rest (c == 96) refl

by_undoubled : (c : ℕ) (cs : List ℕ) (backtick : Bool) → (c == 96) ≡ backtick → unquoted 96 0 (doubled cs ++ 96 ∷ []) ≡ cs → unquoted 96 0 (doubled (c ∷ cs) ++ 96 ∷ []) ≡ c ∷ cs
by_undoubled c cs true e known = let same : c ≡ 96 = eqb-true c 96 e in rw e (rw known (ap (λ (x : ℕ). x ∷ cs) (sym same)))
by_undoubled c cs false e known = rw e (rw e (rw known refl))

pub unquoted-doubled : (cs : List ℕ) → unquoted 96 0 (doubled cs ++ 96 ∷ []) ≡ cs
unquoted-doubled [] = refl
unquoted-doubled (c ∷ cs) = by_undoubled c cs (c == 96) refl (unquoted-doubled cs)

-- a text in single quotes
by_escaped : (total : ℕ) (unclosed : LexFault) (c : ℕ) (cs rest : List ℕ) (backslash quote : Bool) → (c == 92) ≡ backslash → (c == 39) ≡ quote → quoted_len (offset total) unclosed 39 0 (escaped cs ++ 39 ∷ rest) ≡ Ok (length (escaped cs) + 1) → quoted_len (offset total) unclosed 39 0 (escaped (c ∷ cs) ++ 39 ∷ rest) ≡ Ok (length (escaped (c ∷ cs)) + 1)
by_escaped total unclosed c cs rest true quote e f known = rw (eqb-true c 92 e) (rw known (passed _ _ (omega arith)))
by_escaped total unclosed c cs rest false true e f known = rw (eqb-true c 39 f) (rw known (passed _ _ (omega arith)))
by_escaped total unclosed c cs rest false false e f known = rw (e, f) (rw (e, f) (rw known (passed _ _ (omega arith))))

pub quoted_len-escaped : (total : ℕ) (unclosed : LexFault) (cs rest : List ℕ) → quoted_len (offset total) unclosed 39 0 (escaped cs ++ 39 ∷ rest) ≡ Ok (length (escaped cs) + 1)
quoted_len-escaped total unclosed [] rest = refl
quoted_len-escaped total unclosed (c ∷ cs) rest = by_escaped total unclosed c cs rest (c == 92) (c == 39) refl refl (quoted_len-escaped total unclosed cs rest)

by_unescaped : (c : ℕ) (cs : List ℕ) (backslash quote : Bool) → (c == 92) ≡ backslash → (c == 39) ≡ quote → unquoted 39 0 (escaped cs ++ 39 ∷ []) ≡ cs → unquoted 39 0 (escaped (c ∷ cs) ++ 39 ∷ []) ≡ c ∷ cs
by_unescaped c cs true quote e f known = rw (eqb-true c 92 e) (rw known refl)
by_unescaped c cs false true e f known = rw (eqb-true c 39 f) (rw known refl)
by_unescaped c cs false false e f known = rw (e, f) (rw (e, f) (rw known refl))

pub unquoted-escaped : (cs : List ℕ) → unquoted 39 0 (escaped cs ++ 39 ∷ []) ≡ cs
unquoted-escaped [] = refl
unquoted-escaped (c ∷ cs) = by_unescaped c cs (c == 92) (c == 39) refl refl (unquoted-escaped cs)
