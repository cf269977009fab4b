-- Laws of tests, for the proofs of every layer.
use Rattle.std.proofs.Common.{◌≡◌, ℕ, ◌==◌, Bool, true, false, ◌&&◌, ◌||◌, not, refl, sym}
use Rattle.std.proofs.lemmas.Bool.{eq-eqb, false≢true}

pub and_true : (b : Bool) → (b && true) ≡ b
and_true true = refl
and_true false = refl

pub with_true : (b : Bool) → b ≡ (b && true)
with_true b = sym (and_true b)

pub and_false : (b : Bool) → (b && false) ≡ false
and_false true = refl
and_false false = refl

pub none_and : (b : Bool) → false ≡ (b && false)
none_and b = sym (and_false b)

pub or_false : (b : Bool) → (b || false) ≡ b
or_false true = refl
or_false false = refl

pub with_false : (b : Bool) → b ≡ (b || false)
with_false b = sym (or_false b)

pub or_true : (b : Bool) → (b || true) ≡ true
or_true true = refl
or_true false = refl

pub and_swap : (a b : Bool) → (a && b) ≡ (b && a)
and_swap true b = with_true b
and_swap false b = sym (and_false b)

pub grouped_left : (a b c : Bool) → (a && (b && c)) ≡ ((a && b) && c)
grouped_left true b c = refl
grouped_left false b c = refl

pub grouped_right : (a b c : Bool) → ((a && b) && c) ≡ (a && (b && c))
grouped_right a b c = sym (grouped_left a b c)

pub and_past : (a b c : Bool) → (a && (b && c)) ≡ (b && (a && c))
and_past true b c = refl
and_past false b c = sym (and_false b)

pub and_four : (a b c d : Bool) → ((a && b) && (c && d)) ≡ ((a && c) && (b && d))
and_four true b c d = and_past b c d
and_four false b c d = refl

pub or_four : (a b c d : Bool) → ((a || b) || (c || d)) ≡ ((a || c) || (b || d))
or_four true b c d = refl
or_four false true true d = refl
or_four false true false d = refl
or_four false false c d = refl

pub untrue : (b : Bool) → not b ≡ true → b ≡ false
untrue true is = sym is
untrue false is = refl

pub unfalse : (b : Bool) → not b ≡ false → b ≡ true
unfalse true is = refl
unfalse false is = sym is

pub tests_agree : (b c : Bool) → (b ≡ true → c ≡ true) → (c ≡ true → b ≡ true) → b ≡ c
tests_agree true c to from = sym (to refl)
tests_agree false true to from = from refl
tests_agree false false to from = refl

pub both_first : (a b : Bool) → (a && b) ≡ true → a ≡ true
both_first true b both = refl
both_first false b both = both

pub both_second : (a b : Bool) → (a && b) ≡ true → b ≡ true
both_second true b both = both
both_second false b both = absurd (false≢true both)

pub itself_equal : (n : ℕ) → (n == n) ≡ true
itself_equal n = eq-eqb n n refl
