-- The keys of the indexes' places, one place after the other.
use Rattle.std.proofs.Common.{◌≡◌, ℕ, zero, suc, ◌+◌, ◌<◌, Bool, true, false, ◌&&◌, ◌||◌, List, [], ◌∷◌, ◌++◌, length, get_or, take, refl, sym, ap, ◌∙◌, arith, nat_eq}
use Rattle.std.proofs.lemmas.Bool.{eqb-true, eq-eqb}
use Rattle.std.proofs.lemmas.List.{take_more, length-take-le}
use Rattle.cy_values.specs.declared.scalars.Value.{Value}
use Rattle.cy_values.proofs.Booleans.{with_false}
use Rattle.cy_index.specs.declared.keys.Key.{Key}
use Rattle.cy_index.specs.declared.keys.Key.TheVariants as key
use Rattle.cy_index.specs.declared.keys.Pair.{Pair}
use Rattle.cy_index.specs.internal.Under.{among, is_pair_at, is_prop, is_here}
use Rattle.cy_index.proofs.Numbers.{other, other_back}

pub or_assoc : (a b c : Bool) → ((a || b) || c) ≡ (a || (b || c))
or_assoc true b c = refl
or_assoc false b c = refl

-- numbers are the same where the next ones are
eq_next : (q n : ℕ) → nat_eq (suc q) (suc n) ≡ nat_eq q n
eq_next q n = by (nat_eq q n) refl
  where
    off : (b : Bool) → nat_eq (suc q) (suc n) ≡ b → nat_eq q n ≡ false → b ≡ false
    off true e no' = let same : q ≡ n = omega (arith, eqb-true (suc q) (suc n) e) in sym (eq-eqb q n same) ∙ no'
    off false e no' = refl

    by : (b : Bool) → nat_eq q n ≡ b → nat_eq (suc q) (suc n) ≡ b
    by true e = eq-eqb (suc q) (suc n) (ap suc (eqb-true q n e))
    by false e = off (nat_eq (suc q) (suc n)) refl e

-- one pair more
pub pair_push : (test : Pair → Bool) (ps : List Pair) (p : Pair) (q : ℕ) → is_pair_at (ps ++ p ∷ []) q test ≡ (is_pair_at ps q test || (nat_eq q (length ps) && test p))
pair_push test [] p zero = refl
pair_push test [] p (suc q) = sym (ap (λ b. false || (b && test p)) (other_back (suc q) 0 (omega arith)))
pair_push test (x ∷ ps) p zero = with_false (test x) ∙ sym (ap (λ b. test x || (b && test p)) (other 0 (suc (length ps)) (omega arith)))
pair_push test (x ∷ ps) p (suc q) = pair_push test ps p q ∙ sym (ap (λ b. is_pair_at ps q test || (b && test p)) (eq_next q (length ps)))

-- the keys of one place more
pub prop_more : (chosen : List Pair) (test : Value → Pair → Bool) (i : ℕ) (p : Pair) (k : Key) → i < length chosen → p ≡ get_or chosen i p → is_prop (take (i + 1) chosen) test k ≡ (is_prop (take i chosen) test k || is_here i (λ value. test value p) k)
prop_more chosen test i p (key.Label other) lt is = refl
prop_more chosen test i p (key.Prop q value) lt is =
    ap (λ ps. is_pair_at ps q (test value)) (take_more chosen i p lt ∙ ap (λ x. take i chosen ++ x ∷ []) (sym is))
    ∙ pair_push (test value) (take i chosen) p q
    ∙ ap (λ n. is_pair_at (take i chosen) q (test value) || (nat_eq q n && test value p)) (length-take-le i chosen (omega arith))

-- one place after the other
pub places_next : (chosen : List Pair) (test : Value → Pair → Bool) (i : ℕ) (p : Pair) (start before after : List Key) → i < length chosen → p ≡ get_or chosen i p
    → ((k : Key) → among k before ≡ (among k start || is_prop (take i chosen) test k)) → ((k : Key) → among k after ≡ (among k before || is_here i (λ value. test value p) k))
    → (k : Key) → among k after ≡ (among k start || is_prop (take (i + 1) chosen) test k)
places_next chosen test i p start before after lt is first then k =
    then k ∙ ap (λ b. b || is_here i (λ value. test value p) k) (first k)
    ∙ or_assoc (among k start) (is_prop (take i chosen) test k) (is_here i (λ value. test value p) k)
    ∙ ap (λ b. among k start || b) (sym (prop_more chosen test i p k lt is))
