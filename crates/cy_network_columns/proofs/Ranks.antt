-- The greatest number below a bound that meets a test.
use Rattle.std.proofs.Common.{◌≡◌, ◌≢◌, ℕ, zero, suc, ◌<◌, ◌≤◌, Bool, true, false, cond, None, Some, refl, sym, ap, subst, ◌∙◌, nat_eq, nat_lt, arith}
use Rattle.std.proofs.lemmas.Bool.{eqb-true, ltb-true, ltb-false, eqb-false}
use Rattle.cy_network_columns.specs.Hashes.{last_below}
use Rattle.cy_network_columns.specs.internal.Chains.{rank_below}

pub true_false : {P : Type 0} → true ≡ false → P
true_false e = cc

-- it is no more than the bound
pub rank_le : (f : ℕ → Bool) (n : ℕ) → rank_below f n ≤ n
rank_le f zero = omega arith
rank_le f (suc n) = by (f n) (rank_le f n)
  where
    by : (b : Bool) → rank_below f n ≤ n → cond b (suc n) (rank_below f n) ≤ suc n
    by true le = omega arith
    by false le = omega (arith, le)

-- the number itself meets the test
pub rank_at : (f : ℕ → Bool) (n i : ℕ) → rank_below f n ≡ suc i → f i ≡ true
rank_at f zero i e = cc
rank_at f (suc n) i e = by (rank_at f n i) (f n) refl e
  where
    by : (rank_below f n ≡ suc i → f i ≡ true) → (b : Bool) → f n ≡ b → cond b (suc n) (rank_below f n) ≡ suc i → f i ≡ true
    by less true t e = subst (λ (k : ℕ). f k ≡ true) (omega (arith, e)) t
    by less false t e = less e

-- none from there on does
pub rank_past : (f : ℕ → Bool) (n j : ℕ) → rank_below f n ≤ j → j < n → f j ≡ false
rank_past f zero j le lt = absurd (omega (arith, lt))
rank_past f (suc n) j le lt = by (rank_past f n j) (f n) refl le
  where
    by : (rank_below f n ≤ j → j < n → f j ≡ false) → (b : Bool) → f n ≡ b → cond b (suc n) (rank_below f n) ≤ j → f j ≡ false
    by rest true t le = absurd (omega (arith, le, lt))
    by rest false t le = which (nat_lt j n) refl
      where
        which : (c : Bool) → nat_lt j n ≡ c → f j ≡ false
        which true less = rest le (ltb-true j n less)
        which false more = subst (λ (k : ℕ). f k ≡ false) (omega (arith, ltb-false j n more, lt)) t

-- one below the bound that does comes no later
pub rank_least : (f : ℕ → Bool) (n i : ℕ) → f i ≡ true → i < n → i < rank_below f n
rank_least f n i t lt = by (nat_lt i (rank_below f n)) refl
  where
    by : (b : Bool) → nat_lt i (rank_below f n) ≡ b → i < rank_below f n
    by true less = ltb-true i (rank_below f n) less
    by false more = true_false (sym t ∙ rank_past f n i (ltb-false i (rank_below f n) more) lt)

-- what tells it
pub rank_is : (f : ℕ → Bool) (n r : ℕ) → r ≤ n → ((i : ℕ) → r ≡ suc i → f i ≡ true) → ((j : ℕ) → r ≤ j → j < n → f j ≡ false) → rank_below f n ≡ r
rank_is f zero r le at past = omega (arith, le)
rank_is f (suc n) r le at past = by (λ from. rank_is f n r from at (λ j more lt. past j more (omega (arith, lt)))) (f n) refl
  where
    by : (r ≤ n → rank_below f n ≡ r) → (b : Bool) → f n ≡ b → cond b (suc n) (rank_below f n) ≡ r
    by rest true t = which (nat_lt n r) refl
      where
        which : (c : Bool) → nat_lt n r ≡ c → suc n ≡ r
        which true less = omega (arith, ltb-true n r less, le)
        which false more = true_false (sym t ∙ past n (ltb-false n r more) (omega arith))
    by rest false t = which (nat_lt n r) refl
      where
        which : (c : Bool) → nat_lt n r ≡ c → rank_below f n ≡ r
        which true less = true_false (sym (at n (omega (arith, ltb-true n r less, le))) ∙ t)
        which false more = rest (ltb-false n r more)

-- tests that agree below the bound have one rank
pub rank_same : (f g : ℕ → Bool) (n : ℕ) → ((i : ℕ) → i < n → g i ≡ f i) → rank_below g n ≡ rank_below f n
rank_same f g n same =
    rank_is g n (rank_below f n) (rank_le f n) (λ i e. same i (omega (arith, e, rank_le f n)) ∙ rank_at f n i e) (λ j from lt. same j lt ∙ rank_past f n j from lt)

-- a lower bound at which the same number is the greatest
pub rank_down : (f : ℕ → Bool) (n m : ℕ) → rank_below f n ≤ m → m ≤ n → rank_below f m ≡ rank_below f n
rank_down f n m from to = rank_is f m (rank_below f n) from (λ i e. rank_at f n i e) (λ j more lt. rank_past f n j more (omega (arith, lt, to)))

-- a test that nothing meets
pub rank_never : (f : ℕ → Bool) (n : ℕ) → ((i : ℕ) → i < n → f i ≡ false) → rank_below f n ≡ 0
rank_never f n never = rank_is f n 0 (omega arith) (λ i e. absurd (omega (arith, e))) (λ j from lt. never j lt)

-- where a number no longer meets the test
module _ (f g : ℕ → Bool) (number : ℕ) (off : g number ≡ false) (others : (i : ℕ) → nat_eq number i ≡ false → g i ≡ f i) where
  apart_from : (i : ℕ) → (number ≡ i → ⊥) → g i ≡ f i
  apart_from i apart = by (nat_eq number i) refl
    where
      by : (b : Bool) → nat_eq number i ≡ b → g i ≡ f i
      by true same = absurd (apart (eqb-true number i same))
      by false no_one = others i no_one

  pub before : (n : ℕ) → n ≤ number → rank_below g n ≡ rank_below f n
  before n le = rank_same f g n (λ i lt. apart_from i (λ e. omega (arith, e, lt, le)))

  pub taken_out : (n : ℕ) → number < n → rank_below f n ≡ suc number → rank_below g n ≡ rank_below f number
  taken_out n lt is =
      rank_is g n (rank_below f number) (omega (arith, rank_le f number, lt))
      (λ i e. apart_from i (λ same. omega (arith, e, same, rank_le f number)) ∙ rank_at f number i e)
      (λ j from less. which j from less (nat_lt j number) refl (nat_eq number j) refl)
    where
      which : (j : ℕ) → rank_below f number ≤ j → j < n → (b : Bool) → nat_lt j number ≡ b → (c : Bool) → nat_eq number j ≡ c → g j ≡ false
      which j from less true under c is_c = apart_from j (λ same. omega (arith, same, ltb-true j number under)) ∙ rank_past f number j from (ltb-true j number under)
      which j from less false over true same = ap g (sym (eqb-true number j same)) ∙ off
      which j from less false over false apart =
          others j apart ∙ rank_past f n j (omega (arith, is, ltb-false j number over, eqb-false number j apart)) less

  pub higher : (n : ℕ) → suc number < rank_below f n → rank_below g n ≡ rank_below f n
  higher n more =
      rank_is g n (rank_below f n) (rank_le f n)
      (λ i e. apart_from i (λ same. omega (arith, e, same, more)) ∙ rank_at f n i e)
      (λ j from lt. apart_from j (λ same. omega (arith, same, from, more)) ∙ rank_past f n j from lt)

-- where a number meets the test now
module _ (f g : ℕ → Bool) (number : ℕ) (on : g number ≡ true) (others : (i : ℕ) → nat_eq number i ≡ false → g i ≡ f i) where
  beside : (i : ℕ) → (number ≡ i → ⊥) → g i ≡ f i
  beside i apart = by (nat_eq number i) refl
    where
      by : (b : Bool) → nat_eq number i ≡ b → g i ≡ f i
      by true same = absurd (apart (eqb-true number i same))
      by false no_one = others i no_one

  pub still : (n : ℕ) → n ≤ number → rank_below g n ≡ rank_below f n
  still n le = rank_same f g n (λ i lt. beside i (λ e. omega (arith, e, lt, le)))

  pub put_in : (n : ℕ) → number < n → rank_below f n ≤ number → rank_below g n ≡ suc number
  put_in n lt le =
      rank_is g n (suc number) (omega (arith, lt)) (λ i e. subst (λ (k : ℕ). g k ≡ true) (omega (arith, e)) on)
      (λ j from less. beside j (λ same. omega (arith, same, from)) ∙ rank_past f n j (omega (arith, le, from)) less)

  pub above : (n : ℕ) → suc number < rank_below f n → rank_below g n ≡ rank_below f n
  above n more =
      rank_is g n (rank_below f n) (rank_le f n)
      (λ i e. beside i (λ same. omega (arith, e, same, more)) ∙ rank_at f n i e)
      (λ j from lt. beside j (λ same. omega (arith, same, from, more)) ∙ rank_past f n j from lt)

-- a lower bound between which and the first nothing meets the test
pub last_skip : (f : ℕ → Bool) (n m : ℕ) → m ≤ n → ((j : ℕ) → m ≤ j → j < n → f j ≡ false) → last_below f n ≡ last_below f m
last_skip f zero m le none = let it : zero ≡ m = omega (arith, le) in ap (last_below f) it
last_skip f (suc n) m le none = by (λ from. last_skip f n m from (λ j more lt. none j more (omega (arith, lt)))) (nat_lt n m) refl
  where
    by : (m ≤ n → last_below f n ≡ last_below f m) → (b : Bool) → nat_lt n m ≡ b → last_below f (suc n) ≡ last_below f m
    by rest true less = let it : suc n ≡ m = omega (arith, le, ltb-true n m less) in ap (last_below f) it
    by rest false more = ap (λ b. cond b (Some n) (last_below f n)) (none n (ltb-false n m more) (omega arith)) ∙ rest (ltb-false n m more)

-- it is below the bound
pub last_lower : (f : ℕ → Bool) (n i : ℕ) → last_below f n ≡ Some i → i < n
last_lower f zero i e = cc
last_lower f (suc n) i e = by (last_lower f n i) (f n) e
  where
    some_same : (x y : ℕ) → Some x ≡ Some y → x ≡ y
    some_same x y e = cc

    by : (last_below f n ≡ Some i → i < n) → (b : Bool) → cond b (Some n) (last_below f n) ≡ Some i → i < suc n
    by rest true e = omega (arith, some_same n i e)
    by rest false e = omega (arith, rest e)

-- and it meets the test
pub last_meets : (f : ℕ → Bool) (n i : ℕ) → last_below f n ≡ Some i → f i ≡ true
last_meets f zero i e = cc
last_meets f (suc n) i e = by (last_meets f n i) (f n) refl e
  where
    some_same : (x y : ℕ) → Some x ≡ Some y → x ≡ y
    some_same x y e = cc

    by : (last_below f n ≡ Some i → f i ≡ true) → (b : Bool) → f n ≡ b → cond b (Some n) (last_below f n) ≡ Some i → f i ≡ true
    by rest true t e = ap f (sym (some_same n i e)) ∙ t
    by rest false t e = rest e

-- none above it does
pub last_above : (f : ℕ → Bool) (n i : ℕ) → last_below f n ≡ Some i → (j : ℕ) → i < j → j < n → f j ≡ false
last_above f zero i e j more less = absurd (omega (arith, less))
last_above f (suc n) i e j more less = by (last_above f n i) (f n) refl e
  where
    some_same : (x y : ℕ) → Some x ≡ Some y → x ≡ y
    some_same x y e = cc

    by : (last_below f n ≡ Some i → (j : ℕ) → i < j → j < n → f j ≡ false) → (b : Bool) → f n ≡ b → cond b (Some n) (last_below f n) ≡ Some i → f j ≡ false
    by rest true t e = absurd (omega (arith, some_same n i e, more, less))
    by rest false t e = which (nat_lt j n) refl
      where
        which : (c : Bool) → nat_lt j n ≡ c → f j ≡ false
        which true lt = rest e j more (ltb-true j n lt)
        which false over = let it : n ≡ j = omega (arith, less, ltb-false j n over) in ap f (sym it) ∙ t

-- where there is none, none meets it
pub last_none : (f : ℕ → Bool) (n : ℕ) → last_below f n ≡ None → (j : ℕ) → j < n → f j ≡ false
last_none f zero e j less = absurd (omega (arith, less))
last_none f (suc n) e j less = by (last_none f n) (f n) refl e
  where
    by : (last_below f n ≡ None → (j : ℕ) → j < n → f j ≡ false) → (b : Bool) → f n ≡ b → cond b (Some n) (last_below f n) ≡ None → f j ≡ false
    by rest true t e = cc
    by rest false t e = which (nat_lt j n) refl
      where
        which : (c : Bool) → nat_lt j n ≡ c → f j ≡ false
        which true lt = rest e j (ltb-true j n lt)
        which false over = let it : n ≡ j = omega (arith, less, ltb-false j n over) in ap f (sym it) ∙ t
