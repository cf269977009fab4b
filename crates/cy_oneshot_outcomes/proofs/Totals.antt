-- The sum of what a function gives at 0, 1, .. below a number, and at the numbers of a range.
use Rattle.std.proofs.Common.{◌≡◌, ℕ, zero, suc, ◌+◌, ◌-◌, ◌≤◌, ◌<◌, Bool, true, false, cond, ◌&&◌, List, refl, sym, ap, ◌∙◌, ⊎_elim, arith}
use Rattle.std.specs.Prelude.{sum_by, nat_le}
use Rattle.std.specs.List.{range_with_len}
use Rattle.std.proofs.lemmas.Bool.{cases_lt, and_left, and_right}
use Rattle.std.proofs.lemmas.Bool.Decides.{nat_tests}
use Rattle.std.proofs.lemmas.List.Sums.{sum_by-cons}
use Rattle.cy_values.proofs.Lists.{sum_of_none, sum_of_two}

abbrev pub total : ℕ → (ℕ → ℕ) → ℕ
total zero f = 0
total (suc n) f = f 0 + total n (λ k. f (suc k))

pub total_alike : (n : ℕ) (f g : ℕ → ℕ) → ((k : ℕ) → k < n → f k ≡ g k) → total n f ≡ total n g
total_alike zero f g alike = refl
total_alike (suc n) f g alike = (λ i. alike 0 (let e : 0 < suc n = omega arith in e) i + total_alike n (λ k. f (suc k)) (λ k. g (suc k)) (λ k h. alike (suc k) (omega (arith, h))) i)

pub total_none : (n : ℕ) (f : ℕ → ℕ) → ((k : ℕ) → k < n → f k ≡ 0) → total n f ≡ 0
total_none zero f none = refl
total_none (suc n) f none = omega (arith, none 0 (omega arith), total_none n (λ k. f (suc k)) (λ k h. none (suc k) (omega (arith, h))))

pub total_split : (m n : ℕ) (f : ℕ → ℕ) → total (m + n) f ≡ total m f + total n (λ k. f (m + k))
total_split zero n f =
    let e : 0 + n ≡ n = omega arith in
    ap (λ k. total k f) e
    ∙ total_alike n f (λ k. f (0 + k)) (λ k h. let s : k ≡ 0 + k = omega arith in ap f s)
    ∙ (let z : total n (λ k. f (0 + k)) ≡ 0 + total n (λ k. f (0 + k)) = omega arith in z)
total_split (suc m) n f =
    let e : suc m + n ≡ suc (m + n) = omega arith in
    let rest : total (m + n) (λ k. f (suc k)) ≡ total m (λ k. f (suc k)) + total n (λ k. f (suc (m + k))) = total_split m n (λ k. f (suc k)) in
    let moved : total n (λ k. f (suc (m + k))) ≡ total n (λ k. f (suc m + k)) =
    total_alike n (λ k. f (suc (m + k))) (λ k. f (suc m + k)) (λ k h. let s : suc (m + k) ≡ suc m + k = omega arith in ap f s) in
    ap (λ k. total k f) e ∙ (let z : f 0 + total (m + n) (λ k. f (suc k)) ≡ (f 0 + total m (λ k. f (suc k))) + total n (λ k. f (suc m + k)) = omega (arith, rest, moved) in z)

-- the order of summing makes no difference
pub total_sum : {A : Type 0} (n : ℕ) (f : A → ℕ → ℕ) (xs : List A) → sum_by (λ x. total n (f x)) xs ≡ total n (λ k. sum_by (λ x. f x k) xs)
total_sum zero f xs = sum_of_none xs
total_sum (suc n) f xs =
    sum_of_two (λ x. f x 0) (λ x. total n (λ k. f x (suc k))) xs
    ∙ ap (λ t. sum_by (λ x. f x 0) xs + t) (total_sum n (λ x k. f x (suc k)) xs)

pub total_range : (f : ℕ → ℕ) (a n : ℕ) → sum_by f (range_with_len a n) ≡ total n (λ k. f (a + k))
total_range f a zero = refl
total_range f a (suc n) =
    let first : f a ≡ f (a + 0) = (let s : a ≡ a + 0 = omega arith in ap f s) in
    let moved : total n (λ k. f (a + 1 + k)) ≡ total n (λ k. f (a + suc k)) =
    total_alike n (λ k. f (a + 1 + k)) (λ k. f (a + suc k)) (λ k h. let s : a + 1 + k ≡ a + suc k = omega arith in ap f s) in
    sum_by-cons f a (range_with_len (a + 1) n) ∙ (let e : f a + sum_by f (range_with_len (a + 1) n) ≡ f (a + 0) + total n (λ k. f (a + suc k)) = omega (arith, first, moved, total_range f (a + 1) n) in e)

-- ---- those of a range

-- whether a number is from the one and before the other
abbrev pub within : ℕ → ℕ → ℕ → Bool
within low high k = nat_le low k && nat_le (suc k) high

module _ (f : ℕ → ℕ) (low high : ℕ) where
  part : ℕ → ℕ
  part k = cond (within low high k) (f k) 0

  part_at : (b : Bool) (k : ℕ) → within low high k ≡ b → part k ≡ cond b (f k) 0
  unfolding part
  part_at b k e = ap (λ t. cond t (f k) 0) e

  below_low : (k : ℕ) → k < low → within low high k ≡ false
  below_low k h = and_left (nat_le low k) (nat_le (suc k) high) (let e : nat_le low k ≡ false = grind (arith, nat_tests, h) in e)

  from_high : (k : ℕ) → high ≤ k → within low high k ≡ false
  from_high k h = and_right (nat_le low k) (nat_le (suc k) high) (let e : nat_le (suc k) high ≡ false = grind (arith, nat_tests, h) in e)

  inside : (k : ℕ) → low ≤ k → k < high → within low high k ≡ true
  inside k h l =
      let e : nat_le low k ≡ true = grind (arith, nat_tests, h) in
      let d : nat_le (suc k) high ≡ true = grind (arith, nat_tests, l) in
      (λ i. e i && d i)

  none_outside : (k : ℕ) → within low high k ≡ false → part k ≡ 0
  none_outside k e = part_at false k e

  whole : low ≤ high → total high part ≡ total (high - low) (λ k. f (low + k))
  whole h =
      let e : high ≡ low + (high - low) = omega (arith, h) in
      ap (λ m. total m part) e
      ∙ total_split low (high - low) part
      ∙ (let first : total low part ≡ 0 = total_none low part (λ k l. none_outside k (below_low k l)) in
      let second : total (high - low) (λ k. part (low + k)) ≡ total (high - low) (λ k. f (low + k)) =
      total_alike (high - low) (λ k. part (low + k)) (λ k. f (low + k)) (λ k l. part_at true (low + k) (inside (low + k) (omega arith) (omega (arith, l, h)))) in
      let both : total low part + total (high - low) (λ k. part (low + k)) ≡ total (high - low) (λ k. f (low + k)) = omega (arith, first, second) in both)

  -- where nothing counts from a number on, all below it count that are in the range
  pub total_within : (n : ℕ) → ((k : ℕ) → n ≤ k → f k ≡ 0) → total n (λ k. cond (within low high k) (f k) 0) ≡ total (high - low) (λ k. f (low + k))
  unfolding part
  total_within n none = ⊎_elim
      (λ less. let gone : high - low ≡ 0 = omega (arith, less) in
      total_none n part (λ k h. none_outside k (⊎_elim (λ l. below_low k l) (λ l. from_high k (omega (arith, l, less))) (cases_lt k low)))
      ∙ sym (ap (λ m. total m (λ k. f (low + k))) gone))
      (λ more.
      let after : total high (λ k. part (n + k)) ≡ 0 = total_none high (λ k. part (n + k)) (λ k h. zero_part (n + k) (within low high (n + k)) refl (none (n + k) (omega arith))) in
      let beyond : total n (λ k. part (high + k)) ≡ 0 = total_none n (λ k. part (high + k)) (λ k h. none_outside (high + k) (from_high (high + k) (omega arith))) in
      let swapped : n + high ≡ high + n = omega arith in
      let same : total (n + high) part ≡ total (high + n) part = ap (λ m. total m part) swapped in
      let e : total n part ≡ total high part = omega (arith, total_split n high part, total_split high n part, after, beyond, same) in
      e ∙ whole more)
      (cases_lt high low)
    where
      zero_part : (k : ℕ) (b : Bool) → within low high k ≡ b → f k ≡ 0 → part k ≡ 0
      zero_part k true e z = part_at true k e ∙ z
      zero_part k false e z = part_at false k e
