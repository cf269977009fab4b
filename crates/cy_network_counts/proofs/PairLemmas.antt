-- Whether the rows of a pair are there together.
use Rattle.std.proofs.Common.{◌≡◌, ℕ, ◌+◌, ◌*◌, true, false, ap, sym, ◌∙◌, suc, zero, arith}
use Rattle.std.specs.Prelude.{nat_lt}
use Rattle.std.proofs.lemmas.Bool.{false≢true, true≢false}
use Rattle.std.proofs.lemmas.Bool.Decides.{nat_tests}
use Rattle.std.proofs.Math.Nat.{mul-zero, zero-mul}
use Rattle.cy_network_counts.proofs.Naturals.{positive}

-- where the one is there, both are where the other is
pub together : (m n : ℕ) → nat_lt 0 m ≡ true → nat_lt 0 (m * n) ≡ nat_lt 0 n
together zero n there = absurd (false≢true there)
together (suc m) zero there = ap (λ k. nat_lt 0 k) (mul-zero (suc m))
together (suc m) (suc n) there = positive (suc m * suc n) (omega arith) ∙ sym (positive (suc n) (omega arith))

pub apart : (m n : ℕ) → nat_lt 0 m ≡ false → nat_lt 0 (m * n) ≡ false
apart zero n gone = ap (λ k. nat_lt 0 k) (zero-mul n)
apart (suc m) n gone = absurd (true≢false (sym (positive (suc m) (omega arith)) ∙ gone))

-- a sum isn't 0 where the one isn't, or else where the other isn't
pub some_first : (m n : ℕ) → nat_lt 0 m ≡ true → nat_lt 0 (m + n) ≡ true
some_first m n some = grind (arith, nat_tests)

pub some_second : (m n : ℕ) → nat_lt 0 m ≡ false → nat_lt 0 (m + n) ≡ nat_lt 0 n
some_second m n none = grind (arith, nat_tests)
