-- Of natural numbers and their tests.
use Rattle.std.proofs.Common.{◌≡◌, ℕ, ◌*◌, ◌<◌, ◌==◌, true, suc, zero, arith}
use Rattle.std.specs.Prelude.{nat_lt}
use Rattle.std.proofs.lemmas.Bool.Decides.{nat_tests}
use Rattle.std.proofs.Math.Nat.{mul-zero, zero-mul}

pub positive : (n : ℕ) → 0 < n → nat_lt 0 n ≡ true
positive n h = grind (arith, nat_tests)

pub factors : (a b : ℕ) → 0 < a * b → (0 < a) × (0 < b)
factors zero b some = absurd (omega (arith, zero-mul b, some))
factors (suc a) zero some = absurd (omega (arith, mul-zero (suc a), some))
factors (suc a) (suc b) some = (omega arith, omega arith)
