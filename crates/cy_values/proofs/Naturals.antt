-- Laws of natural numbers, for the proofs of every layer.
use Rattle.std.proofs.Common.{◌≡◌, ℕ, ◌+◌, ◌-◌, ◌≤◌, arith}

pub nothing_added : (n : ℕ) → 0 + n ≡ n
nothing_added n = omega arith

pub nothing_after : (n : ℕ) → n + 0 ≡ n
nothing_after n = omega arith

pub no_less : (m n : ℕ) → m ≤ m + n
no_less m n = omega arith

pub nothing_left : (m n : ℕ) → m ≡ n → 0 ≡ m - n
nothing_left m n same = omega (arith, same)
