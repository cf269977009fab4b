-- A count of turns that falls, beside a loop that counts them up.
use Rattle.std.proofs.Common.{◌≡◌, ℕ, suc, ◌+◌, ◌-◌, ◌<◌, ◌≤◌, ap, ◌∙◌, arith}

-- at a turn, one of those that are left is taken
pub turn : {X : Type 0} {x : X} (f : ℕ → X) (all at : ℕ) → at < all → x ≡ f (all - at) → x ≡ f (suc (all - (at + 1)))
turn f all at below e = let count : all - at ≡ suc (all - (at + 1)) = omega arith in e ∙ ap f count

-- after the last turn, none is left
pub turned : {X : Type 0} {x : X} (f : ℕ → X) (all at : ℕ) → all ≤ at → x ≡ f (all - at) → x ≡ f 0
turned f all at above e = let count : all - at ≡ 0 = omega arith in e ∙ ap f count
