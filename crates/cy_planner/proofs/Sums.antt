-- The sum of numbers that follow one another, in closed form.
use Rattle.std.proofs.Common.{◌≡◌, ℕ, zero, suc, ◌+◌, ◌-◌, ◌*◌, ◌/◌, ◌≤◌, arith, sym, ap, ◌∙◌}
use Rattle.cy_planner.specs.Weight.{sum_between, sum_from}

twice_from : (first count : ℕ) → 2 * sum_from first count + count ≡ count * (2 * first + count)
twice_from first zero = omega arith
twice_from first (suc count) = let rest = twice_from (first + 1) count in grind (arith, rest)

half : (n m : ℕ) → n ≡ 2 * m → n / 2 ≡ m
half n m is = omega arith

closed_at : (least more most count : ℕ) → most ≡ least + more → count ≡ more + 1 → (least + most) * (more + 1) / 2 ≡ sum_from least count
closed_at least more most count is are =
    let twice = twice_from least (more + 1) in
    let whole : (least + (least + more)) * (more + 1) ≡ 2 * sum_from least (more + 1) = omega (arith, twice) in
    half ((least + most) * (more + 1)) (sum_from least (more + 1)) (ap (λ n. (least + n) * (more + 1)) is ∙ whole)
    ∙ ap (sum_from least) (sym are)

-- the sum of the numbers between two is half the sum of the two, as often as there are numbers
pub closed_form : (least most : ℕ) → least ≤ most → (least + most) * (most - least + 1) / 2 ≡ sum_between least most
closed_form least most h = closed_at least (most - least) most (most + 1 - least) (omega arith) (omega arith)
