-- The numbers of partners, as counts.
use Rattle.std.proofs.Common.{◌≡◌, ℕ, ◌*◌, ◌≤◌, min, Bool, true, false, cond, ◌&&◌, List, [], refl, sym, ap, subst, ◌∙◌, filter, suc, zero, arith}
use Rattle.std.specs.Prelude.{count_by, nat_lt}
use Rattle.std.proofs.lemmas.Bool.Decides.{nat_tests}
use Rattle.std.proofs.lemmas.List.Sums.{length-filter}
use Rattle.std.proofs.Math.Nat.{mul-zero, zero-mul}
use Rattle.cy_values.specs.declared.rows.Cell.{Cell}
use Rattle.cy_values.specs.Bag.{count_of}
use Rattle.cy_trees.specs.Trees.{Expression}
use Rattle.cy_network_memory.specs.Counts.{Counts}
use Rattle.cy_planner_algebra.specs.declared.operators.KeyColumns.{KeyColumns}
use Rattle.cy_planner_algebra.specs.Meaning.{each_once, is_partner}
use Rattle.cy_planner_algebra.proofs.Counts.{count_once, count_passing}
use Rattle.cy_network_operators.specs.Deltas.{counts}
use Rattle.cy_network_operators.proofs.BagLemmas.{length_within}
use Rattle.cy_network_counts.specs.Outer.{AreNumbersOfPartners, IsNumberOf, are_matched, numbers_of_partners}
use Rattle.cy_network_counts.proofs.Naturals.{positive}

-- only one number of rows passes a test
one_number : (passes : List Cell → Bool) (m n : ℕ) → IsNumberOf passes m → IsNumberOf passes n → m ≡ n
one_number passes m n first second =
    let most = length_within first.rows second.rows (λ row. subst (λ k. count_of row first.rows ≤ k) (first.once row ∙ sym (second.once row)) (omega arith)) in
    let least = length_within second.rows first.rows (λ row. subst (λ k. count_of row second.rows ≤ k) (second.once row ∙ sym (first.once row)) (omega arith)) in
    let long = first.long in
    let other = second.long in
    omega (arith, most, least, long, other)

module _ (keys : List KeyColumns) (test : Expression) (rights : List (List Cell)) (row : List Cell) where
  abbrev partner : List Cell → Bool
  partner = is_partner keys test row

  abbrev number : ℕ
  number = count_by partner (each_once rights)

  none : (b : Bool) → 0 ≡ cond {A = ℕ} (b && false) 1 0
  none true = refl
  none false = refl

  once_counted : (b : Bool) (n m : ℕ) → cond b (min 1 m) 0 ≡ cond {A = ℕ} (b && nat_lt 0 (suc n * m)) 1 0
  once_counted true n zero = ap (λ k. cond {A = ℕ} (nat_lt 0 k) 1 0) (sym (mul-zero (suc n)))
  once_counted true n (suc m) = (let one : min 1 (suc m) ≡ 1 = omega arith in one) ∙ ap (λ t. cond {A = ℕ} t 1 0) (sym (some (suc n * suc m) (omega arith)))
    where
      some : (k : ℕ) → 1 ≤ k → nat_lt 0 k ≡ true
      some k more = grind (arith, nat_tests)
  once_counted false n m = refl

  numbered : (n : ℕ) → IsNumberOf (λ other. partner other && nat_lt 0 (n * count_of other rights)) (cond (nat_lt 0 n) number 0)
  numbered zero = record {
    rows = [];
    once = λ other. none (partner other) ∙ ap (λ k. cond {A = ℕ} (partner other && nat_lt 0 k) 1 0) (sym (zero-mul (count_of other rights)));
    long = refl;
  }
  numbered (suc n) = record {
    rows = filter partner (each_once rights);
    once = λ other. count_passing partner other (each_once rights) ∙ ap (λ k. cond (partner other) k 0) (count_once other rights) ∙ once_counted (partner other) n (count_of other rights);
    long = length-filter partner (each_once rights) ∙ sym (ap (λ b. cond b number 0) (positive (suc n) (omega arith)));
  }

pub are_numbers : (keys : List KeyColumns) (test : Expression) (lefts rights : List (List Cell)) → AreNumbersOfPartners keys test (counts lefts) (counts rights) (numbers_of_partners keys test lefts rights)
are_numbers keys test lefts rights row = numbered keys test rights row (count_of row lefts)

pub only_numbers : (keys : List KeyColumns) (test : Expression) (lefts rights : List (List Cell)) (numbers : Counts) → AreNumbersOfPartners keys test (counts lefts) (counts rights) numbers
    → numbers ≡ numbers_of_partners keys test lefts rights
only_numbers keys test lefts rights numbers are = λ i row.
    one_number (are_matched keys test (counts lefts) (counts rights) row) (numbers row) (numbers_of_partners keys test lefts rights row) (are row) (are_numbers keys test lefts rights row) i
