-- Rows with their counts, each once, in canonical order.
use Rattle.std.proofs.Common.{◌≡◌, ℕ, ◌+◌, ◌<◌, ◌≤◌, Bool, true, false, cond, List, [], ◌∷◌, refl, sym, ap, subst, ◌∙◌, arith, suc, add-one}
use Rattle.std.specs.Prelude.{sum_by}
use Rattle.std.specs.List.{All}
use Rattle.std.specs.List.Sorted.{IsSorted}
use Rattle.std.specs.declared.cmp.Ordering.{Ordering}
use Rattle.std.specs.declared.cmp.Ordering.TheVariants.{Less, Equal, Greater}
use Rattle.std.specs.Cmp.{IsTotalOrder}
use Rattle.std.specs.Ordering.{is_lt, nat_cmp, ordering_then}
use Rattle.std.proofs.lemmas.List.Elements.{All-head, All-tail}
use Rattle.std.proofs.lemmas.List.Sums.{sum_by-cons}
use Rattle.cy_bags.proofs.Counting.{later}
use Rattle.cy_values.specs.declared.rows.Cell.{Cell}
use Rattle.cy_values.specs.Bag.{IsCanonical}
use Rattle.cy_values.specs.Same.{is_row}
use Rattle.cy_values.specs.Order.{row_cmp}
use Rattle.cy_values.proofs.SameRows.{row_itself}
use Rattle.cy_network_memory.specs.Listings.{AreOnce}

first_lt : (o then : Ordering) → is_lt (ordering_then o then) ≡ false → is_lt o ≡ false
first_lt Less then h = h
first_lt Equal then h = refl
first_lt Greater then h = refl

apart : (b c : Bool) (rest : ℕ) → cond b 1 0 + (cond c 1 0 + rest) ≤ 1 → c ≡ true → b ≡ false
apart false c rest h e = refl
apart true true rest h e = absurd (omega (arith, h))
apart true false rest h e = cc

fewer : (m n : ℕ) → m + n ≤ 1 → n ≤ 1
fewer m n h = omega (arith, h)

tail_once : (p : List Cell × ℕ) (pairs : List (List Cell × ℕ)) → AreOnce (p ∷ pairs) → AreOnce pairs
tail_once p pairs once row = fewer (cond (is_row row p.0) 1 0) _ (subst (λ n. n ≤ 1) (sum_by-cons (λ (p : List Cell × ℕ). cond (is_row row p.0) 1 0) p pairs) (once row))

head_apart : (p q : List Cell × ℕ) (pairs : List (List Cell × ℕ)) → AreOnce (p ∷ q ∷ pairs) → is_row q.0 p.0 ≡ false
head_apart p q pairs once =
    let test = λ (p : List Cell × ℕ). cond (is_row q.0 p.0) 1 0 in
    apart (is_row q.0 p.0) (is_row q.0 q.0) (sum_by test pairs)
    (subst (λ n. n ≤ 1) (sum_by-cons test p (q ∷ pairs) ∙ ap (λ n. test p + n) (sum_by-cons test q pairs)) (once q.0))
    (row_itself q.0)

module _ (total : IsTotalOrder row_cmp) where
  -- what is sorted, stands once and counts is in canonical order
  pub canonical : (R : List Cell × ℕ → List Cell × ℕ → Ordering) → ((p q : List Cell × ℕ) → R p q ≡ ordering_then (row_cmp p.0 q.0) (nat_cmp p.1 q.1))
      → (pairs : List (List Cell × ℕ)) → IsSorted R pairs → AreOnce pairs → All (λ p. 0 < p.1) pairs → IsCanonical pairs
  canonical R alike [] sorted once counts = tt
  canonical R alike (p ∷ []) sorted once counts = All-head (λ (p : List Cell × ℕ). 0 < p.1) p [] counts
  canonical R alike (p ∷ q ∷ pairs) sorted once counts = (
    All-head (λ (p : List Cell × ℕ). 0 < p.1) p (q ∷ pairs) counts,
    total.antisymm p.0 q.0 ∙ later _ (first_lt (row_cmp q.0 p.0) (nat_cmp q.1 p.1) (ap is_lt (sym (alike q p)) ∙ sorted 0 p (omega arith) (omega arith))) (head_apart p q pairs once),
    canonical R alike (q ∷ pairs) (λ k d low high. rw add-one (rw add-one at (sorted (suc k) d (omega arith) (omega arith)))) (tail_once p (q ∷ pairs) once) (All-tail (λ (p : List Cell × ℕ). 0 < p.1) p (q ∷ pairs) counts),
  )
