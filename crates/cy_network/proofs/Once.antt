-- A list of rows of which each is counted once.
use Rattle.std.proofs.Common.{◌≡◌, ℕ, zero, suc, ◌+◌, ◌<◌, ◌≤◌, Bool, true, false, cond, List, [], ◌∷◌, map, min, refl, sym, ap, subst, ◌∙◌, arith}
use Rattle.std.specs.List.{All}
use Rattle.std.proofs.lemmas.List.Elements.{All-cons, All-head, All-nil, All-tail}
use Rattle.cy_values.specs.declared.rows.Cell.{Cell}
use Rattle.cy_values.specs.Bag.{weight_of}
use Rattle.cy_values.specs.Same.{is_row}
use Rattle.cy_network_memory.specs.Counts.{Counts, no_rows}
use Rattle.cy_network_memory.specs.Listings.{IsListing}
use Rattle.cy_network.specs.Places.{once_each}
use Rattle.cy_network.proofs.Entries.{none_counts, standing, standing_cons, weight_cons}

-- the row of a pair, which counts once
abbrev pub one : List Cell × ℕ → List Cell × ℕ
one p = (p.0, 1)

weight_once : (row : List Cell) (pairs : List (List Cell × ℕ)) → weight_of row (map one pairs) ≡ standing row pairs
weight_once row [] = refl
weight_once row (p ∷ pairs) = weight_cons row (one p) (map one pairs) ∙ ap (λ n. cond (is_row row p.0) 1 0 + n) (weight_once row pairs) ∙ sym (standing_cons row p pairs)

standing_once : (row : List Cell) (pairs : List (List Cell × ℕ)) → standing row (map one pairs) ≡ standing row pairs
standing_once row [] = refl
standing_once row (p ∷ pairs) = standing_cons row (one p) (map one pairs) ∙ ap (λ n. cond (is_row row p.0) 1 0 + n) (standing_once row pairs) ∙ sym (standing_cons row p pairs)

positive_once : (pairs : List (List Cell × ℕ)) → All (λ p. 0 < p.1) (map one pairs)
positive_once [] = All-nil (λ (p : List Cell × ℕ). 0 < p.1)
positive_once (p ∷ pairs) = All-cons (λ (p : List Cell × ℕ). 0 < p.1) (one p) (map one pairs) (omega arith) (positive_once pairs)

no_more : (b : Bool) (m s w : ℕ) → 0 < m → s ≤ w → cond b 1 0 + s ≤ cond b m 0 + w
no_more true m s w some rest = omega (arith, some, rest)
no_more false m s w some rest = omega (arith, rest)

standing_within : (row : List Cell) (pairs : List (List Cell × ℕ)) → All (λ p. 0 < p.1) pairs → standing row pairs ≤ weight_of row pairs
standing_within row [] positive = omega arith
standing_within row (p ∷ pairs) positive =
    subst (λ n. n ≤ weight_of row (p ∷ pairs)) (sym (standing_cons row p pairs))
    (subst (λ n. cond (is_row row p.0) 1 0 + standing row pairs ≤ n) (sym (weight_cons row p pairs))
    (no_more (is_row row p.0) p.1 (standing row pairs) (weight_of row pairs) (All-head (λ (p : List Cell × ℕ). 0 < p.1) p pairs positive)
    (standing_within row pairs (All-tail (λ (p : List Cell × ℕ). 0 < p.1) p pairs positive))))

least : (s w n : ℕ) → s ≤ 1 → s ≤ w → (s ≡ 0 → w ≡ 0) → w ≡ n → s ≡ min n 1
least zero w n few within none is = let nothing = none refl in omega (arith, nothing, is)
least (suc s) w n few within none is = omega (arith, few, within, is)

pub once_listing : (of : Counts) (pairs : List (List Cell × ℕ)) → IsListing of pairs → IsListing (once_each of) (map one pairs)
once_listing of pairs listing = record {
  counts = λ row.
      weight_once row pairs
      ∙ least (standing row pairs) (weight_of row pairs) (of row) (listing.once row) (standing_within row pairs listing.positive) (λ none. (none_counts row pairs none).0) (listing.counts row);
  once = λ row. subst (λ n. n ≤ 1) (sym (standing_once row pairs)) (listing.once row);
  positive = positive_once pairs;
}

-- no rows are listed where none counts
pub none_listing : IsListing no_rows []
none_listing = record { counts = λ row. refl; once = λ row. omega arith; positive = All-nil (λ (p : List Cell × ℕ). 0 < p.1) }
