-- The entries of a map from rows to counts, each row once.
use Rattle.std.proofs.Common.{◌≡◌, ℕ, ◌+◌, ◌<◌, ◌≤◌, Bool, true, false, cond, List, [], ◌∷◌, Some, None, unwrap_or, refl, sym, ap, subst, ◌∙◌, arith}
use Rattle.std.specs.Prelude.{sum_by}
use Rattle.std.specs.List.{All, AllByRecursion, IsDistinct}
use Rattle.std.specs.Map.{keys_of, lookup}
use Rattle.std.proofs.lemmas.List.Elements.{All-cons, All-head, All-nil, All-tail}
use Rattle.std.proofs.lemmas.List.Sums.{sum_by-cons}
use Rattle.cy_values.specs.declared.rows.Cell.{Cell}
use Rattle.cy_values.specs.Bag.{weight_of}
use Rattle.cy_values.specs.Same.{is_row}
use Rattle.cy_values.proofs.Naturals.{nothing_added}
use Rattle.cy_values.proofs.SameRows.{row_itself, same_row}
use Rattle.cy_network_parts.specs.Counted.{ArePositive, IsPositive, counted}
use Rattle.cy_network_memory.specs.Listings.{AreOnce}

abbrev Entries : Type 0
Entries = List (List Cell × ℕ)

-- how often a row stands among entries
abbrev pub standing : List Cell → Entries → ℕ
standing row entries = sum_by (λ p. cond (is_row row p.0) 1 0) entries

pub standing_cons : (row : List Cell) (e : List Cell × ℕ) (entries : Entries) → standing row (e ∷ entries) ≡ cond (is_row row e.0) 1 0 + standing row entries
standing_cons row e entries = sum_by-cons (λ (p : List Cell × ℕ). cond (is_row row p.0) 1 0) e entries

pub weight_cons : (row : List Cell) (e : List Cell × ℕ) (entries : Entries) → weight_of row (e ∷ entries) ≡ cond (is_row row e.0) e.1 0 + weight_of row entries
weight_cons row e entries = sum_by-cons (λ (p : List Cell × ℕ). cond (is_row row p.0) p.1 0) e entries

-- what no row stands under counts nothing, and is not found
pub none_counts : (row : List Cell) (entries : Entries) → standing row entries ≡ 0 → (weight_of row entries ≡ 0) × (lookup (is_row row) entries ≡ None)
none_counts row [] none = (refl, refl)
none_counts row (e ∷ entries) none = by (is_row row e.0) refl (none_counts row entries)
  where
    by : (b : Bool) → is_row row e.0 ≡ b → (standing row entries ≡ 0 → (weight_of row entries ≡ 0) × (lookup (is_row row) entries ≡ None))
        → (weight_of row (e ∷ entries) ≡ 0) × (lookup (is_row row) (e ∷ entries) ≡ None)
    by true is later = absurd (let n = standing_cons row e entries ∙ ap (λ b. cond b 1 0 + standing row entries) is in omega (arith, n, none))
    by false is later =
        let n = standing_cons row e entries ∙ ap (λ b. cond b 1 0 + standing row entries) is in
        let rest = later (omega (arith, n, none)) in (
          weight_cons row e entries ∙ ap (λ b. cond b e.1 0 + weight_of row entries) is ∙ nothing_added (weight_of row entries) ∙ rest.0,
          ap (λ b. cond b (Some e.1) (lookup (is_row row) entries)) is ∙ rest.1,
        )

-- where each stands once at most, a row counts as often as stands under it
once_counted : (row : List Cell) (entries : Entries) → standing row entries ≤ 1 → weight_of row entries ≡ counted entries row
once_counted row [] once = refl
once_counted row (e ∷ entries) once = step (is_row row e.0) refl (once_counted row entries)
  where
    step : (b : Bool) → is_row row e.0 ≡ b → (standing row entries ≤ 1 → weight_of row entries ≡ counted entries row) → weight_of row (e ∷ entries) ≡ counted (e ∷ entries) row
    step true is later =
        let n = standing_cons row e entries ∙ ap (λ b. cond b 1 0 + standing row entries) is in
        let rest = none_counts row entries (omega (arith, n, once)) in
        weight_cons row e entries
        ∙ ap (λ b. cond b e.1 0 + weight_of row entries) is
        ∙ (let w = rest.0 in let m : e.1 + weight_of row entries ≡ e.1 = omega (arith, w) in m)
        ∙ ap (λ b. unwrap_or (cond b (Some e.1) (lookup (is_row row) entries)) 0) (sym is)
    step false is later =
        let n = standing_cons row e entries ∙ ap (λ b. cond b 1 0 + standing row entries) is in
        weight_cons row e entries
        ∙ ap (λ b. cond b e.1 0 + weight_of row entries) is
        ∙ nothing_added (weight_of row entries)
        ∙ later (omega (arith, n, once))
        ∙ ap (λ b. unwrap_or (cond b (Some e.1) (lookup (is_row row) entries)) 0) (sym is)

pub weight_counted : (entries : Entries) → AreOnce entries → (row : List Cell) → weight_of row entries ≡ counted entries row
weight_counted entries once row = once_counted row entries (once row)

-- each entry counts, where what stands under a row does
pub all_positive : (entries : Entries) → AreOnce entries → ArePositive entries → All (λ p. 0 < p.1) entries
all_positive [] once positive = All-nil (λ (p : List Cell × ℕ). 0 < p.1)
all_positive (e ∷ entries) once positive =
    All-cons (λ (p : List Cell × ℕ). 0 < p.1) e entries
    (subst IsPositive (ap (λ b. cond b (Some e.1) (lookup (is_row e.0) entries)) (row_itself e.0)) (positive e.0))
    (all_positive entries (λ row. fewer (cond (is_row row e.0) 1 0) (standing row entries) (subst (λ n. n ≤ 1) (standing_cons row e entries) (once row))) (λ row. rest row (is_row row e.0) refl))
  where
    fewer : (m n : ℕ) → m + n ≤ 1 → n ≤ 1
    fewer m n h = omega (arith, h)

    rest : (row : List Cell) (b : Bool) → is_row row e.0 ≡ b → IsPositive (lookup (is_row row) entries)
    rest row true is =
        let n = standing_cons row e entries ∙ ap (λ b. cond b 1 0 + standing row entries) is in
        let o = once row in
        subst IsPositive (sym (none_counts row entries (omega (arith, n, o))).1) tt
    rest row false is = subst IsPositive (ap (λ b. cond b (Some e.1) (lookup (is_row row) entries)) is) (positive row)

none_standing : (row : List Cell) (entries : Entries) → All (λ p. is_row row p.0 ≡ false) entries → standing row entries ≡ 0
none_standing row [] none = refl
none_standing row (e ∷ entries) none =
    standing_cons row e entries
    ∙ ap (λ b. cond b 1 0 + standing row entries) (All-head (λ (p : List Cell × ℕ). is_row row p.0 ≡ false) e entries none)
    ∙ nothing_added (standing row entries)
    ∙ none_standing row entries (All-tail (λ (p : List Cell × ℕ). is_row row p.0 ≡ false) e entries none)

-- the rows of a map stand once
pub distinct_once : (entries : Entries) → IsDistinct is_row (keys_of entries) → AreOnce entries
unfolding IsDistinct
distinct_once [] distinct row = omega arith
distinct_once (e ∷ entries) distinct row = step (is_row row e.0) refl (distinct_once entries distinct.1 row)
  where
    others : (keys : List (List Cell × ℕ)) → AllByRecursion (λ y. is_row e.0 y ≡ false) (keys_of keys) → All (λ p. is_row e.0 p.0 ≡ false) keys
    others [] all = All-nil (λ (p : List Cell × ℕ). is_row e.0 p.0 ≡ false)
    others (p ∷ keys) all = All-cons (λ (p : List Cell × ℕ). is_row e.0 p.0 ≡ false) p keys all.0 (others keys all.1)

    step : (b : Bool) → is_row row e.0 ≡ b → standing row entries ≤ 1 → standing row (e ∷ entries) ≤ 1
    step true is later =
        let n = standing_cons row e entries ∙ ap (λ b. cond b 1 0 + standing row entries) is in
        let m = ap (λ r. standing r entries) (same_row row e.0 is) ∙ none_standing e.0 entries (others entries distinct.0) in
        omega (arith, n, m)
    step false is later = let n = standing_cons row e entries ∙ ap (λ b. cond b 1 0 + standing row entries) is in omega (arith, n, later)
