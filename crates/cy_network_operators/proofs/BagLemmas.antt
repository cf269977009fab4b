-- Sums and counts over rows: what counts no more often sums to no more.
use Rattle.std.proofs.Common.{◌≡◌, ℕ, ◌+◌, ◌<◌, ◌≤◌, min, Bool, true, false, cond, List, [], ◌∷◌, ◌++◌, filter, length, map, refl, sym, ap, subst, ◌∙◌, arith}
use Rattle.std.specs.Prelude.{sum_by}
use Rattle.std.proofs.lemmas.List.Folds.{fold-map}
use Rattle.std.proofs.lemmas.List.Sums.{sum_by-cons}
use Rattle.cy_values.specs.declared.rows.Cell.{Cell}
use Rattle.cy_values.specs.Bag.{count_of}
use Rattle.cy_values.specs.Same.{is_row}
use Rattle.cy_values.proofs.Lists.{sum_of_none, sum_of_two, sums_alike}
use Rattle.cy_values.proofs.SameRows.{row_itself, same_row}
use Rattle.cy_planner_algebra.specs.Meaning.{each_once}
use Rattle.cy_planner_algebra.proofs.Counts.{count_append, count_cons, count_once, count_passing}

-- rows without one of them
without : List Cell → List (List Cell) → List (List Cell)
without row [] = []
without row (x ∷ xs) = cond (is_row row x) xs (x ∷ without row xs)

without_count : (row other : List Cell) (xs : List (List Cell)) → 0 < count_of row xs → count_of other xs ≡ cond (is_row other row) 1 0 + count_of other (without row xs)
unfolding without
without_count row other [] some = absurd (omega (arith, some))
without_count row other (x ∷ xs) some = count_cons other x xs ∙ step (is_row row x) refl (λ more. without_count row other xs more)
  where
    step : (b : Bool) → is_row row x ≡ b → (0 < count_of row xs → count_of other xs ≡ cond (is_row other row) 1 0 + count_of other (without row xs))
        → cond (is_row other x) 1 0 + count_of other xs ≡ cond (is_row other row) 1 0 + count_of other (cond b xs (x ∷ without row xs))
    step true is left_over = ap (λ r. cond (is_row other r) 1 0 + count_of other xs) (sym (same_row row x is))
    step false is left_over =
        let more : 0 < count_of row xs = subst (λ n. 0 < n) (count_cons row x xs ∙ ap (λ b. cond b 1 0 + count_of row xs) is ∙ (let e : 0 + count_of row xs ≡ count_of row xs = omega arith in e)) some in
        let rest = left_over more in
        let first = count_cons other x (without row xs) in
        omega (arith, rest, first)

without_sum : (f : List Cell → ℕ) (row : List Cell) (xs : List (List Cell)) → 0 < count_of row xs → sum_by f xs ≡ f row + sum_by f (without row xs)
unfolding without
without_sum f row [] some = absurd (omega (arith, some))
without_sum f row (x ∷ xs) some = sum_by-cons f x xs ∙ step (is_row row x) refl (λ more. without_sum f row xs more)
  where
    step : (b : Bool) → is_row row x ≡ b → (0 < count_of row xs → sum_by f xs ≡ f row + sum_by f (without row xs)) → f x + sum_by f xs ≡ f row + sum_by f (cond b xs (x ∷ without row xs))
    step true is left_over = ap (λ r. f r + sum_by f xs) (sym (same_row row x is))
    step false is left_over =
        let more : 0 < count_of row xs = subst (λ n. 0 < n) (count_cons row x xs ∙ ap (λ b. cond b 1 0 + count_of row xs) is ∙ (let e : 0 + count_of row xs ≡ count_of row xs = omega arith in e)) some in
        let rest = left_over more in
        let first = sum_by-cons f x (without row xs) in
        omega (arith, rest, first)

own_count : (row : List Cell) (xs : List (List Cell)) → count_of row (row ∷ xs) ≡ 1 + count_of row xs
own_count row xs = count_cons row row xs ∙ ap (λ b. cond b 1 0 + count_of row xs) (row_itself row)

-- what counts no more often sums to no more
pub sum_within : (f : List Cell → ℕ) (xs ys : List (List Cell)) → ((row : List Cell) → count_of row xs ≤ count_of row ys) → sum_by f xs ≤ sum_by f ys
sum_within f [] ys fewer = omega arith
sum_within f (x ∷ xs) ys fewer =
    let some : 0 < count_of x ys = (let own = own_count x xs in let most = fewer x in omega (arith, own, most)) in
    let rest = sum_within f xs (without x ys) (λ row. fewer_left row (is_row row x) refl some) in
    let first = sum_by-cons f x xs in
    let other = without_sum f x ys some in
    omega (arith, rest, first, other)
  where
    fewer_left : (row : List Cell) (b : Bool) → is_row row x ≡ b → 0 < count_of x ys → count_of row xs ≤ count_of row (without x ys)
    fewer_left row b is some =
        let most = fewer row in
        let first = count_cons row x xs in
        let other = without_count x row ys some in
        omega (arith, most, first, other)

pub sum_ones : {X : Type 0} (xs : List X) → sum_by (λ x. 1) xs ≡ length xs
sum_ones [] = refl
sum_ones (x ∷ xs) = let first = sum_by-cons (λ y. 1) x xs in let rest = sum_ones xs in omega (arith, first, rest)

pub sum_map : {X Y : Type 0} (f : Y → ℕ) (h : X → Y) (xs : List X) → sum_by f (map h xs) ≡ sum_by (λ x. f (h x)) xs
sum_map f h xs = fold-map (λ n y. n + f y) h 0 xs

-- and a list has no more rows
pub length_within : (xs ys : List (List Cell)) → ((row : List Cell) → count_of row xs ≤ count_of row ys) → length xs ≤ length ys
length_within xs ys fewer =
    let within = sum_within (λ x. 1) xs ys fewer in
    let left = sum_ones xs in
    let right = sum_ones ys in
    omega (arith, within, left, right)

pub sum_filter : {X : Type 0} (p : X → Bool) (f : X → ℕ) (xs : List X) → sum_by f (filter p xs) ≡ sum_by (λ x. cond (p x) (f x) 0) xs
sum_filter p f [] = refl
sum_filter p f (x ∷ xs) = step (p x) refl (sum_filter p f xs) ∙ sym (sum_by-cons (λ y. cond (p y) (f y) 0) x xs)
  where
    step : (b : Bool) → p x ≡ b → sum_by f (filter p xs) ≡ sum_by (λ y. cond (p y) (f y) 0) xs → sum_by f (cond b (x ∷ filter p xs) (filter p xs)) ≡ cond b (f x) 0 + sum_by (λ y. cond (p y) (f y) 0) xs
    step true is rest = sum_by-cons f x (filter p xs) ∙ ap (λ n. f x + n) rest
    step false is rest = omega (arith, rest)

pub sum_most : {X : Type 0} (f g : X → ℕ) → ((x : X) → f x ≤ g x) → (xs : List X) → sum_by f xs ≤ sum_by g xs
sum_most f g most [] = omega arith
sum_most f g most (x ∷ xs) =
    let one = most x in
    let rest = sum_most f g most xs in
    let left = sum_by-cons f x xs in
    let right = sum_by-cons g x xs in
    omega (arith, one, rest, left, right)

-- sums over pairs, in either order
pub sum_exchange : {X Y : Type 0} (g : X → Y → ℕ) (xs : List X) (ys : List Y) → sum_by (λ y. sum_by (λ x. g x y) xs) ys ≡ sum_by (λ x. sum_by (g x) ys) xs
sum_exchange g xs [] = sym (sum_of_none xs)
sum_exchange g xs (y ∷ ys) =
    sum_by-cons (λ z. sum_by (λ x. g x z) xs) y ys
    ∙ ap (λ n. sum_by (λ x. g x y) xs + n) (sum_exchange g xs ys)
    ∙ sym (sum_of_two (λ x. g x y) (λ x. sum_by (g x) ys) xs)
    ∙ sums_alike (λ x. g x y + sum_by (g x) ys) (λ x. sum_by (g x) (y ∷ ys)) (λ x. sym (sum_by-cons (g x) y ys)) xs

-- how often a row stands among those of two lists that pass, each once
pub passing_once : (p : List Cell → Bool) (row : List Cell) (before after : List (List Cell))
    → count_of row (filter p (each_once (before ++ after))) ≡ cond (p row) (min 1 (count_of row before + count_of row after)) 0
passing_once p row before after =
    count_passing p row (each_once (before ++ after))
    ∙ ap (λ n. cond (p row) n 0) (count_once row (before ++ after) ∙ ap (min 1) (count_append row before after))
