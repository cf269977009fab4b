-- Lists of this many things each, and that in one longer than the things there are a relationship stands twice.
use Rattle.std.proofs.Common.{◌≡◌, ℕ, zero, suc, ◌+◌, ◌≤◌, ◌<◌, Bool, true, false, not, cond, ◌&&◌, ◌||◌, List, [], ◌∷◌, map, length, refl, sym, ap, ◌∙◌, arith}
use Rattle.std.specs.Prelude.{◌==◌, sum_by, flat_map}
use Rattle.std.specs.List.{list_any, AllByRecursion}
use Rattle.std.proofs.lemmas.Bool.{false≢true, and_parts, and_from, or_parts, or_left, or_right, not-true, eqb-true, eq-eqb, false_from_ne_true}
use Rattle.std.proofs.lemmas.List.Sums.{sum_by-cons}
use Rattle.cy_values.specs.declared.numbers.RelId.{RelId}
use Rattle.cy_values.proofs.Booleans.{itself_equal}
use Rattle.cy_values.proofs.Lists.{each_then, sums_alike}
use Rattle.cy_expr.specs.Graphs.{are_different}
use Rattle.cy_oneshot_patterns.specs.Places.{lists_up_to}
use Rattle.cy_oneshot_outcomes.proofs.Sums.{all_true, all_map, all_flat_map, sum_map, sum_flat_map}
use Rattle.cy_oneshot_outcomes.proofs.Totals.{total, total_alike, total_sum}

-- all lists of these things with this many of them
abbrev pub lists_of : {A : Type 0} → ℕ → List A → List (List A)
lists_of zero things = [] ∷ []
lists_of (suc count) things = flat_map (λ thing. map (λ others. thing ∷ others) (lists_of count things)) things

pub sum_longer : {A : Type 0} (f : List A → ℕ) (xs : List A) (lists : List (List A))
    → sum_by f (flat_map (λ x. map (λ others. x ∷ others) lists) xs) ≡ sum_by (λ x. sum_by (λ others. f (x ∷ others)) lists) xs
sum_longer f xs lists =
    sum_flat_map f (λ x. map (λ others. x ∷ others) lists) xs
    ∙ sums_alike (λ x. sum_by f (map (λ others. x ∷ others) lists)) (λ x. sum_by (λ others. f (x ∷ others)) lists) (λ x. sum_map f (λ others. x ∷ others) lists) xs

-- the lists up to a number of things are those of each number
pub sum_up_to : {A : Type 0} (most : ℕ) (f : List A → ℕ) (things : List A) → sum_by f (lists_up_to most things) ≡ total (suc most) (λ k. sum_by f (lists_of k things))
sum_up_to zero f things = (let e : sum_by f ([] ∷ []) ≡ sum_by f ([] ∷ []) + 0 = omega arith in e)
sum_up_to (suc most) f things =
    sum_by-cons f [] (flat_map (λ thing. map (λ others. thing ∷ others) (lists_up_to most things)) things)
    ∙ ap (λ n. f [] + n)
    (sum_longer f things (lists_up_to most things)
    ∙ sums_alike (λ x. sum_by (λ others. f (x ∷ others)) (lists_up_to most things)) (λ x. total (suc most) (λ k. sum_by (λ others. f (x ∷ others)) (lists_of k things)))
    (λ x. sum_up_to most (λ others. f (x ∷ others)) things) things
    ∙ total_sum (suc most) (λ x k. sum_by (λ others. f (x ∷ others)) (lists_of k things)) things
    ∙ total_alike (suc most) (λ k. sum_by (λ x. sum_by (λ others. f (x ∷ others)) (lists_of k things)) things) (λ k. sum_by f (lists_of (suc k) things))
    (λ k h. sym (sum_longer f things (lists_of k things))))
    ∙ ap (λ n. n + total (suc most) (λ k. sum_by f (lists_of (suc k) things))) (let e : f [] ≡ 0 + f [] = omega arith in e)

pub lengths_of : {A : Type 0} (count : ℕ) (things : List A) → AllByRecursion (λ xs. length xs ≡ count) (lists_of count things)
lengths_of zero things = (refl, tt)
lengths_of (suc count) things =
    all_flat_map (λ xs. length xs ≡ suc count) (λ x. map (λ others. x ∷ others) (lists_of count things)) things
    (all_true (λ x. AllByRecursion (λ xs. length xs ≡ suc count) (map (λ others. x ∷ others) (lists_of count things)))
    (λ x. all_map (λ xs. length xs ≡ suc count) (λ others. x ∷ others) (lists_of count things)
    (each_then (λ xs. length xs ≡ count) (λ xs. suc (length xs) ≡ suc count) (λ xs e. ap suc e) (lists_of count things) (lengths_of count things))) things)

-- ---- relationships by their numbers

abbrev pub is_in : List RelId → RelId → Bool
is_in things x = list_any (λ (o : RelId). o.0 == x.0) things

abbrev all_in : List RelId → List RelId → Bool
all_in things [] = true
all_in things (x ∷ xs) = is_in things x && all_in things xs

-- without the first that has a number
abbrev drop_one : RelId → List RelId → List RelId
drop_one z [] = []
drop_one z (x ∷ xs) = cond (x.0 == z.0) xs (x ∷ drop_one z xs)

one_fewer : (z : RelId) (xs : List RelId) → is_in xs z ≡ true → length xs ≡ suc (length (drop_one z xs))
one_fewer z [] h = absurd (false≢true h)
one_fewer z (x ∷ xs) h = by (x.0 == z.0) h (one_fewer z xs)
  where
    by : (b : Bool) → (b || is_in xs z) ≡ true → (is_in xs z ≡ true → length xs ≡ suc (length (drop_one z xs))) → suc (length xs) ≡ suc (length (cond b xs (x ∷ drop_one z xs)))
    by true e rest = refl
    by false e rest = ap suc (rest e)

same_as : (m n k : ℕ) → (m == n) ≡ true → (m == k) ≡ (n == k)
same_as m n k e = ap (λ j. j == k) (eqb-true m n e)

still_in : (z x : RelId) (xs : List RelId) → is_in xs x ≡ true → (z.0 == x.0) ≡ false → is_in (drop_one z xs) x ≡ true
still_in z x [] h other = h
still_in z x (y ∷ xs) h other = by (y.0 == z.0) refl (y.0 == x.0) refl h (λ e. still_in z x xs e other)
  where
    by : (b : Bool) → (y.0 == z.0) ≡ b → (c : Bool) → (y.0 == x.0) ≡ c → (c || is_in xs x) ≡ true → (is_in xs x ≡ true → is_in (drop_one z xs) x ≡ true)
        → is_in (cond b xs (y ∷ drop_one z xs)) x ≡ true
    by true yz true yx e rest = absurd (false≢true (sym other ∙ sym (same_as y.0 z.0 x.0 yz) ∙ yx))
    by true yz false yx e rest = e
    by false yz true yx e rest = or_left (y.0 == x.0) (is_in (drop_one z xs) x) yx
    by false yz false yx e rest = or_right (y.0 == x.0) (is_in (drop_one z xs) x) (rest e)

turned : (m n : ℕ) → (n == m) ≡ false → (m == n) ≡ false
turned m n e = false_from_ne_true (m == n) (λ t. false≢true (sym e ∙ eq-eqb n m (sym (eqb-true m n t))))

all_still_in : (z : RelId) (things ids : List RelId) → is_in ids z ≡ false → all_in things ids ≡ true → all_in (drop_one z things) ids ≡ true
all_still_in z things [] none there = refl
all_still_in z things (x ∷ xs) none there =
    let parts = or_parts (x.0 == z.0) (is_in xs z) none in
    let each = and_parts (is_in things x) (all_in things xs) there in
    and_from _ _ (still_in z x things each.0 (turned z.0 x.0 parts.0)) (all_still_in z things xs parts.1 each.1)

not_longer : (ids things : List RelId) → are_different ids ≡ true → all_in things ids ≡ true → length ids ≤ length things
not_longer [] things different there = omega arith
not_longer (id ∷ ids) things different there =
    let parts = and_parts (not (is_in ids id)) (are_different ids) different in
    let each = and_parts (is_in things id) (all_in things ids) there in
    let rest : length ids ≤ length (drop_one id things) =
    not_longer ids (drop_one id things) parts.1 (all_still_in id things ids (not-true (is_in ids id) parts.0) each.1) in
    omega (arith, rest, one_fewer id things each.0)

-- ---- what is made of things is made of them

each_in : (xs : List RelId) → AllByRecursion (λ x. is_in xs x ≡ true) xs
each_in [] = tt
each_in (x ∷ xs) = (
  or_left (x.0 == x.0) (is_in xs x) (itself_equal x.0),
  each_then (λ y. is_in xs y ≡ true) (λ y. is_in (x ∷ xs) y ≡ true) (λ y e. or_right (x.0 == y.0) (is_in xs y) e) xs (each_in xs),
)

made_of : (count : ℕ) (all things : List RelId) → AllByRecursion (λ x. is_in all x ≡ true) things → AllByRecursion (λ ids. all_in all ids ≡ true) (lists_of count things)
made_of zero all things are = (refl, tt)
made_of (suc count) all things are =
    all_flat_map (λ ids. all_in all ids ≡ true) (λ x. map (λ others. x ∷ others) (lists_of count things)) things
    (each_then (λ x. is_in all x ≡ true) (λ x. AllByRecursion (λ ids. all_in all ids ≡ true) (map (λ others. x ∷ others) (lists_of count things)))
    (λ x here. all_map (λ ids. all_in all ids ≡ true) (λ others. x ∷ others) (lists_of count things)
    (each_then (λ ids. all_in all ids ≡ true) (λ ids. all_in all (x ∷ ids) ≡ true) (λ ids e. and_from (is_in all x) (all_in all ids) here e) (lists_of count things) (made_of count all things are)))
    things are)

-- in a longer list one stands twice
pub twice_if_longer : (count : ℕ) (things : List RelId) → length things < count → AllByRecursion (λ ids. are_different ids ≡ false) (lists_of count things)
twice_if_longer count things more = both (lists_of count things) (made_of count things things (each_in things)) (lengths_of count things)
  where
    both : (lists : List (List RelId)) → AllByRecursion (λ ids. all_in things ids ≡ true) lists → AllByRecursion (λ ids. length ids ≡ count) lists
        → AllByRecursion (λ ids. are_different ids ≡ false) lists
    both [] made long = tt
    both (ids ∷ lists) made long =
        (false_from_ne_true (are_different ids) (λ d. let short : length ids ≤ length things = not_longer ids things d made.0 in omega (arith, short, long.0, more)), both lists made.1 long.1)
