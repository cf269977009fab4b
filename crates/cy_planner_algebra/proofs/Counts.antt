-- How often a row stands in a list that is made of another one.
use Rattle.std.proofs.Common.{◌≡◌, ℕ, ◌+◌, ◌*◌, ◌≤◌, min, Bool, true, false, cond, ◌||◌, List, [], ◌∷◌, ◌++◌, map, filter, refl, sym, ap, subst, ◌∙◌, arith}
use Rattle.std.specs.Prelude.{count_by, sum_by, flat_map}
use Rattle.std.specs.List.{All}
use Rattle.std.specs.Cmp.{Equal-is}
use Rattle.std.specs.Ordering.{eq_by_cmp}
use Rattle.std.proofs.Math.Nat.{add-mul, zero-mul}
use Rattle.std.proofs.lemmas.Bool.{false≢true, true≢false}
use Rattle.std.proofs.lemmas.List.Elements.{All-head, All-tail}
use Rattle.std.proofs.lemmas.List.Folds.{fold-map}
use Rattle.std.proofs.lemmas.List.Sums.{sum_by-append, sum_by-cons}
use Rattle.cy_values.specs.declared.rows.Cell.{Cell}
use Rattle.cy_values.specs.Bag.{count_of}
use Rattle.cy_values.specs.Order.{row_cmp}
use Rattle.cy_values.proofs.Identity.{same_rows}
use Rattle.cy_planner_algebra.specs.Meaning.{each_once, is_among}

abbrev pub same : List Cell → List Cell → Bool
same = eq_by_cmp row_cmp

pub identity : (x y : List Cell) → same x y ≡ true → x ≡ y
identity x y h = same_rows x y ((Equal-is (row_cmp x y)).0 h)

pub count_cons : (row x : List Cell) (xs : List (List Cell)) → count_of row (x ∷ xs) ≡ cond (same row x) 1 0 + count_of row xs
count_cons row x xs = sum_by-cons (λ y. cond (same row y) 1 0) x xs

pub count_append : (row : List Cell) (xs ys : List (List Cell)) → count_of row (xs ++ ys) ≡ count_of row xs + count_of row ys
count_append row xs ys = sum_by-append (λ y. cond (same row y) 1 0) xs ys

pub count_map : {A B : Type 0} (p : B → Bool) (f : A → B) (xs : List A) → count_by p (map f xs) ≡ count_by (λ x. p (f x)) xs
count_map p f xs = fold-map (λ n y. n + cond (p y) 1 0) f 0 xs

-- what is made of several things, counted for each of them
pub count_flat_map : {A B : Type 0} (q : B → Bool) (f : A → List B) (xs : List A) → count_by q (flat_map f xs) ≡ sum_by (λ x. count_by q (f x)) xs
count_flat_map q f [] = refl
count_flat_map q f (x ∷ xs) =
    sum_by-append (λ y. cond (q y) 1 0) (f x) (flat_map f xs)
    ∙ ap (λ n. count_by q (f x) + n) (count_flat_map q f xs)
    ∙ sym (sum_by-cons (λ y. count_by q (f y)) x xs)

pub sum_alike : {A : Type 0} (P : A → Type 0) (f g : A → ℕ) → ((x : A) → P x → f x ≡ g x) → (xs : List A) → All P xs → sum_by f xs ≡ sum_by g xs
sum_alike P f g alike [] each = refl
sum_alike P f g alike (x ∷ xs) each =
    sum_by-cons f x xs
    ∙ ap (λ n. n + sum_by f xs) (alike x (All-head P x xs each))
    ∙ ap (λ n. g x + n) (sum_alike P f g alike xs (All-tail P x xs each))
    ∙ sym (sum_by-cons g x xs)

times : (b : Bool) (n c : ℕ) → cond b n 0 + c * n ≡ (cond b 1 0 + c) * n
times true n c = sym (add-mul 1 c n ∙ ap (λ m. m + c * n) (let e : 1 * n ≡ n = omega arith in e))
times false n c = sym (add-mul 0 c n ∙ ap (λ m. m + c * n) (zero-mul n))

-- the same number for each that passes
pub sum_passing : {A : Type 0} (p : A → Bool) (n : ℕ) (xs : List A) → sum_by (λ x. cond (p x) n 0) xs ≡ count_by p xs * n
sum_passing p n [] = sym (zero-mul n)
sum_passing p n (x ∷ xs) =
    sum_by-cons (λ y. cond (p y) n 0) x xs
    ∙ ap (λ m. cond (p x) n 0 + m) (sum_passing p n xs)
    ∙ times (p x) n (count_by p xs)
    ∙ ap (λ m. m * n) (sym (sum_by-cons (λ y. cond (p y) 1 0) x xs))

pub none_if : (b : Bool) → cond {A = ℕ} b 0 0 ≡ 0
none_if true = refl
none_if false = refl

if_passing : (p : List Cell → Bool) (row x : List Cell) (n m : ℕ) (s q : Bool) → same row x ≡ s → p x ≡ q → m ≡ cond (p row) n 0
    → cond q (cond s 1 0 + m) m ≡ cond (p row) (cond s 1 0 + n) 0
if_passing p row x n m true true is passes rest =
    let e : p row ≡ true = ap p (identity row x is) ∙ passes in
    ap (λ k. 1 + k) (rest ∙ ap (λ b. cond b n 0) e) ∙ sym (ap (λ b. cond b (1 + n) 0) e)
if_passing p row x n m true false is passes rest =
    let e : p row ≡ false = ap p (identity row x is) ∙ passes in
    rest ∙ ap (λ b. cond b n 0) e ∙ sym (ap (λ b. cond b (1 + n) 0) e)
if_passing p row x n m false true is passes rest =
    let none : (k : ℕ) → 0 + k ≡ k = λ k. omega arith in
    none m ∙ rest ∙ ap (λ k. cond (p row) k 0) (sym (none n))
if_passing p row x n m false false is passes rest =
    let none : (k : ℕ) → 0 + k ≡ k = λ k. omega arith in
    rest ∙ ap (λ k. cond (p row) k 0) (sym (none n))

-- how often a row stands among those that pass
pub count_passing : (p : List Cell → Bool) (row : List Cell) (xs : List (List Cell)) → count_of row (filter p xs) ≡ cond (p row) (count_of row xs) 0
count_passing p row [] = sym (none_if (p row))
count_passing p row (x ∷ xs) =
    elim (p x) as (λ q. count_of row (cond q (x ∷ filter p xs) (filter p xs)) ≡ cond q (cond (same row x) 1 0 + count_of row (filter p xs)) (count_of row (filter p xs))) [
      | true ↦ count_cons row x (filter p xs)
      | false ↦ refl
    ]
    ∙ if_passing p row x (count_of row xs) (count_of row (filter p xs)) (same row x) (p x) refl refl (count_passing p row xs)
    ∙ ap (λ n. cond (p row) n 0) (sym (count_cons row x xs))

-- a row that is among others stands there
among_step : (s r : Bool) (n : ℕ) → (r ≡ true → 1 ≤ n) → (s || r) ≡ true → 1 ≤ cond s 1 0 + n
among_step true r n rest h = omega arith
among_step false r n rest h = let more = rest h in omega (arith, more)

among_counts : (row : List Cell) (xs : List (List Cell)) → is_among row xs ≡ true → 1 ≤ count_of row xs
among_counts row [] h = absurd (false≢true h)
among_counts row (x ∷ xs) h =
    subst (λ n. 1 ≤ n) (sym (count_cons row x xs)) (among_step (same row x) (is_among row xs) (count_of row xs) (among_counts row xs) h)

-- and one that isn't doesn't
apart_step : (s r : Bool) (n : ℕ) → (r ≡ false → n ≡ 0) → (s || r) ≡ false → cond s 1 0 + n ≡ 0
apart_step true r n rest h = absurd (true≢false h)
apart_step false r n rest h = let none = rest h in omega (arith, none)

pub apart_counts : (row : List Cell) (xs : List (List Cell)) → is_among row xs ≡ false → count_of row xs ≡ 0
apart_counts row [] h = refl
apart_counts row (x ∷ xs) h = count_cons row x xs ∙ apart_step (same row x) (is_among row xs) (count_of row xs) (apart_counts row xs) h

once_step : (row x : List Cell) (xs : List (List Cell)) (s a : Bool) → same row x ≡ s → is_among x xs ≡ a → count_of row (each_once xs) ≡ min 1 (count_of row xs)
    → count_of row (cond a (each_once xs) (x ∷ each_once xs)) ≡ min 1 (cond s 1 0 + count_of row xs)
once_step row x xs true true is there rest =
    let some : 1 ≤ count_of row xs = subst (λ r. 1 ≤ count_of r xs) (sym (identity row x is)) (among_counts x xs there) in
    omega (arith, rest, some)
once_step row x xs false true is there rest = omega (arith, rest)
once_step row x xs true false is there rest =
    let none : count_of row xs ≡ 0 = subst (λ r. count_of r xs ≡ 0) (sym (identity row x is)) (apart_counts x xs there) in
    let first : count_of row (x ∷ each_once xs) ≡ 1 + count_of row (each_once xs) = count_cons row x (each_once xs) ∙ ap (λ b. cond b 1 0 + count_of row (each_once xs)) is in
    omega (arith, first, rest, none)
once_step row x xs false false is there rest =
    let first : count_of row (x ∷ each_once xs) ≡ 0 + count_of row (each_once xs) = count_cons row x (each_once xs) ∙ ap (λ b. cond b 1 0 + count_of row (each_once xs)) is in
    omega (arith, first, rest)

-- each row once
pub count_once : (row : List Cell) (xs : List (List Cell)) → count_of row (each_once xs) ≡ min 1 (count_of row xs)
count_once row [] = refl
count_once row (x ∷ xs) =
    once_step row x xs (same row x) (is_among x xs) refl refl (count_once row xs)
    ∙ ap (min 1) (sym (count_cons row x xs))
