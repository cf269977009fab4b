-- What row deltas take and add in all, and what a delta makes of the counts of a projection or a union.
use Rattle.std.proofs.Common.{◌≡◌, ℕ, ◌+◌, ◌-◌, ◌≤◌, ◌<◌, Bool, true, false, cond, List, [], ◌∷◌, ◌++◌, map, refl, sym, ap, ◌∙◌, arith, take, length, get_or}
use Rattle.std.specs.Prelude.{count_by, ◌||◌}
use Rattle.std.proofs.lemmas.List.Sums.{sum_by-append, sum_by-cons, sum_by_more}
use Rattle.cy_values.specs.declared.rows.Cell.{Cell}
use Rattle.cy_values.specs.Bag.{count_of}
use Rattle.cy_values.specs.Same.{is_row}
use Rattle.cy_planner_algebra.proofs.Counts.{count_append, count_map}
use Rattle.cy_network_memory.specs.declared.memory.RowDelta.{RowDelta}
use Rattle.cy_network_operators.specs.Deltas.{IsDelta, counts}
use Rattle.cy_network_counts.specs.Merges.{image}
use Rattle.cy_network_counts.specs.internal.Sums.{lost, gained, is_changed}
use Rattle.cy_network_counts.proofs.Bags.{weights, within, balanced}

-- what a row delta takes and what it adds
abbrev pub takes : RowDelta → ℕ
takes s = s.before - s.after

abbrev pub adds : RowDelta → ℕ
adds s = s.after - s.before

-- one row delta more
pub weights_more : (weight : RowDelta → ℕ) (row : List Cell) (xs : List RowDelta) (i : ℕ) (s : RowDelta) → i < length xs → s ≡ get_or xs i s
    → weights weight (is_row row) (take (i + 1) xs) ≡ weights weight (is_row row) (take i xs) + cond (is_row row s.row) (weight s) 0
weights_more weight row xs i s below is =
    sum_by_more (λ (t : RowDelta). cond (is_row row t.row) (weight t) 0) xs i s below
    ∙ ap (λ (t : RowDelta). weights weight (is_row row) (take i xs) + cond (is_row row t.row) (weight t) 0) (sym is)

-- of a row that isn't among the row deltas nothing is taken, and nothing is added to it
pub weights_none : (weight : RowDelta → ℕ) (row : List Cell) (xs : List RowDelta) → is_changed row xs ≡ false → weights weight (is_row row) xs ≡ 0
weights_none weight row [] still = refl
weights_none weight row (s ∷ xs) still = sum_by-cons (λ (t : RowDelta). cond (is_row row t.row) (weight t) 0) s xs ∙ by (is_row row s.row) (weights_none weight row xs) still
  where
    by : (b : Bool) → (is_changed row xs ≡ false → weights weight (is_row row) xs ≡ 0) → (b || is_changed row xs) ≡ false → cond b (weight s) 0 + weights weight (is_row row) xs ≡ 0
    by true rest h = cc
    by false rest h = let none : weights weight (is_row row) xs ≡ 0 = rest h in omega (arith, none)

pub weights_both : (weight : RowDelta → ℕ) (row : List Cell) (xs ys : List RowDelta) → weights weight (is_row row) (xs ++ ys) ≡ weights weight (is_row row) xs + weights weight (is_row row) ys
weights_both weight row xs ys = sum_by-append (λ (t : RowDelta). cond (is_row row t.row) (weight t) 0) xs ys

pub weights_image : (weight : RowDelta → ℕ) (f : List Cell → List Cell) (row : List Cell) (xs : List RowDelta)
    → ((s : RowDelta) → weight (image f s) ≡ weight s)
    → weights weight (is_row row) (map (image f) xs) ≡ weights weight (λ x. is_row row (f x)) xs
weights_image weight f row [] alike = refl
weights_image weight f row (s ∷ xs) alike =
    sum_by-cons (λ (t : RowDelta). cond (is_row row t.row) (weight t) 0) (image f s) (map (image f) xs)
    ∙ ap (λ n. cond (is_row row (f s.row)) n 0 + weights weight (is_row row) (map (image f) xs)) (alike s)
    ∙ ap (λ n. cond (is_row row (f s.row)) (weight s) 0 + n) (weights_image weight f row xs alike)
    ∙ sym (sum_by-cons (λ (t : RowDelta). cond (is_row row (f t.row)) (weight t) 0) s xs)

-- both counts of a row delta, by what it takes and what it adds
net_one : (b : Bool) (m n : ℕ) → cond b m 0 + cond b (n - m) 0 ≡ cond b n 0 + cond b (m - n) 0
net_one true m n = omega arith
net_one false m n = refl

net : (p : List Cell → Bool) (xs : List RowDelta) → weights (λ s. s.before) p xs + weights adds p xs ≡ weights (λ s. s.after) p xs + weights takes p xs
net p [] = refl
net p (s ∷ xs) =
    let befores = sum_by-cons (λ (t : RowDelta). cond (p t.row) t.before 0) s xs in
    let afters = sum_by-cons (λ (t : RowDelta). cond (p t.row) t.after 0) s xs in
    let added = sum_by-cons (λ (t : RowDelta). cond (p t.row) (adds t) 0) s xs in
    let taken = sum_by-cons (λ (t : RowDelta). cond (p t.row) (takes t) 0) s xs in
    let one = net_one (p s.row) s.before s.after in
    let rest = net p xs in
    omega (arith, befores, afters, added, taken, one, rest)

less_one : (b : Bool) (m n : ℕ) → cond b (m - n) 0 ≤ cond b m 0
less_one true m n = omega arith
less_one false m n = omega arith

less : (p : List Cell → Bool) (xs : List RowDelta) → weights takes p xs ≤ weights (λ s. s.before) p xs
less p [] = omega arith
less p (s ∷ xs) =
    let befores = sum_by-cons (λ (t : RowDelta). cond (p t.row) t.before 0) s xs in
    let taken = sum_by-cons (λ (t : RowDelta). cond (p t.row) (takes t) 0) s xs in
    let one = less_one (p s.row) s.before s.after in
    let rest = less p xs in
    omega (arith, befores, taken, one, rest)

module _ (before after : List (List Cell)) (deltas : List RowDelta) (delta : IsDelta (counts before) (counts after) deltas) (p : List Cell → Bool) where
  pub taken_of : weights takes p deltas ≤ count_by p before
  taken_of = let few = within before after deltas delta p in let fewer = less p deltas in omega (arith, few, fewer)

  pub sum_of : count_by p after + weights takes p deltas ≡ count_by p before + weights adds p deltas
  sum_of = let even = balanced before after deltas delta p in let each = net p deltas in omega (arith, even, each)

-- what a projection's rows count
module _ (f : List Cell → List Cell) (before after : List (List Cell)) (deltas : List RowDelta) (delta : IsDelta (counts before) (counts after) deltas) (row : List Cell) where
  pub taken_of_images : lost row (map (image f) deltas) ≤ count_of row (map f before)
  taken_of_images =
      let taken : lost row (map (image f) deltas) ≡ weights takes (λ x. is_row row (f x)) deltas = weights_image takes f row deltas (λ s. refl) in
      let counted : count_of row (map f before) ≡ count_by (λ x. is_row row (f x)) before = count_map (is_row row) f before in
      let most = taken_of before after deltas delta (λ x. is_row row (f x)) in
      omega (arith, taken, counted, most)

  pub sum_of_images : count_of row (map f after) + lost row (map (image f) deltas) ≡ count_of row (map f before) + gained row (map (image f) deltas)
  sum_of_images =
      let taken : lost row (map (image f) deltas) ≡ weights takes (λ x. is_row row (f x)) deltas = weights_image takes f row deltas (λ s. refl) in
      let added : gained row (map (image f) deltas) ≡ weights adds (λ x. is_row row (f x)) deltas = weights_image adds f row deltas (λ s. refl) in
      let counted : count_of row (map f before) ≡ count_by (λ x. is_row row (f x)) before = count_map (is_row row) f before in
      let counted_after : count_of row (map f after) ≡ count_by (λ x. is_row row (f x)) after = count_map (is_row row) f after in
      let sums = sum_of before after deltas delta (λ x. is_row row (f x)) in
      omega (arith, taken, added, counted, counted_after, sums)

-- what a union's rows count
module _ (before_left after_left before_right after_right : List (List Cell)) (left right : List RowDelta)
    (delta_left : IsDelta (counts before_left) (counts after_left) left) (delta_right : IsDelta (counts before_right) (counts after_right) right) (row : List Cell) where
  pub taken_of_both : lost row (left ++ right) ≤ count_of row (before_left ++ before_right)
  taken_of_both =
      let taken : lost row (left ++ right) ≡ lost row left + lost row right = weights_both takes row left right in
      let counted = count_append row before_left before_right in
      let first : lost row left ≤ count_of row before_left = taken_of before_left after_left left delta_left (is_row row) in
      let second : lost row right ≤ count_of row before_right = taken_of before_right after_right right delta_right (is_row row) in
      omega (arith, taken, counted, first, second)

  pub sum_of_both : count_of row (after_left ++ after_right) + lost row (left ++ right) ≡ count_of row (before_left ++ before_right) + gained row (left ++ right)
  sum_of_both =
      let taken : lost row (left ++ right) ≡ lost row left + lost row right = weights_both takes row left right in
      let added : gained row (left ++ right) ≡ gained row left + gained row right = weights_both adds row left right in
      let counted = count_append row before_left before_right in
      let counted_after = count_append row after_left after_right in
      let first : count_of row after_left + lost row left ≡ count_of row before_left + gained row left = sum_of before_left after_left left delta_left (is_row row) in
      let second : count_of row after_right + lost row right ≡ count_of row before_right + gained row right = sum_of before_right after_right right delta_right (is_row row) in
      omega (arith, taken, added, counted, counted_after, first, second)
