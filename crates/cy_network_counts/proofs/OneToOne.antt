-- A projection that makes different rows of different ones: what changes of its rows is what changes of those below it, row by row.
use Rattle.std.proofs.Common.{◌≡◌, ℕ, ◌+◌, ◌<◌, ◌==◌, Bool, true, false, cond, List, [], ◌∷◌, filter, length, map, refl, sym, ap, subst, ◌∙◌, arith}
use Rattle.std.specs.Prelude.{count_by, Result, Ok, Err, IfOk}
use Rattle.std.specs.List.{All}
use Rattle.std.proofs.lemmas.Bool.Decides.{nat_tests}
use Rattle.std.proofs.lemmas.List.Elements.{All-cons, All-filter, All-head, All-nil, All-tail, filter_passes}
use Rattle.std.proofs.lemmas.List.Sums.{sum_by-cons}
use Rattle.cy_values.specs.declared.rows.Cell.{Cell}
use Rattle.cy_values.specs.Bag.{count_of}
use Rattle.cy_values.specs.Same.{is_row}
use Rattle.cy_values.proofs.Booleans.{tests_agree}
use Rattle.cy_values.proofs.SameRows.{row_itself, same_row}
use Rattle.cy_planner_algebra.proofs.Counts.{count_cons, count_map}
use Rattle.cy_planner_algebra.specs.Plans.{Output}
use Rattle.cy_planner_algebra.specs.Expressions.{projected}
use Rattle.cy_network_memory.specs.declared.memory.RowDelta.{RowDelta}
use Rattle.cy_network_operators.specs.Deltas.{AreWide, IsDelta, counts, row_delta_between, deltas_of}
use Rattle.cy_network_operators.proofs.Same.{is_row_if}
use Rattle.cy_network_operators.proofs.DeltaLemmas.{row_delta_there}
use Rattle.cy_network_operators.proofs.PairLemmas.{kept_alike}
use Rattle.cy_network_counts.specs.Merges.{IsOneToOne, image}
use Rattle.cy_network_counts.specs.internal.Sums.{gained, lost}
use Rattle.cy_network_counts.proofs.Bags.{weights}
use Rattle.cy_network_counts.proofs.Totals.{adds, sum_of_images, takes}

pub if_ok_more : {T E : Type 0} (D P : T → Type 0) (r : Result T E) → IfOk r D → ((x : T) → D x → P x) → IfOk r P
if_ok_more D P (Ok x) d each = each x d
if_ok_more D P (Err e) d each = tt

-- the row deltas of a row among images are the images of those whose rows become it
pub deltas_of_images : (f : List Cell → List Cell) (row : List Cell) (deltas : List RowDelta) → deltas_of row (map (image f) deltas) ≡ map (image f) (filter (λ s. is_row row (f s.row)) deltas)
deltas_of_images f row [] = refl
deltas_of_images f row (s ∷ deltas) = step (is_row row (f s.row)) (deltas_of_images f row deltas)
  where
    step : (b : Bool) → deltas_of row (map (image f) deltas) ≡ map (image f) (filter (λ t. is_row row (f t.row)) deltas)
        → cond b (image f s ∷ deltas_of row (map (image f) deltas)) (deltas_of row (map (image f) deltas))
        ≡ map (image f) (cond b (s ∷ filter (λ t. is_row row (f t.row)) deltas) (filter (λ t. is_row row (f t.row)) deltas))
    step true rest = ap (λ xs. image f s ∷ xs) rest
    step false rest = rest

pub count_alike : {X : Type 0} (P : X → Type 0) (p q : X → Bool) → ((x : X) → P x → p x ≡ q x) → (xs : List X) → All P xs → count_by p xs ≡ count_by q xs
count_alike P p q alike [] each = refl
count_alike P p q alike (x ∷ xs) each =
    sum_by-cons (λ y. cond (p y) 1 0) x xs
    ∙ ap (λ b. cond b 1 0 + count_by p xs) (alike x (All-head P x xs each))
    ∙ ap (λ n. cond (q x) 1 0 + n) (count_alike P p q alike xs (All-tail P x xs each))
    ∙ sym (sum_by-cons (λ y. cond (q y) 1 0) x xs)

-- what holds of each row that counts holds of all
pub all_counted : (P : List Cell → Type 0) (xs : List (List Cell)) → ((row : List Cell) → 0 < count_of row xs → P row) → All P xs
all_counted P [] each = All-nil P
all_counted P (x ∷ xs) each =
    let own : count_of x (x ∷ xs) ≡ 1 + count_of x xs = count_cons x x xs ∙ ap (λ b. cond b 1 0 + count_of x xs) (row_itself x) in
    All-cons P x xs (each x (omega (arith, own))) (all_counted P xs (λ row some. each row (let more = count_cons row x xs in omega (arith, more, some))))

-- the image of the row delta of a row
pub image_between : (f : List Cell → List Cell) (row : List Cell) (before after : ℕ) → map (image f) (row_delta_between row before after) ≡ row_delta_between (f row) before after
image_between f row before after = step (before == after)
  where
    step : (b : Bool) → map (image f) (cond b [] (record { row = row; before = before; after = after } ∷ [])) ≡ cond b [] (record { row = f row; before = before; after = after } ∷ [])
    step true = refl
    step false = refl

-- a row whose counts are the same has no row delta
pub none_between : (row : List Cell) (before after : ℕ) → after ≡ before → [] ≡ row_delta_between row before after
none_between row before after same = ap (λ b. cond b [] (record { row = row; before = before; after = after } ∷ [])) (itself before after same)
  where
    itself : (m n : ℕ) → n ≡ m → true ≡ (m == n)
    itself m n is = grind (arith, nat_tests)

-- where a row has no row delta, its weights come to nothing
pub no_weight : (weight : RowDelta → ℕ) (row : List Cell) (xs : List RowDelta) → deltas_of row xs ≡ [] → weights weight (is_row row) xs ≡ 0
no_weight weight row [] none = refl
no_weight weight row (s ∷ xs) none = sum_by-cons (λ (t : RowDelta). cond (is_row row t.row) (weight t) 0) s xs ∙ by (is_row row s.row) (no_weight weight row xs) none
  where
    by : (b : Bool) → (deltas_of row xs ≡ [] → weights weight (is_row row) xs ≡ 0) → cond b (s ∷ deltas_of row xs) (deltas_of row xs) ≡ [] → cond b (weight s) 0 + weights weight (is_row row) xs ≡ 0
    by true rest some = absurd (let n = ap length some in omega (arith, n))
    by false rest h = let nothing : weights weight (is_row row) xs ≡ 0 = rest h in omega (arith, nothing)

module _ (outputs : List Output) (width : ℕ) (before after : List (List Cell)) (deltas : List RowDelta) (one : IsOneToOne width outputs) (wide : AreWide width (counts before) (counts after))
    (delta : IsDelta (counts before) (counts after) deltas) where
  wide_before : All (λ row. length row ≡ width) before
  wide_before = all_counted (λ row. length row ≡ width) before (λ row some. wide row (omega (arith, some)))

  wide_after : All (λ row. length row ≡ width) after
  wide_after = all_counted (λ row. length row ≡ width) after (λ row some. wide row (omega (arith, some)))

  wide_deltas : (xs : List RowDelta) → All (λ s. 0 < count_of s.row before + count_of s.row after) xs → All (λ s. length s.row ≡ width) xs
  wide_deltas [] each = All-nil (λ (s : RowDelta). length s.row ≡ width)
  wide_deltas (s ∷ xs) each =
      let T : RowDelta → Type 0 = λ t. 0 < count_of t.row before + count_of t.row after in
      All-cons (λ (t : RowDelta). length t.row ≡ width) s xs (wide s.row (All-head T s xs each)) (wide_deltas xs (All-tail T s xs each))

  all_wide : All (λ s. length s.row ≡ width) deltas
  all_wide = wide_deltas deltas (row_delta_there (counts before) (counts after) deltas delta)

  -- a row becomes the same as another one where it is this one
  becomes : (row other : List Cell) → length row ≡ width → length other ≡ width → is_row (projected outputs row) (projected outputs other) ≡ is_row row other
  becomes row other row_wide other_wide =
      tests_agree (is_row (projected outputs row) (projected outputs other)) (is_row row other)
      (λ same. is_row_if row other (one row other row_wide other_wide (same_row (projected outputs row) (projected outputs other) same)))
      (λ same. is_row_if (projected outputs row) (projected outputs other) (ap (projected outputs) (same_row row other same)))

  -- the row deltas of the image of a row
  of_image : (row : List Cell) → length row ≡ width
      → deltas_of (projected outputs row) (map (image (projected outputs)) deltas)
      ≡ row_delta_between (projected outputs row) (count_of (projected outputs row) (map (projected outputs) before)) (count_of (projected outputs row) (map (projected outputs) after))
  of_image row row_wide =
      let f = projected outputs in
      let W : List Cell → Type 0 = λ other. length other ≡ width in
      let V : RowDelta → Type 0 = λ s. length s.row ≡ width in
      let first : count_of (f row) (map f before) ≡ count_of row before =
      count_map (is_row (f row)) f before ∙ count_alike W (λ x. is_row (f row) (f x)) (is_row row) (λ x x_wide. becomes row x row_wide x_wide) before wide_before in
      let second : count_of (f row) (map f after) ≡ count_of row after =
      count_map (is_row (f row)) f after ∙ count_alike W (λ x. is_row (f row) (f x)) (is_row row) (λ x x_wide. becomes row x row_wide x_wide) after wide_after in
      deltas_of_images f (f row) deltas
      ∙ ap (map (image f)) (kept_alike V (λ s. is_row (f row) (f s.row)) (λ s. is_row row s.row) (λ s s_wide. becomes row s.row row_wide s_wide) deltas all_wide)
      ∙ ap (map (image f)) (delta.each row)
      ∙ image_between f row (count_of row before) (count_of row after)
      ∙ ap (λ n. row_delta_between (f row) n (count_of row after)) (sym first)
      ∙ ap (λ n. row_delta_between (f row) (count_of (f row) (map f before)) n) (sym second)

  -- of a row that is the image of no row delta's nothing changes
  of_other : (row : List Cell) → deltas_of row (map (image (projected outputs)) deltas) ≡ []
      → [] ≡ row_delta_between row (count_of row (map (projected outputs) before)) (count_of row (map (projected outputs) after))
  of_other row none =
      let f = projected outputs in
      let images = map (image f) deltas in
      let sums = sum_of_images f before after deltas delta row in
      let taken : lost row images ≡ 0 = no_weight takes row images none in
      let added : gained row images ≡ 0 = no_weight adds row images none in
      none_between row (count_of row (map f before)) (count_of row (map f after)) (omega (arith, sums, taken, added))

  each_row : (row : List Cell)
      → deltas_of row (map (image (projected outputs)) deltas) ≡ row_delta_between row (count_of row (map (projected outputs) before)) (count_of row (map (projected outputs) after))
  each_row row =
      by (filter (λ s. is_row row (projected outputs s.row)) deltas) refl
    where
      by : (found : List RowDelta) → filter (λ s. is_row row (projected outputs s.row)) deltas ≡ found
          → deltas_of row (map (image (projected outputs)) deltas) ≡ row_delta_between row (count_of row (map (projected outputs) before)) (count_of row (map (projected outputs) after))
      by [] are =
          let none : deltas_of row (map (image (projected outputs)) deltas) ≡ [] = deltas_of_images (projected outputs) row deltas ∙ ap (map (image (projected outputs))) are in
          none ∙ of_other row none
      by (s ∷ found) are =
          let p : RowDelta → Bool = λ t. is_row row (projected outputs t.row) in
          let V : RowDelta → Type 0 = λ t. length t.row ≡ width in
          let passes : is_row row (projected outputs s.row) ≡ true = All-head (λ t. p t ≡ true) s found (subst (All (λ t. p t ≡ true)) are (filter_passes p deltas)) in
          let s_wide : length s.row ≡ width = All-head V s found (subst (All V) are (All-filter p V deltas all_wide)) in
          let is : row ≡ projected outputs s.row = same_row row (projected outputs s.row) passes in
          subst (λ r. deltas_of r (map (image (projected outputs)) deltas) ≡ row_delta_between r (count_of r (map (projected outputs) before)) (count_of r (map (projected outputs) after))) (sym is)
          (of_image s.row s_wide)

  pub images_delta : (images : List RowDelta) → images ≡ map (image (projected outputs)) deltas → IsDelta (counts (map (projected outputs) before)) (counts (map (projected outputs) after)) images
  images_delta images are =
      subst (IsDelta (counts (map (projected outputs) before)) (counts (map (projected outputs) after))) (sym are) (record { each = each_row })
