-- A projection that makes different rows of different ones of those before a change, and of those after it: what changes of its rows.
use Rattle.std.proofs.Common.{◌≡◌, ℕ, ◌+◌, ◌<◌, ◌≤◌, ◌==◌, Bool, true, false, cond, List, [], ◌∷◌, filter, get_or, map, refl, sym, ap, subst, ◌∙◌, arith, inl, inr}
use Rattle.std.specs.Prelude.{count_by, ◌⊎◌, nat_lt}
use Rattle.std.specs.List.{All, list_all}
use Rattle.std.proofs.lemmas.Bool.{and_parts, cases_lt, false≢true, eqb-true, eqb-false}
use Rattle.std.proofs.lemmas.Bool.Decides.{nat_tests}
use Rattle.std.proofs.lemmas.List.Elements.{All-cons, All-filter, All-head, All-nil, filter_passes}
use Rattle.std.proofs.lemmas.List.Sums.{sum_by-cons}
use Rattle.cy_values.specs.declared.rows.Cell.{Cell}
use Rattle.cy_values.specs.Bag.{count_of}
use Rattle.cy_values.specs.Same.{is_row}
use Rattle.cy_values.proofs.Booleans.{tests_agree}
use Rattle.cy_values.proofs.SameRows.{row_itself, same_row}
use Rattle.cy_planner_algebra.proofs.Counts.{count_cons, count_map}
use Rattle.cy_planner_algebra.specs.Plans.{Output}
use Rattle.cy_planner_algebra.specs.Expressions.{projected}
use Rattle.cy_network_memory.specs.declared.memory.RowDelta.{RowDelta}
use Rattle.cy_network_operators.specs.Deltas.{IsDelta, counts, row_delta_between, deltas_of}
use Rattle.cy_network_operators.proofs.Same.{is_row_if}
use Rattle.cy_network_operators.proofs.DeltaLemmas.{each_row_delta}
use Rattle.cy_network_operators.proofs.PairLemmas.{kept_alike as filter_alike}
use Rattle.cy_network_counts.specs.Merges.{IsOneToOneOn, image}
use Rattle.cy_network_counts.specs.internal.Sums.{gained, greatest, lost, most_after, most_before}
use Rattle.cy_network_counts.proofs.OneToOne.{all_counted, count_alike, image_between, no_weight, none_between, deltas_of_images}
use Rattle.cy_network_counts.proofs.GreatestCounts.{greatest_below, greatest_more}
use Rattle.cy_network_counts.proofs.Totals.{adds, sum_of_images, takes}

-- ---- counts and images

-- a row that counts and passes, if any does
passing : (p : List Cell → Bool) (rows : List (List Cell)) → (count_by p rows ≡ 0) ⊎ ((row : List Cell) × ((0 < count_of row rows) × (p row ≡ true)))
passing p [] = inl refl
passing p (x ∷ xs) = by (p x) refl (passing p xs)
  where
    own : 0 < count_of x (x ∷ xs)
    own = let e : count_of x (x ∷ xs) ≡ 1 + count_of x xs = count_cons x x xs ∙ ap (λ b. cond b 1 0 + count_of x xs) (row_itself x) in omega (arith, e)

    more : (row : List Cell) → 0 < count_of row xs → 0 < count_of row (x ∷ xs)
    more row some = let e = count_cons row x xs in omega (arith, e, some)

    by : (b : Bool) → p x ≡ b → (count_by p xs ≡ 0) ⊎ ((row : List Cell) × ((0 < count_of row xs) × (p row ≡ true)))
        → (count_by p (x ∷ xs) ≡ 0) ⊎ ((row : List Cell) × ((0 < count_of row (x ∷ xs)) × (p row ≡ true)))
    by true is rest = inr (x, (own, is))
    by false is (inl none) = inl (sum_by-cons (λ y. cond (p y) 1 0) x xs ∙ ap (λ b. cond b 1 0 + count_by p xs) is ∙ (let e : 0 + count_by p xs ≡ 0 = omega (arith, none) in e))
    by false is (inr found) = inr (found.0, (more found.0 found.1.0, found.1.1))

-- more rows pass a test that asks less
count_more : (p q : List Cell → Bool) → ((x : List Cell) → p x ≡ true → q x ≡ true) → (xs : List (List Cell)) → count_by p xs ≤ count_by q xs
count_more p q asks [] = omega arith
count_more p q asks (x ∷ xs) =
    let first : count_by p (x ∷ xs) ≡ cond (p x) 1 0 + count_by p xs = sum_by-cons (λ y. cond (p y) 1 0) x xs in
    let second : count_by q (x ∷ xs) ≡ cond (q x) 1 0 + count_by q xs = sum_by-cons (λ y. cond (q y) 1 0) x xs in
    let here = by (p x) refl (q x) refl in
    let rest = count_more p q asks xs in
    omega (arith, first, second, here, rest)
  where
    by : (b : Bool) → p x ≡ b → (c : Bool) → q x ≡ c → cond b 1 0 ≤ cond c 1 0
    by true is true also = omega arith
    by true is false not = absurd (false≢true (sym not ∙ asks x is))
    by false is true also = omega arith
    by false is false also = omega arith

-- each of some rows counts
all_there : (rows : List (List Cell)) → All (λ row. 0 < count_of row rows) rows
all_there rows = all_counted (λ row. 0 < count_of row rows) rows (λ row some. some)

greatest_image : (f : List Cell → List Cell) (weight : RowDelta → ℕ) → ((s : RowDelta) → weight (image f s) ≡ weight s) → (xs : List RowDelta) → greatest weight (map (image f) xs) ≡ greatest weight xs
greatest_image f weight alike [] = refl
greatest_image f weight alike (s ∷ xs) = let here = alike s in let rest = greatest_image f weight alike xs in omega (arith, here, rest)

-- ---- on one side of a change: the rows there, and those on the other side

module _ (outputs : List Output) (near far : List (List Cell)) (deltas : List RowDelta) (weight : RowDelta → ℕ)
    (each : All (λ (s : RowDelta). (weight s ≡ count_of s.row near) × (count_of s.row near ≡ count_of s.row far → ⊥)) deltas)
    (shifted : (row : List Cell) → (count_of row near ≡ count_of row far → ⊥) → count_of row near ≤ greatest weight (deltas_of row deltas)) (one_near : IsOneToOneOn near outputs)
    (one_far : IsOneToOneOn far outputs) (row : List Cell) where
  abbrev becomes : List Cell → Bool
  becomes x = is_row row (projected outputs x)

  abbrev images : List RowDelta
  images = filter (λ s. becomes s.row) deltas

  abbrev IsSide : RowDelta → Type 0
  IsSide s = (weight s ≡ count_of s.row near) × (count_of s.row near ≡ count_of s.row far → ⊥)

  counted : count_of row (map (projected outputs) near) ≡ count_by becomes near
  counted = count_map (is_row row) (projected outputs) near

  of_images : All IsSide images
  of_images = All-filter (λ s. becomes s.row) IsSide deltas each

  they_become : All (λ s. becomes s.row ≡ true) images
  they_become = filter_passes (λ s. becomes s.row) deltas

  -- no row delta weighs more than the image counts
  no_more : greatest weight images ≤ count_of row (map (projected outputs) near)
  no_more = greatest_below weight (count_of row (map (projected outputs) near)) images (λ k d less. of_one (get_or images k d) (of_images k d less).0 (they_become k d less))
    where
      of_one : (s : RowDelta) → weight s ≡ count_of s.row near → becomes s.row ≡ true → weight s ≤ count_of row (map (projected outputs) near)
      of_one s is becomes_it =
          let few = count_more (is_row s.row) becomes (λ x same. ap becomes (sym (same_row s.row x same)) ∙ becomes_it) near in
          let all = counted in
          omega (arith, is, few, all)

  -- a row that becomes it counts as often
  of_row : (x : List Cell) → 0 < count_of x near → becomes x ≡ true → count_of row (map (projected outputs) near) ≡ count_of x near
  of_row x some is =
      counted
      ∙ count_alike (λ y. 0 < count_of y near) becomes (is_row x)
      (λ y there. tests_agree (becomes y) (is_row x y)
      (λ also. is_row_if x y (one_near x y some there (sym (same_row row (projected outputs x) is) ∙ same_row row (projected outputs y) also)))
      (λ same. ap becomes (sym (same_row x y same)) ∙ is)) near (all_there near)

  -- and it has a row delta, where there is one whose row becomes it
  moved : (x : List Cell) → 0 < count_of x near → becomes x ≡ true → (s : RowDelta) → IsSide s → becomes s.row ≡ true → count_of x near ≡ count_of x far → ⊥
  moved x some is s side also stays = by (cases_lt 0 (count_of s.row near))
    where
      same_image : projected outputs s.row ≡ projected outputs x
      same_image = sym (same_row row (projected outputs s.row) also) ∙ same_row row (projected outputs x) is

      by : (0 < count_of s.row near) ⊎ (count_of s.row near ≤ 0) → ⊥
      by (inl there) =
          let same : s.row ≡ x = one_near s.row x there some same_image in
          side.1 (ap (λ r. count_of r near) same ∙ stays ∙ ap (λ r. count_of r far) (sym same))
      by (inr none) =
          let far_some = by_far (cases_lt 0 (count_of s.row far)) in
          let same : s.row ≡ x = one_far s.row x far_some (omega (arith, some, stays)) same_image in
          let zero : count_of x near ≤ 0 = subst (λ r. count_of r near ≤ 0) same none in
          omega (arith, some, zero)
        where
          by_far : (0 < count_of s.row far) ⊎ (count_of s.row far ≤ 0) → 0 < count_of s.row far
          by_far (inl there) = there
          by_far (inr nowhere) = absurd (side.1 (let e : count_of s.row near ≡ count_of s.row far = omega (arith, none, nowhere) in e))

  no_less : (s : RowDelta) (found : List RowDelta) → images ≡ s ∷ found → count_of row (map (projected outputs) near) ≤ greatest weight images
  no_less s found are = by (passing becomes near)
    where
      side : IsSide s
      side = All-head IsSide s found (subst (All IsSide) are of_images)

      also : becomes s.row ≡ true
      also = All-head (λ t. becomes t.row ≡ true) s found (subst (All (λ t. becomes t.row ≡ true)) are they_become)

      by : (count_by becomes near ≡ 0) ⊎ ((x : List Cell) × ((0 < count_of x near) × (becomes x ≡ true))) → count_of row (map (projected outputs) near) ≤ greatest weight images
      by (inl none) = let all = counted in omega (arith, all, none)
      by (inr it) =
          let all = of_row it.0 it.1.0 it.1.1 in
          let least = shifted it.0 (moved it.0 it.1.0 it.1.1 s side also) in
          let more = greatest_more weight (λ t. is_row it.0 t.row) (λ t. becomes t.row) (λ t same. ap becomes (sym (same_row it.0 t.row same)) ∙ it.1.1) deltas in
          omega (arith, all, least, more)

  pub greatest_is : (s : RowDelta) (found : List RowDelta) → images ≡ s ∷ found → greatest weight images ≡ count_of row (map (projected outputs) near)
  greatest_is s found are = let low = no_more in let high = no_less s found are in omega (arith, low, high)

-- ---- both sides

module _ (outputs : List Output) (before after : List (List Cell)) (deltas : List RowDelta) (one_before : IsOneToOneOn before outputs) (one_after : IsOneToOneOn after outputs)
    (delta : IsDelta (counts before) (counts after) deltas) where
  side_before : All (λ (s : RowDelta). (s.before ≡ count_of s.row before) × (count_of s.row before ≡ count_of s.row after → ⊥)) deltas
  side_before =
      each_row_delta (λ (s : RowDelta). (s.before ≡ count_of s.row before) × (count_of s.row before ≡ count_of s.row after → ⊥)) (counts before) (counts after) deltas delta
      (λ row is. (refl, eqb-false (count_of row before) (count_of row after) is))

  side_after : All (λ (s : RowDelta). (s.after ≡ count_of s.row after) × (count_of s.row after ≡ count_of s.row before → ⊥)) deltas
  side_after =
      each_row_delta (λ (s : RowDelta). (s.after ≡ count_of s.row after) × (count_of s.row after ≡ count_of s.row before → ⊥)) (counts before) (counts after) deltas delta
      (λ row is. (refl, λ same. eqb-false (count_of row before) (count_of row after) is (sym same)))

  -- the row delta of a row that counts differently
  weight_of_one : (weight : RowDelta → ℕ) (row : List Cell) → (count_of row before ≡ count_of row after → ⊥)
      → greatest weight (deltas_of row deltas) ≡ weight (record { row = row; before = count_of row before; after = count_of row after })
  weight_of_one weight row moves = ap (greatest weight) (delta.each row) ∙ by (count_of row before == count_of row after) refl
    where
      own : RowDelta
      own = record { row = row; before = count_of row before; after = count_of row after }

      by : (b : Bool) → (count_of row before == count_of row after) ≡ b → greatest weight (cond b [] (own ∷ [])) ≡ weight own
      by true is = absurd (moves (eqb-true (count_of row before) (count_of row after) is))
      by false is = omega arith

  shifted_before : (row : List Cell) → (count_of row before ≡ count_of row after → ⊥) → count_of row before ≤ greatest (λ (s : RowDelta). s.before) (deltas_of row deltas)
  shifted_before row moves = let e = weight_of_one (λ (s : RowDelta). s.before) row moves in omega (arith, e)

  shifted_after : (row : List Cell) → (count_of row after ≡ count_of row before → ⊥) → count_of row after ≤ greatest (λ (s : RowDelta). s.after) (deltas_of row deltas)
  shifted_after row moves = let e = weight_of_one (λ (s : RowDelta). s.after) row (λ same. moves (sym same)) in omega (arith, e)

  first : (row : List Cell) (s : RowDelta) (found : List RowDelta) → filter (λ t. is_row row (projected outputs t.row)) deltas ≡ s ∷ found
      → greatest (λ (t : RowDelta). t.before) (filter (λ t. is_row row (projected outputs t.row)) deltas) ≡ count_of row (map (projected outputs) before)
  first row s found are = greatest_is outputs before after deltas (λ (t : RowDelta). t.before) side_before shifted_before one_before one_after row s found are

  second : (row : List Cell) (s : RowDelta) (found : List RowDelta) → filter (λ t. is_row row (projected outputs t.row)) deltas ≡ s ∷ found
      → greatest (λ (t : RowDelta). t.after) (filter (λ t. is_row row (projected outputs t.row)) deltas) ≡ count_of row (map (projected outputs) after)
  second row s found are = greatest_is outputs after before deltas (λ (t : RowDelta). t.after) side_after shifted_after one_after one_before row s found are

  -- of a row that is the image of no row delta's nothing changes
  unmoved : (row : List Cell) → filter (λ s. is_row row (projected outputs s.row)) deltas ≡ [] → [] ≡ row_delta_between row (count_of row (map (projected outputs) before)) (count_of row (map (projected outputs) after))
  unmoved row none =
      let f = projected outputs in
      let empty : deltas_of row (map (image f) deltas) ≡ [] = deltas_of_images f row deltas ∙ ap (map (image f)) none in
      let sums = sum_of_images f before after deltas delta row in
      let taken : lost row (map (image f) deltas) ≡ 0 = no_weight takes row (map (image f) deltas) empty in
      let added : gained row (map (image f) deltas) ≡ 0 = no_weight adds row (map (image f) deltas) empty in
      none_between row (count_of row (map f before)) (count_of row (map f after)) (omega (arith, sums, taken, added))

  -- ---- where the images of all row deltas differ

  module _ (near : List (List Cell)) (one_near : IsOneToOneOn near outputs) (there : All (λ (s : RowDelta). 0 < count_of s.row near) deltas) where
    alone : (x : List Cell) → 0 < count_of x near → filter (λ s. is_row (projected outputs x) (projected outputs s.row)) deltas ≡ deltas_of x deltas
    alone x some =
        filter_alike (λ s. 0 < count_of s.row near) (λ s. is_row (projected outputs x) (projected outputs s.row)) (λ s. is_row x s.row)
        (λ s also. tests_agree (is_row (projected outputs x) (projected outputs s.row)) (is_row x s.row)
        (λ same. is_row_if x s.row (one_near x s.row some also (same_row (projected outputs x) (projected outputs s.row) same)))
        (λ same. is_row_if (projected outputs x) (projected outputs s.row) (ap (projected outputs) (same_row x s.row same)))) deltas there

    of_image : (x : List Cell) (s : RowDelta) (found : List RowDelta) → 0 < count_of x near → filter (λ t. is_row (projected outputs x) (projected outputs t.row)) deltas ≡ s ∷ found
        → deltas_of (projected outputs x) (map (image (projected outputs)) deltas)
        ≡ row_delta_between (projected outputs x) (count_of (projected outputs x) (map (projected outputs) before)) (count_of (projected outputs x) (map (projected outputs) after))
    of_image x s found some are =
        let f = projected outputs in
        deltas_of_images f (f x) deltas ∙ ap (map (image f)) (alone x some ∙ delta.each x) ∙ image_between f x (count_of x before) (count_of x after)
        ∙ ap (λ n. row_delta_between (f x) n (count_of x after)) (sym (weight_of_one (λ (t : RowDelta). t.before) x moves) ∙ ap (greatest (λ (t : RowDelta). t.before)) (sym (alone x some)) ∙ first (f x) s found are)
        ∙ ap (λ n. row_delta_between (f x) (count_of (f x) (map f before)) n) (sym (weight_of_one (λ (t : RowDelta). t.after) x moves) ∙ ap (greatest (λ (t : RowDelta). t.after)) (sym (alone x some)) ∙ second (f x) s found are)
      where
        moves : count_of x before ≡ count_of x after → ⊥
        moves same =
            let none : [] ≡ s ∷ found = none_between x (count_of x before) (count_of x after) (sym same) ∙ sym (delta.each x) ∙ sym (alone x some) ∙ are in
            cc

    alone_row : (row : List Cell)
        → deltas_of row (map (image (projected outputs)) deltas) ≡ row_delta_between row (count_of row (map (projected outputs) before)) (count_of row (map (projected outputs) after))
    alone_row row = by (filter (λ s. is_row row (projected outputs s.row)) deltas) refl
      where
        by : (found : List RowDelta) → filter (λ s. is_row row (projected outputs s.row)) deltas ≡ found
            → deltas_of row (map (image (projected outputs)) deltas) ≡ row_delta_between row (count_of row (map (projected outputs) before)) (count_of row (map (projected outputs) after))
        by [] are = deltas_of_images (projected outputs) row deltas ∙ ap (map (image (projected outputs))) are ∙ unmoved row are
        by (s ∷ found) are =
            let p : RowDelta → Bool = λ t. is_row row (projected outputs t.row) in
            let N : RowDelta → Type 0 = λ t. 0 < count_of t.row near in
            let passes : is_row row (projected outputs s.row) ≡ true = All-head (λ t. p t ≡ true) s found (subst (All (λ t. p t ≡ true)) are (filter_passes p deltas)) in
            let some : 0 < count_of s.row near = All-head N s found (subst (All N) are (All-filter p N deltas there)) in
            let is : row ≡ projected outputs s.row = same_row row (projected outputs s.row) passes in
            subst (λ r. deltas_of r (map (image (projected outputs)) deltas) ≡ row_delta_between r (count_of r (map (projected outputs) before)) (count_of r (map (projected outputs) after))) (sym is)
            (of_image s.row s found some (subst (λ r. filter (λ t. is_row r (projected outputs t.row)) deltas ≡ s ∷ found) is are))

    pub apart_delta : (given : List RowDelta) → given ≡ map (image (projected outputs)) deltas → IsDelta (counts (map (projected outputs) before)) (counts (map (projected outputs) after)) given
    apart_delta given are = subst (IsDelta (counts (map (projected outputs) before)) (counts (map (projected outputs) after))) (sym are) (record { each = alone_row })

  -- ---- where they are taken together

  most_first : (row : List Cell) → most_before (map (image (projected outputs)) deltas) row ≡ greatest (λ (s : RowDelta). s.before) (filter (λ s. is_row row (projected outputs s.row)) deltas)
  most_first row =
      ap (greatest (λ (s : RowDelta). s.before)) (deltas_of_images (projected outputs) row deltas)
      ∙ greatest_image (projected outputs) (λ (s : RowDelta). s.before) (λ s. refl) (filter (λ s. is_row row (projected outputs s.row)) deltas)

  most_second : (row : List Cell) → most_after (map (image (projected outputs)) deltas) row ≡ greatest (λ (s : RowDelta). s.after) (filter (λ s. is_row row (projected outputs s.row)) deltas)
  most_second row =
      ap (greatest (λ (s : RowDelta). s.after)) (deltas_of_images (projected outputs) row deltas)
      ∙ greatest_image (projected outputs) (λ (s : RowDelta). s.after) (λ s. refl) (filter (λ s. is_row row (projected outputs s.row)) deltas)

  together_row : (row : List Cell) → row_delta_between row (most_before (map (image (projected outputs)) deltas) row) (most_after (map (image (projected outputs)) deltas) row)
      ≡ row_delta_between row (count_of row (map (projected outputs) before)) (count_of row (map (projected outputs) after))
  together_row row =
      ap (λ n. row_delta_between row n (most_after (map (image (projected outputs)) deltas) row)) (most_first row)
      ∙ ap (λ n. row_delta_between row (greatest (λ (s : RowDelta). s.before) (filter (λ s. is_row row (projected outputs s.row)) deltas)) n) (most_second row)
      ∙ by (filter (λ s. is_row row (projected outputs s.row)) deltas) refl
    where
      by : (found : List RowDelta) → filter (λ s. is_row row (projected outputs s.row)) deltas ≡ found
          → row_delta_between row (greatest (λ (s : RowDelta). s.before) found) (greatest (λ (s : RowDelta). s.after) found)
          ≡ row_delta_between row (count_of row (map (projected outputs) before)) (count_of row (map (projected outputs) after))
      by [] are = sym (none_between row 0 0 refl) ∙ unmoved row are
      by (s ∷ found) are =
          ap (λ n. row_delta_between row n (greatest (λ (t : RowDelta). t.after) (s ∷ found))) (ap (greatest (λ (t : RowDelta). t.before)) (sym are) ∙ first row s found are)
          ∙ ap (λ n. row_delta_between row (count_of row (map (projected outputs) before)) n) (ap (greatest (λ (t : RowDelta). t.after)) (sym are) ∙ second row s found are)

  pub together_delta : (given made : List RowDelta) → given ≡ map (image (projected outputs)) deltas → IsDelta (most_before given) (most_after given) made
      → IsDelta (counts (map (projected outputs) before)) (counts (map (projected outputs) after)) made
  together_delta given made are delta_most = record { each = λ row. (subst (λ xs. IsDelta (most_before xs) (most_after xs) made) are delta_most).each row ∙ together_row row }

  -- ---- what the code tests

  above_none : (n : ℕ) → nat_lt 0 n ≡ true → 0 < n
  above_none n is = grind (arith, nat_tests)

  image_weights : (weight : RowDelta → ℕ) → ((s : RowDelta) → weight (image (projected outputs) s) ≡ weight s) → (xs : List RowDelta) → list_all (λ s. nat_lt 0 (weight s)) (map (image (projected outputs)) xs) ≡ true
      → All (λ s. 0 < weight s) xs
  image_weights weight alike [] all = All-nil (λ s. 0 < weight s)
  image_weights weight alike (s ∷ xs) all =
      let split = and_parts (nat_lt 0 (weight (image (projected outputs) s))) (list_all (λ t. nat_lt 0 (weight t)) (map (image (projected outputs)) xs)) all in
      All-cons (λ t. 0 < weight t) s xs (above_none (weight s) (ap (nat_lt 0) (sym (alike s)) ∙ split.0)) (image_weights weight alike xs split.1)

  pub none_come_delta : (given : List RowDelta) → given ≡ map (image (projected outputs)) deltas → list_all (λ (s : RowDelta). nat_lt 0 s.before) given ≡ true
      → IsDelta (counts (map (projected outputs) before)) (counts (map (projected outputs) after)) given
  none_come_delta given are all =
      let some = image_weights (λ (s : RowDelta). s.before) (λ s. refl) deltas (subst (λ xs. list_all (λ (s : RowDelta). nat_lt 0 s.before) xs ≡ true) are all) in
      apart_delta before one_before (λ k d less. subst (λ n. 0 < n) (side_before k d less).0 (some k d less)) given are

  pub none_go_delta : (given : List RowDelta) → given ≡ map (image (projected outputs)) deltas → list_all (λ (s : RowDelta). nat_lt 0 s.after) given ≡ true
      → IsDelta (counts (map (projected outputs) before)) (counts (map (projected outputs) after)) given
  none_go_delta given are all =
      let some = image_weights (λ (s : RowDelta). s.after) (λ s. refl) deltas (subst (λ xs. list_all (λ (s : RowDelta). nat_lt 0 s.after) xs ≡ true) are all) in
      apart_delta after one_after (λ k d less. subst (λ n. 0 < n) (side_after k d less).0 (some k d less)) given are
