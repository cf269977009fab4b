-- The row deltas of a row, among those that are made of others.
use Rattle.std.proofs.Common.{◌≡◌, ℕ, ◌+◌, ◌<◌, ◌≤◌, ◌==◌, Bool, true, false, cond, List, [], ◌∷◌, ◌++◌, refl, sym, ap, subst, ◌∙◌, filter, arith}
use Rattle.std.specs.Prelude.{flat_map}
use Rattle.std.specs.List.{All}
use Rattle.std.proofs.lemmas.List.{append-nil}
use Rattle.std.proofs.lemmas.List.Elements.{All-append, All-cons, All-filter, All-head, All-nil, All-tail, filter-append}
use Rattle.std.proofs.lemmas.List.Concat.{flat_map-append}
use Rattle.std.proofs.lemmas.Bool.Decides.{nat_tests}
use Rattle.std.proofs.lemmas.Bool.{eqb-true}
use Rattle.cy_values.specs.declared.rows.Cell.{Cell}
use Rattle.cy_values.specs.Same.{is_row}
use Rattle.cy_values.proofs.Booleans.{itself_equal}
use Rattle.cy_values.proofs.SameRows.{row_itself}
use Rattle.cy_network_memory.specs.Counts.{Counts, greatest_count}
use Rattle.cy_network_memory.specs.declared.memory.RowDelta.{RowDelta}
use Rattle.cy_network_operators.specs.Deltas.{IsBounded, IsDelta, deltas_of, row_delta_between}

-- Of what is made of several things, a row has only the row deltas that are made of those that pass a test, where the others make none of it.
pub deltas_made : {X : Type 0} (row : List Cell) (p : X → Bool) (h : X → List RowDelta) → ((x : X) → p x ≡ false → deltas_of row (h x) ≡ []) → (xs : List X)
    → deltas_of row (flat_map h xs) ≡ flat_map (λ x. deltas_of row (h x)) (filter p xs)
deltas_made row p h none [] = refl
deltas_made row p h none (x ∷ xs) =
    filter-append (λ s. is_row row s.row) (h x) (flat_map h xs)
    ∙ ap (λ rest. deltas_of row (h x) ++ rest) (deltas_made row p h none xs)
    ∙ step (p x) refl
  where
    rest : List RowDelta
    rest = flat_map (λ y. deltas_of row (h y)) (filter p xs)

    step : (b : Bool) → p x ≡ b → deltas_of row (h x) ++ rest ≡ flat_map (λ y. deltas_of row (h y)) (cond b (x ∷ filter p xs) (filter p xs))
    step true is = refl
    step false is = ap (λ found. found ++ rest) (none x is)

-- the row delta of a row is a row delta of that row alone
pub deltas_between : (row other : List Cell) (before after : ℕ) → deltas_of row (row_delta_between other before after) ≡ cond (is_row row other) (row_delta_between other before after) []
deltas_between row other before after = by_cases (before == after) (is_row row other) refl
  where
    by_cases : (e b : Bool) → is_row row other ≡ b
        → deltas_of row (cond e [] ((record { row = other; before = before; after = after }) ∷ [])) ≡ cond b (cond e [] ((record { row = other; before = before; after = after }) ∷ [])) []
    by_cases true true is = refl
    by_cases true false is = refl
    by_cases false true is = ap (λ b. cond b ((record { row = other; before = before; after = after }) ∷ []) []) is
    by_cases false false is = ap (λ b. cond b ((record { row = other; before = before; after = after }) ∷ []) []) is

-- Where each row's counts become others, which its own counts decide, a delta becomes one of the others.
abbrev pub recounted : (List Cell → ℕ → ℕ) → RowDelta → List RowDelta
recounted count s = row_delta_between s.row (count s.row s.before) (count s.row s.after)

pub recounts : (count : List Cell → ℕ → ℕ) (before after : Counts) (deltas : List RowDelta) → IsDelta before after deltas
    → IsDelta (λ row. count row (before row)) (λ row. count row (after row)) (flat_map (recounted count) deltas)
recounts count before after deltas delta = record {
  each = λ row.
      deltas_made row (λ s. is_row row s.row) (recounted count)
      (λ s other. deltas_between row s.row (count s.row s.before) (count s.row s.after) ∙ ap (λ b. cond b (recounted count s) []) other) deltas
      ∙ ap (flat_map (λ s. deltas_of row (recounted count s))) (delta.each row)
      ∙ own row (before row) (after row) (before row == after row) refl;
}
  where
    own : (row : List Cell) (m n : ℕ) (b : Bool) → (m == n) ≡ b
        → flat_map (λ s. deltas_of row (recounted count s)) (row_delta_between row m n) ≡ row_delta_between row (count row m) (count row n)
    own row m n true is =
        ap (λ b. flat_map (λ s. deltas_of row (recounted count s)) (cond b [] ((record { row = row; before = m; after = n }) ∷ []))) is
        ∙ sym (ap (λ k. row_delta_between row (count row m) (count row k)) (sym (eqb-true m n is)) ∙ ap (λ b. cond b [] ((record { row = row; before = count row m; after = count row m }) ∷ [])) (itself_equal (count row m)))
    own row m n false is =
        ap (λ b. flat_map (λ s. deltas_of row (recounted count s)) (cond b [] ((record { row = row; before = m; after = n }) ∷ []))) is
        ∙ append-nil (deltas_of row (row_delta_between row (count row m) (count row n)))
        ∙ deltas_between row row (count row m) (count row n)
        ∙ ap (λ b. cond b (row_delta_between row (count row m) (count row n)) []) (row_itself row)

-- one more thing at the end
pub made_more : {X Y : Type 0} (h : X → List Y) (xs : List X) (x : X) → flat_map h (xs ++ x ∷ []) ≡ flat_map h xs ++ h x
made_more h xs x = flat_map-append h xs (x ∷ []) ∙ ap (λ rest. flat_map h xs ++ rest) (append-nil (h x))

-- of the rows that pass a test, each counts as it did
pub kept_more : (p : List Cell → Bool) (xs : List RowDelta) (s : RowDelta) → p s.row ≡ false
    → flat_map (recounted (λ row n. cond (p row) n 0)) (xs ++ s ∷ []) ≡ flat_map (recounted (λ row n. cond (p row) n 0)) xs
kept_more p xs s fails =
    made_more (recounted (λ row n. cond (p row) n 0)) xs s
    ∙ ap (λ b. flat_map (recounted (λ row n. cond (p row) n 0)) xs ++ row_delta_between s.row (cond b s.before 0) (cond b s.after 0)) fails
    ∙ append-nil (flat_map (recounted (λ row n. cond (p row) n 0)) xs)

-- two counts of which each row has the same have the same deltas
pub delta_alike : (before after other_before other_after : Counts) (deltas : List RowDelta) → ((row : List Cell) → before row ≡ other_before row) → ((row : List Cell) → after row ≡ other_after row)
    → IsDelta before after deltas → IsDelta other_before other_after deltas
delta_alike before after other_before other_after deltas same_before same_after delta =
    record { each = λ row. delta.each row ∙ ap (λ n. row_delta_between row n (after row)) (same_before row) ∙ ap (λ n. row_delta_between row (other_before row) n) (same_after row) }

-- what holds of the things of each row holds of all
pub all_by_rows : {X : Type 0} (row_of : X → List Cell) (P : X → Type 0) (xs : List X) → ((row : List Cell) → All P (filter (λ x. is_row row (row_of x)) xs)) → All P xs
all_by_rows row_of P [] each = All-nil P
all_by_rows row_of P (x ∷ xs) each =
    All-cons P x xs
    (All-head P x (filter (λ y. is_row (row_of x) (row_of y)) xs)
    (subst (λ b. All P (cond b (x ∷ filter (λ y. is_row (row_of x) (row_of y)) xs) (filter (λ y. is_row (row_of x) (row_of y)) xs))) (row_itself (row_of x)) (each (row_of x))))
    (all_by_rows row_of P xs (λ row. rest row (is_row row (row_of x)) (each row)))
  where
    rest : (row : List Cell) (b : Bool) → All P (cond b (x ∷ filter (λ y. is_row row (row_of y)) xs) (filter (λ y. is_row row (row_of y)) xs)) → All P (filter (λ y. is_row row (row_of y)) xs)
    rest row true all = All-tail P x (filter (λ y. is_row row (row_of y)) xs) all
    rest row false all = all

-- what holds of each row whose count differs, with its two counts, holds of all row deltas of a delta
pub each_row_delta : (P : RowDelta → Type 0) (before after : Counts) (deltas : List RowDelta) → IsDelta before after deltas
    → ((row : List Cell) → (before row == after row) ≡ false → P (record { row = row; before = before row; after = after row })) → All P deltas
each_row_delta P before after deltas delta each =
    all_by_rows (λ s. s.row) P deltas (λ row. subst (All P) (sym (delta.each row)) (of_one row (before row == after row) refl))
  where
    of_one : (row : List Cell) (b : Bool) → (before row == after row) ≡ b → All P (cond b [] ((record { row = row; before = before row; after = after row }) ∷ []))
    of_one row true is = All-nil P
    of_one row false is = All-cons P (record { row = row; before = before row; after = after row }) [] (each row is) (All-nil P)

-- a row whose count differs counts before or after
pub some_count : (m n : ℕ) → (m == n) ≡ false → 0 < m + n
some_count m n differ = grind (arith, nat_tests)

-- each row delta has the two counts of its row
pub row_delta_counts : (before after : Counts) (deltas : List RowDelta) → IsDelta before after deltas → All (λ s. (s.before ≡ before s.row) × (s.after ≡ after s.row)) deltas
row_delta_counts before after deltas delta = each_row_delta (λ s. (s.before ≡ before s.row) × (s.after ≡ after s.row)) before after deltas delta (λ row differ. (refl, refl))

-- what is made of each of several things, where two ways to make it agree
pub made_alike : {X Y : Type 0} (P : X → Type 0) (f g : X → List Y) → ((x : X) → P x → f x ≡ g x) → (xs : List X) → All P xs → flat_map f xs ≡ flat_map g xs
made_alike P f g alike [] each = refl
made_alike P f g alike (x ∷ xs) each =
    ap (λ made. made ++ flat_map f xs) (alike x (All-head P x xs each)) ∙ ap (λ rest. g x ++ rest) (made_alike P f g alike xs (All-tail P x xs each))

-- where no row counts too often before or after, no row delta does
pub deltas_bounded : (before after : Counts) (deltas : List RowDelta) → IsDelta before after deltas → ((row : List Cell) → before row ≤ greatest_count) → ((row : List Cell) → after row ≤ greatest_count)
    → All IsBounded deltas
deltas_bounded before after deltas delta first second = each_row_delta IsBounded before after deltas delta (λ row differ. (first row, second row))

-- and where no row delta does, and no row before, no row does after
pub after_bounded : (before after : Counts) (deltas : List RowDelta) → IsDelta before after deltas → All IsBounded deltas → ((row : List Cell) → before row ≤ greatest_count)
    → (row : List Cell) → after row ≤ greatest_count
after_bounded before after deltas delta bounded first row =
    step (before row == after row) refl (subst (All IsBounded) (delta.each row) (All-filter (λ s. is_row row s.row) IsBounded deltas bounded))
  where
    step : (b : Bool) → (before row == after row) ≡ b → All IsBounded (cond b [] ((record { row = row; before = before row; after = after row }) ∷ [])) → after row ≤ greatest_count
    step true is all = subst (λ n. n ≤ greatest_count) (eqb-true (before row) (after row) is) (first row)
    step false is all = (All-head IsBounded (record { row = row; before = before row; after = after row }) [] all).1

-- what is made of row deltas is bounded where the new counts are
pub between_bounded : (row : List Cell) (m n : ℕ) → m ≤ greatest_count → n ≤ greatest_count → All IsBounded (row_delta_between row m n)
between_bounded row m n first second = by (m == n)
  where
    by : (b : Bool) → All IsBounded (cond b [] ((record { row = row; before = m; after = n }) ∷ []))
    by true = All-nil IsBounded
    by false = All-cons IsBounded (record { row = row; before = m; after = n }) [] (first, second) (All-nil IsBounded)

pub recounted_bounded : (count : List Cell → ℕ → ℕ) (P : RowDelta → Type 0) → ((s : RowDelta) → P s → (count s.row s.before ≤ greatest_count) × (count s.row s.after ≤ greatest_count))
    → (deltas : List RowDelta) → All P deltas → All IsBounded (flat_map (recounted count) deltas)
recounted_bounded count P most [] all = All-nil IsBounded
recounted_bounded count P most (s ∷ deltas) all =
    let one = most s (All-head P s deltas all) in
    All-append IsBounded (recounted count s) (flat_map (recounted count) deltas) (between_bounded s.row (count s.row s.before) (count s.row s.after) one.0 one.1)
    (recounted_bounded count P most deltas (All-tail P s deltas all))

pub any_row_delta : (deltas : List RowDelta) → All (λ (s : RowDelta). Unit {0}) deltas
any_row_delta [] = All-nil (λ (s : RowDelta). Unit {0})
any_row_delta (s ∷ deltas) = All-cons (λ (s : RowDelta). Unit {0}) s deltas tt (any_row_delta deltas)

-- of bounded row deltas, those of the rows that pass a test are
pub kept_bounded : (p : List Cell → Bool) (deltas kept : List RowDelta) → kept ≡ flat_map (recounted (λ row n. cond (p row) n 0)) deltas → All IsBounded deltas → All IsBounded kept
kept_bounded p deltas kept is all =
    subst (All IsBounded) (sym is)
    (recounted_bounded (λ row n. cond (p row) n 0) IsBounded (λ s bounded. (most (p s.row) s.before bounded.0, most (p s.row) s.after bounded.1)) deltas all)
  where
    most : (b : Bool) (n : ℕ) → n ≤ greatest_count → cond b n 0 ≤ greatest_count
    most true n less = less
    most false n less = omega (arith, less)

-- the row of each row delta counts before or after
pub row_delta_there : (before after : Counts) (deltas : List RowDelta) → IsDelta before after deltas → All (λ s. 0 < before s.row + after s.row) deltas
row_delta_there before after deltas delta = each_row_delta (λ s. 0 < before s.row + after s.row) before after deltas delta (λ row differ. some_count (before row) (after row) differ)
