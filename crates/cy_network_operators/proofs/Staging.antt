-- The counts after some row deltas.
use Rattle.std.proofs.Common.{◌≡◌, ℕ, ◌+◌, ◌<◌, ◌==◌, Bool, true, false, cond, List, [], ◌∷◌, ◌++◌, refl, sym, ap, subst, ◌∙◌, length, take, drop, get_or, arith, ℤ, pos, ◌+ℤ◌, ◌≤ℤ◌}
use Rattle.std.specs.Prelude.{unsigned_abs, Result, Ok, Err, OnOk, is_err}
use Rattle.std.proofs.lemmas.Bool.{false≢true, eqb-true}
use Rattle.std.proofs.lemmas.Int.{ints}
use Rattle.std.proofs.lemmas.List.{drop_more, take_more, take-append-drop}
use Rattle.std.proofs.lemmas.List.Elements.{filter-append}
use Rattle.cy_values.specs.declared.rows.Cell.{Cell}
use Rattle.cy_values.specs.Same.{is_row}
use Rattle.cy_values.proofs.SameRows.{row_itself}
use Rattle.cy_network_memory.specs.Counts.{Counts, changed, with_count}
use Rattle.cy_network_memory.specs.declared.memory.RowDelta.{RowDelta}
use Rattle.cy_network_operators.specs.Deltas.{IsDelta, counts_after, deltas_of, row_delta_between}
use Rattle.cy_network_operators.proofs.Same.{is_row_back}

pub after_more : (xs : List RowDelta) (s : RowDelta) (before : Counts) → counts_after (xs ++ s ∷ []) before ≡ with_count s.row s.after (counts_after xs before)
after_more [] s before = refl
after_more (x ∷ xs) s before = after_more xs s (with_count x.row x.after before)

-- the count after some row deltas of one row
abbrev pub after_these : List RowDelta → ℕ → ℕ
after_these [] n = n
after_these (s ∷ deltas) n = after_these deltas s.after

pub after_own : (row : List Cell) (xs : List RowDelta) (before : Counts) → counts_after xs before row ≡ after_these (deltas_of row xs) (before row)
after_own row [] before = refl
after_own row (x ∷ xs) before =
    after_own row xs (with_count x.row x.after before)
    ∙ ap (λ b. after_these (deltas_of row xs) (cond b x.after (before row))) (is_row_back row x.row)
    ∙ step (is_row row x.row)
  where
    step : (b : Bool) → after_these (deltas_of row xs) (cond b x.after (before row)) ≡ after_these (cond b (x ∷ deltas_of row xs) (deltas_of row xs)) (before row)
    step true = refl
    step false = refl

-- a delta leads from the one counts to the others
pub after_delta : (before after : Counts) (deltas : List RowDelta) → IsDelta before after deltas → (row : List Cell) → counts_after deltas before row ≡ after row
after_delta before after deltas delta row =
    after_own row deltas before ∙ ap (λ own. after_these own (before row)) (delta.each row) ∙ step (before row == after row) refl
  where
    step : (b : Bool) → (before row == after row) ≡ b → after_these (cond b [] ((record { row = row; before = before row; after = after row }) ∷ [])) (before row) ≡ after row
    step true is = eqb-true (before row) (after row) is
    step false is = refl

alone : (xs ys : List RowDelta) (s : RowDelta) (row : List Cell) (m n : ℕ) (b : Bool) → xs ++ (s ∷ ys) ≡ cond b [] ((record { row = row; before = m; after = n }) ∷ []) → (xs ≡ []) × (m ≡ s.before)
alone [] ys s row m n true is = cc
alone (x ∷ xs) ys s row m n true is = cc
alone [] ys s row m n false is = (refl, cc)
alone (x ∷ []) ys s row m n false is = cc
alone (x ∷ y ∷ xs) ys s row m n false is = cc

-- Of the row deltas of a delta each begins where those before it end.
pub held_at : (before after : Counts) (deltas : List RowDelta) → IsDelta before after deltas → (i : ℕ) (d : RowDelta) → i < length deltas
    → counts_after (take i deltas) before (get_or deltas i d).row ≡ (get_or deltas i d).before
held_at before after deltas delta i d below =
    let s : RowDelta = get_or deltas i d in
    let row : List Cell = s.row in
    let parts : deltas_of row (take i deltas) ++ (s ∷ deltas_of row (drop (i + 1) deltas)) ≡ row_delta_between row (before row) (after row) =
    ap (λ b. deltas_of row (take i deltas) ++ cond b (s ∷ deltas_of row (drop (i + 1) deltas)) (deltas_of row (drop (i + 1) deltas))) (sym (row_itself row))
    ∙ sym (filter-append (λ t. is_row row t.row) (take i deltas) (s ∷ drop (i + 1) deltas))
    ∙ ap (λ rest. deltas_of row (take i deltas ++ rest)) (sym (drop_more deltas i d below))
    ∙ ap (deltas_of row) (take-append-drop i deltas)
    ∙ delta.each row in
    let found = alone (deltas_of row (take i deltas)) (deltas_of row (drop (i + 1) deltas)) s row (before row) (after row) (before row == after row) parts in
    after_own row (take i deltas) before ∙ ap (λ own. after_these own (before row)) found.0 ∙ found.1

-- what a change makes of a count
pub change_fits : (count before after : ℕ) (change : ℤ) → count ≡ before → (pos before +ℤ change) ≡ pos after → pos 0 ≤ℤ (pos count +ℤ change)
change_fits count before after change is makes = subst (λ z. pos 0 ≤ℤ z) (sym (ap (λ n. pos n +ℤ change) is ∙ makes)) (not_negative after)
  where
    not_negative : (n : ℕ) → pos 0 ≤ℤ pos n
    not_negative n = omega (arith, ints)

pub change_makes : (count before after : ℕ) (change : ℤ) → count ≡ before → (pos before +ℤ change) ≡ pos after → changed change count ≡ after
change_makes count before after change is makes = ap unsigned_abs (ap (λ n. pos n +ℤ change) is ∙ makes)

pub held_now : (was after staged : Counts) (deltas : List RowDelta) (i : ℕ) (s : RowDelta) → IsDelta was after deltas → i < length deltas → s ≡ get_or deltas i s
    → staged ≡ counts_after (take i deltas) was → staged s.row ≡ s.before
held_now was after staged deltas i s delta below is so_far =
    ap (λ f. f s.row) so_far
    ∙ ap (λ (t : RowDelta). counts_after (take i deltas) was t.row) is
    ∙ held_at was after deltas delta i s below
    ∙ ap (λ (t : RowDelta). t.before) (sym is)

-- one more row delta is staged
pub staged_next : (was staged new : Counts) (deltas : List RowDelta) (i : ℕ) (s : RowDelta) → i < length deltas → s ≡ get_or deltas i s
    → staged ≡ counts_after (take i deltas) was → new ≡ with_count s.row s.after staged → new ≡ counts_after (take (i + 1) deltas) was
staged_next was staged new deltas i s below is so_far made =
    made
    ∙ ap (with_count s.row s.after) so_far
    ∙ sym (after_more (take i deltas) s was)
    ∙ ap (λ xs. counts_after xs was) (ap (λ t. take i deltas ++ t ∷ []) is ∙ sym (take_more deltas i s below))

pub on_ok : {T E P : Type 0} (r : Result T E) → is_err r ≡ false → OnOk r P → P
on_ok (Ok x) is holds = holds
on_ok (Err e) is holds = absurd (false≢true (sym is))
