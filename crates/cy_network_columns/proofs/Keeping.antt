-- Rows, column by column.
use Rattle.std.proofs.Common.{◌≡◌, ◌≢◌, ℕ, zero, suc, ◌+◌, ◌-◌, ◌<◌, ◌≤◌, Bool, true, false, cond, ◌&&◌, List, [], ◌∷◌, ◌++◌, length, map, take, Option, None, Some, IfSome, IsSome, option_map, slice_get, slice_set, refl, sym, ap, subst, ◌∙◌, nat_eq, nat_lt, arith}
use Rattle.std.specs.List.{cons_option, list_all, swap_remove}
use Rattle.std.specs.Option.{option_and_then}
use Rattle.std.proofs.lemmas.Bool.{eqb-true, ltb-true, ltb-false, eqb-false, lt-ltb, and_from, eq-eqb, le-ltb}
use Rattle.std.proofs.lemmas.Bool.Decides.{nat_tests}
use Rattle.std.proofs.lemmas.List.{length-append, length-set, length-take-le}
use Rattle.std.proofs.lemmas.Option.{slice_get-map, slice_get_past, slice_get_within}
use Rattle.cy_values.specs.declared.rows.Cell.{Cell}
use Rattle.cy_values.proofs.Booleans.{both_first, both_second, itself_equal}
use Rattle.cy_network_columns.specs.Hashes.{IsFilled}
use Rattle.cy_network_columns.specs.Rows.{are_alike}
use Rattle.cy_network_columns.specs.internal.Columns.{AreKept, EndsOnce, FilledTo, cell_at, cell_in, next_in, removed, row_in, rows_below}
use Rattle.cy_network_columns.proofs.Elements.{filled, put_last, same_elements, set_at, shorter}

abbrev Column : Type 0
Column = List (Option Cell)

-- past a column in which a row has no cell it has none
none_left : (column : Column) (columns : List Column) (number : ℕ) → cell_in number column ≡ None → EndsOnce (column ∷ columns) number → (place : ℕ) → cell_at (column ∷ columns) place number ≡ None
none_left column columns number none once zero = none
none_left column columns number none once (suc place) = once place (none_left column columns number none once place)

no_row : (columns : List Column) (number : ℕ) → ((place : ℕ) → cell_at columns place number ≡ None) → row_in columns number ≡ []
no_row [] number none = refl
no_row (column ∷ columns) number none =
    ap (λ o. cons_option o (row_in columns number)) (none 0) ∙ no_row columns number (λ place. none (suc place))

-- the cells of a row, by their columns
pub cells_row : (columns : List Column) (number : ℕ) → EndsOnce columns number → (place : ℕ) → slice_get (row_in columns number) place ≡ cell_at columns place number
cells_row [] number once place = refl
cells_row (column ∷ columns) number once place = by (cells_row columns number (λ p none. once (suc p) none)) (cell_in number column) refl place
  where
    by : ((p : ℕ) → slice_get (row_in columns number) p ≡ cell_at columns p number) → (o : Option Cell) → cell_in number column ≡ o
        → (place : ℕ) → slice_get (cons_option o (row_in columns number)) place ≡ cell_at (column ∷ columns) place number
    by rest None e place =
        ap (λ (xs : List Cell). slice_get xs place) (no_row columns number (λ p. none_left column columns number e once (suc p)))
        ∙ sym (none_left column columns number e once place)
    by rest (Some x) e zero = sym e
    by rest (Some x) e (suc place) = rest place

-- rows with the same cells
pub row_same_cells : (columns columns' : List Column) (number number' : ℕ) → EndsOnce columns number → EndsOnce columns' number'
    → ((place : ℕ) → cell_at columns place number ≡ cell_at columns' place number') → row_in columns number ≡ row_in columns' number'
row_same_cells columns columns' number number' once once' same =
    same_elements _ _ (λ place. cells_row columns number once place ∙ same place ∙ sym (cells_row columns' number' once' place))

pub row_is : (columns : List Column) (number : ℕ) (row : List Cell) → EndsOnce columns number → ((place : ℕ) → cell_at columns place number ≡ slice_get row place) → row_in columns number ≡ row
row_is columns number row once same = same_elements _ _ (λ place. cells_row columns number once place ∙ same place)

-- the rows by their numbers
pub rows_long : (columns : List Column) (n : ℕ) → length (rows_below columns n) ≡ n
rows_long columns zero = refl
rows_long columns (suc n) = length-append (rows_below columns n) (row_in columns n ∷ []) ∙ omega (arith, rows_long columns n)

pub rows_get : (columns : List Column) (n i : ℕ) → slice_get (rows_below columns n) i ≡ cond (nat_lt i n) (Some (row_in columns i)) None
rows_get columns zero i = ap (λ b. cond b (Some (row_in columns i)) None) (sym (under i))
  where
    under : (i : ℕ) → nat_lt i 0 ≡ false
    under i = grind (arith, nat_tests)
rows_get columns (suc n) i =
    put_last (rows_below columns n) (row_in columns n) i
    ∙ ap (λ (m : ℕ). cond (nat_eq m i) (Some (row_in columns n)) (slice_get (rows_below columns n) i)) (rows_long columns n)
    ∙ ap (cond (nat_eq n i) (Some (row_in columns n))) (rows_get columns n i) ∙ by (nat_eq n i) refl (nat_lt i n) refl (nat_lt i (suc n)) refl
  where
    by : (b : Bool) → nat_eq n i ≡ b → (c : Bool) → nat_lt i n ≡ c → (d : Bool) → nat_lt i (suc n) ≡ d
        → cond b (Some (row_in columns n)) (cond c (Some (row_in columns i)) None) ≡ cond d (Some (row_in columns i)) None
    by true e c f true g = ap (λ (k : ℕ). Some (row_in columns k)) (eqb-true n i e)
    by true e c f false g = absurd (omega (arith, eqb-true n i e, ltb-false i (suc n) g))
    by false e true f true g = refl
    by false e true f false g = absurd (omega (arith, ltb-true i n f, ltb-false i (suc n) g))
    by false e false f true g = absurd (eqb-false n i e (omega (arith, ltb-false i n f, ltb-true i (suc n) g)))
    by false e false f false g = refl

pub rows_same : (columns columns' : List Column) (n : ℕ) → ((i : ℕ) → i < n → row_in columns' i ≡ row_in columns i) → rows_below columns' n ≡ rows_below columns n
rows_same columns columns' zero same = refl
rows_same columns columns' (suc n) same =
    ap (λ (rs : List (List Cell)). rs ++ row_in columns' n ∷ []) (rows_same columns columns' n (λ i less. same i (omega (arith, less))))
    ∙ ap (λ (r : List Cell). rows_below columns n ++ r ∷ []) (same n (omega arith))

either : {Y : Type 0} (b : Bool) (y : Y) → y ≡ cond b y y
either true y = refl
either false y = refl

-- the first elements of a list
pub take_get : {X : Type 0} (n : ℕ) (xs : List X) (i : ℕ) → slice_get (take n xs) i ≡ cond (nat_lt i n) (slice_get xs i) None
take_get zero xs i = past (nat_lt i 0) refl
  where
    past : (b : Bool) → nat_lt i 0 ≡ b → slice_get (take 0 xs) i ≡ cond b (slice_get xs i) None
    past true e = absurd (omega (arith, ltb-true i 0 e))
    past false e = nothing xs
      where
        nothing : {Y : Type 0} (ys : List Y) → slice_get (take 0 ys) i ≡ None
        nothing [] = refl
        nothing (y ∷ ys) = refl
take_get (suc n) [] i = either (nat_lt i (suc n)) None
take_get (suc n) (x ∷ xs) zero = ap (λ b. cond b (Some x) None) (sym (first n))
  where
    first : (n : ℕ) → nat_lt 0 (suc n) ≡ true
    first n = grind (arith, nat_tests)
take_get (suc n) (x ∷ xs) (suc i) = take_get n xs i ∙ ap (λ b. cond b (slice_get xs i) None) (sym (next i n))
  where
    next : (i n : ℕ) → nat_lt (suc i) (suc n) ≡ nat_lt i n
    next i n = grind (arith, nat_tests)

-- a column's cells once they are trimmed
pub trimmed : (n : ℕ) (column : Column) (i : ℕ) → cell_in i (take n column) ≡ cond (nat_lt i n) (cell_in i column) None
trimmed n column i = ap (option_and_then (λ c. c)) (take_get n column i) ∙ by (nat_lt i n)
  where
    by : (b : Bool) → option_and_then (λ c. c) (cond b (slice_get column i) None) ≡ cond b (cell_in i column) None
    by true = refl
    by false = refl

pub mapped_cell : (f : Column → Column) (columns : List Column) (place i : ℕ) → cell_at (map f columns) place i ≡ option_and_then (λ column. cell_in i (f column)) (slice_get columns place)
mapped_cell f columns place i = ap (option_and_then (cell_in i)) (slice_get-map f columns place) ∙ by (slice_get columns place)
  where
    by : (o : Option Column) → option_and_then (cell_in i) (option_map f o) ≡ option_and_then (λ column. cell_in i (f column)) o
    by None = refl
    by (Some c) = refl

pub trimmed_cell : (n : ℕ) (columns : List Column) (place i : ℕ) → cell_at (map (take n) columns) place i ≡ cond (nat_lt i n) (cell_at columns place i) None
trimmed_cell n columns place i = mapped_cell (take n) columns place i ∙ by (slice_get columns place) (nat_lt i n) refl
  where
    by : (o : Option Column) (b : Bool) → nat_lt i n ≡ b → option_and_then (λ column. cell_in i (take n column)) o ≡ cond b (option_and_then (cell_in i) o) None
    by None true e = refl
    by None false e = refl
    by (Some c) b e = trimmed n c i ∙ ap (λ d. cond d (cell_in i c) None) e

pub trimmed_long : (n : ℕ) (columns : List Column) → ((place : ℕ) → IfSome (slice_get columns place) (λ column. (n ≤ length column) × (length column ≤ n + 1)))
    → (place : ℕ) → IfSome (slice_get (map (take n) columns) place) (λ column. length column ≡ n)
trimmed_long n columns long place = subst (λ o. IfSome o (λ column. length column ≡ n)) (sym (slice_get-map (take n) columns place)) (by (slice_get columns place) (long place))
  where
    by : (o : Option Column) → IfSome o (λ column. (n ≤ length column) × (length column ≤ n + 1)) → IfSome (option_map (take n) o) (λ column. length column ≡ n)
    by None l = tt
    by (Some c) l = length-take-le n c l.0

-- ---- a row that was written

module _ (columns filled_columns : List Column) (cells : List Cell) (count k : ℕ) (long : (place : ℕ) → IfSome (slice_get columns place) (λ column. length column ≡ count))
    (fill : FilledTo k cells columns filled_columns) where
  -- a column after its cell was added
  added : (column : Column) (cell : Option Cell) (i : ℕ) → length column ≡ count → cell_in i (column ++ cell ∷ []) ≡ cond (nat_eq count i) cell (cell_in i column)
  added column cell i e =
      ap (option_and_then (λ c. c)) (put_last column cell i ∙ ap (λ (n : ℕ). cond (nat_eq n i) (Some cell) (slice_get column i)) e) ∙ by (nat_eq count i)
    where
      by : (b : Bool) → option_and_then (λ c. c) (cond b (Some cell) (slice_get column i)) ≡ cond b cell (cell_in i column)
      by true = refl
      by false = refl

  past : (column : Column) (i : ℕ) → length column ≤ i → cell_in i column ≡ None
  past column i le = ap (option_and_then (λ c. c)) (slice_get_past column i le)

  -- the cells of the rows that were there
  pub kept_cell : (place i : ℕ) → nat_eq count i ≡ false → cell_at filled_columns place i ≡ cell_at columns place i
  kept_cell place i apart = by (nat_lt place k) refl
    where
      by : (b : Bool) → nat_lt place k ≡ b → cell_at filled_columns place i ≡ cell_at columns place i
      by false e = ap (option_and_then (cell_in i)) (fill.left place (ltb-false place k e))
      by true e = ap (option_and_then (cell_in i)) (fill.filled place (ltb-true place k e)) ∙ each (slice_get columns place) (long place)
        where
          each : (o : Option Column) → IfSome o (λ column. length column ≡ count)
              → option_and_then (cell_in i) (option_map (λ column. column ++ slice_get cells place ∷ []) o) ≡ option_and_then (cell_in i) o
          each None l = refl
          each (Some column) l = added column (slice_get cells place) i l ∙ ap (λ b. cond b (slice_get cells place) (cell_in i column)) apart

  -- those of the next row
  pub next_cell : (place : ℕ) → cell_at filled_columns place count ≡ cond (nat_lt place k) (option_and_then (λ column. slice_get cells place) (slice_get columns place)) None
  next_cell place = by (nat_lt place k) refl
    where
      by : (b : Bool) → nat_lt place k ≡ b → cell_at filled_columns place count ≡ cond b (option_and_then (λ column. slice_get cells place) (slice_get columns place)) None
      by false e = ap (option_and_then (cell_in count)) (fill.left place (ltb-false place k e)) ∙ each (slice_get columns place) (long place)
        where
          each : (o : Option Column) → IfSome o (λ column. length column ≡ count) → option_and_then (cell_in count) o ≡ None
          each None l = refl
          each (Some column) l = past column count (omega (arith, l))
      by true e = ap (option_and_then (cell_in count)) (fill.filled place (ltb-true place k e)) ∙ each (slice_get columns place) (long place)
        where
          each : (o : Option Column) → IfSome o (λ column. length column ≡ count)
              → option_and_then (cell_in count) (option_map (λ column. column ++ slice_get cells place ∷ []) o) ≡ option_and_then (λ column. slice_get cells place) o
          each None l = refl
          each (Some column) l =
              added column (slice_get cells place) count l ∙ ap (λ b. cond b (slice_get cells place) (cell_in count column)) (itself_equal count)

  none_past : {X : Type 0} (xs : List X) (i : ℕ) → slice_get xs i ≡ None → slice_get xs (suc i) ≡ None
  none_past [] i none = refl
  none_past (x ∷ xs) zero none = cc
  none_past (x ∷ xs) (suc i) none = none_past xs i none

  next_ends : EndsOnce filled_columns count
  next_ends place none = next_cell (suc place) ∙ by (nat_lt (suc place) k) refl (slice_get columns place) refl (slice_get cells place) refl
    where
      here : nat_lt (suc place) k ≡ true → option_and_then (λ (column : Column). slice_get cells place) (slice_get columns place) ≡ None
      here e = sym (ap (λ b. cond b (option_and_then (λ (column : Column). slice_get cells place) (slice_get columns place)) None) (lt-ltb place k (omega (arith, ltb-true (suc place) k e))))
          ∙ sym (next_cell place) ∙ none

      off : (o : Option Column) (x : Option Cell) → x ≡ None → option_and_then (λ (column : Column). x) o ≡ None
      off None x e = refl
      off (Some c) x e = e

      by : (b : Bool) → nat_lt (suc place) k ≡ b → (o : Option Column) → slice_get columns place ≡ o → (p : Option Cell) → slice_get cells place ≡ p
          → cond b (option_and_then (λ column. slice_get cells (suc place)) (slice_get columns (suc place))) None ≡ None
      by false e o f p g = refl
      by true e None f p g = ap (option_and_then (λ (column : Column). slice_get cells (suc place))) (none_past columns place f)
      by true e (Some c) f None g = off (slice_get columns (suc place)) (slice_get cells (suc place)) (none_past cells place g)
      by true e (Some c) f (Some x) g =
          some_none x (sym (ap (option_and_then (λ (column : Column). slice_get cells place)) f ∙ g) ∙ here e)
        where
          some_none : {P : Type 0} (x : Cell) → Some x ≡ None → P
          some_none x e = cc

  pub ends : ((i : ℕ) → EndsOnce columns i) → (i : ℕ) → EndsOnce filled_columns i
  ends once i = by (nat_eq count i) refl
    where
      by : (b : Bool) → nat_eq count i ≡ b → EndsOnce filled_columns i
      by true e = subst (EndsOnce filled_columns) (eqb-true count i e) next_ends
      by false e = λ place none. kept_cell (suc place) i e ∙ once i place (sym (kept_cell place i e) ∙ none)

  pub longer : (place : ℕ) → IfSome (slice_get filled_columns place) (λ column. (count ≤ length column) × (length column ≤ count + 1))
  longer place = by (nat_lt place k) refl
    where
      by : (b : Bool) → nat_lt place k ≡ b → IfSome (slice_get filled_columns place) (λ column. (count ≤ length column) × (length column ≤ count + 1))
      by false e = subst (λ o. IfSome o (λ column. (count ≤ length column) × (length column ≤ count + 1))) (sym (fill.left place (ltb-false place k e))) (each (slice_get columns place) (long place))
        where
          each : (o : Option Column) → IfSome o (λ column. length column ≡ count) → IfSome o (λ column. (count ≤ length column) × (length column ≤ count + 1))
          each None l = tt
          each (Some column) l = (omega (arith, l), omega (arith, l))
      by true e =
          subst (λ o. IfSome o (λ column. (count ≤ length column) × (length column ≤ count + 1))) (sym (fill.filled place (ltb-true place k e))) (each (slice_get columns place) (long place))
        where
          each : (o : Option Column) → IfSome o (λ column. length column ≡ count)
              → IfSome (option_map (λ column. column ++ slice_get cells place ∷ []) o) (λ column. (count ≤ length column) × (length column ≤ count + 1))
          each None l = tt
          each (Some column) l =
              (omega (arith, l, length-append column (slice_get cells place ∷ [])), omega (arith, l, length-append column (slice_get cells place ∷ [])))

  pub rows_stay : ((i : ℕ) → EndsOnce columns i) → rows_below filled_columns count ≡ rows_below columns count
  rows_stay once = rows_same columns filled_columns count (λ i less.
      row_same_cells filled_columns columns i i (ends once i) (once i) (λ place. kept_cell place i (apart i less)))
    where
      apart : (i : ℕ) → i < count → nat_eq count i ≡ false
      apart i less = grind (arith, nat_tests)

  -- all columns were reached
  module _ (all : length columns ≤ k) (wide : length cells ≤ length columns) where
    next_row : row_in filled_columns count ≡ cells
    next_row = row_is filled_columns count cells next_ends (λ place. next_cell place ∙ by place (nat_lt place k) refl (slice_get columns place) refl)
      where
        by : (place : ℕ) (b : Bool) → nat_lt place k ≡ b → (o : Option Column) → slice_get columns place ≡ o
            → cond b (option_and_then (λ column. slice_get cells place) o) None ≡ slice_get cells place
        by place true e (Some c) f = refl
        by place true e None f = sym (slice_get_past cells place (omega (arith, wide, out columns place f)))
          where
            out : (xs : List Column) (i : ℕ) → slice_get xs i ≡ None → length xs ≤ i
            out [] i e = omega arith
            out (x ∷ xs) zero e = cc
            out (x ∷ xs) (suc i) e = omega (arith, out xs i e)
        by place false e o f = sym (slice_get_past cells place (omega (arith, wide, all, ltb-false place k e)))

    full : list_all (λ column. nat_eq (length column) (count + 1)) filled_columns ≡ true
    full = every filled_columns (λ place. reached place (nat_lt place k) refl)
      where
        every : (cs : List Column) → ((place : ℕ) → IfSome (slice_get cs place) (λ column. nat_eq (length column) (count + 1) ≡ true)) → list_all (λ column. nat_eq (length column) (count + 1)) cs ≡ true
        every [] each = refl
        every (c ∷ cs) each = and_from _ _ (each 0) (every cs (λ place. each (suc place)))

        reached : (place : ℕ) (b : Bool) → nat_lt place k ≡ b → IfSome (slice_get filled_columns place) (λ column. nat_eq (length column) (count + 1) ≡ true)
        reached place false e =
            subst (λ o. IfSome o (λ column. nat_eq (length column) (count + 1) ≡ true))
            (sym (fill.left place (ltb-false place k e) ∙ slice_get_past columns place (omega (arith, all, ltb-false place k e)))) tt
        reached place true e =
            subst (λ o. IfSome o (λ column. nat_eq (length column) (count + 1) ≡ true)) (sym (fill.filled place (ltb-true place k e))) (each (slice_get columns place) (long place))
          where
            each : (o : Option Column) → IfSome o (λ column. length column ≡ count)
                → IfSome (option_map (λ column. column ++ slice_get cells place ∷ []) o) (λ column. nat_eq (length column) (count + 1) ≡ true)
            each None l = tt
            each (Some column) l = eq-eqb _ _ (omega (arith, l, length-append column (slice_get cells place ∷ [])))

    pub next_is : next_in filled_columns count ≡ Some cells
    next_is = ap (λ b. cond b (Some (row_in filled_columns count)) None) full ∙ ap Some next_row

-- ---- a row that went

-- a number that is there goes
really : (number count : ℕ) (column : Column) → number < count → count ≤ length column → removed number count column ≡ swap_remove (take count column) number None
really number count column inside long =
    ap (λ b. cond b (swap_remove (take count column) number None) (take count column)) (lt-ltb number (length (take count column)) (omega (arith, inside, length-take-le count column long)))

-- the number that a row had before
abbrev pub moved : ℕ → ℕ → ℕ → ℕ
moved number count i = cond (nat_eq number i) (count - 1) i

moved_inside : (number count i : ℕ) → number < count → i + 1 < count → moved number count i < count
moved_inside number count i inside less = by (nat_eq number i)
  where
    by : (b : Bool) → cond b (count - 1) i < count
    by true = omega (arith, inside)
    by false = omega (arith, less)

removed_cell : (number count i : ℕ) (column : Column) → number < count → count ≤ length column
    → cell_in i (removed number count column) ≡ cond (nat_lt (i + 1) count) (cell_in (moved number count i) column) None
removed_cell number count i column inside long =
    ap (cell_in i) (really number count column inside long)
    ∙ ap (option_and_then (λ c. c)) (filled (take count column) number None (omega (arith, inside, taken)) i)
    ∙ ap (λ (n : ℕ). option_and_then (λ c. c) (cond (nat_lt (i + 1) n) (slice_get (take count column) (cond (nat_eq number i) (n - 1) i)) None)) taken
    ∙ by (nat_lt (i + 1) count) refl
  where
    taken : length (take count column) ≡ count
    taken = length-take-le count column long

    by : (b : Bool) → nat_lt (i + 1) count ≡ b
        → option_and_then (λ c. c) (cond b (slice_get (take count column) (moved number count i)) None) ≡ cond b (cell_in (moved number count i) column) None
    by true e =
        trimmed count column (moved number count i)
        ∙ ap (λ b. cond b (cell_in (moved number count i) column) None) (lt-ltb (moved number count i) count (moved_inside number count i inside (ltb-true (i + 1) count e)))
    by false e = refl

module _ (columns : List Column) (number count : ℕ) (kept : AreKept columns count) (inside : number < count) where
  removed_at : (place i : ℕ) → cell_at (map (removed number count) columns) place i ≡ cond (nat_lt (i + 1) count) (cell_at columns place (moved number count i)) None
  removed_at place i = mapped_cell (removed number count) columns place i ∙ each (slice_get columns place) (kept.long place)
    where
      each : (o : Option Column) → IfSome o (λ column. (count ≤ length column) × (length column ≤ count + 1))
          → option_and_then (λ column. cell_in i (removed number count column)) o ≡ cond (nat_lt (i + 1) count) (option_and_then (cell_in (moved number count i)) o) None
      each None l = either (nat_lt (i + 1) count) None
      each (Some column) l = removed_cell number count i column inside l.0

  removed_ends : (i : ℕ) → EndsOnce (map (removed number count) columns) i
  removed_ends i place none = removed_at (suc place) i ∙ by (nat_lt (i + 1) count) refl
    where
      by : (b : Bool) → nat_lt (i + 1) count ≡ b → cond b (cell_at columns (suc place) (moved number count i)) None ≡ None
      by false e = refl
      by true e = kept.once (moved number count i) place (sym (ap (λ b. cond b (cell_at columns place (moved number count i)) None) e) ∙ sym (removed_at place i) ∙ none)

  pub still_kept : AreKept (map (removed number count) columns) (count - 1)
  still_kept = record {
    long = λ place. subst (λ o. IfSome o (λ column. (count - 1 ≤ length column) × (length column ≤ count - 1 + 1))) (sym (slice_get-map (removed number count) columns place)) (each (slice_get columns place) (kept.long place));
    once = removed_ends;
  }
    where
      each : (o : Option Column) → IfSome o (λ column. (count ≤ length column) × (length column ≤ count + 1))
          → IfSome (option_map (removed number count) o) (λ column. (count - 1 ≤ length column) × (length column ≤ count - 1 + 1))
      each None l = tt
      each (Some column) l =
          let taken : length (take count column) ≡ count = length-take-le count column l.0 in
          let less : length (removed number count column) ≡ length (take count column) - 1 = ap length (really number count column inside l.0) ∙ shorter (take count column) number None (omega (arith, inside, taken)) in
          (omega (arith, less, taken, inside), omega (arith, less, taken, inside))

  pub row_moved : (i : ℕ) → i + 1 < count → row_in (map (removed number count) columns) i ≡ row_in columns (moved number count i)
  row_moved i less =
      row_same_cells (map (removed number count) columns) columns i (moved number count i) (removed_ends i) (kept.once (moved number count i))
      (λ place. removed_at place i ∙ ap (λ b. cond b (cell_at columns place (moved number count i)) None) (lt-ltb (i + 1) count less))

  pub row_gone : IsFilled number (rows_below columns count) (rows_below (map (removed number count) columns) (count - 1))
  row_gone i =
      rows_get (map (removed number count) columns) (count - 1) i ∙ by (nat_lt i (count - 1)) refl (nat_lt (i + 1) count) refl
      ∙ ap (λ (n : ℕ). cond (nat_lt (i + 1) n) (slice_get (rows_below columns count) (cond (nat_eq number i) (n - 1) i)) None) (sym (rows_long columns count))
    where
      by : (b : Bool) → nat_lt i (count - 1) ≡ b → (c : Bool) → nat_lt (i + 1) count ≡ c
          → cond b (Some (row_in (map (removed number count) columns) i)) None ≡ cond c (slice_get (rows_below columns count) (moved number count i)) None
      by true e true f =
          ap Some (row_moved i (ltb-true (i + 1) count f))
          ∙ sym (rows_get columns count (moved number count i)
          ∙ ap (λ b. cond b (Some (row_in columns (moved number count i))) None) (lt-ltb (moved number count i) count (moved_inside number count i inside (ltb-true (i + 1) count f))))
      by true e false f = absurd (omega (arith, ltb-true i (count - 1) e, ltb-false (i + 1) count f))
      by false e true f = absurd (omega (arith, ltb-false i (count - 1) e, ltb-true (i + 1) count f))
      by false e false f = refl

-- ---- a row that is kept

kept_all : (columns : List Column) (n : ℕ) → list_all (λ column. nat_eq (length column) n) columns ≡ true → (place : ℕ) → IfSome (slice_get columns place) (λ column. length column ≡ n)
kept_all [] n all place = tt
kept_all (c ∷ cs) n all zero = eqb-true (length c) n (both_first (nat_eq (length c) n) (list_all (λ column. nat_eq (length column) n) cs) all)
kept_all (c ∷ cs) n all (suc place) = kept_all cs n (both_second (nat_eq (length c) n) (list_all (λ column. nat_eq (length column) n) cs) all) place

-- all columns hold the next row where there is one
pub is_written : (columns : List Column) (count : ℕ) (row : List Cell) → next_in columns count ≡ Some row → (list_all (λ column. nat_eq (length column) (count + 1)) columns ≡ true) × (row_in columns count ≡ row)
is_written columns count row is = by (list_all (λ column. nat_eq (length column) (count + 1)) columns) refl is
  where
    same_some : (x y : List Cell) → Some x ≡ Some y → x ≡ y
    same_some x y e = cc

    by : (b : Bool) → list_all (λ column. nat_eq (length column) (count + 1)) columns ≡ b → cond b (Some (row_in columns count)) None ≡ Some row
        → (list_all (λ column. nat_eq (length column) (count + 1)) columns ≡ true) × (row_in columns count ≡ row)
    by true e is = (e, same_some _ _ is)
    by false e is = cc

pub kept_more : (columns : List Column) (count : ℕ) → AreKept columns count → list_all (λ column. nat_eq (length column) (count + 1)) columns ≡ true → AreKept columns (count + 1)
kept_more columns count kept all = record {
  long = λ place. each (slice_get columns place) (kept_all columns (count + 1) all place);
  once = kept.once;
}
  where
    each : (o : Option Column) → IfSome o (λ column. length column ≡ count + 1) → IfSome o (λ column. (count + 1 ≤ length column) × (length column ≤ count + 1 + 1))
    each None l = tt
    each (Some column) l = (omega (arith, l), omega (arith, l))

-- ---- columns that are trimmed, and more of them

trimmed_once : (n : ℕ) (columns : List Column) → ((i : ℕ) → EndsOnce columns i) → (i : ℕ) → EndsOnce (map (take n) columns) i
trimmed_once n columns once i place none = trimmed_cell n columns (suc place) i ∙ by (nat_lt i n) refl
  where
    by : (b : Bool) → nat_lt i n ≡ b → cond b (cell_at columns (suc place) i) None ≡ None
    by false e = refl
    by true e = once i place (sym (ap (λ b. cond b (cell_at columns place i) None) e) ∙ sym (trimmed_cell n columns place i) ∙ none)

same_once : (columns columns' : List Column) → ((place i : ℕ) → cell_at columns' place i ≡ cell_at columns place i) → ((i : ℕ) → EndsOnce columns i) → (i : ℕ) → EndsOnce columns' i
same_once columns columns' same once i place none = same (suc place) i ∙ once i place (sym (same place i) ∙ none)

-- columns that were trimmed, and to which others were added, hold the rows as before
module _ (columns wider : List Column) (count : ℕ) (kept : AreKept columns count) (long : (place : ℕ) → IfSome (slice_get wider place) (λ column. length column ≡ count))
    (cells : (place i : ℕ) → cell_at wider place i ≡ cell_at (map (take count) columns) place i) where
  pub wider_once : (i : ℕ) → EndsOnce wider i
  wider_once = same_once (map (take count) columns) wider cells (trimmed_once count columns kept.once)

  pub wider_rows : rows_below wider count ≡ rows_below columns count
  wider_rows = rows_same columns wider count (λ i less.
      row_same_cells wider columns i i (wider_once i) (kept.once i)
      (λ place. cells place i ∙ trimmed_cell count columns place i ∙ ap (λ b. cond b (cell_at columns place i) None) (lt-ltb i count less)))

  pub wider_kept : AreKept wider count
  wider_kept = record {
    long = λ place. each (slice_get wider place) (long place);
    once = wider_once;
  }
    where
      each : (o : Option Column) → IfSome o (λ column. length column ≡ count) → IfSome o (λ column. (count ≤ length column) × (length column ≤ count + 1))
      each None l = tt
      each (Some column) l = (omega (arith, l), omega (arith, l))

  pub put_kept : (new : List Column) (row : List Cell) (k : ℕ) → FilledTo k row wider new → AreKept new count
  put_kept new row k fill = record { long = longer wider new row count k long fill; once = ends wider new row count k long fill wider_once }

  pub put_rows : (new : List Column) (row : List Cell) (k : ℕ) → FilledTo k row wider new → rows_below new count ≡ rows_below columns count
  put_rows new row k fill = rows_stay wider new row count k long fill wider_once ∙ wider_rows

pub grown_cell : (columns : List Column) (column : Column) → ((i : ℕ) → cell_in i column ≡ None) → (place i : ℕ) → cell_at (columns ++ column ∷ []) place i ≡ cell_at columns place i
grown_cell columns column none place i = ap (option_and_then (cell_in i)) (put_last columns column place) ∙ by (nat_eq (length columns) place) refl
  where
    by : (b : Bool) → nat_eq (length columns) place ≡ b → option_and_then (cell_in i) (cond b (Some column) (slice_get columns place)) ≡ cell_at columns place i
    by false e = refl
    by true e = none i ∙ sym (ap (option_and_then (cell_in i)) (slice_get_past columns place (omega (arith, eqb-true (length columns) place e))))

-- ---- one column after another is filled

pub fill_none : (row : List Cell) (columns : List Column) → FilledTo 0 row columns columns
fill_none row columns = record { as_many = refl; filled = λ place less. absurd (omega (arith, less)); left = λ place le. refl }

pub fill_step : (k : ℕ) (row : List Cell) (old new : List Column) (column : Column) → FilledTo k row old new → slice_get new k ≡ Some column
    → FilledTo (k + 1) row old (slice_set new k (column ++ slice_get row k ∷ []))
fill_step k row old new column fill there = record {
  as_many = length-set new k (column ++ slice_get row k ∷ []) ∙ fill.as_many;
  filled = λ place less. set_at new k (column ++ slice_get row k ∷ []) place inside ∙ done place less (nat_eq k place) refl;
  left = λ place le. set_at new k (column ++ slice_get row k ∷ []) place inside ∙ rest place le (nat_eq k place) refl;
}
  where
    inside : k < length new
    inside = slice_get_within new k column there

    done : (place : ℕ) → place < k + 1 → (b : Bool) → nat_eq k place ≡ b
        → cond b (Some (column ++ slice_get row k ∷ [])) (slice_get new place) ≡ option_map (λ c. c ++ slice_get row place ∷ []) (slice_get old place)
    done place less true e =
        let it : k ≡ place = eqb-true k place e in
        sym (ap (option_map (λ (c : Column). c ++ slice_get row place ∷ [])) (ap (slice_get old) (sym it) ∙ sym (fill.left k (omega arith)) ∙ there)
        ∙ ap (λ (j : ℕ). Some (column ++ slice_get row j ∷ [])) (sym it))
    done place less false e = fill.filled place (omega (arith, less, eqb-false k place e))

    rest : (place : ℕ) → k + 1 ≤ place → (b : Bool) → nat_eq k place ≡ b → cond b (Some (column ++ slice_get row k ∷ [])) (slice_get new place) ≡ slice_get old place
    rest place le true e = absurd (omega (arith, le, eqb-true k place e))
    rest place le false e = fill.left place (omega (arith, le))

pub fill_same : (k : ℕ) (row : List Cell) (old new : List Column) (column : Column) → FilledTo k row old new → slice_get new k ≡ Some column → FilledTo k row old (slice_set new k column)
fill_same k row old new column fill there = subst (FilledTo k row old) (sym (set_own new k column there)) fill
  where
    same_some : {X : Type 0} (x y : X) → Some x ≡ Some y → x ≡ y
    same_some x y e = cc

    set_own : (xs : List Column) (i : ℕ) (x : Column) → slice_get xs i ≡ Some x → slice_set xs i x ≡ xs
    set_own [] i x is = refl
    set_own (y ∷ xs) zero x is = ap (λ (z : Column). z ∷ xs) (sym (same_some y x is))
    set_own (y ∷ xs) (suc i) x is = ap (λ (zs : List Column). y ∷ zs) (set_own xs i x is)

-- ---- what the rows do, over lists that are the same

module _ (columns : List Column) (count : ℕ) (kept : AreKept columns count) where
  pub row_there : (number : ℕ) → number < count → slice_get (rows_below columns count) number ≡ Some (row_in columns number)
  row_there number less = rows_get columns count number ∙ ap (λ b. cond b (Some (row_in columns number)) None) (lt-ltb number count less)

  pub row_past : (number : ℕ) → count ≤ number → slice_get (rows_below columns count) number ≡ None
  row_past number past = rows_get columns count number ∙ ap (λ b. cond b (Some (row_in columns number)) None) (le-ltb number count past)

  -- the columns once a row went from each
  pub gone_kept : (number : ℕ) (lent new : List Column) → number < length (rows_below columns count) → lent ≡ columns → new ≡ map (removed number count) lent → AreKept new (count - 1)
  gone_kept number lent new inside same is =
      subst (λ (cs : List Column). AreKept cs (count - 1)) (sym (is ∙ ap (map (removed number count)) same)) (still_kept columns number count kept (omega (arith, inside, rows_long columns count)))

  pub gone_rows : (number : ℕ) (lent new : List Column) → number < length (rows_below columns count) → lent ≡ columns → new ≡ map (removed number count) lent
      → IsFilled number (rows_below columns count) (rows_below new (count - 1))
  gone_rows number lent new inside same is =
      subst (λ (cs : List Column). IsFilled number (rows_below columns count) (rows_below cs (count - 1))) (sym (is ∙ ap (map (removed number count)) same))
      (row_gone columns number count kept (omega (arith, inside, rows_long columns count)))

  -- the columns once the next row is one of them
  pub more_kept : (row : List Cell) → next_in columns count ≡ Some row → AreKept columns (count + 1)
  more_kept row is = kept_more columns count kept (is_written columns count row is).0

  pub more_rows : (row : List Cell) → next_in columns count ≡ Some row → rows_below columns (count + 1) ≡ rows_below columns count ++ row ∷ []
  more_rows row is =
      ap (rows_below columns) next_number ∙ ap (λ (r : List Cell). rows_below columns count ++ r ∷ []) (is_written columns count row is).1
    where
      next_number : count + 1 ≡ suc count
      next_number = omega arith

-- a cell by its column, for a row that is kept
pub cell_of_some : (columns : List Column) (number place : ℕ) (column : Column) → EndsOnce columns number → Some column ≡ slice_get columns place
    → cell_in number column ≡ slice_get (row_in columns number) place
cell_of_some columns number place column once is = ap (option_and_then (cell_in number)) is ∙ sym (cells_row columns number once place)

pub cell_of_none : (columns : List Column) (number place : ℕ) → EndsOnce columns number → None ≡ slice_get columns place → None ≡ slice_get (row_in columns number) place
cell_of_none columns number place once is = ap (option_and_then (cell_in number)) is ∙ sym (cells_row columns number once place)

-- two rows in one column
pub same_there : (columns : List Column) (count first second place : ℕ) (result : Bool) → AreKept columns count → result ≡ are_alike (cell_at columns place first) (cell_at columns place second)
    → IfSome (slice_get (rows_below columns count) first) (λ row. IfSome (slice_get (rows_below columns count) second) (λ other. result ≡ are_alike (slice_get row place) (slice_get other place)))
same_there columns count first second place result kept told =
    subst (λ o. IfSome o (λ row. IfSome (slice_get (rows_below columns count) second) (λ other. result ≡ are_alike (slice_get row place) (slice_get other place)))) (sym (rows_get columns count first)) (by (nat_lt first count))
  where
    both : (c : Bool) → IfSome (cond c (Some (row_in columns second)) None) (λ other. result ≡ are_alike (slice_get (row_in columns first) place) (slice_get other place))
    both true = told ∙ sym (λ i. are_alike (cells_row columns first (kept.once first) place i) (cells_row columns second (kept.once second) place i))
    both false = tt

    by : (b : Bool) → IfSome (cond b (Some (row_in columns first)) None) (λ row. IfSome (slice_get (rows_below columns count) second) (λ other. result ≡ are_alike (slice_get row place) (slice_get other place)))
    by true = subst (λ o. IfSome o (λ other. result ≡ are_alike (slice_get (row_in columns first) place) (slice_get other place))) (sym (rows_get columns count second)) (both (nat_lt second count))
    by false = tt

-- a row that was written
pub some_is : {X : Type 0} (o : Option X) → IsSome o → (x : X) × (o ≡ Some x)
some_is None some = cc
some_is (Some x) some = (x, refl)
