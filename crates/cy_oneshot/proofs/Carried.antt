-- Rows of which UNWIND carries along what is needed.
use Rattle.std.proofs.Common.{◌≡◌, ℕ, zero, suc, ◌+◌, ◌<◌, ◌≤◌, Bool, true, false, cond, List, [], ◌∷◌, ◌++◌, get_or, length, map, take, refl, sym, ap, ◌∙◌, arith}
use Rattle.std.specs.Prelude.{Some, Result, Ok, Err, IfOk, slice_get, slice_index_or}
use Rattle.std.specs.List.{AllByRecursion}
use Rattle.std.proofs.lemmas.List.{length-append, map-append, take_more}
use Rattle.cy_values.specs.declared.scalars.Value.TheVariants as value
use Rattle.cy_values.specs.declared.rows.Cell.{Cell}
use Rattle.cy_values.specs.declared.rows.Cell.TheVariants as cell
use Rattle.cy_trees.specs.Trees.{Clause, unwind}
use Rattle.cy_graph.specs.Graph.{Content}
use Rattle.cy_expr.specs.declared.faults.EvalFault.{EvalFault}
use Rattle.cy_oneshot_patterns.specs.Outcomes.{joined, together}
use Rattle.cy_oneshot_meaning.specs.Reading.{AreInGraph, IsInGraph}
use Rattle.cy_oneshot_outcomes.specs.Columns.{AgreeOn}
use Rattle.cy_oneshot.specs.Carried.{AreNeeded, carried, carried_by, carried_from, is_needed}

-- ---- one row

-- where nothing is known all is carried
pub row_whole : (place : ℕ) (row : List Cell) → carried_from [] place row ≡ row
row_whole place [] = refl
row_whole place (c ∷ row) = ap (λ (cs : List Cell). c ∷ cs) (row_whole (place + 1) row)

pub row_length : (needed : List Bool) (place : ℕ) (row : List Cell) → length (carried_from needed place row) ≡ length row
row_length needed place [] = refl
row_length needed place (c ∷ row) = ap suc (row_length needed (place + 1) row)

-- with one cell more
last_from : (needed : List Bool) (place : ℕ) (row : List Cell) (c : Cell)
    → carried_from needed place (row ++ c ∷ []) ≡ carried_from needed place row ++ cond (is_needed needed (place + length row)) c (cell.Value value.Null) ∷ []
last_from needed place [] c = ap (λ (n : ℕ). cond (is_needed needed n) c (cell.Value value.Null) ∷ []) (let e : place ≡ place + 0 = omega arith in e)
last_from needed place (d ∷ row) c =
    ap (λ (cs : List Cell). cond (is_needed needed place) d (cell.Value value.Null) ∷ cs)
    (last_from needed (place + 1) row c
    ∙ ap (λ (n : ℕ). carried_from needed (place + 1) row ++ cond (is_needed needed n) c (cell.Value value.Null) ∷ []) (let e : place + 1 + length row ≡ place + suc (length row) = omega arith in e))

pub carried_last : (needed : List Bool) (row : List Cell) (c : Cell)
    → carried_from needed 0 (row ++ c ∷ []) ≡ carried_from needed 0 row ++ cond (is_needed needed (length row)) c (cell.Value value.Null) ∷ []
carried_last needed row c =
    last_from needed 0 row c
    ∙ ap (λ (n : ℕ). carried_from needed 0 row ++ cond (is_needed needed n) c (cell.Value value.Null) ∷ []) (let e : 0 + length row ≡ length row = omega arith in e)

-- the cells so far, and the next one
pub carried_more : (needed : List Bool) (row cells : List Cell) (i count : ℕ) (c next : Cell) → i < length row → c ≡ get_or row i c → cells ≡ carried_from needed 0 (take i row) → count ≡ length cells
    → next ≡ cond (is_needed needed count) c (cell.Value value.Null) → cells ++ next ∷ [] ≡ carried_from needed 0 (take (i + 1) row)
carried_more needed row cells i count c next within at so_far many is =
    let long : count ≡ length (take i row) = many ∙ ap length so_far ∙ row_length needed 0 (take i row) in
    (λ j. so_far j ++ (is ∙ ap (λ (n : ℕ). cond (is_needed needed n) c (cell.Value value.Null)) long) j ∷ [])
    ∙ sym (carried_last needed (take i row) c)
    ∙ ap (carried_from needed 0) (sym (take_more row i c within ∙ ap (λ (d : Cell). take i row ++ d ∷ []) (sym at)))

-- the whole row, and a cell after it
pub carried_after : (needed : List Bool) (row cells : List Cell) (count : ℕ) (c last : Cell) → cells ≡ carried_from needed 0 row → count ≡ length cells
    → last ≡ cond (is_needed needed count) c (cell.Value value.Null) → cells ++ last ∷ [] ≡ carried_from needed 0 (row ++ c ∷ [])
carried_after needed row cells count c last whole many is =
    let long : count ≡ length row = many ∙ ap length whole ∙ row_length needed 0 row in
    (λ j. whole j ++ (is ∙ ap (λ (n : ℕ). cond (is_needed needed n) c (cell.Value value.Null)) long) j ∷ [])
    ∙ sym (carried_last needed row c)

-- a needed column has its cell
pub column_carried : (needed : List Bool) (place : ℕ) (row : List Cell) (column : ℕ) → is_needed needed (place + column) ≡ true
    → slice_index_or row column (cell.Value value.Null) ≡ slice_index_or (carried_from needed place row) column (cell.Value value.Null)
column_carried needed place [] column is = refl
column_carried needed place (c ∷ row) zero is =
    sym (ap (λ (b : Bool). cond b c (cell.Value value.Null)) (ap (is_needed needed) (let e : place ≡ place + 0 = omega arith in e) ∙ is))
column_carried needed place (c ∷ row) (suc column) is =
    column_carried needed (place + 1) row column (ap (is_needed needed) (let e : place + 1 + column ≡ place + suc column = omega arith in e) ∙ is)

pub agree_carried : (needed : List Bool) (columns : List ℕ) (row : List Cell) → AreNeeded needed columns → AgreeOn columns (carried_from needed 0 row) row
agree_carried needed [] row are = tt
agree_carried needed (c ∷ columns) row are =
    (sym (column_carried needed 0 row c (ap (is_needed needed) (let e : 0 + c ≡ c = omega arith in e) ∙ are.0)), agree_carried needed columns row are.1)

pub row_there : (graph : Content) (needed : List Bool) (place : ℕ) (row : List Cell) → AllByRecursion (IsInGraph graph) row → AllByRecursion (IsInGraph graph) (carried_from needed place row)
row_there graph needed place [] there = tt
row_there graph needed place (c ∷ row) there = (
  elim (is_needed needed place) as (λ b. IsInGraph graph (cond b c (cell.Value value.Null))) [
    | true ↦ there.0
    | false ↦ tt
  ],
  row_there graph needed (place + 1) row there.1,
)

-- ---- rows of which each column from a number on is needed

module _ (needed : List Bool) where
  -- each column from a number on is needed
  abbrev pub NeededFrom : ℕ → Type 0
  NeededFrom count = (column : ℕ) → count ≤ column → is_needed needed column ≡ true

  pub from_more : (row : List Cell) (c : Cell) → NeededFrom (length row) → NeededFrom (length (row ++ c ∷ []))
  from_more row c from = λ column past. from column (let long : length (row ++ c ∷ []) ≡ length row + 1 = length-append row (c ∷ []) in omega arith)

  pub less_last : (row : List Cell) (c : Cell) → NeededFrom (length row) → carried_from needed 0 (row ++ c ∷ []) ≡ carried_from needed 0 row ++ c ∷ []
  less_last row c from = carried_last needed row c ∙ ap (λ b. carried_from needed 0 row ++ cond b c (cell.Value value.Null) ∷ []) (from (length row) (omega arith))

  pub get_from : (place : ℕ) (row : List Cell) (column : ℕ) → is_needed needed (place + column) ≡ true → slice_get (carried_from needed place row) column ≡ slice_get row column
  get_from place [] column is = refl
  get_from place (c ∷ row) zero is =
      ap (λ (b : Bool). Some (cond b c (cell.Value value.Null))) (ap (is_needed needed) (let e : place ≡ place + 0 = omega arith in e) ∙ is)
  get_from place (c ∷ row) (suc column) is =
      get_from (place + 1) row column (ap (is_needed needed) (let e : place + 1 + column ≡ place + suc column = omega arith in e) ∙ is)

  needed_past : (column : ℕ) (flags : List Bool) → length flags ≤ column → is_needed flags column ≡ true
  needed_past column [] past = refl
  needed_past zero (b ∷ flags) past = absurd (omega arith)
  needed_past (suc column) (b ∷ flags) past = needed_past column flags (omega arith)

  pub from_long : (row : List Cell) → length needed ≤ length row → NeededFrom (length row)
  from_long row long = λ column past. needed_past column needed (omega arith)

-- ---- all rows

-- each row has a cell at each place that isn't needed
abbrev pub AreLong : List Bool → List (List Cell) → Type 0
AreLong needed rows = AllByRecursion (λ row. length needed ≤ length row) rows

pub wide_long : (needed : List Bool) (width : ℕ) → length needed ≤ width → (rows : List (List Cell)) → AllByRecursion (λ row. length row ≡ width) rows → AreLong needed rows
wide_long needed width within [] wide = tt
wide_long needed width within (row ∷ rows) wide = (let long : length row ≡ width = wide.0 in omega (arith, long, within), wide_long needed width within rows wide.1)

pub rows_whole : (rows : List (List Cell)) → map (carried_from [] 0) rows ≡ rows
rows_whole [] = refl
rows_whole (row ∷ rows) = λ i. row_whole 0 row i ∷ rows_whole rows i

pub all_carried : (outcome : Result (List (List Cell)) EvalFault) → carried [] outcome ≡ outcome
all_carried (Ok rows) = ap Ok (rows_whole rows)
all_carried (Err fault) = refl

pub carried_together : (needed : List Bool) (o q : Result (List (List Cell)) EvalFault) → carried needed (together o q) ≡ together (carried needed o) (carried needed q)
carried_together needed (Ok xs) (Ok ys) = ap Ok (map-append (carried_from needed 0) xs ys)
carried_together needed (Ok xs) (Err g) = refl
carried_together needed (Err f) (Ok ys) = refl
carried_together needed (Err f) (Err g) = refl

-- what the first row gives, and what the others give
pub carried_first : (needed : List Bool) (f : List Cell → Result (List (List Cell)) EvalFault) (row : List Cell) (rows : List (List Cell))
    → carried needed (joined (map f (row ∷ rows))) ≡ together (carried needed (f row)) (carried needed (joined (map f rows)))
carried_first needed f row rows = carried_together needed (f row) (joined (map f rows))

wide_rows : (needed : List Bool) (width : ℕ) (rows : List (List Cell)) → AllByRecursion (λ row. length row ≡ width) rows → AllByRecursion (λ row. length row ≡ width) (map (carried_from needed 0) rows)
wide_rows needed width [] wide = tt
wide_rows needed width (row ∷ rows) wide = (row_length needed 0 row ∙ wide.0, wide_rows needed width rows wide.1)

pub carried_wide : (needed : List Bool) (width : ℕ) (o : Result (List (List Cell)) EvalFault) → IfOk o (AllByRecursion (λ row. length row ≡ width)) → IfOk (carried needed o) (AllByRecursion (λ row. length row ≡ width))
carried_wide needed width (Ok rows) wide = wide_rows needed width rows wide
carried_wide needed width (Err fault) wide = tt

pub there_rows : (graph : Content) (needed : List Bool) (rows : List (List Cell)) → AreInGraph graph rows → AreInGraph graph (map (carried_from needed 0) rows)
there_rows graph needed [] there = tt
there_rows graph needed (row ∷ rows) there = (row_there graph needed 0 row there.0, there_rows graph needed rows there.1)

pub carried_there : (graph : Content) (needed : List Bool) (o : Result (List (List Cell)) EvalFault) → IfOk o (AreInGraph graph) → IfOk (carried needed o) (AreInGraph graph)
carried_there graph needed (Ok rows) there = there_rows graph needed rows there
carried_there graph needed (Err fault) there = tt

-- a fault of what is carried along is the clause's
pub carried_fault : (needed : List Bool) (o : Result (List (List Cell)) EvalFault) (fault : EvalFault) → carried needed o ≡ Err fault → o ≡ Err fault
carried_fault needed (Ok rows) fault is = absurd (let e : ⊥ = cc is in e)
carried_fault needed (Err other) fault is = is

-- what holds of all rows of a clause, and of what is carried of them
pub carried_either : (P : Result (List (List Cell)) EvalFault → Type 0) (c : Clause) (needed : List Bool) (o : Result (List (List Cell)) EvalFault) → P (carried needed o) → P o → P (carried_by c needed o)
carried_either P (unwind e v) needed o some all = some
carried_either P _ needed o some all = all

-- where all is needed all is carried along
pub all_by : (c : Clause) (o : Result (List (List Cell)) EvalFault) → carried_by c [] o ≡ o
all_by c o = carried_either (λ q. q ≡ o) c [] o (all_carried o) refl
