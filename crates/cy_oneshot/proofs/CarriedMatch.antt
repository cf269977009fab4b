-- MATCH and UNWIND give the same of rows in which the cells that they don't read are null, but for these cells.
use Rattle.std.proofs.Common.{◌≡◌, ℕ, ◌+◌, ◌≤◌, ◌||◌, Bool, true, false, not, cond, List, [], ◌∷◌, ◌++◌, filter, length, map, refl, sym, ap, subst, ◌∙◌, arith}
use Rattle.std.specs.Prelude.{◌&&◌, Option, None, Some, IfOk, IfSome, Result, Ok, Err, flat_map, slice_get, zip}
use Rattle.std.specs.List.{AllByRecursion, list_all, list_any}
use Rattle.std.specs.Option.{option_map_or}
use Rattle.std.specs.Ordering.{eq_by_cmp}
use Rattle.std.proofs.lemmas.List.{append-nil, length-append}
use Rattle.cy_values.specs.declared.numbers.Entity.{Entity}
use Rattle.cy_values.specs.declared.scalars.Value.{Value}
use Rattle.cy_values.specs.declared.scalars.Value.TheVariants as value
use Rattle.cy_values.specs.declared.rows.Cell.{Cell}
use Rattle.cy_values.specs.declared.rows.Cell.TheVariants as cell
use Rattle.cy_values.specs.Order.{cell_order}
use Rattle.cy_values.specs.Truth.{is_yes}
use Rattle.cy_trees.specs.Trees.{Clause, Expression, MapEntry, Path, PathTest, Where, «match», unwind, «with», «return»}
use Rattle.cy_scope.specs.Views.{is_update}
use Rattle.cy_graph.specs.Graph.{Content}
use Rattle.cy_graph.specs.Maps.{value_at}
use Rattle.cy_expr.specs.declared.faults.EvalFault.{EvalFault}
use Rattle.cy_expr.specs.Evaluation.{cell_of}
use Rattle.cy_expr.specs.Faults.{on_one}
use Rattle.cy_expr.specs.Graphs.{lookups, properties_in, are_different}
use Rattle.cy_expr.specs.Logic.{truth_of}
use Rattle.cy_expr.specs.Operators.{value_in_cell}
use Rattle.cy_oneshot_patterns.specs.Fits.{agrees, are_linked, entities_of, extended, fits, has_entries, has_entry, is_equal, is_labelled, is_new, relationships_of}
use Rattle.cy_oneshot_patterns.specs.Matching.{assigned, elements_of, fitting, is_met, is_there, kept, map_values, matched_where, optionally_matched, test_truth, unless_none, unwound, where_truth, with_nulls}
use Rattle.cy_oneshot_patterns.specs.Outcomes.{and_also, gathered, joined, together}
use Rattle.cy_oneshot_patterns.specs.Places.{Place, assignments, column_at, entries_at, path_places, places}
use Rattle.cy_oneshot_meaning.specs.Queries.{rows_after}
use Rattle.cy_oneshot_outcomes.specs.Columns.{columns_read}
use Rattle.cy_oneshot_outcomes.proofs.Agreeing.{cell-same}
use Rattle.cy_oneshot.specs.Carried.{AreEntriesRead, AreNeeded, ArePlacesRead, IsClauseRead, IsTestRead, IsWhereRead, carried, carried_from, is_needed, is_projection}
use Rattle.cy_oneshot.proofs.Carried.{AreLong, NeededFrom, agree_carried, carried_together, from_long, from_more, get_from, less_last, row_length}
use Rattle.cy_oneshot_meaning.proofs.Each.{each_joined, each_made, each_map, if_ok_any, if_ok_then}

module _ (graph : Content) (needed : List Bool) where
  abbrev less : List Cell → List Cell
  less row = carried_from needed 0 row

  -- ---- the longer row

  extended_less : (row : List Cell) → NeededFrom needed (length row) → (ps : List (Place × Cell)) → extended (less row) ps ≡ less (extended row ps)
  extended_less row from [] = refl
  extended_less row from (p ∷ ps) =
      ap (λ n. extended (cond (is_new n p.0) (less row ++ p.1 ∷ []) (less row)) ps) (row_length needed 0 row)
      ∙ elim (is_new (length row) p.0) as (λ b. extended (cond b (less row ++ p.1 ∷ []) (less row)) ps ≡ less (extended (cond b (row ++ p.1 ∷ []) row) ps)) [
        | true ↦ ap (λ r. extended r ps) (sym (less_last needed row p.1 from)) ∙ extended_less (row ++ p.1 ∷ []) (from_more needed row p.1 from) ps
        | false ↦ extended_less row from ps
      ]

  -- ---- places

  abbrev AreAssignedRead : List (Place × Cell) → Type 0
  AreAssignedRead ps = AllByRecursion (λ p. IfSome (column_at p.0) (λ column. is_needed needed column ≡ true) × AreEntriesRead needed (entries_at p.0)) ps

  zip_read : (ps : List Place) (cells : List Cell) → ArePlacesRead needed ps → AreAssignedRead (zip ps cells)
  zip_read [] cells read = tt
  zip_read (p ∷ ps) [] read = tt
  zip_read (p ∷ ps) (c ∷ cells) read = (read.0, zip_read ps cells read.1)

  agrees_less : (row : List Cell) (found : Cell) (column : Option ℕ) → IfSome column (λ n. is_needed needed n ≡ true)
      → option_map_or (λ n. option_map_or (λ c. eq_by_cmp cell_order c found) (slice_get (less row) n) false) column true ≡ option_map_or (λ n. option_map_or (λ c. eq_by_cmp cell_order c found) (slice_get row n) false) column true
  agrees_less row found None is = refl
  agrees_less row found (Some n) is = ap (λ o. option_map_or (λ c. eq_by_cmp cell_order c found) o false) (get_from needed 0 row n (ap (is_needed needed) (let e : 0 + n ≡ n = omega arith in e) ∙ is))

  all_agree_less : (row : List Cell) (ps : List (Place × Cell)) → AreAssignedRead ps → list_all (agrees (less row)) ps ≡ list_all (agrees row) ps
  all_agree_less row [] read = refl
  all_agree_less row (p ∷ ps) read = λ j. agrees_less row p.1 (column_at p.0) read.0.0 j && all_agree_less row ps read.1 j

  -- ---- property maps

  pub cell_less : (e : Expression) (row : List Cell) → AreNeeded needed (columns_read e) → cell_of (lookups graph) (less row) e ≡ cell_of (lookups graph) row e
  cell_less e row read = cell-same (lookups graph) (less row) row e (agree_carried needed (columns_read e) row read)

  entries_less : (row : List Cell) (x : Entity) (es : List MapEntry) → AreEntriesRead needed es → list_all (has_entry graph (less row) x) es ≡ list_all (has_entry graph row x) es
  entries_less row x [] read = refl
  entries_less row x (e ∷ es) read = λ j. is_equal (value_at e.key (properties_in graph x)) (cell_less e.value row read.0 j) && entries_less row x es read.1 j

  each_less : (row : List Cell) (es : List MapEntry) → AreEntriesRead needed es → (xs : List Entity) → list_all (λ x. list_all (has_entry graph (less row) x) es) xs ≡ list_all (λ x. list_all (has_entry graph row x) es) xs
  each_less row es read [] = refl
  each_less row es read (x ∷ xs) = λ j. entries_less row x es read j && each_less row es read xs j

  all_have_less : (row : List Cell) (ps : List (Place × Cell)) → AreAssignedRead ps → list_all (has_entries graph (less row)) ps ≡ list_all (has_entries graph row) ps
  all_have_less row [] read = refl
  all_have_less row (p ∷ ps) read = λ j. each_less row (entries_at p.0) read.0.1 (entities_of p.1) j && all_have_less row ps read.1 j

  fits_less : (row : List Cell) → NeededFrom needed (length row) → (ps : List (Place × Cell)) → AreAssignedRead ps → fits graph (less row) ps ≡ fits graph row ps
  fits_less row from ps read =
      let names : list_all (agrees (extended (less row) ps)) ps ≡ list_all (agrees (extended row ps)) ps =
      ap (λ r. list_all (agrees r) ps) (extended_less row from ps) ∙ all_agree_less (extended row ps) ps read in
      λ j. names j && are_linked graph ps && list_all (is_labelled graph) ps && all_have_less row ps read j && are_different (flat_map (λ p. relationships_of p.1) ps)

  -- ---- the rows of the assignments

  fitting_less : (row : List Cell) → NeededFrom needed (length row) → (ps : List Place) → ArePlacesRead needed ps → (css : List (List Cell))
      → map (extended (less row)) (filter (fits graph (less row)) (map (λ cells. zip ps cells) css)) ≡ map less (map (extended row) (filter (fits graph row) (map (λ cells. zip ps cells) css)))
  fitting_less row from ps read [] = refl
  fitting_less row from ps read (cells ∷ css) =
      let rest = fitting_less row from ps read css in
      let here = zip ps cells in
      ap (λ b. map (extended (less row)) (cond b (here ∷ filter (fits graph (less row)) (map (λ cells. zip ps cells) css)) (filter (fits graph (less row)) (map (λ cells. zip ps cells) css)))) (fits_less row from here (zip_read ps cells read))
      ∙ elim (fits graph row here) as (λ b. map (extended (less row)) (cond b (here ∷ filter (fits graph (less row)) (map (λ cells. zip ps cells) css)) (filter (fits graph (less row)) (map (λ cells. zip ps cells) css)))
      ≡ map less (map (extended row) (cond b (here ∷ filter (fits graph row) (map (λ cells. zip ps cells) css)) (filter (fits graph row) (map (λ cells. zip ps cells) css))))) [
        | true ↦ λ j. extended_less row from here j ∷ rest j
        | false ↦ rest
      ]

  -- ---- WHERE

  truth_less : (test : Option Expression) (row : List Cell) → IsTestRead needed test → test_truth graph test (less row) ≡ test_truth graph test row
  truth_less None row read = refl
  truth_less (Some e) row read = ap (λ c. on_one truth_of (on_one value_in_cell c)) (cell_less e row read)

  joined_less : (f : List Cell → Result (List (List Cell)) EvalFault) → ((row : List Cell) → NeededFrom needed (length row) → f (less row) ≡ carried needed (f row))
      → (rows : List (List Cell)) → AllByRecursion (λ row. NeededFrom needed (length row)) rows → joined (map f (map less rows)) ≡ carried needed (joined (map f rows))
  joined_less f same [] from = refl
  joined_less f same (row ∷ rows) from = (λ j. together (same row from.0 j) (joined_less f same rows from.1 j)) ∙ sym (carried_together needed (f row) (joined (map f rows)))

  values_less : (row : List Cell) (es : List MapEntry) → AreEntriesRead needed es → map (λ e. cell_of (lookups graph) (less row) e.value) es ≡ map (λ e. cell_of (lookups graph) row e.value) es
  values_less row [] read = refl
  values_less row (e ∷ es) read = λ j. cell_less e.value row read.0 j ∷ values_less row es read.1 j

  read_append : (es fs : List MapEntry) → AreEntriesRead needed es → AreEntriesRead needed fs → AreEntriesRead needed (es ++ fs)
  read_append [] fs first second = second
  read_append (e ∷ es) fs first second = (first.0, read_append es fs first.1 second)

  all_entries_read : (ps : List Place) → ArePlacesRead needed ps → AreEntriesRead needed (flat_map entries_at ps)
  all_entries_read [] read = tt
  all_entries_read (p ∷ ps) read = read_append (entries_at p) (flat_map entries_at ps) read.0.1 (all_entries_read ps read.1)

  after_values : {A : Type 0} (rows : Result (List (List Cell)) EvalFault) (o : Result A EvalFault) → on_one (λ values. carried needed rows) o ≡ carried needed (on_one (λ values. rows) o)
  after_values rows (Ok values) = refl
  after_values rows (Err fault) = refl

  any_less : (row : List Cell) → NeededFrom needed (length row) → (ps : List Place) → ArePlacesRead needed ps → (css : List (List Cell))
      → list_any (fits graph (less row)) (map (λ cells. zip ps cells) css) ≡ list_any (fits graph row) (map (λ cells. zip ps cells) css)
  any_less row from ps read [] = refl
  any_less row from ps read (cells ∷ css) = λ j. fits_less row from (zip ps cells) (zip_read ps cells read) j || any_less row from ps read css j

  there_less : (row : List Cell) → NeededFrom needed (length row) → (path : Path) → ArePlacesRead needed (places (path ∷ [])) → is_there graph (less row) path ≡ is_there graph row path
  there_less row from path read = any_less row from (places (path ∷ [])) read (assignments graph (places (path ∷ [])))

  -- so whether it is there, or the smallest fault of its maps
  pub path_less : (row : List Cell) → NeededFrom needed (length row) → (path : Path) → ArePlacesRead needed (places (path ∷ []))
      → on_one (λ values. Ok (is_there graph (less row) path)) (map_values graph (path ∷ []) (less row)) ≡ on_one (λ values. Ok (is_there graph row path)) (map_values graph (path ∷ []) row)
  path_less row from path read =
      λ j. on_one (λ values. Ok (there_less row from path read j)) (gathered (values_less row (flat_map entries_at (places (path ∷ []))) (all_entries_read (places (path ∷ [])) read) j))

  first_read : (ps qs : List Place) → ArePlacesRead needed (ps ++ qs) → ArePlacesRead needed ps
  first_read [] qs read = tt
  first_read (p ∷ ps) qs read = (read.0, first_read ps qs read.1)

  rest_read : (ps qs : List Place) → ArePlacesRead needed (ps ++ qs) → ArePlacesRead needed qs
  rest_read [] qs read = read
  rest_read (p ∷ ps) qs read = rest_read ps qs read.1

  all_met_less : (row : List Cell) → NeededFrom needed (length row) → (ts : List PathTest) → ArePlacesRead needed (places (map (λ t. t.path) ts))
      → list_all (is_met graph (less row)) ts ≡ list_all (is_met graph row) ts
  all_met_less row from [] read = refl
  all_met_less row from (t ∷ ts) read =
      let others : List Place = places (map (λ (u : PathTest). u.path) ts) in
      let there : is_there graph (less row) t.path ≡ is_there graph row t.path =
      there_less row from t.path (subst (ArePlacesRead needed) (sym (append-nil (path_places t.path))) (first_read (path_places t.path) others read)) in
      λ j. cond t.denied (not (there j)) (there j) && all_met_less row from ts (rest_read (path_places t.path) others read) j

  where_less : (w : Where) → IsWhereRead needed w → (row : List Cell) → NeededFrom needed (length row) → where_truth graph w (less row) ≡ where_truth graph w row
  where_less w read row from =
      let ps : List Place = places (map (λ (t : PathTest). t.path) w.paths) in
      λ j. and_also (gathered (values_less row (flat_map entries_at ps) (all_entries_read ps read.1) j))
      (on_one (λ truth. Ok (is_yes truth && all_met_less row from w.paths read.1 j)) (truth_less w.test row read.0 j))

  kept_if : (row : List Cell) (o : Result Bool EvalFault) → on_one (λ holds. Ok (cond holds (less row ∷ []) [])) o ≡ carried needed (on_one (λ holds. Ok (cond holds (row ∷ []) [])) o)
  kept_if row (Ok true) = refl
  kept_if row (Ok false) = refl
  kept_if row (Err fault) = refl

  kept_less : (w : Where) → IsWhereRead needed w → (row : List Cell) → NeededFrom needed (length row) → kept graph w (less row) ≡ carried needed (kept graph w row)
  kept_less w read row from = ap (on_one (λ holds. Ok (cond holds (less row ∷ []) []))) (where_less w read row from) ∙ kept_if row (where_truth graph w row)

  extended_from : (row : List Cell) → NeededFrom needed (length row) → (ps : List (Place × Cell)) → NeededFrom needed (length (extended row ps))
  extended_from row from [] = from
  extended_from row from (p ∷ ps) =
      elim (is_new (length row) p.0) as (λ b. NeededFrom needed (length (extended (cond b (row ++ p.1 ∷ []) row) ps))) [
        | true ↦ extended_from (row ++ p.1 ∷ []) (from_more needed row p.1 from) ps
        | false ↦ extended_from row from ps
      ]

  -- what MATCH gives for a row
  pub matched_less : (paths : List Path) (w : Where) → ArePlacesRead needed (places paths) → IsWhereRead needed w → (row : List Cell) → NeededFrom needed (length row)
      → matched_where graph paths w (less row) ≡ carried needed (matched_where graph paths w row)
  matched_less paths w read asked row from =
      (λ j. on_one (λ values. joined (map (kept graph w) (fitting_less row from (places paths) read (assignments graph (places paths)) j)))
      (gathered (values_less row (flat_map entries_at (places paths)) (all_entries_read (places paths) read) j)))
      ∙ ap (λ o. on_one (λ values. o) (map_values graph paths row)) (joined_less (kept graph w) (λ r longer. kept_less w asked r longer) (fitting graph paths row)
      (each_made (λ r. NeededFrom needed (length r)) (extended row) (λ ps. extended_from row from ps) (filter (fits graph row) (assigned graph paths))))
      ∙ after_values (joined (map (kept graph w) (fitting graph paths row))) (map_values graph paths row)

  -- the same by OPTIONAL MATCH
  unless_less : (nulls : List Cell) (rows : List (List Cell)) → unless_none (less nulls) (map less rows) ≡ map less (unless_none nulls rows)
  unless_less nulls [] = refl
  unless_less nulls (row ∷ rows) = refl

  or_nulls : (nulls : List Cell) (o : Result (List (List Cell)) EvalFault) → on_one (λ rows. Ok (unless_none (less nulls) rows)) (carried needed o) ≡ carried needed (on_one (λ rows. Ok (unless_none nulls rows)) o)
  or_nulls nulls (Ok rows) = ap Ok (unless_less nulls rows)
  or_nulls nulls (Err fault) = refl

  optionally_less : (paths : List Path) (w : Where) → ArePlacesRead needed (places paths) → IsWhereRead needed w → (row : List Cell) → NeededFrom needed (length row)
      → optionally_matched graph paths w (less row) ≡ carried needed (optionally_matched graph paths w row)
  optionally_less paths w read asked row from =
      (λ j. on_one (λ rows. Ok (unless_none (extended_less row from (map (λ place. (place, cell.Value value.Null)) (places paths)) j) rows)) (matched_less paths w read asked row from j))
      ∙ or_nulls (with_nulls paths row) (matched_where graph paths w row)

  -- ---- UNWIND

  elements_less : (row : List Cell) → NeededFrom needed (length row) → (values : List Value) → map (λ v. less row ++ cell.Value v ∷ []) values ≡ map less (map (λ v. row ++ cell.Value v ∷ []) values)
  elements_less row from [] = refl
  elements_less row from (v ∷ values) = λ j. sym (less_last needed row (cell.Value v) from) j ∷ elements_less row from values j

  after_elements : (row : List Cell) → NeededFrom needed (length row) → (o : Result (List Value) EvalFault)
      → on_one (λ values. Ok (map (λ v. less row ++ cell.Value v ∷ []) values)) o ≡ carried needed (on_one (λ values. Ok (map (λ v. row ++ cell.Value v ∷ []) values)) o)
  after_elements row from (Ok values) = ap Ok (elements_less row from values)
  after_elements row from (Err fault) = refl

  unwound_less : (e : Expression) → AreNeeded needed (columns_read e) → (row : List Cell) → NeededFrom needed (length row) → unwound graph e (less row) ≡ carried needed (unwound graph e row)
  unwound_less e read row from =
      ap (λ c. on_one (λ values. Ok (map (λ v. less row ++ cell.Value v ∷ []) values)) (on_one elements_of (on_one value_in_cell c))) (cell_less e row read)
      ∙ after_elements row from (on_one elements_of (on_one value_in_cell (cell_of (lookups graph) row e)))

  -- ---- all rows

  module _ (f : List Cell → Result (List (List Cell)) EvalFault) (same : (row : List Cell) → NeededFrom needed (length row) → f (less row) ≡ carried needed (f row)) where
    rows_less : (rows : List (List Cell)) → AreLong needed rows → joined (map f (map less rows)) ≡ carried needed (joined (map f rows))
    rows_less [] long = refl
    rows_less (row ∷ rows) long = (λ j. together (same row (from_long needed row long.0) j) (rows_less rows long.1 j)) ∙ sym (carried_together needed (f row) (joined (map f rows)))

  -- what a clause that keeps the row gives for all rows
  pub reading_less : (c : Clause) → is_update c ≡ false → is_projection c ≡ false → IsClauseRead needed c → (rows : List (List Cell)) → AreLong needed rows
      → rows_after graph c (map less rows) ≡ carried needed (rows_after graph c rows)
  reading_less («match» false paths w) reads keeps read rows long = rows_less (matched_where graph paths w) (matched_less paths w read.0 read.1) rows long
  reading_less («match» true paths w) reads keeps read rows long = rows_less (optionally_matched graph paths w) (optionally_less paths w read.0 read.1) rows long
  reading_less (unwind e v) reads keeps read rows long = rows_less (unwound graph e) (unwound_less e read) rows long
  reading_less («with» p test) reads keeps read rows long = absurd (let e : true ≡ false = keeps in cc)
  reading_less («return» p) reads keeps read rows long = absurd (let e : true ≡ false = keeps in cc)
  reading_less _ reads keeps read rows long = absurd (let e : true ≡ false = reads in cc)

-- ---- what holds of each row that a clause makes of a row of which it holds

module _ (graph : Content) (P : List Cell → Type 0) (more : (row : List Cell) (c : Cell) → P row → P (row ++ c ∷ [])) where
  extended_grown : (row : List Cell) (ps : List (Place × Cell)) → P row → P (extended row ps)
  extended_grown row [] here = here
  extended_grown row (p ∷ ps) here =
      elim (is_new (length row) p.0) as (λ b. P (extended (cond b (row ++ p.1 ∷ []) row) ps)) [
        | true ↦ extended_grown (row ++ p.1 ∷ []) ps (more row p.1 here)
        | false ↦ extended_grown row ps here
      ]

  each_kept : (w : Where) (row : List Cell) → P row → IfOk (kept graph w row) (AllByRecursion P)
  each_kept w row here =
      if_ok_any (AllByRecursion P) (λ holds. Ok (cond holds (row ∷ []) []))
      (λ holds. elim holds as (λ b. AllByRecursion P (cond b (row ∷ []) [])) [ true ↦ (here, tt) | false ↦ tt ]) (where_truth graph w row)

  all_kept : (w : Where) (rows : List (List Cell)) → AllByRecursion P rows → IfOk (joined (map (kept graph w) rows)) (AllByRecursion P)
  all_kept w rows each = each_joined P (map (kept graph w) rows) (each_map P (λ o. IfOk o (AllByRecursion P)) (kept graph w) (each_kept w) rows each)

  matched_grown : (paths : List Path) (w : Where) (row : List Cell) → P row → IfOk (matched_where graph paths w row) (AllByRecursion P)
  matched_grown paths w row here =
      if_ok_any (AllByRecursion P) (λ values. joined (map (kept graph w) (fitting graph paths row)))
      (λ values. all_kept w (fitting graph paths row) (each_made P (extended row) (λ ps. extended_grown row ps here) (filter (fits graph row) (assigned graph paths)))) (map_values graph paths row)

  unless_grown : (row : List Cell) (rows : List (List Cell)) → P row → AllByRecursion P rows → AllByRecursion P (unless_none row rows)
  unless_grown row [] here each = (here, tt)
  unless_grown row (found ∷ others) here each = each

  optionally_grown : (paths : List Path) (w : Where) (row : List Cell) → P row → IfOk (optionally_matched graph paths w row) (AllByRecursion P)
  optionally_grown paths w row here =
      if_ok_then (AllByRecursion P) (AllByRecursion P) (λ rows. Ok (unless_none (with_nulls paths row) rows))
      (λ rows all. unless_grown (with_nulls paths row) rows (extended_grown row (map (λ place. (place, cell.Value value.Null)) (places paths)) here) all) (matched_where graph paths w row) (matched_grown paths w row here)

  unwound_grown : (e : Expression) (row : List Cell) → P row → IfOk (unwound graph e row) (AllByRecursion P)
  unwound_grown e row here =
      if_ok_any (AllByRecursion P) (λ values. Ok (map (λ v. row ++ cell.Value v ∷ []) values))
      (λ values. each_made P (λ (v : Value). row ++ cell.Value v ∷ []) (λ v. more row (cell.Value v) here) values) (on_one elements_of (on_one value_in_cell (cell_of (lookups graph) row e)))

  each_row : (f : List Cell → Result (List (List Cell)) EvalFault) → ((row : List Cell) → P row → IfOk (f row) (AllByRecursion P)) → (rows : List (List Cell)) → AllByRecursion P rows
      → IfOk (joined (map f rows)) (AllByRecursion P)
  each_row f step rows each = each_joined P (map f rows) (each_map P (λ o. IfOk o (AllByRecursion P)) f step rows each)

  pub reading_grown : (c : Clause) → is_update c ≡ false → is_projection c ≡ false → (rows : List (List Cell)) → AllByRecursion P rows → IfOk (rows_after graph c rows) (AllByRecursion P)
  reading_grown («match» false paths w) reads keeps rows each = each_row (matched_where graph paths w) (matched_grown paths w) rows each
  reading_grown («match» true paths w) reads keeps rows each = each_row (optionally_matched graph paths w) (optionally_grown paths w) rows each
  reading_grown (unwind e v) reads keeps rows each = each_row (unwound graph e) (unwound_grown e) rows each
  reading_grown («with» p test) reads keeps rows each = absurd (let e : true ≡ false = keeps in cc)
  reading_grown («return» p) reads keeps rows each = absurd (let e : true ≡ false = keeps in cc)
  reading_grown _ reads keeps rows each = absurd (let e : true ≡ false = reads in cc)

-- rows stay long
pub long_grown : (graph : Content) (needed : List Bool) (c : Clause) → is_update c ≡ false → is_projection c ≡ false → (rows : List (List Cell)) → AreLong needed rows → IfOk (rows_after graph c rows) (AreLong needed)
long_grown graph needed c reads keeps rows long =
    reading_grown graph (λ row. length needed ≤ length row) (λ row d here. let more : length (row ++ d ∷ []) ≡ length row + 1 = length-append row (d ∷ []) in omega (arith, here, more)) c reads keeps rows long
