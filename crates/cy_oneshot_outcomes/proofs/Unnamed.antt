-- Where a step has no name, the rows of the pattern are those of the pattern written out.
use Rattle.std.specs.FinMap.Entries as entries
use Rattle.std.proofs.Common.{◌≡◌, ℕ, zero, suc, ◌+◌, ◌≤◌, ◌==◌, true, false, cond, ◌&&◌, List, [], ◌∷◌, ◌++◌, map, filter, length, take, drop, None, refl, sym, ap, ◌∙◌, take-append-drop, length-append, length-drop, length-take, arith}
use Rattle.std.specs.Prelude.{sum_by, flat_map, zip, slice_get}
use Rattle.std.specs.List.{list_all, AllByRecursion}
use Rattle.std.specs.Option.{option_and_then, option_map_or}
use Rattle.std.specs.Ordering.{eq_by_cmp}
use Rattle.std.proofs.lemmas.List.Folds.{list_all-append}
use Rattle.cy_values.specs.Bag.{IsSameBag}
use Rattle.cy_values.specs.Order.{cell_order, row_cmp}
use Rattle.cy_values.specs.declared.rows.Cell.{Cell}
use Rattle.cy_values.specs.declared.rows.Cell.TheVariants as cell
use Rattle.cy_values.proofs.Lists.{each_filter, each_then, sums_alike}
use Rattle.cy_trees.specs.declared.clauses.Length.{Length}
use Rattle.cy_trees.specs.declared.expressions.Variable.{Variable}
use Rattle.cy_trees.specs.Trees.{RelationshipPattern}
use Rattle.cy_graph.specs.Graph.{Content, node_order}
use Rattle.cy_oneshot_patterns.specs.Fits.{agrees, extended, fits, is_new, relationships_of}
use Rattle.cy_oneshot_patterns.specs.Matching.{fitting}
use Rattle.cy_oneshot_patterns.specs.Places.{Place, node, relationships, assignments, candidates, column_at, places}
use Rattle.cy_oneshot_outcomes.specs.Lengths.{LongStep, counts_in, ends_meet, nameless, names_agree, own_table, packed, packed_table, packed_tables, pattern, places_before, places_between, ranged, rows_of, rows_written_out, written_out}
use Rattle.cy_oneshot_outcomes.proofs.Sums.{all_true, sum_each_alike, sum_flat_map, sum_map}
use Rattle.cy_oneshot_outcomes.proofs.PathPlaces.{places_left, places_of_pattern, places_of_singles, places_right}
use Rattle.cy_oneshot_outcomes.proofs.PlaceSums.{all_assigned, zip_parts}
use Rattle.cy_oneshot_outcomes.proofs.Spread.{between_long}
use Rattle.cy_oneshot_outcomes.proofs.Tables.{count_rows, rows_by_names, same_rows}
use Rattle.cy_oneshot_outcomes.proofs.Walks.{between}

-- ---- places without a name add nothing to a row, and agree with each

extended_parts : (row : List Cell) (xs ys : List (Place × Cell)) → extended row (xs ++ ys) ≡ extended (extended row xs) ys
extended_parts row [] ys = refl
extended_parts row (p ∷ xs) ys = extended_parts (cond (is_new (length row) p.0) (row ++ p.1 ∷ []) row) xs ys

between_adds_nothing : (row : List Cell) (r : RelationshipPattern) (count : ℕ) (w : List Cell) → extended row (zip (between r count) w) ≡ row
between_adds_nothing row r zero w = refl
between_adds_nothing row r (suc zero) [] = refl
between_adds_nothing row r (suc zero) (c ∷ w) = refl
between_adds_nothing row r (suc (suc count)) [] = refl
between_adds_nothing row r (suc (suc count)) (c ∷ []) = refl
between_adds_nothing row r (suc (suc count)) (c ∷ d ∷ w) = between_adds_nothing row r (suc count) w

between_agrees : (row : List Cell) (r : RelationshipPattern) (count : ℕ) (w : List Cell) → list_all (agrees row) (zip (between r count) w) ≡ true
between_agrees row r zero w = refl
between_agrees row r (suc zero) [] = refl
between_agrees row r (suc zero) (c ∷ w) = refl
between_agrees row r (suc (suc count)) [] = refl
between_agrees row r (suc (suc count)) (c ∷ []) = refl
between_agrees row r (suc (suc count)) (c ∷ d ∷ w) = between_agrees row r (suc count) w

module _ (r : RelationshipPattern) (range : Length) (unnamed : r.variable ≡ None) where
  no_column : column_at (relationships (ranged r range) range) ≡ None
  no_column = ap (λ o. option_and_then (λ (v : Variable). v.column) o) unnamed

  list_adds_nothing : (row : List Cell) (c : Cell) (after : List (Place × Cell)) → extended row ((relationships (ranged r range) range, c) ∷ after) ≡ extended row after
  list_adds_nothing row c after = ap (λ o. extended (cond (option_map_or (λ column. column == length row) o false) (row ++ c ∷ []) row) after) no_column

  list_agrees : (row : List Cell) (c : Cell) → agrees row (relationships (ranged r range) range, c) ≡ true
  list_agrees row c = ap (λ o. option_map_or (λ column. option_map_or (λ d. eq_by_cmp cell_order d c) (slice_get row column) false) o true) no_column

  module _ (row : List Cell) (count : ℕ) (lefts rights : List Place) (b w c : List Cell) (ids : Cell) (long_left : length b ≡ length lefts) (long_between : length w ≡ length (between r count)) where
    abbrev by_list : List (Place × Cell)
    by_list = zip (lefts ++ (relationships (ranged r range) range ∷ rights)) (b ++ ids ∷ c)

    abbrev by_singles : List (Place × Cell)
    by_singles = zip (lefts ++ (between r count ++ rights)) (b ++ (w ++ c))

    list_parts : by_list ≡ zip lefts b ++ (relationships (ranged r range) range, ids) ∷ zip rights c
    list_parts = zip_parts lefts (relationships (ranged r range) range ∷ rights) b (ids ∷ c) long_left

    singles_parts : by_singles ≡ zip lefts b ++ (zip (between r count) w ++ zip rights c)
    singles_parts =
        zip_parts lefts (between r count ++ rights) b (w ++ c) long_left
        ∙ ap (λ l. zip lefts b ++ l) (zip_parts (between r count) rights w c long_between)

    pub same_extended : extended row by_list ≡ extended row by_singles
    same_extended =
        let so_far : List Cell = extended row (zip lefts b) in
        ap (extended row) list_parts
        ∙ extended_parts row (zip lefts b) ((relationships (ranged r range) range, ids) ∷ zip rights c)
        ∙ list_adds_nothing (extended row (zip lefts b)) ids (zip rights c)
        ∙ sym (ap (extended row) singles_parts
        ∙ extended_parts row (zip lefts b) (zip (between r count) w ++ zip rights c)
        ∙ extended_parts (extended row (zip lefts b)) (zip (between r count) w) (zip rights c)
        ∙ ap (λ l. extended l (zip rights c)) (between_adds_nothing (extended row (zip lefts b)) r count w))

    same_agrees : (full : List Cell) → list_all (agrees full) by_list ≡ list_all (agrees full) by_singles
    same_agrees full =
        ap (list_all (agrees full)) list_parts
        ∙ list_all-append (agrees full) (zip lefts b) ((relationships (ranged r range) range, ids) ∷ zip rights c)
        ∙ ap (λ t. list_all (agrees full) (zip lefts b) && (t && list_all (agrees full) (zip rights c))) (list_agrees full ids)
        ∙ sym (ap (list_all (agrees full)) singles_parts
        ∙ list_all-append (agrees full) (zip lefts b) (zip (between r count) w ++ zip rights c)
        ∙ ap (λ t. list_all (agrees full) (zip lefts b) && t)
        (list_all-append (agrees full) (zip (between r count) w) (zip rights c) ∙ ap (λ t. t && list_all (agrees full) (zip rights c)) (between_agrees full r count w)))

    pub same_names : list_all (agrees (extended row by_list)) by_list ≡ list_all (agrees (extended row by_singles)) by_singles
    same_names = ap (λ full. list_all (agrees full) by_list) same_extended ∙ same_agrees (extended row by_singles)

-- ---- each assignment has a cell for each place

pub all_long : (graph : Content) (ps : List Place) → AllByRecursion (λ cells. length cells ≡ length ps) (assignments graph ps)
all_long graph [] = (refl, tt)
all_long graph (p ∷ ps) =
    all_assigned graph p ps (λ cells. length cells ≡ suc (length ps))
    (all_true (λ c. AllByRecursion (λ cs. suc (length cs) ≡ suc (length ps)) (assignments graph ps))
    (λ c. each_then (λ cs. length cs ≡ length ps) (λ cs. suc (length cs) ≡ suc (length ps)) (λ cs e. ap suc e) (assignments graph ps) (all_long graph ps)) (candidates graph p))

module _ (graph : Content) (rising : entries.is_sorted node_order graph.nodes ≡ true) (row : List Cell) (s : LongStep) (unnamed : s.relationship.variable ≡ None) where
  abbrev part_left : List Cell → List Cell
  part_left cells = take (places_before s) cells

  abbrev part_between : ℕ → List Cell → List Cell
  part_between count cells = take (places_between count) (drop (places_before s) cells)

  abbrev part_right : ℕ → List Cell → List Cell
  part_right count cells = drop (places_between count) (drop (places_before s) cells)

  put_together : (count : ℕ) (cells : List Cell) → part_left cells ++ (part_between count cells ++ part_right count cells) ≡ cells
  put_together count cells =
      ap (λ l. part_left cells ++ l) (take-append-drop (places_between count) (drop (places_before s) cells)) ∙ take-append-drop (places_before s) cells

  module _ (count : ℕ) (cells : List Cell) (long : length cells ≡ length (places (written_out s count))) where
    whole : length cells ≡ places_before s + (places_between count + suc (length (places_right s)))
    whole =
        let parts : length (places (written_out s count)) ≡ length (places_left s ++ (between s.relationship count ++ node s.end ∷ places_right s)) = ap length (places_of_singles s count) in
        let one : length (places_left s ++ (between s.relationship count ++ node s.end ∷ places_right s)) ≡ places_before s + length (between s.relationship count ++ node s.end ∷ places_right s) =
        length-append (places_left s) (between s.relationship count ++ node s.end ∷ places_right s) in
        let two : length (between s.relationship count ++ node s.end ∷ places_right s) ≡ length (between s.relationship count) + suc (length (places_right s)) =
        length-append (between s.relationship count) (node s.end ∷ places_right s) in
        omega (arith, long, parts, one, two, between_long s.relationship count)

    long_left : length (part_left cells) ≡ length (places_left s)
    long_left = omega (arith, length-take (places_before s) cells, whole)

    long_between : length (part_between count cells) ≡ length (between s.relationship count)
    long_between =
        omega (arith, length-take (places_between count) (drop (places_before s) cells), length-drop (places_before s) cells, whole, between_long s.relationship count)

    abbrev list_cell : Cell
    list_cell = cell.Rels (flat_map relationships_of (part_between count cells))

    zip_pattern : zip (places (pattern s)) (packed s count cells)
        ≡ zip (places_left s ++ (relationships (ranged s.relationship s.range) s.range ∷ node s.end ∷ places_right s)) (part_left cells ++ list_cell ∷ part_right count cells)
    zip_pattern = ap (λ ps. zip ps (packed s count cells)) (places_of_pattern s)

    zip_singles : zip (places (written_out s count)) cells
        ≡ zip (places_left s ++ (between s.relationship count ++ node s.end ∷ places_right s)) (part_left cells ++ (part_between count cells ++ part_right count cells))
    zip_singles = (λ i. zip (places_of_singles s count i) (sym (put_together count cells) i))

    pub alike_extended : extended row (zip (places (pattern s)) (packed s count cells)) ≡ extended row (zip (places (written_out s count)) cells)
    alike_extended =
        ap (extended row) zip_pattern
        ∙ same_extended s.relationship s.range unnamed row count (places_left s) (node s.end ∷ places_right s) (part_left cells) (part_between count cells) (part_right count cells) list_cell long_left long_between
        ∙ sym (ap (extended row) zip_singles)

    pub alike_names : names_agree (pattern s) row (packed s count cells) ≡ names_agree (written_out s count) row cells
    alike_names =
        ap (λ ps. list_all (agrees (extended row ps)) ps) zip_pattern
        ∙ same_names s.relationship s.range unnamed row count (places_left s) (node s.end ∷ places_right s) (part_left cells) (part_between count cells) (part_right count cells) list_cell long_left long_between
        ∙ sym (ap (λ ps. list_all (agrees (extended row ps)) ps) zip_singles)

  module _ (made : List Cell) where
    abbrev is_made : List Cell → ℕ
    is_made other = cond (eq_by_cmp row_cmp made other) 1 0

    abbrev of_pattern : List Cell → ℕ
    of_pattern cells = cond (names_agree (pattern s) row cells) (is_made (extended row (zip (places (pattern s)) cells))) 0

    abbrev of_written : ℕ → List Cell → ℕ
    of_written count cells = cond (names_agree (written_out s count) row cells) (is_made (extended row (zip (places (written_out s count)) cells))) 0

    each_count : (count : ℕ) → sum_by of_pattern (packed_table graph s row count) ≡ sum_by is_made (rows_written_out graph s row count)
    each_count count =
        sum_map of_pattern (packed s count) (filter (ends_meet s count) (own_table graph (written_out s count) row))
        ∙ sum_each_alike (λ cells. length cells ≡ length (places (written_out s count))) (λ cells. of_pattern (packed s count cells)) (of_written count)
        (λ cells long i. cond (alike_names count cells long i) (is_made (alike_extended count cells long i)) 0)
        (filter (ends_meet s count) (own_table graph (written_out s count) row))
        (each_filter (λ cells. length cells ≡ length (places (written_out s count))) (ends_meet s count) (own_table graph (written_out s count) row)
        (each_filter (λ cells. length cells ≡ length (places (written_out s count))) (λ cells. fits graph row (zip (map nameless (places (written_out s count))) cells))
        (assignments graph (places (written_out s count))) (all_long graph (places (written_out s count)))))
        ∙ sym (count_rows graph rising row s made (written_out s count) (filter (ends_meet s count) (own_table graph (written_out s count) row)))

  pub same_unnamed : IsSameBag (fitting graph (pattern s) row) (flat_map (rows_written_out graph s row) (counts_in graph s.range))
  same_unnamed made =
      same_rows graph rising row s made
      ∙ count_rows graph rising row s made (pattern s) (packed_tables graph s row)
      ∙ sum_flat_map (of_pattern made) (packed_table graph s row) (counts_in graph s.range)
      ∙ sums_alike (λ count. sum_by (of_pattern made) (packed_table graph s row count)) (λ count. sum_by (is_made made) (rows_written_out graph s row count)) (each_count made) (counts_in graph s.range)
      ∙ sym (sum_flat_map (is_made made) (rows_written_out graph s row) (counts_in graph s.range))

all_pass : {A : Type 0} (xs : List A) → filter (λ (x : A). true) xs ≡ xs
all_pass [] = refl
all_pass (x ∷ xs) = ap (λ l. x ∷ l) (all_pass xs)

-- with one relationship at least nothing is asked of the ends
pub rows_of_singles : (graph : Content) (row : List Cell) (s : LongStep) (count : ℕ) → 1 ≤ count → rows_written_out graph s row count ≡ fitting graph (written_out s count) row
rows_of_singles graph row s zero some = absurd (omega (arith, some))
rows_of_singles graph row s (suc count) some =
    ap (rows_of (written_out s (suc count)) row) (all_pass (own_table graph (written_out s (suc count)) row)) ∙ sym (rows_by_names graph (written_out s (suc count)) row)
