-- Tables of patterns, and the rows that they make.
use Rattle.std.specs.FinMap.Entries as entries
use Rattle.std.proofs.Common.{◌≡◌, ℕ, zero, suc, Bool, true, false, cond, ◌&&◌, List, [], ◌∷◌, ◌++◌, map, filter, Some, refl, sym, ap, ◌∙◌}
use Rattle.std.specs.Prelude.{sum_by, flat_map, zip}
use Rattle.std.specs.List.{list_all}
use Rattle.std.specs.Ordering.{eq_by_cmp}
use Rattle.cy_values.specs.Bag.{IsSameBag}
use Rattle.cy_values.specs.Order.{row_cmp}
use Rattle.cy_values.specs.declared.rows.Cell.{Cell}
use Rattle.cy_values.proofs.Lists.{sums_alike}
use Rattle.cy_trees.specs.Trees.{Path}
use Rattle.cy_graph.specs.Graph.{Content, node_order}
use Rattle.cy_expr.specs.Graphs.{are_different}
use Rattle.cy_oneshot_patterns.specs.Fits.{agrees, are_linked, extended, fits, has_entries, is_labelled, is_link, relationships_of}
use Rattle.cy_oneshot_patterns.specs.Matching.{fitting}
use Rattle.cy_oneshot_patterns.specs.Places.{Place, node, relationship, relationships, assignments, places}
use Rattle.cy_oneshot_outcomes.specs.Lengths.{LongStep, counts_in, ends_meet, nameless, names_agree, own_table, packed, packed_table, packed_tables, pattern, places_before, rows_of, written_out}
use Rattle.cy_oneshot_outcomes.proofs.Sums.{sum_filter, sum_flat_map, sum_map}
use Rattle.cy_oneshot_outcomes.proofs.Fitting.{fits_and_agrees, fits_nameless, holds}
use Rattle.cy_oneshot_outcomes.proofs.PathPlaces.{left_end, one_before, places_of_pattern, places_of_singles, places_right}
use Rattle.cy_oneshot_outcomes.proofs.Spread.{meet_at, spread}
use Rattle.cy_oneshot_outcomes.proofs.Walks.{between}

-- ---- names and the rest

linked_nameless : (graph : Content) (ps : List Place) (cells : List Cell) → are_linked graph (zip (map nameless ps) cells) ≡ are_linked graph (zip ps cells)
linked_nameless graph [] cells = refl
linked_nameless graph (p ∷ ps) [] = refl
linked_nameless graph (p ∷ []) (c ∷ cells) = refl
linked_nameless graph (p ∷ q ∷ ps) (c ∷ []) = refl
linked_nameless graph (p ∷ q ∷ []) (c ∷ d ∷ cells) = refl
linked_nameless graph (p ∷ q ∷ o ∷ ps) (c ∷ d ∷ []) = refl
linked_nameless graph (p ∷ q ∷ o ∷ ps) (c ∷ d ∷ e ∷ cells) = (λ i. link q i && linked_nameless graph (q ∷ o ∷ ps) (d ∷ e ∷ cells) i)
  where
    link : (q : Place) → is_link graph (nameless q) c d e ≡ is_link graph q c d e
    link (node n) = refl
    link (relationship r) = refl
    link (relationships r range) = refl

labelled_nameless : (graph : Content) (ps : List Place) (cells : List Cell) → list_all (is_labelled graph) (zip (map nameless ps) cells) ≡ list_all (is_labelled graph) (zip ps cells)
labelled_nameless graph [] cells = refl
labelled_nameless graph (p ∷ ps) [] = refl
labelled_nameless graph (node n ∷ ps) (c ∷ cells) = ap (λ b. is_labelled graph (node n, c) && b) (labelled_nameless graph ps cells)
labelled_nameless graph (relationship r ∷ ps) (c ∷ cells) = ap (λ b. is_labelled graph (relationship r, c) && b) (labelled_nameless graph ps cells)
labelled_nameless graph (relationships r range ∷ ps) (c ∷ cells) = ap (λ b. is_labelled graph (relationships r range, c) && b) (labelled_nameless graph ps cells)

entries_nameless : (graph : Content) (row : List Cell) (ps : List Place) (cells : List Cell)
    → list_all (has_entries graph row) (zip (map nameless ps) cells) ≡ list_all (has_entries graph row) (zip ps cells)
entries_nameless graph row [] cells = refl
entries_nameless graph row (p ∷ ps) [] = refl
entries_nameless graph row (node n ∷ ps) (c ∷ cells) = ap (λ b. has_entries graph row (node n, c) && b) (entries_nameless graph row ps cells)
entries_nameless graph row (relationship r ∷ ps) (c ∷ cells) = ap (λ b. has_entries graph row (relationship r, c) && b) (entries_nameless graph row ps cells)
entries_nameless graph row (relationships r range ∷ ps) (c ∷ cells) = ap (λ b. has_entries graph row (relationships r range, c) && b) (entries_nameless graph row ps cells)

taken_nameless : (ps : List Place) (cells : List Cell) → flat_map (λ (p : Place × Cell). relationships_of p.1) (zip (map nameless ps) cells) ≡ flat_map (λ (p : Place × Cell). relationships_of p.1) (zip ps cells)
taken_nameless [] cells = refl
taken_nameless (p ∷ ps) [] = refl
taken_nameless (p ∷ ps) (c ∷ cells) = ap (λ l. relationships_of c ++ l) (taken_nameless ps cells)

holds_nameless : (graph : Content) (row : List Cell) (ps : List Place) (cells : List Cell) → holds graph row (zip (map nameless ps) cells) ≡ holds graph row (zip ps cells)
holds_nameless graph row ps cells =
    (λ i. linked_nameless graph ps cells i && labelled_nameless graph ps cells i && entries_nameless graph row ps cells i && are_different (taken_nameless ps cells i))

-- an assignment fits where the names agree and it fits whatever the names
pub fits_by_names : (graph : Content) (row : List Cell) (ps : List Place) (cells : List Cell)
    → fits graph row (zip ps cells) ≡ (list_all (agrees (extended row (zip ps cells))) (zip ps cells) && fits graph row (zip (map nameless ps) cells))
fits_by_names graph row ps cells =
    fits_and_agrees graph row (zip ps cells)
    ∙ ap (λ b. list_all (agrees (extended row (zip ps cells))) (zip ps cells) && b) (sym (fits_nameless graph row ps cells ∙ holds_nameless graph row ps cells))

filter_first : {A : Type 0} (q : A → Bool) (b : Bool) (x : A) (xs : List A) → filter q (cond b (x ∷ xs) xs) ≡ cond b (cond (q x) (x ∷ filter q xs) (filter q xs)) (filter q xs)
filter_first q true x xs = refl
filter_first q false x xs = refl

images_of_both : {A B C : Type 0} (g : A → B) (h : B → C) (p : B → Bool) (q o : A → Bool) → ((x : A) → p (g x) ≡ (q x && o x)) → (xs : List A)
    → map h (filter p (map g xs)) ≡ map (λ x. h (g x)) (filter q (filter o xs))
images_of_both g h p q o both [] = refl
images_of_both g h p q o both (x ∷ xs) =
    ap (λ b. map h (cond b (g x ∷ filter p (map g xs)) (filter p (map g xs)))) (both x)
    ∙ by (q x) (o x) (images_of_both g h p q o both xs)
    ∙ sym (ap (map (λ y. h (g y))) (filter_first q (o x) x (filter o xs)))
  where
    by : (b c : Bool) → map h (filter p (map g xs)) ≡ map (λ y. h (g y)) (filter q (filter o xs))
        → map h (cond (b && c) (g x ∷ filter p (map g xs)) (filter p (map g xs)))
        ≡ map (λ y. h (g y)) (cond c (cond b (x ∷ filter q (filter o xs)) (filter q (filter o xs))) (filter q (filter o xs)))
    by true true e = ap (λ l. h (g x) ∷ l) e
    by true false e = e
    by false true e = e
    by false false e = e

-- the rows of MATCH are those that the own table makes
pub rows_by_names : (graph : Content) (paths : List Path) (row : List Cell) → fitting graph paths row ≡ rows_of paths row (own_table graph paths row)
rows_by_names graph paths row =
    images_of_both (λ cells. zip (places paths) cells) (extended row) (fits graph row) (names_agree paths row) (λ cells. fits graph row (zip (map nameless (places paths)) cells))
    (λ cells. fits_by_names graph row (places paths) cells) (assignments graph (places paths))

-- ---- the tables of the pattern and of the pattern written out

module _ (graph : Content) (rising : entries.is_sorted node_order graph.nodes ≡ true) (row : List Cell) (s : LongStep) where
  abbrev own : List Place → List Cell → Bool
  own ps cells = fits graph row (zip (map nameless ps) cells)

  meets_alike : (count : ℕ) (cells : List Cell) → meet_at (places_before s) count cells ≡ ends_meet s count cells
  meets_alike zero cells = refl
  meets_alike (suc count) cells = refl

  module _ (value : List Cell → ℕ) where
    abbrev of_packed : ℕ → List Place → List Cell → ℕ
    of_packed count ps cells = cond (own ps cells) (cond (meet_at (places_before s) count cells) (value (packed s count cells)) 0) 0

    sum_of_pattern : sum_by value (own_table graph (pattern s) row) ≡ sum_by (λ cells. cond (own (places (pattern s)) cells) (value cells) 0) (assignments graph (places (pattern s)))
    sum_of_pattern = sum_filter value (own (places (pattern s))) (assignments graph (places (pattern s)))

    sum_of_packed : (count : ℕ) → sum_by value (packed_table graph s row count) ≡ sum_by (of_packed count (places (written_out s count))) (assignments graph (places (written_out s count)))
    sum_of_packed count =
        sum_map value (packed s count) (filter (ends_meet s count) (own_table graph (written_out s count) row))
        ∙ sum_filter (λ cells. value (packed s count cells)) (ends_meet s count) (own_table graph (written_out s count) row)
        ∙ sum_filter (λ cells. cond (ends_meet s count cells) (value (packed s count cells)) 0) (own (places (written_out s count))) (assignments graph (places (written_out s count)))
        ∙ sums_alike (λ cells. cond (own (places (written_out s count)) cells) (cond (ends_meet s count cells) (value (packed s count cells)) 0) 0) (of_packed count (places (written_out s count)))
        (λ cells. ap (λ b. cond (own (places (written_out s count)) cells) (cond b (value (packed s count cells)) 0) 0) (sym (meets_alike count cells))) (assignments graph (places (written_out s count)))

    pub same_sums : sum_by value (own_table graph (pattern s) row) ≡ sum_by value (packed_tables graph s row)
    same_sums =
        let left = left_end s in
        let whole : places (pattern s) ≡ (left.others ++ node left.last ∷ []) ++ (relationships (record s.relationship { length = Some s.range }) s.range ∷ node s.end ∷ places_right s) =
        places_of_pattern s ∙ ap (λ l. l ++ (relationships (record s.relationship { length = Some s.range }) s.range ∷ node s.end ∷ places_right s)) left.parts in
        let singles : (count : ℕ) → places (written_out s count) ≡ (left.others ++ node left.last ∷ []) ++ (between s.relationship count ++ node s.end ∷ places_right s) =
        λ count. places_of_singles s count ∙ ap (λ l. l ++ (between s.relationship count ++ node s.end ∷ places_right s)) left.parts in
        sum_of_pattern
        ∙ ap (λ ps. sum_by (λ cells. cond (own ps cells) (value cells) 0) (assignments graph ps)) whole
        ∙ spread graph rising row s.relationship s.range left.others left.last s.end (places_right s) value (places_before s) (one_before s)
        ∙ sums_alike
        (λ count. sum_by (of_packed count ((left.others ++ node left.last ∷ []) ++ (between s.relationship count ++ node s.end ∷ places_right s)))
        (assignments graph ((left.others ++ node left.last ∷ []) ++ (between s.relationship count ++ node s.end ∷ places_right s))))
        (λ count. sum_by value (packed_table graph s row count))
        (λ count. ap (λ ps. sum_by (of_packed count ps) (assignments graph ps)) (sym (singles count)) ∙ sym (sum_of_packed count)) (counts_in graph s.range)
        ∙ sym (sum_flat_map value (packed_table graph s row) (counts_in graph s.range))

  pub same_tables : IsSameBag (own_table graph (pattern s) row) (packed_tables graph s row)
  same_tables made = same_sums (λ cells. cond (eq_by_cmp row_cmp made cells) 1 0)

  -- the rows that a table makes, counted
  pub count_rows : (made : List Cell) (paths : List Path) (table : List (List Cell))
      → sum_by (λ other. cond (eq_by_cmp row_cmp made other) 1 0) (rows_of paths row table)
      ≡ sum_by (λ cells. cond (names_agree paths row cells) (cond (eq_by_cmp row_cmp made (extended row (zip (places paths) cells))) 1 0) 0) table
  count_rows made paths table =
      sum_map (λ other. cond (eq_by_cmp row_cmp made other) 1 0) (λ cells. extended row (zip (places paths) cells)) (filter (names_agree paths row) table)
      ∙ sum_filter (λ cells. cond (eq_by_cmp row_cmp made (extended row (zip (places paths) cells))) 1 0) (names_agree paths row) table

  pub same_rows : IsSameBag (fitting graph (pattern s) row) (rows_of (pattern s) row (packed_tables graph s row))
  same_rows made =
      ap (sum_by (λ other. cond (eq_by_cmp row_cmp made other) 1 0)) (rows_by_names graph (pattern s) row)
      ∙ count_rows made (pattern s) (own_table graph (pattern s) row)
      ∙ same_sums (λ cells. cond (names_agree (pattern s) row cells) (cond (eq_by_cmp row_cmp made (extended row (zip (places (pattern s)) cells))) 1 0) 0)
      ∙ sym (count_rows made (pattern s) (packed_tables graph s row))
