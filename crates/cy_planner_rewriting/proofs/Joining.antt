-- Look-ups on a join and on an outer join, on their sides.
use Rattle.std.proofs.Common.{◌≡◌, ℕ, ◌+◌, ◌<◌, ◌≤◌, Bool, true, false, cond, ◌&&◌, List, [], ◌∷◌, ◌++◌, length, map, filter, refl, sym, ap, subst, ◌∙◌, arith}
use Rattle.std.specs.Prelude.{IsOk, flat_map}
use Rattle.std.specs.List.{All, AllByRecursion}
use Rattle.std.specs.Cmp.{IsTotalOrder}
use Rattle.std.proofs.lemmas.Bool.{false≢true}
use Rattle.std.proofs.lemmas.Cmp.{eq_by_cmp_equiv}
use Rattle.std.proofs.lemmas.List.{get_or_append_left, length-append, length-map, length-replicate, map-append}
use Rattle.std.proofs.lemmas.List.Elements.{All-append, All-cons, All-head, All-nil, All-tail, All-weaker}
use Rattle.cy_values.specs.declared.rows.Cell.{Cell}
use Rattle.cy_values.specs.Bag.{count_of}
use Rattle.cy_values.specs.Order.{row_cmp}
use Rattle.cy_values.proofs.Lists.{each_filter}
use Rattle.cy_trees.specs.Trees.{Expression}
use Rattle.cy_graph.specs.Graph.{Content}
use Rattle.cy_planner_algebra.specs.declared.operators.KeyColumns.{KeyColumns}
use Rattle.cy_planner_algebra.specs.Plans as plan
use Rattle.cy_planner_algebra.specs.Plans.{Plan, Output, width}
use Rattle.cy_planner_algebra.specs.Expressions as expressions
use Rattle.cy_planner_algebra.specs.Expressions.{cell_at, cell_of, holds, is_true, no_graph, projected, truth_on}
use Rattle.cy_planner_algebra.specs.Keys.{is_same_key, meet}
use Rattle.cy_planner_algebra.specs.Meaning.{is_partner, joined, or_nulls, outer_joined, paired, rows_of}
use Rattle.cy_planner_algebra.specs.Parts.{parts}
use Rattle.cy_planner_algebra.specs.Sure.{HasCells, HasTruth, IsSureOn}
use Rattle.cy_planner_algebra.specs.WellFormed.{IsKeyBetween, IsOutputOver, IsOver, IsWellFormed, greatest_width}
use Rattle.cy_planner_algebra.specs.Within.{IsWithin}
use Rattle.cy_planner_algebra.proofs.Counts.{count_cons, count_passing, identity, same}
use Rattle.cy_expr.specs.Faults.{on_one}
use Rattle.cy_expr.specs.Reading.{reads_below}
use Rattle.cy_expr.specs.Logic.{truth_of}
use Rattle.cy_expr.specs.Operators.{value_in_cell}
use Rattle.cy_planner_rows.specs.declared.places.Wanted.{Wanted}
use Rattle.cy_planner_rows.specs.Renumbered.{renumbered}
use Rattle.cy_planner_rows.proofs.RenumberedLemmas.{reads_inside, same_cell, same_reading}
use Rattle.cy_planner_rows.specs.Columns.{column_output}
use Rattle.cy_planner_rows.specs.internal.Lookups.{over, value_on, with_values}
use Rattle.cy_planner_rows.proofs.OverRows.{IsInside, IsLong, any_rows, columns_have_cells, columns_over, cond_less, long_rows, own_part, parts_over, rows_over, smaller_within, well_over, width_bounded, width_over}
use Rattle.cy_planner_rewriting.specs.internal.Lowered.{both_columns, joined_columns, lefts, rights}
use Rattle.cy_planner_rewriting.specs.Rewritten.{IsRewritten}
use Rattle.cy_planner_rewriting.proofs.Congruent.{all_split, same_within}
use Rattle.cy_planner_rewriting.proofs.Passing.{tested_before, well_looked_up}
use Rattle.cy_planner_rewriting.proofs.Sides.{as_many_sides, both_cells, both_inside, joined_inside, lefts_inside, length_both, length_joined, pair_cells, rights_inside, with_nulls}

rows_split : (P : List Cell → Type 0) (xs ys : List (List Cell)) → All P (xs ++ ys) → All P xs × All P ys
rows_split P [] ys each = (All-nil P, each)
rows_split P (x ∷ xs) ys each =
    let rest = rows_split P xs ys (All-tail P x (xs ++ ys) each) in
    (All-cons P x xs (All-head P x (xs ++ ys) each) rest.0, rest.1)

-- ---- what holds of a plan with look-ups on it holds of the plan

pub sure_below : (graph : Content) (ws : List Wanted) (p : Plan) → IsSureOn graph (over p ws) → IsSureOn graph p
sure_below graph [] p sure = sure
sure_below graph (w ∷ ws) p sure = sure_below graph ws (plan.lookup p w.column w.attribute) sure

pub sure_above : (graph : Content) (ws : List Wanted) (p : Plan) → IsSureOn graph p → IsSureOn graph (over p ws)
sure_above graph [] p sure = sure
sure_above graph (w ∷ ws) p sure = sure_above graph ws (plan.lookup p w.column w.attribute) sure

pub parts_below : (P : Plan → Type 0) (ws : List Wanted) (p : Plan) → All P (parts (over p ws)) → All P (parts p)
parts_below P [] p each = each
parts_below P (w ∷ ws) p each = All-tail P (plan.lookup p w.column w.attribute) (parts p) (parts_below P ws (plan.lookup p w.column w.attribute) each)

-- a row stands no more often among some rows than what is made of it among what is made of these
pub count_least : IsTotalOrder row_cmp → (f : List Cell → List Cell) (x : List Cell) (rows : List (List Cell)) → count_of x rows ≤ count_of (f x) (map f rows)
count_least total f x [] = omega arith
count_least total f x (row ∷ rows) =
    let rest = count_least total f x rows in
    let one = count_cons x row rows in
    let two = count_cons (f x) (f row) (map f rows) in
    step (same x row) (same (f x) (f row)) refl refl rest one two
  where
    step : (b c : Bool) → same x row ≡ b → same (f x) (f row) ≡ c → count_of x rows ≤ count_of (f x) (map f rows) → count_of x (row ∷ rows) ≡ cond (same x row) 1 0 + count_of x rows → count_of (f x) (f row ∷ map f rows) ≡ cond (same (f x) (f row)) 1 0 + count_of (f x) (map f rows)
        → count_of x (row ∷ rows) ≤ count_of (f x) (f row ∷ map f rows)
    step true true is are rest one two = (let p = one ∙ ap (λ (d : Bool). cond d 1 0 + count_of x rows) is in let q = two ∙ ap (λ (d : Bool). cond d 1 0 + count_of (f x) (map f rows)) are in omega (arith, rest, p, q))
    step true false is are rest one two = absurd (false≢true (sym are ∙ ap (λ (r : List Cell). same (f x) (f r)) (sym (identity x row is)) ∙ (eq_by_cmp_equiv total).refl (f x)))
    step false true is are rest one two = (let p = one ∙ ap (λ (d : Bool). cond d 1 0 + count_of x rows) is in let q = two ∙ ap (λ (d : Bool). cond d 1 0 + count_of (f x) (map f rows)) are in omega (arith, rest, p, q))
    step false false is are rest one two = (let p = one ∙ ap (λ (d : Bool). cond d 1 0 + count_of x rows) is in let q = two ∙ ap (λ (d : Bool). cond d 1 0 + count_of (f x) (map f rows)) are in omega (arith, rest, p, q))

pub below_projection : IsTotalOrder row_cmp → (graph : Content) (tables : List (List (List Cell))) (p : Plan) (outputs : List Output) → IsWithin graph tables (plan.project p outputs) → IsWithin graph tables p
below_projection total graph tables p outputs within row =
    smaller_within tables (count_of row (rows_of graph p)) (count_of (projected outputs row) (map (projected outputs) (rows_of graph p)))
    (count_least total (projected outputs) row (rows_of graph p)) (within (projected outputs row))

-- ---- keys and tests on longer rows

pub keys_longer : (row others : List Cell) (columns : List ℕ) → All (λ c. c < length row) columns → map (cell_at (row ++ others)) columns ≡ map (cell_at row) columns
keys_longer row others [] each = refl
keys_longer row others (c ∷ columns) each =
    λ i. get_or_append_left row others expressions.null c (All-head (λ d. d < length row) c columns each) i ∷ keys_longer row others columns (All-tail (λ d. d < length row) c columns each) i

pub all_of : (left right : ℕ) (keys : List KeyColumns) → All (IsKeyBetween left right) keys → All (λ c. c < left) (map (λ k. k.left) keys) × All (λ c. c < right) (map (λ k. k.right) keys)
all_of left right [] each = (All-nil (λ c. c < left), All-nil (λ c. c < right))
all_of left right (k ∷ keys) each =
    let first = All-head (IsKeyBetween left right) k keys each in
    let rest = all_of left right keys (All-tail (IsKeyBetween left right) k keys each) in
    (All-cons (λ c. c < left) k.left (map (λ j. j.left) keys) first.0 rest.0, All-cons (λ c. c < right) k.right (map (λ j. j.right) keys) first.1 rest.1)

pub keys_wider : (left right more others : ℕ) (keys : List KeyColumns) → All (IsKeyBetween left right) keys → All (IsKeyBetween (left + more) (right + others)) keys
keys_wider left right more others keys each = All-weaker (IsKeyBetween left right) (IsKeyBetween (left + more) (right + others)) (λ k is. (let one = is.0 in omega (arith, one), let two = is.1 in omega (arith, two))) keys each

-- ---- look-ups on pairs

module _ (graph : Content) (ws : List Wanted) (left right : ℕ) (inside : AllByRecursion (IsInside (left + right)) ws) where
  abbrev L : List Wanted
  L = lefts left ws

  abbrev R : List Wanted
  R = rights left ws

  abbrev on_left : List Cell → List Cell
  on_left l = with_values graph L l

  abbrev on_right : List Cell → List Cell
  on_right r = with_values graph R r

  abbrev back : List Cell → List Cell
  back row = projected (map column_output (joined_columns left right ws)) row

  each_pair : (l : List Cell) (rs : List (List Cell)) → IsLong left l → AllByRecursion (IsLong right) rs → map back (paired (on_left l) (map on_right rs)) ≡ map (with_values graph ws) (paired l rs)
  each_pair l [] long each = refl
  each_pair l (r ∷ rs) long each = λ i. pair_cells graph l r left right long each.0 ws i ∷ each_pair l rs long each.1 i

  -- by what the partners of a row are
  all_pairs : (partners others : List Cell → List (List Cell)) (ls : List (List Cell)) → AllByRecursion (IsLong left) ls → ((l : List Cell) → IsLong left l → AllByRecursion (IsLong right) (partners l))
      → ((l : List Cell) → IsLong left l → others (on_left l) ≡ map on_right (partners l))
      → map back (flat_map (λ l. paired l (others l)) (map on_left ls)) ≡ map (with_values graph ws) (flat_map (λ l. paired l (partners l)) ls)
  all_pairs partners others [] long wide are = refl
  all_pairs partners others (l ∷ ls) long wide are =
      map-append back (paired (on_left l) (others (on_left l))) (flat_map (λ k. paired k (others k)) (map on_left ls))
      ∙ (λ i. (ap (λ rs. map back (paired (on_left l) rs)) (are l long.0) ∙ each_pair l (partners l) long.0 (wide l long.0)) i ++ all_pairs partners others ls long.1 wide are i)
      ∙ sym (map-append (with_values graph ws) (paired l (partners l)) (flat_map (λ k. paired k (partners k)) ls))

  module _ (keys : List KeyColumns) (between : All (IsKeyBetween left right) keys) where
    meets_same : (l r : List Cell) → IsLong left l → IsLong right r → meet keys (on_left l) (on_right r) ≡ meet keys l r
    meets_same l r long_left long_right =
        let both = all_of left right keys between in
        λ i. is_same_key (keys_longer l (map (value_on graph l) L) (map (λ k. k.left) keys) (subst (λ (n : ℕ). All (λ c. c < n) (map (λ k. k.left) keys)) (sym long_left) both.0) i)
        (keys_longer r (map (value_on graph r) R) (map (λ k. k.right) keys) (subst (λ (n : ℕ). All (λ c. c < n) (map (λ k. k.right) keys)) (sym long_right) both.1) i)

    pub joined_pairs : (ls rs : List (List Cell)) → AllByRecursion (IsLong left) ls → AllByRecursion (IsLong right) rs → map back (joined keys (map on_left ls) (map on_right rs)) ≡ map (with_values graph ws) (joined keys ls rs)
    joined_pairs ls rs long_left long_right =
        all_pairs (λ l. filter (meet keys l) rs) (λ l. filter (meet keys l) (map on_right rs)) ls long_left (λ l long. each_filter (IsLong right) (meet keys l) rs long_right)
        (λ l long. tested_before (IsLong right) on_right (meet keys (on_left l)) (meet keys l) (λ r long_r. meets_same l r long long_r) rs long_right)

    module _ (test : Expression) (is : IsOver (left + right) test) where
      abbrev moved_test : Expression
      moved_test = renumbered (both_columns left right (length L)) test

      truth_same : (l r : List Cell) → IsLong left l → IsLong right r → truth_on (on_left l ++ on_right r) moved_test ≡ truth_on (l ++ r) test
      truth_same l r long_left long_right =
          let columns : List ℕ = both_columns left right (length L) in
          let row : List Cell = on_left l ++ on_right r in
          let cells : map (cell_at row) columns ≡ l ++ r = both_cells graph l r left right long_left long_right (map (value_on graph l) L) (map (value_on graph r) R) (length L) (length-map L (value_on graph l)) in
          let wide : length columns ≡ left + right = sym (length-map columns (cell_at row)) ∙ ap length cells ∙ length-append l r ∙ (λ i. long_left i + long_right i) in
          ap (λ c. on_one truth_of (on_one value_in_cell c)) (same_cell no_graph row columns test (subst (λ (n : ℕ). reads_below n test ≡ true) (sym wide) is.1) ∙ ap (λ (k : List Cell). cell_of k test) cells)

      partners_same : (l r : List Cell) → IsLong left l → IsLong right r → is_partner keys moved_test (on_left l) (on_right r) ≡ is_partner keys test l r
      partners_same l r long_left long_right = λ i. meets_same l r long_left long_right i && is_true (truth_same l r long_left long_right i)

      nulls_same : (found : List (List Cell)) → or_nulls (right + length R) (map on_right found) ≡ map on_right (or_nulls right found)
      nulls_same [] = ap (λ (row : List Cell). row ∷ []) (sym (with_nulls graph right R (rights_inside left right ws inside)))
      nulls_same (row ∷ found) = refl

      long_or_nulls : (found : List (List Cell)) → AllByRecursion (IsLong right) found → AllByRecursion (IsLong right) (or_nulls right found)
      long_or_nulls [] each = (length-replicate right expressions.null, tt)
      long_or_nulls (row ∷ found) each = each

      pub outer_pairs : (ls rs : List (List Cell)) → AllByRecursion (IsLong left) ls → AllByRecursion (IsLong right) rs
          → map back (outer_joined keys moved_test (right + length R) (map on_left ls) (map on_right rs)) ≡ map (with_values graph ws) (outer_joined keys test right ls rs)
      outer_pairs ls rs long_left long_right =
          all_pairs (λ l. or_nulls right (filter (is_partner keys test l) rs)) (λ l. or_nulls (right + length R) (filter (is_partner keys moved_test l) (map on_right rs))) ls long_left
          (λ l long. long_or_nulls (filter (is_partner keys test l) rs) (each_filter (IsLong right) (is_partner keys test l) rs long_right))
          (λ l long.
          ap (or_nulls (right + length R)) (tested_before (IsLong right) on_right (is_partner keys moved_test (on_left l)) (is_partner keys test l) (λ r long_r. partners_same l r long long_r) rs long_right)
          ∙ nulls_same (filter (is_partner keys test l) rs))

      sure_pair : (l : List Cell) (rs : List (List Cell)) → IsLong left l → AllByRecursion (IsLong right) rs → All (HasTruth test) (paired l rs) → All (HasTruth moved_test) (paired (on_left l) (map on_right rs))
      sure_pair l [] long each all = All-nil (HasTruth moved_test)
      sure_pair l (r ∷ rs) long each all =
          All-cons (HasTruth moved_test) (on_left l ++ on_right r) (paired (on_left l) (map on_right rs))
          (subst IsOk (sym (truth_same l r long each.0)) (All-head (HasTruth test) (l ++ r) (paired l rs) all))
          (sure_pair l rs long each.1 (All-tail (HasTruth test) (l ++ r) (paired l rs) all))

      pub sure_pairs : (ls rs : List (List Cell)) → AllByRecursion (IsLong left) ls → AllByRecursion (IsLong right) rs → All (HasTruth test) (joined keys ls rs) → All (HasTruth moved_test) (joined keys (map on_left ls) (map on_right rs))
      sure_pairs [] rs long_left long_right all = All-nil (HasTruth moved_test)
      sure_pairs (l ∷ ls) rs long_left long_right all =
          let both = rows_split (HasTruth test) (paired l (filter (meet keys l) rs)) (joined keys ls rs) all in
          let found : filter (meet keys (on_left l)) (map on_right rs) ≡ map on_right (filter (meet keys l) rs) = tested_before (IsLong right) on_right (meet keys (on_left l)) (meet keys l) (λ r long_r. meets_same l r long_left.0 long_r) rs long_right in
          All-append (HasTruth moved_test) (paired (on_left l) (filter (meet keys (on_left l)) (map on_right rs))) (joined keys (map on_left ls) (map on_right rs))
          (subst (λ rows. All (HasTruth moved_test) (paired (on_left l) rows)) (sym found) (sure_pair l (filter (meet keys l) rs) long_left.0 (each_filter (IsLong right) (meet keys l) rs long_right) both.0))
          (sure_pairs ls rs long_left.1 long_right both.1)

-- ---- the plans

module _ (total : IsTotalOrder row_cmp) (left right : Plan) (ws : List Wanted) (keys : List KeyColumns) (inside : AllByRecursion (IsInside (width left + width right)) ws) where
  abbrev a : ℕ
  a = width left

  abbrev b : ℕ
  b = width right

  abbrev wide_left : Plan
  wide_left = over left (lefts a ws)

  abbrev wide_right : Plan
  wide_right = over right (rights a ws)

  abbrev outputs : List Output
  outputs = map column_output (joined_columns a b ws)

  left_inside : AllByRecursion (IsInside (width left)) (lefts a ws)
  left_inside = lefts_inside a ws

  right_inside : AllByRecursion (IsInside (width right)) (rights a ws)
  right_inside = rights_inside a b ws inside

  -- how wide the sides are
  widths : (width wide_left ≡ a + length (lefts a ws)) × (width wide_right ≡ b + length (rights a ws)) × (length (lefts a ws) + length (rights a ws) ≡ length ws)
  widths = (width_over left (lefts a ws), width_over right (rights a ws), as_many_sides a ws)

  both_wide : width wide_left + width wide_right ≡ (a + b) + length ws
  both_wide = let w = widths in let one = w.0 in let two = w.1 in let three = w.2 in omega (arith, one, two, three)

  module _ (good_left : IsWellFormed left) (good_right : IsWellFormed right) (room : (a + b) + length ws ≤ greatest_width) where
    good_wide_left : IsWellFormed wide_left
    good_wide_left = let w = widths in let three = w.2 in well_over left (lefts a ws) good_left left_inside (omega (arith, room, three))

    good_wide_right : IsWellFormed wide_right
    good_wide_right = let w = widths in let three = w.2 in well_over right (rights a ws) good_right right_inside (omega (arith, room, three))

    keys_between : All (IsKeyBetween a b) keys → All (IsKeyBetween (width wide_left) (width wide_right)) keys
    keys_between each =
        let w = widths in
        subst (λ (n : ℕ). All (IsKeyBetween n (width wide_right)) keys) (sym w.0)
        (subst (λ (n : ℕ). All (IsKeyBetween (a + length (lefts a ws)) n) keys) (sym w.1) (keys_wider a b (length (lefts a ws)) (length (rights a ws)) keys each))

    both_room : width wide_left + width wide_right ≤ greatest_width
    both_room = omega (arith, both_wide, room)

    outputs_over : All (IsOutputOver (width wide_left + width wide_right)) outputs
    outputs_over =
        let w = widths in
        subst (λ (n : ℕ). All (IsOutputOver n) outputs) (λ i. sym w.0 i + sym w.1 i)
        (columns_over ((a + length (lefts a ws)) + (b + length (rights a ws))) (joined_columns a b ws) (joined_inside a b ws))

    as_long : length outputs ≡ (a + b) + length ws
    as_long = length-map (joined_columns a b ws) column_output ∙ length_joined a b ws

    outputs_room : length outputs ≤ greatest_width
    outputs_room = omega (arith, as_long, room)

    left_rows : (graph : Content) → rows_of graph wide_left ≡ map (with_values graph (lefts a ws)) (rows_of graph left)
    left_rows graph = rows_over graph left (lefts a ws) good_left left_inside

    right_rows : (graph : Content) → rows_of graph wide_right ≡ map (with_values graph (rights a ws)) (rows_of graph right)
    right_rows graph = rows_over graph right (rights a ws) good_right right_inside

    -- the parts of a join whose sides have the look-ups
    sides_within : (graph : Content) (tables : List (List (List Cell))) (top other : Plan) → parts top ≡ top ∷ parts left ++ parts right → parts other ≡ other ∷ parts wide_left ++ parts wide_right
        → rows_of graph (plan.project other outputs) ≡ rows_of graph (over top ws) → All (IsWithin graph tables) (parts (over top ws)) → All (IsWithin graph tables) (plan.project other outputs ∷ parts other)
    sides_within graph tables top other parts_top parts_other rows each =
        let W : Plan → Type 0 = IsWithin graph tables in
        let own : W (plan.project other outputs) = same_within graph tables (over top ws) (plan.project other outputs) rows (own_part W (over top ws) each) in
        let below = subst (All W) parts_top (parts_below W ws top each) in
        let both = all_split W (parts left) (parts right) (All-tail W top (parts left ++ parts right) below) in
        let w = widths in
        let three = w.2 in
        let lefts_within : All W (parts wide_left) = parts_over graph tables left (lefts a ws) good_left left_inside (omega (arith, room, three)) both.0 (own_part W left both.0) in
        let rights_within : All W (parts wide_right) = parts_over graph tables right (rights a ws) good_right right_inside (omega (arith, room, three)) both.1 (own_part W right both.1) in
        All-cons W (plan.project other outputs) (parts other) own
        (subst (All W) (sym parts_other) (All-cons W other (parts wide_left ++ parts wide_right) (below_projection total graph tables other outputs own) (All-append W (parts wide_left) (parts wide_right) lefts_within rights_within)))

    all_cells : (rows : List (List Cell)) → All (HasCells outputs) rows
    all_cells rows = any_rows (HasCells outputs) (λ row. columns_have_cells row (joined_columns a b ws)) rows

  -- ---- a join

  join_room : IsWellFormed (over (plan.join left right keys) ws) → (a + b) + length ws ≤ greatest_width
  join_room well = subst (λ (n : ℕ). n ≤ greatest_width) (width_over (plan.join left right keys) ws) (width_bounded (over (plan.join left right keys) ws) well)

  join_rows : (graph : Content) → IsWellFormed (over (plan.join left right keys) ws) → rows_of graph (plan.project (plan.join wide_left wide_right keys) outputs) ≡ rows_of graph (over (plan.join left right keys) ws)
  join_rows graph well =
      let good = well_looked_up ws (plan.join left right keys) well in
      let room = join_room well in
      (λ i. map (projected outputs) (joined keys (left_rows good.0 good.1 room graph i) (right_rows good.0 good.1 room graph i)))
      ∙ joined_pairs graph ws a b inside keys good.2 (rows_of graph left) (rows_of graph right) (long_rows graph left good.0) (long_rows graph right good.1)
      ∙ sym (rows_over graph (plan.join left right keys) ws good inside)

  pub on_join : IsWellFormed (over (plan.join left right keys) ws) → IsRewritten (over (plan.join left right keys) ws) (plan.project (plan.join wide_left wide_right keys) outputs)
  on_join well =
      let good = well_looked_up ws (plan.join left right keys) well in
      let room = join_room well in
      record {
        as_wide = as_long good.0 good.1 room ∙ sym (width_over (plan.join left right keys) ws);
        well_formed = λ again. (
          (good_wide_left good.0 good.1 room, good_wide_right good.0 good.1 room, keys_between good.0 good.1 room good.2, both_room good.0 good.1 room),
          outputs_over good.0 good.1 room,
          outputs_room good.0 good.1 room,
        );
        rows = λ graph. join_rows graph well;
        sure = λ graph sure.
            let below = sure_below graph ws (plan.join left right keys) sure in
            ((sure_above graph (lefts a ws) left below.0, sure_above graph (rights a ws) right below.1), all_cells good.0 good.1 room (rows_of graph (plan.join wide_left wide_right keys)));
        bounded = λ graph tables each. sides_within good.0 good.1 room graph tables (plan.join left right keys) (plan.join wide_left wide_right keys) refl refl (join_rows graph well) each;
      }

  -- ---- an outer join

  module _ (test : Expression) where
    abbrev on_both : Expression
    on_both = renumbered (both_columns a b (length (lefts a ws))) test

    outer_room : IsWellFormed (over (plan.outer left right keys test) ws) → (a + b) + length ws ≤ greatest_width
    outer_room well = subst (λ (n : ℕ). n ≤ greatest_width) (width_over (plan.outer left right keys test) ws) (width_bounded (over (plan.outer left right keys test) ws) well)

    outer_rows : (graph : Content) → IsWellFormed (over (plan.outer left right keys test) ws) → rows_of graph (plan.project (plan.outer wide_left wide_right keys on_both) outputs) ≡ rows_of graph (over (plan.outer left right keys test) ws)
    outer_rows graph well =
        let good = well_looked_up ws (plan.outer left right keys test) well in
        let room = outer_room well in
        (λ i. map (projected outputs) (outer_joined keys on_both (widths.1 i) (left_rows good.0 good.1 room graph i) (right_rows good.0 good.1 room graph i)))
        ∙ outer_pairs graph ws a b inside keys good.2 test good.4 (rows_of graph left) (rows_of graph right) (long_rows graph left good.0) (long_rows graph right good.1)
        ∙ sym (rows_over graph (plan.outer left right keys test) ws good inside)

    test_over : (n : ℕ) → a + length (lefts a ws) + b ≤ n → IsOver (a + b) test → IsOver n on_both
    test_over n room is =
        let columns : List ℕ = both_columns a b (length (lefts a ws)) in
        (same_reading columns test ∙ is.0, reads_inside n columns (both_inside a b (length (lefts a ws)) n room) test (subst (λ (m : ℕ). reads_below m test ≡ true) (sym (length_both a b (length (lefts a ws)))) is.1))

    pub on_outer : IsWellFormed (over (plan.outer left right keys test) ws) → IsRewritten (over (plan.outer left right keys test) ws) (plan.project (plan.outer wide_left wide_right keys on_both) outputs)
    on_outer well =
        let good = well_looked_up ws (plan.outer left right keys test) well in
        let room = outer_room well in
        let w = widths in
        let one = w.0 in
        let two = w.1 in
        record {
          as_wide = as_long good.0 good.1 room ∙ sym (width_over (plan.outer left right keys test) ws);
          well_formed = λ again. (
            (
              good_wide_left good.0 good.1 room,
              good_wide_right good.0 good.1 room,
              keys_between good.0 good.1 room good.2,
              both_room good.0 good.1 room,
              test_over (width wide_left + width wide_right) (omega (arith, one, two)) good.4,
            ),
            outputs_over good.0 good.1 room,
            outputs_room good.0 good.1 room,
          );
          rows = λ graph. outer_rows graph well;
          sure = λ graph sure.
              let below = sure_below graph ws (plan.outer left right keys test) sure in (
                (
                  sure_above graph (lefts a ws) left below.0,
                  sure_above graph (rights a ws) right below.1,
                  subst (λ rows. All (HasTruth on_both) rows) (λ i. joined keys (sym (left_rows good.0 good.1 room graph) i) (sym (right_rows good.0 good.1 room graph) i))
                      (sure_pairs graph ws a b inside keys good.2 test good.4 (rows_of graph left) (rows_of graph right) (long_rows graph left good.0) (long_rows graph right good.1) below.2),
                ),
                all_cells good.0 good.1 room (rows_of graph (plan.outer wide_left wide_right keys on_both)),
              );
          bounded = λ graph tables each. sides_within good.0 good.1 room graph tables (plan.outer left right keys test) (plan.outer wide_left wide_right keys on_both) refl refl (outer_rows graph well) each;
        }

-- what sifts the rows of a plan counts no row more often
pub sifted_within : (graph : Content) (tables : List (List (List Cell))) (q : List Cell → Bool) (below p : Plan) → rows_of graph p ≡ filter q (rows_of graph below) → IsWithin graph tables below → IsWithin graph tables p
sifted_within graph tables q below p is within row =
    smaller_within tables (count_of row (rows_of graph p)) (count_of row (rows_of graph below))
    (subst (λ rows. count_of row rows ≤ count_of row (rows_of graph below)) (sym is)
    (subst (λ n. n ≤ count_of row (rows_of graph below)) (sym (count_passing q row (rows_of graph below))) (cond_less (q row) (count_of row (rows_of graph below)))))
    (within row)
