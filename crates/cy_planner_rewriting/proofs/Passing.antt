-- Look-ups go down through a part with one part below it.
use Rattle.std.proofs.Common.{◌≡◌, ℕ, ◌+◌, ◌<◌, ◌≤◌, Bool, true, false, cond, List, [], ◌∷◌, ◌++◌, length, map, filter, refl, sym, ap, subst, ◌∙◌, arith}
use Rattle.std.specs.Prelude.{zero, suc, Option, Some, None, IsOk, option_map, slice_get}
use Rattle.std.specs.List.{All, AllByRecursion, range_with_len}
use Rattle.std.specs.Option.{option_and_then}
use Rattle.std.proofs.lemmas.Bool.{lt-ltb}
use Rattle.std.proofs.Math.Seq.{get_or-append_seam}
use Rattle.std.proofs.lemmas.List.{append-nil, append_assoc, length-append, map-append}
use Rattle.std.proofs.lemmas.List.Elements.{All-append, All-cons, All-head, All-nil, All-tail}
use Rattle.std.proofs.lemmas.Option.{get_or_from_slice_get, same_Some, slice_get-map}
use Rattle.cy_values.specs.declared.rows.Cell.{Cell}
use Rattle.cy_values.specs.declared.rows.Cell.TheVariants as cell
use Rattle.cy_trees.specs.Trees.{Expression}
use Rattle.cy_graph.specs.Graph.{Content}
use Rattle.cy_expr.specs.Graphs.{are_different}
use Rattle.cy_planner_algebra.specs.declared.operators.Attribute.{Attribute}
use Rattle.cy_planner_algebra.specs.Plans as plan
use Rattle.cy_planner_algebra.specs.Plans.{Plan, Output, width}
use Rattle.cy_planner_algebra.specs.Expressions as expressions
use Rattle.cy_planner_algebra.specs.Expressions.{cell_at, holds, output_cell, projected, relationships_at}
use Rattle.cy_planner_algebra.specs.Meaning.{attribute_of, rows_of, with_attribute}
use Rattle.cy_planner_algebra.specs.Parts.{parts}
use Rattle.cy_planner_algebra.specs.Sure.{HasCell, HasCells, HasTruth}
use Rattle.cy_planner_algebra.specs.WellFormed.{IsColumn, IsOutputOver, IsOver, IsWellFormed, greatest_width}
use Rattle.cy_planner_algebra.specs.Within.{IsWithin}
use Rattle.cy_planner_rows.specs.declared.places.Wanted.{Wanted}
use Rattle.cy_planner_rows.specs.Columns.{column_output}
use Rattle.cy_planner_rows.specs.internal.Lookups.{over}
use Rattle.cy_planner_rows.proofs.OverRows.{IsLong, long_rows, own_part, within_over}
use Rattle.cy_planner_rows.specs.Columns.{taken_column}
use Rattle.cy_planner_rewriting.specs.internal.Lowered.{lookup_at, moved, with_columns}
use Rattle.cy_planner_rewriting.specs.Rewritten.{IsRewritten}
use Rattle.cy_planner_rewriting.proofs.Congruent.{over_lookup, rewritten_again, same_plan, same_within}
use Rattle.cy_planner_rewriting.proofs.Projections.{column_cell, column_inside}
use Rattle.cy_planner_rewriting.proofs.Wider.{cells_longer, columns_wider, different_longer, holds_longer, outputs_wider, over_wider, projected_longer, truth_longer}

-- ---- lists

passed : {A B : Type 0} (f : A → B) (x : A) (xs : List A) (ys : List B) (b c : Bool) → b ≡ c → ys ≡ map f xs → cond b (f x ∷ ys) ys ≡ map f (cond c (x ∷ xs) xs)
passed f x xs ys true true is rest = ap (λ l. f x ∷ l) rest
passed f x xs ys false false is rest = rest
passed f x xs ys true false is rest = cc
passed f x xs ys false true is rest = cc

-- a test after a change of each, before it
pub tested_before : {A B : Type 0} (P : A → Type 0) (f : A → B) (p : B → Bool) (q : A → Bool) → ((x : A) → P x → p (f x) ≡ q x) → (xs : List A) → AllByRecursion P xs → filter p (map f xs) ≡ map f (filter q xs)
tested_before P f p q same [] each = refl
tested_before P f p q same (x ∷ xs) each = passed f x (filter q xs) (filter p (map f xs)) (p (f x)) (q x) (same x each.0) (tested_before P f p q same xs each.1)

pub all_changed : {A B : Type 0} (P : A → Type 0) (Q : A → Type 0) (R : B → Type 0) (f : A → B) → ((x : A) → P x → Q x → R (f x)) → (xs : List A) → AllByRecursion P xs → All Q xs → All R (map f xs)
all_changed P Q R f step [] each all = All-nil R
all_changed P Q R f step (x ∷ xs) each all = All-cons R (f x) (map f xs) (step x each.0 (All-head Q x xs all)) (all_changed P Q R f step xs each.1 (All-tail Q x xs all))

-- ---- look-ups over plans

pub looked_up_alike : (ws : List Wanted) (p q : Plan) → IsRewritten p q → IsRewritten (over p ws) (over q ws)
looked_up_alike [] p q is = is
looked_up_alike (w ∷ ws) p q is = looked_up_alike ws (plan.lookup p w.column w.attribute) (plan.lookup q w.column w.attribute) (over_lookup p q is w.column w.attribute)

pub well_looked_up : (ws : List Wanted) (p : Plan) → IsWellFormed (over p ws) → IsWellFormed p
well_looked_up [] p well = well
well_looked_up (w ∷ ws) p well = (well_looked_up ws (plan.lookup p w.column w.attribute) well).0

-- a step of several
pub first_step : (w : Wanted) (ws : List Wanted) (p q r : Plan) → IsWellFormed (over p (w ∷ ws)) → (IsWellFormed (plan.lookup p w.column w.attribute) → IsRewritten (plan.lookup p w.column w.attribute) q)
    → (IsWellFormed (over q ws) → IsRewritten (over q ws) r) → IsRewritten (over p (w ∷ ws)) r
first_step w ws p q r well step rest =
    let up : Plan = plan.lookup p w.column w.attribute in
    let here : IsRewritten (over up ws) (over q ws) = looked_up_alike ws up q (step (well_looked_up ws up well)) in
    rewritten_again (over up ws) (over q ws) r here (rest (here.well_formed well))

-- ---- one look-up

module _ (p : Plan) (column : ℕ) (a : Attribute) where
  abbrev up : Plan
  up = plan.lookup p column a

  abbrev longer : Content → List Cell → List Cell
  longer graph row = with_attribute graph column a row

  pub own_within : (graph : Content) (tables : List (List (List Cell))) → IsWellFormed up → All (IsWithin graph tables) (parts p) → IsWithin graph tables up
  own_within graph tables well each =
      within_over graph tables p (record { column = column; attribute = a } ∷ []) well.0 (well.1, tt) well.2 (own_part (IsWithin graph tables) p each)

  swapped : (graph : Content) (tables : List (List (List Cell))) (top middle other : Plan) → IsWellFormed up → rows_of graph other ≡ rows_of graph top → All (IsWithin graph tables) (top ∷ middle ∷ parts p) → All (IsWithin graph tables) (other ∷ up ∷ parts p)
  swapped graph tables top middle other well same each =
      let below = All-tail (IsWithin graph tables) middle (parts p) (All-tail (IsWithin graph tables) top (middle ∷ parts p) each) in
      All-cons (IsWithin graph tables) other (up ∷ parts p) (same_within graph tables top other same (All-head (IsWithin graph tables) top (middle ∷ parts p) each))
      (All-cons (IsWithin graph tables) up (parts p) (own_within graph tables well below) below)

  filter_rows : (test : Expression) (graph : Content) → IsWellFormed p → IsOver (width p) test → rows_of graph (plan.filter up test) ≡ rows_of graph (plan.lookup (plan.filter p test) column a)
  filter_rows test graph well is =
      tested_before (IsLong (width p)) (longer graph) (holds test) (holds test)
      (λ row long. holds_longer row _ test (subst (λ (n : ℕ). IsOver n test) (sym long) is)) (rows_of graph p) (long_rows graph p well)

  through_filter : (test : Expression) → IsWellFormed (plan.lookup (plan.filter p test) column a) → IsRewritten (plan.lookup (plan.filter p test) column a) (plan.filter up test)
  through_filter test well = record {
    as_wide = refl;
    well_formed = λ good. ((good.0.0, good.1, good.2), over_wider (width p) (width p + 1) (omega arith) test good.0.1);
    rows = λ graph. filter_rows test graph well.0.0 well.0.1;
    sure = λ graph sure. (
      sure.0,
      all_changed (IsLong (width p)) (HasTruth test) (HasTruth test) (longer graph)
          (λ row long has. subst IsOk (sym (truth_longer row _ test (subst (λ (n : ℕ). IsOver n test) (sym long) well.0.1))) has) (rows_of graph p) (long_rows graph p well.0.0) sure.1,
    );
    bounded = λ graph tables each.
        swapped graph tables (plan.lookup (plan.filter p test) column a) (plan.filter p test) (plan.filter up test) (well.0.0, well.1, well.2) (filter_rows test graph well.0.0 well.0.1) each;
  }

  different_rows : (columns : List ℕ) (graph : Content) → IsWellFormed p → All (IsColumn (width p)) columns → rows_of graph (plan.all_different up columns) ≡ rows_of graph (plan.lookup (plan.all_different p columns) column a)
  different_rows columns graph well each =
      tested_before (IsLong (width p)) (longer graph) (λ row. are_different (relationships_at columns row)) (λ row. are_different (relationships_at columns row))
      (λ row long. different_longer row _ columns (subst (λ (n : ℕ). All (IsColumn n) columns) (sym long) each)) (rows_of graph p) (long_rows graph p well)

  through_different : (columns : List ℕ) → IsWellFormed (plan.lookup (plan.all_different p columns) column a) → IsRewritten (plan.lookup (plan.all_different p columns) column a) (plan.all_different up columns)
  through_different columns well = record {
    as_wide = refl;
    well_formed = λ good. ((good.0.0, good.1, good.2), columns_wider (width p) (width p + 1) (omega arith) columns good.0.1);
    rows = λ graph. different_rows columns graph well.0.0 well.0.1;
    sure = λ graph sure. sure;
    bounded = λ graph tables each.
        swapped graph tables (plan.lookup (plan.all_different p columns) column a) (plan.all_different p columns) (plan.all_different up columns) (well.0.0, well.1, well.2) (different_rows columns graph well.0.0 well.0.1) each;
  }

-- ---- several

pub all_through_filter : (ws : List Wanted) (p : Plan) (test : Expression) → IsWellFormed (over (plan.filter p test) ws) → IsRewritten (over (plan.filter p test) ws) (plan.filter (over p ws) test)
all_through_filter [] p test well = same_plan (plan.filter p test)
all_through_filter (w ∷ ws) p test well =
    first_step w ws (plan.filter p test) (plan.filter (plan.lookup p w.column w.attribute) test) (plan.filter (over p (w ∷ ws)) test) well (through_filter p w.column w.attribute test)
    (all_through_filter ws (plan.lookup p w.column w.attribute) test)

pub all_through_different : (ws : List Wanted) (p : Plan) (columns : List ℕ) → IsWellFormed (over (plan.all_different p columns) ws) → IsRewritten (over (plan.all_different p columns) ws) (plan.all_different (over p ws) columns)
all_through_different [] p columns well = same_plan (plan.all_different p columns)
all_through_different (w ∷ ws) p columns well =
    first_step w ws (plan.all_different p columns) (plan.all_different (plan.lookup p w.column w.attribute) columns) (plan.all_different (over p (w ∷ ws)) columns) well (through_different p w.column w.attribute columns)
    (all_through_different ws (plan.lookup p w.column w.attribute) columns)

-- ---- through a projection

-- the output that stands in a column
output_there : (os : Option Output) (a : Attribute) (m : Wanted) → option_map (lookup_at a) (option_and_then taken_column os) ≡ Some m
    → (o : Output) × (os ≡ Some o) × (taken_column o ≡ Some m.column) × (m.attribute ≡ a)
output_there None a m is = cc
output_there (Some o) a m is = known (taken_column o) refl is
  where
    known : (c : Option ℕ) → taken_column o ≡ c → option_map (lookup_at a) c ≡ Some m → (q : Output) × (Some o ≡ Some q) × (taken_column q ≡ Some m.column) × (m.attribute ≡ a)
    known None at h = cc
    known (Some c) at h = (o, refl, at ∙ cc, cc)

got_longer : (outputs others : List Output) (i : ℕ) (o : Output) → slice_get outputs i ≡ Some o → slice_get (outputs ++ others) i ≡ Some o
got_longer [] others i o is = cc
got_longer (x ∷ outputs) others zero o is = is
got_longer (x ∷ outputs) others (suc i) o is = got_longer outputs others i o is

got_over : (n : ℕ) (outputs : List Output) (i : ℕ) (o : Output) → slice_get outputs i ≡ Some o → All (IsOutputOver n) outputs → IsOutputOver n o
got_over n [] i o is each = cc
got_over n (x ∷ outputs) zero o is each = subst (IsOutputOver n) (same_Some x o is) (All-head (IsOutputOver n) x outputs each)
got_over n (x ∷ outputs) (suc i) o is each = got_over n outputs i o is (All-tail (IsOutputOver n) x outputs each)

moved_longer : (outputs others : List Output) (w m : Wanted) → moved outputs w ≡ Some m → moved (outputs ++ others) w ≡ Some m
moved_longer outputs others w m is =
    let there = output_there (slice_get outputs w.column) w.attribute m is in
    ap (λ os. option_map (lookup_at w.attribute) (option_and_then taken_column os)) (got_longer outputs others w.column there.0 there.1 ∙ sym there.1) ∙ is

pub all_moved_longer : (outputs others : List Output) (ws ms : List Wanted) → map (moved outputs) ws ≡ map Some ms → map (moved (outputs ++ others)) ws ≡ map Some ms
all_moved_longer outputs others [] [] is = refl
all_moved_longer outputs others [] (m ∷ ms) is = cc
all_moved_longer outputs others (w ∷ ws) [] is = cc
all_moved_longer outputs others (w ∷ ws) (m ∷ ms) is =
    let first : moved outputs w ≡ Some m = cc in
    let rest : map (moved outputs) ws ≡ map Some ms = cc in
    λ i. moved_longer outputs others w m first i ∷ all_moved_longer outputs others ws ms rest i

module _ (p : Plan) (outputs : List Output) (w m : Wanted) (is : moved outputs w ≡ Some m) (room : width p + 1 ≤ greatest_width) (well : IsWellFormed (plan.lookup (plan.project p outputs) w.column w.attribute)) where
  abbrev below : Plan
  below = plan.lookup p m.column m.attribute

  abbrev wide_outputs : List Output
  wide_outputs = outputs ++ column_output (width p) ∷ []

  there : (o : Output) × (slice_get outputs w.column ≡ Some o) × (taken_column o ≡ Some m.column) × (m.attribute ≡ w.attribute)
  there = output_there (slice_get outputs w.column) w.attribute m is

  inside : m.column < width p
  inside = column_inside (width p) m.column there.0 there.2 (got_over (width p) outputs w.column there.0 there.1 well.0.1)

  same_cell_there : (row : List Cell) → cell_at (projected outputs row) w.column ≡ cell_at row m.column
  same_cell_there row =
      get_or_from_slice_get (projected outputs row) w.column (output_cell row there.0) expressions.null (slice_get-map (output_cell row) outputs w.column ∙ ap (option_map (output_cell row)) there.1)
      ∙ column_cell row there.0 m.column there.2

  wide_row : (graph : Content) (row : List Cell) → IsLong (width p) row → projected wide_outputs (with_attribute graph m.column m.attribute row) ≡ with_attribute graph w.column w.attribute (projected outputs row)
  wide_row graph row long =
      let v : Cell = cell.Value (attribute_of graph m.attribute (cell_at row m.column)) in
      map-append (output_cell (row ++ v ∷ [])) outputs (column_output (width p) ∷ [])
      ∙ (λ i. projected_longer row (v ∷ []) outputs (subst (λ (n : ℕ). All (IsOutputOver n) outputs) (sym long) well.0.1) i ++ last i ∷ [])
    where
      last : cell_at (row ++ cell.Value (attribute_of graph m.attribute (cell_at row m.column)) ∷ []) (width p) ≡ cell.Value (attribute_of graph w.attribute (cell_at (projected outputs row) w.column))
      last =
          ap (λ (n : ℕ). cell_at (row ++ cell.Value (attribute_of graph m.attribute (cell_at row m.column)) ∷ []) n) (sym long)
          ∙ get_or-append_seam row (cell.Value (attribute_of graph m.attribute (cell_at row m.column))) [] expressions.null
          ∙ (λ i. cell.Value (attribute_of graph (there.3 i) (sym (same_cell_there row) i)))

  wide_rows : (graph : Content) (rows : List (List Cell)) → AllByRecursion (IsLong (width p)) rows → map (projected wide_outputs) (map (with_attribute graph m.column m.attribute) rows) ≡ map (with_attribute graph w.column w.attribute) (map (projected outputs) rows)
  wide_rows graph [] long = refl
  wide_rows graph (row ∷ rows) long = λ i. wide_row graph row long.0 i ∷ wide_rows graph rows long.1 i

  last_over : IsOutputOver (width p + 1) (column_output (width p))
  last_over = (refl, lt-ltb (width p) (width p + 1) (omega arith))

  through_project : IsRewritten (plan.lookup (plan.project p outputs) w.column w.attribute) (plan.project below wide_outputs)
  through_project = record {
    as_wide = length-append outputs (column_output (width p) ∷ []);
    well_formed = λ good. (
      (good.0.0, inside, room),
      All-append (IsOutputOver (width p + 1)) outputs (column_output (width p) ∷ []) (outputs_wider (width p) (width p + 1) (omega arith) outputs good.0.1)
          (All-cons (IsOutputOver (width p + 1)) (column_output (width p)) [] last_over (All-nil (IsOutputOver (width p + 1)))),
      subst (λ (n : ℕ). n ≤ greatest_width) (sym (length-append outputs (column_output (width p) ∷ []))) good.2,
    );
    rows = λ graph. wide_rows graph (rows_of graph p) (long_rows graph p well.0.0);
    sure = λ graph sure. (
      sure.0,
      all_changed (IsLong (width p)) (HasCells outputs) (HasCells wide_outputs) (with_attribute graph m.column m.attribute)
          (λ row long has.
          All-append (HasCell (with_attribute graph m.column m.attribute row)) outputs (column_output (width p) ∷ []) (cells_longer row _ outputs (subst (λ (n : ℕ). All (IsOutputOver n) outputs) (sym long) well.0.1) has)
          (All-cons (HasCell (with_attribute graph m.column m.attribute row)) (column_output (width p)) [] refl (All-nil (HasCell (with_attribute graph m.column m.attribute row)))))
          (rows_of graph p) (long_rows graph p well.0.0) sure.1,
    );
    bounded = λ graph tables each.
        swapped p m.column m.attribute graph tables (plan.lookup (plan.project p outputs) w.column w.attribute) (plan.project p outputs) (plan.project below wide_outputs) (well.0.0, inside, room)
        (wide_rows graph (rows_of graph p) (long_rows graph p well.0.0)) each;
  }

pub all_through_project : (ws ms : List Wanted) (p : Plan) (outputs : List Output) → map (moved outputs) ws ≡ map Some ms → width p + length ws ≤ greatest_width → IsWellFormed (over (plan.project p outputs) ws)
    → IsRewritten (over (plan.project p outputs) ws) (plan.project (over p ms) (with_columns outputs (width p) (length ws)))
all_through_project [] [] p outputs is room well = subst (λ (os : List Output). IsRewritten (plan.project p outputs) (plan.project p os)) (sym (append-nil outputs)) (same_plan (plan.project p outputs))
all_through_project [] (m ∷ ms) p outputs is room well = cc
all_through_project (w ∷ ws) [] p outputs is room well = cc
all_through_project (w ∷ ws) (m ∷ ms) p outputs is room well =
    let first : moved outputs w ≡ Some m = cc in
    let rest : map (moved outputs) ws ≡ map Some ms = cc in
    let below : Plan = plan.lookup p m.column m.attribute in
    let wide : List Output = outputs ++ column_output (width p) ∷ [] in
    first_step w ws (plan.project p outputs) (plan.project below wide) (plan.project (over below ms) (with_columns outputs (width p) (length (w ∷ ws)))) well
    (through_project p outputs w m first (omega (arith, room)))
    (λ good.
    subst (λ (os : List Output). IsRewritten (over (plan.project below wide) ws) (plan.project (over below ms) os)) (append_assoc outputs (column_output (width p) ∷ []) (map column_output (range_with_len (width p + 1) (length ws))))
    (all_through_project ws ms below wide (all_moved_longer outputs (column_output (width p) ∷ []) ws ms rest) (omega (arith, room)) good))
