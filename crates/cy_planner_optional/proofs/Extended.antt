-- The rows of a plan with the values of expressions after them.
use Rattle.std.proofs.Common.{◌≡◌, ℕ, ◌+◌, ◌≤◌, Bool, true, false, cond, List, [], ◌∷◌, ◌++◌, length, map, take, append-nil, refl, sym, ap, subst, ◌∙◌, arith}
use Rattle.std.specs.Prelude.{IsOk, Result, flat_map}
use Rattle.std.specs.List.{All, AllByRecursion, range_with_len}
use Rattle.std.proofs.lemmas.Bool.{false≢true}
use Rattle.std.proofs.lemmas.List.{length-append, length-map, map-append}
use Rattle.std.proofs.lemmas.List.Elements.{All-append, All-cons, All-nil}
use Rattle.std.proofs.lemmas.List.FromFn.{length-map-range_with_len}
use Rattle.std.proofs.Math.Seq.{take-append_seam}
use Rattle.cy_values.specs.declared.rows.Cell.{Cell}
use Rattle.cy_values.specs.Bag.{count_of}
use Rattle.cy_values.proofs.Lists.{each_both, each_left, each_right}
use Rattle.cy_trees.specs.Trees.{Expression}
use Rattle.cy_scope_kinds.specs.Kinded.{IsKinded}
use Rattle.cy_scope_kinds.specs.Rows.{row_fits}
use Rattle.cy_scope_kinds.specs.Scopes.{Scope}
use Rattle.cy_graph.specs.Graph.{State, IsGraph}
use Rattle.cy_expr.specs.declared.faults.EvalFault.{EvalFault}
use Rattle.cy_expr.specs.Evaluation.{cell_of}
use Rattle.cy_expr.specs.Graphs.{lookups}
use Rattle.cy_planner_algebra.specs.Plans as plan
use Rattle.cy_planner_algebra.specs.Plans.{Plan, Output, computed, width}
use Rattle.cy_planner_algebra.specs.Expressions.{cell_or_null, null, output_cell, projected}
use Rattle.cy_planner_algebra.specs.Meaning.{rows_of}
use Rattle.cy_planner_algebra.specs.Parts.{parts}
use Rattle.cy_planner_algebra.specs.Sure.{HasCell, HasCells, IsSureOn}
use Rattle.cy_planner_algebra.specs.WellFormed.{IsOutputOver, IsWellFormed, greatest_width}
use Rattle.cy_planner_algebra.specs.Within.{IsWithin}
use Rattle.cy_planner_algebra.proofs.Counts.{count_cons, identity, same}
use Rattle.cy_planner_rows.specs.declared.places.Wanted.{Wanted}
use Rattle.cy_planner_rows.specs.internal.Lowered.{lowered}
use Rattle.cy_planner_rows.specs.Places.{place}
use Rattle.cy_planner_rows.specs.Columns.{column_output}
use Rattle.cy_planner_rows.specs.Rows.{AreReadOver, FitsRows, cells_on}
use Rattle.cy_planner_rows.specs.internal.Asked.{asked}
use Rattle.cy_planner_rows.specs.internal.Lookups.{over, value_on, with_values}
use Rattle.cy_planner_rows.proofs.Filtered.{same_value}
use Rattle.cy_planner_rows.proofs.Lists.{all_of_each, each_mapped, first_elements, map_twice}
use Rattle.cy_planner_rows.proofs.OverRows.{columns_have_cells, columns_read, first_over, long_rows, own_part, parts_over, rows_over, smaller_within, sure_over, width_over}
use Rattle.cy_planner_rows.proofs.Placed.{IsAmong, asked_among}
use Rattle.cy_planner_rows.proofs.Projected.{all_wanted_inside, outputs_over, wanted_of_all}
use Rattle.cy_planner_tables.proofs.Same.{row_itself}
use Rattle.cy_planner_optional.specs.Columns.{IsExtended}

-- ---- what begins with a row counts no more often than that

less : (b d : Bool) → (b ≡ true → d ≡ true) → cond {A = ℕ} b 1 0 ≤ cond d 1 0
less true true h = omega arith
less true false h = absurd (false≢true (h refl))
less false d h = omega arith

begun_counts : (n : ℕ) (f : List Cell → List Cell) (x : List Cell) (rows : List (List Cell)) → AllByRecursion (λ row. length row ≡ n) rows
    → count_of x (map (λ row. row ++ f row) rows) ≤ count_of (take n x) rows
begun_counts n f x [] long = omega arith
begun_counts n f x (row ∷ rows) long =
    let here = count_cons x (row ++ f row) (map (λ row. row ++ f row) rows) in
    let there = count_cons (take n x) row rows in
    let rest = begun_counts n f x rows long.1 in
    let one = less (same x (row ++ f row)) (same (take n x) row) begins in
    omega (arith, here, there, rest, one)
  where
    begins : same x (row ++ f row) ≡ true → same (take n x) row ≡ true
    begins is =
        ap (λ (l : List Cell). same (take n l) row) (identity x (row ++ f row) is)
        ∙ ap (λ m. same (take m (row ++ f row)) row) (sym long.0)
        ∙ ap (λ (l : List Cell). same l row) (take-append_seam row (f row))
        ∙ row_itself row

-- ---- with no values

nothing_after : (rows : List (List Cell)) → map (λ (row : List Cell). row ++ []) rows ≡ rows
nothing_after [] = refl
nothing_after (row ∷ rows) = λ i. append-nil row i ∷ nothing_after rows i

pub none_mapped : {A B : Type 0} (f : A → B) (xs : List A) → length xs ≡ 0 → map f xs ≡ []
none_mapped f [] none = refl
none_mapped f (x ∷ xs) none = absurd (omega (arith, none))

pub unextended : (below : Plan) → IsExtended below [] below
unextended below = record {
  as_wide = (let e : width below ≡ width below + 0 = omega arith in e);
  rows = λ graph scope good kinded fits. sym (nothing_after (rows_of graph.content below));
  sure = λ graph scope good kinded fits sure have. sure;
  bounded = λ graph scope tables good kinded fits each. each;
}

-- ---- with values

module _ (below : Plan) (es : List Expression) (well : IsWellFormed below) (read : AreReadOver below es) where
  abbrev n : ℕ
  n = width below

  abbrev wanted : List Wanted
  wanted = wanted_of_all es

  abbrev output : Expression → Output
  output e = computed (lowered (place n wanted) e)

  abbrev pub outs : List Output
  outs = map column_output (range_with_len 0 n) ++ map output es

  abbrev pub made : Plan
  made = plan.project (over below wanted) outs

  pub outs_long : length outs ≡ n + length es
  outs_long =
      length-append (map column_output (range_with_len 0 n)) (map output es) ∙ (λ i. length-map-range_with_len column_output 0 n i + length-map es output i)

  pub outs_over : All (IsOutputOver (width (over below wanted))) outs
  outs_over =
      All-append (IsOutputOver (width (over below wanted))) (map column_output (range_with_len 0 n)) (map output es)
      (first_over n (width (over below wanted)) (let e = width_over below wanted in omega (arith, e)))
      (outputs_over below es read)

  module _ (room : n + length wanted ≤ greatest_width) where
    module _ (graph : State) (scope : Scope) (good : IsGraph graph) (kinded : AllByRecursion (IsKinded scope) es) (fits : FitsRows scope graph.content below) where
      abbrev Fits : List Cell → Type 0
      Fits row = (row_fits scope row ≡ true) × (length row ≡ n)

      abbrev rows : List (List Cell)
      rows = rows_of graph.content below

      fit_rows : AllByRecursion Fits rows
      fit_rows = each_both (λ row. row_fits scope row ≡ true) (λ row. length row ≡ n) rows fits.1 (long_rows graph.content below well)

      value_cells : (row : List Cell) → row_fits scope row ≡ true → (vs : List Expression) → AllByRecursion (IsKinded scope) vs → AllByRecursion (IsAmong wanted) (flat_map asked vs)
          → projected (map output vs) (with_values graph.content wanted row) ≡ cells_on graph.content vs row
      value_cells row fit [] each among = refl
      value_cells row fit (e ∷ vs) each among =
          λ i. cell_or_null (same_value graph scope n wanted e good fits.0 each.0 (each_left (IsAmong wanted) (asked e) (flat_map asked vs) among) row fit i)
          ∷ value_cells row fit vs each.1 (each_right (IsAmong wanted) (asked e) (flat_map asked vs) among) i

      first_cells : (row : List Cell) → length row ≡ n → projected (map column_output (range_with_len 0 n)) (with_values graph.content wanted row) ≡ row
      first_cells row long =
          columns_read (with_values graph.content wanted row) (range_with_len 0 n)
          ∙ first_elements (with_values graph.content wanted row) null n (let e = length-append row (map (value_on graph.content row) wanted) in omega (arith, e, long))
          ∙ ap (λ m. take m (with_values graph.content wanted row)) (sym long)
          ∙ take-append_seam row _

      cells_are : (row : List Cell) → Fits row → projected outs (with_values graph.content wanted row) ≡ row ++ cells_on graph.content es row
      cells_are row fit =
          map-append (output_cell (with_values graph.content wanted row)) (map column_output (range_with_len 0 n)) (map output es)
          ∙ (λ i. first_cells row fit.1 i ++ value_cells row fit.0 es kinded (asked_among [] (flat_map asked es)) i)

      over_is : rows_of graph.content (over below wanted) ≡ map (with_values graph.content wanted) rows
      over_is = rows_over graph.content below wanted well (all_wanted_inside below es read)

      rows_are : rows_of graph.content made ≡ map (λ row. row ++ cells_on graph.content es row) rows
      rows_are =
          ap (λ l. map (projected outs) l) over_is
          ∙ map_twice Fits (with_values graph.content wanted) (projected outs) (λ row. row ++ cells_on graph.content es row) cells_are rows fit_rows

      abbrev HasAll : List Cell → Type 0
      HasAll row = AllByRecursion (λ e. IsOk (cell_of (lookups graph.content) row e)) es

      have_cells : (row : List Cell) → row_fits scope row ≡ true → (vs : List Expression) → AllByRecursion (IsKinded scope) vs → AllByRecursion (IsAmong wanted) (flat_map asked vs)
          → AllByRecursion (λ e. IsOk (cell_of (lookups graph.content) row e)) vs → HasCells (map output vs) (with_values graph.content wanted row)
      have_cells row fit [] each among has = All-nil (HasCell (with_values graph.content wanted row))
      have_cells row fit (e ∷ vs) each among has =
          All-cons (HasCell (with_values graph.content wanted row)) (output e) (map output vs)
          (subst (λ (o : Result Cell EvalFault). IsOk o) (sym (same_value graph scope n wanted e good fits.0 each.0 (each_left (IsAmong wanted) (asked e) (flat_map asked vs) among) row fit)) has.0)
          (have_cells row fit vs each.1 (each_right (IsAmong wanted) (asked e) (flat_map asked vs) among) has.1)

      sure_here : IsSureOn graph.content below → AllByRecursion HasAll rows → IsSureOn graph.content made
      sure_here sure has = (
        sure_over graph.content below wanted sure,
        subst (λ l. All (HasCells outs) l) (sym over_is)
            (all_of_each (HasCells outs) (map (with_values graph.content wanted) rows)
            (each_mapped (λ row. Fits row × HasAll row) (HasCells outs) (with_values graph.content wanted)
            (λ row both. All-append (HasCell (with_values graph.content wanted row)) (map column_output (range_with_len 0 n)) (map output es)
            (columns_have_cells (with_values graph.content wanted row) (range_with_len 0 n))
            (have_cells row both.0.0 es kinded (asked_among [] (flat_map asked es)) both.1)) rows
            (each_both Fits HasAll rows fit_rows has))),
      )

      bounded_here : (tables : List (List (List Cell))) → All (IsWithin graph.content tables) (parts below) → All (IsWithin graph.content tables) (parts made)
      bounded_here tables each =
          let own : IsWithin graph.content tables below = own_part (IsWithin graph.content tables) below each in
          All-cons (IsWithin graph.content tables) made (parts (over below wanted))
          (λ x. smaller_within tables (count_of x (rows_of graph.content made)) (count_of (take n x) rows)
          (subst (λ (l : List (List Cell)). count_of x l ≤ count_of (take n x) rows) (sym rows_are)
          (begun_counts n (cells_on graph.content es) x rows (long_rows graph.content below well)))
          (own (take n x)))
          (parts_over graph.content tables below wanted well (all_wanted_inside below es read) room each own)

    pub extended_is : IsExtended below es made
    extended_is = record {
      as_wide = outs_long;
      rows = λ graph scope good kinded fits. rows_are graph scope good kinded fits;
      sure = λ graph scope good kinded fits. sure_here graph scope good kinded fits;
      bounded = λ graph scope tables good kinded fits. bounded_here graph scope good kinded fits tables;
    }
