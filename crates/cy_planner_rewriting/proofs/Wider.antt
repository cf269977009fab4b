-- Expressions and outputs over rows, over longer rows.
use Rattle.std.proofs.Common.{◌≡◌, ℕ, ◌<◌, ◌≤◌, Bool, true, ◌&&◌, List, [], ◌∷◌, ◌++◌, length, refl, sym, ap, subst, arith}
use Rattle.std.specs.Prelude.{Option, Some, None, IsOk, nat_lt}
use Rattle.std.specs.List.{All}
use Rattle.std.specs.Option.{option_map_or}
use Rattle.std.proofs.lemmas.Bool.{and_from, and_parts, lt-ltb}
use Rattle.std.proofs.lemmas.Bool.Decides.{nat_tests}
use Rattle.std.proofs.lemmas.List.{get_or_append_left}
use Rattle.std.proofs.lemmas.List.Elements.{All-cons, All-head, All-nil, All-tail, All-weaker}
use Rattle.cy_values.specs.declared.rows.Cell.{Cell}
use Rattle.cy_values.specs.declared.rows.Cell.TheVariants as cell
use Rattle.cy_trees.specs.Trees.{Expression, variable, property, has_labels, unary, binary, comparison, list, case, call, Expressions, no_more, more, Links, no_links, link, Arms, no_arms, arm, Otherwise, nothing, otherwise}
use Rattle.cy_expr.specs.Faults.{on_one}
use Rattle.cy_expr.specs.Logic.{truth_of}
use Rattle.cy_expr.specs.Operators.{value_in_cell}
use Rattle.cy_expr.specs.Reading.{all_read_below, arms_read_below, else_reads_below, links_read_below, reads_below}
use Rattle.cy_expr.proofs.ReadingLemmas.{longer-row}
use Rattle.cy_expr.specs.Graphs.{are_different}
use Rattle.cy_planner_algebra.specs.Plans.{Output, computed, gathered}
use Rattle.cy_planner_algebra.specs.Expressions as expressions
use Rattle.cy_planner_algebra.specs.Expressions.{cell_at, cell_or_null, holds, is_true, no_graph, output_cell, projected, relationships_at, relationships_in, truth_on}
use Rattle.cy_planner_algebra.specs.Sure.{HasCell, HasCells}
use Rattle.cy_planner_algebra.specs.WellFormed.{IsColumn, IsOutputOver, IsOver}

module _ (m n : ℕ) (less : m ≤ n) where
  halves : (a b c d : Bool) → (a ≡ true → c ≡ true) → (b ≡ true → d ≡ true) → (a && b) ≡ true → (c && d) ≡ true
  halves a b c d left right h = let two = and_parts a b h in and_from c d (left two.0) (right two.1)

  column_wider : (o : Option ℕ) → option_map_or (λ c. nat_lt c m) o true ≡ true → option_map_or (λ c. nat_lt c n) o true ≡ true
  column_wider None h = refl
  column_wider (Some c) h = let inside : c < m = grind (arith, nat_tests, h) in lt-ltb c n (omega (arith, inside, less))

  mutual
    reads_wider : (e : Expression) → reads_below m e ≡ true → reads_below n e ≡ true
    reads_wider (variable v) h = column_wider v.column h
    reads_wider (property e key) h = reads_wider e h
    reads_wider (has_labels e labels) h = reads_wider e h
    reads_wider (unary operator e) h = reads_wider e h
    reads_wider (binary operator a b) h = halves _ _ _ _ (reads_wider a) (reads_wider b) h
    reads_wider (comparison e links) h = halves _ _ _ _ (reads_wider e) (links_wider links) h
    reads_wider (list es) h = all_wider es h
    reads_wider (case arms e) h = halves _ _ _ _ (arms_wider arms) (else_wider e) h
    reads_wider (call name distinct es) h = all_wider es h
    reads_wider _ h = refl

    all_wider : (es : Expressions) → all_read_below m es ≡ true → all_read_below n es ≡ true
    all_wider no_more h = refl
    all_wider (more e es) h = halves _ _ _ _ (reads_wider e) (all_wider es) h

    links_wider : (links : Links) → links_read_below m links ≡ true → links_read_below n links ≡ true
    links_wider no_links h = refl
    links_wider (link comparator e links) h = halves _ _ _ _ (reads_wider e) (links_wider links) h

    arms_wider : (arms : Arms) → arms_read_below m arms ≡ true → arms_read_below n arms ≡ true
    arms_wider no_arms h = refl
    arms_wider (arm condition outcome arms) h =
        halves (reads_below m condition && reads_below m outcome) (arms_read_below m arms) _ _
        (λ both. halves (reads_below m condition) (reads_below m outcome) _ _ (reads_wider condition) (reads_wider outcome) both) (arms_wider arms) h

    else_wider : (e : Otherwise) → else_reads_below m e ≡ true → else_reads_below n e ≡ true
    else_wider nothing h = refl
    else_wider (otherwise e) h = reads_wider e h

  pub over_wider : (e : Expression) → IsOver m e → IsOver n e
  over_wider e is = (is.0, reads_wider e is.1)

  pub columns_wider : (columns : List ℕ) → All (IsColumn m) columns → All (IsColumn n) columns
  columns_wider columns each = All-weaker (IsColumn m) (IsColumn n) (λ c inside. omega (arith, inside, less)) columns each

  output_wider : (o : Output) → IsOutputOver m o → IsOutputOver n o
  output_wider (computed e) is = over_wider e is
  output_wider (gathered columns) each = columns_wider columns each

  pub outputs_wider : (outputs : List Output) → All (IsOutputOver m) outputs → All (IsOutputOver n) outputs
  outputs_wider outputs each = All-weaker (IsOutputOver m) (IsOutputOver n) output_wider outputs each

-- ---- on a row with more after it

module _ (row others : List Cell) where
  pub truth_longer : (test : Expression) → IsOver (length row) test → truth_on (row ++ others) test ≡ truth_on row test
  truth_longer test over = ap (λ r. on_one truth_of (on_one value_in_cell r)) (sym (longer-row no_graph row others test over.1))

  pub holds_longer : (test : Expression) → IsOver (length row) test → holds test (row ++ others) ≡ holds test row
  holds_longer test over = ap is_true (truth_longer test over)

  pub relationships_longer : (columns : List ℕ) → All (IsColumn (length row)) columns → relationships_at columns (row ++ others) ≡ relationships_at columns row
  relationships_longer [] each = refl
  relationships_longer (c ∷ columns) each =
      λ i. relationships_in (get_or_append_left row others expressions.null c (All-head (IsColumn (length row)) c columns each) i)
      ++ relationships_longer columns (All-tail (IsColumn (length row)) c columns each) i

  pub different_longer : (columns : List ℕ) → All (IsColumn (length row)) columns → are_different (relationships_at columns (row ++ others)) ≡ are_different (relationships_at columns row)
  different_longer columns each = ap are_different (relationships_longer columns each)

  output_longer : (o : Output) → IsOutputOver (length row) o → output_cell (row ++ others) o ≡ output_cell row o
  output_longer (computed e) over = ap cell_or_null (sym (longer-row no_graph row others e over.1))
  output_longer (gathered columns) each = ap cell.Rels (relationships_longer columns each)

  pub projected_longer : (outputs : List Output) → All (IsOutputOver (length row)) outputs → projected outputs (row ++ others) ≡ projected outputs row
  projected_longer [] each = refl
  projected_longer (o ∷ outputs) each =
      λ i. output_longer o (All-head (IsOutputOver (length row)) o outputs each) i ∷ projected_longer outputs (All-tail (IsOutputOver (length row)) o outputs each) i

  cell_longer : (o : Output) → IsOutputOver (length row) o → HasCell row o → HasCell (row ++ others) o
  cell_longer (computed e) over has = subst IsOk (longer-row no_graph row others e over.1) has
  cell_longer (gathered columns) each has = has

  pub cells_longer : (outputs : List Output) → All (IsOutputOver (length row)) outputs → HasCells outputs row → HasCells outputs (row ++ others)
  cells_longer [] each has = All-nil (HasCell (row ++ others))
  cells_longer (o ∷ outputs) each has =
      All-cons (HasCell (row ++ others)) o outputs (cell_longer o (All-head (IsOutputOver (length row)) o outputs each) (All-head (HasCell row) o outputs has))
      (cells_longer outputs (All-tail (IsOutputOver (length row)) o outputs each) (All-tail (HasCell row) o outputs has))
