-- An expression with other columns has the value of the expression, and reads what that reads.
use Rattle.std.proofs.Common.{◌≡◌, ℕ, zero, suc, ◌<◌, Bool, true, ◌&&◌, List, [], ◌∷◌, length, map, refl, arith}
use Rattle.std.specs.Prelude.{Option, Some, None, Ok, nat_lt, not, option_map, slice_index_or}
use Rattle.std.specs.List.{AllByRecursion}
use Rattle.std.specs.Option.{option_map_or}
use Rattle.std.proofs.lemmas.Bool.{and_from, and_parts, lt-ltb}
use Rattle.std.proofs.lemmas.Bool.Decides.{nat_tests}
use Rattle.cy_values.specs.declared.rows.Cell.{Cell}
use Rattle.cy_trees.specs.Trees.{Expression, null, variable, property, has_labels, unary, binary, comparison, list, case, call, Expressions, no_more, more, Links, no_links, link, Arms, no_arms, arm, Otherwise, nothing, otherwise}
use Rattle.cy_scope_kinds.specs.Functions.{function_named}
use Rattle.cy_expr.specs.Choice.{choice}
use Rattle.cy_expr.specs.Evaluation.{as_cell, call_value, cell_of, cells_of, chain, column_value, outcome_of_else, outcomes_of, outcomes_of_arms, property_exists, values_of}
use Rattle.cy_expr.specs.Faults.{on_one, on_two}
use Rattle.cy_expr.specs.Lists.{list_of}
use Rattle.cy_expr.specs.Logic.{value_of}
use Rattle.cy_expr.specs.Lookups.{Lookups, existence, labels_test, property_value}
use Rattle.cy_expr.specs.Operators.{binary_value, compared, unary_value, value_in_cell}
use Rattle.cy_expr.specs.Reading.{all_read_below, all_read_columns, arms_read_below, arms_read_columns, else_reads_below, else_reads_columns, links_read_below, links_read_columns, reads_below, reads_columns, reads_graph}
use Rattle.cy_values.specs.Truth.{both}
use Rattle.cy_planner_rows.specs.Renumbered.{new_column, renumbered, renumbered_arms, renumbered_expressions, renumbered_links, renumbered_otherwise}

-- the cell in a column
abbrev cell_at : List Cell → ℕ → Cell
cell_at row column = column_value (Some column) row

cell_moved : (row : List Cell) (columns : List ℕ) (i d : ℕ) → i < length columns → cell_at row (slice_index_or columns i d) ≡ cell_at (map (cell_at row) columns) i
cell_moved row [] i d less = absurd (omega (arith, less))
cell_moved row (c ∷ columns) zero d less = refl
cell_moved row (c ∷ columns) (suc i) d less = cell_moved row columns i d (omega (arith, less))

module _ (graph : Lookups) (row : List Cell) (columns : List ℕ) where
  abbrev moved : List Cell
  moved = map (cell_at row) columns

  column_same : (o : Option ℕ) → option_map_or (λ c. nat_lt c (length columns)) o true ≡ true → column_value (option_map (new_column columns) o) row ≡ column_value o moved
  column_same None h = refl
  column_same (Some c) h = cell_moved row columns c c (grind (arith, nat_tests, h))

  mutual
    pub same_cell : (e : Expression) → reads_below (length columns) e ≡ true → cell_of graph row (renumbered columns e) ≡ cell_of graph moved e
    same_cell (variable v) h = λ i. Ok (column_same v.column h i)
    same_cell (property e key) h = λ i. as_cell (on_one (property_value graph key) (same_cell e h i))
    same_cell (has_labels e labels) h = λ i. as_cell (on_one (labels_test graph labels) (same_cell e h i))
    same_cell (unary operator e) h = λ i. as_cell (on_one (unary_value operator) (same_cell e h i))
    same_cell (binary operator a b) h =
        let two = and_parts (reads_below (length columns) a) (reads_below (length columns) b) h in
        λ i. as_cell (on_two (binary_value operator) (on_one value_in_cell (same_cell a two.0 i)) (on_one value_in_cell (same_cell b two.1 i)))
    same_cell (comparison e links) h =
        let two = and_parts (reads_below (length columns) e) (links_read_below (length columns) links) h in
        λ i. as_cell (on_one (λ a. Ok (value_of a)) (on_one (λ c. same_chain c links two.1 i) (same_cell e two.0 i)))
    same_cell (list es) h = λ i. as_cell (on_one list_of (same_values es h i))
    same_cell (case arms e) h =
        let two = and_parts (arms_read_below (length columns) arms) (else_reads_below (length columns) e) h in
        λ i. as_cell (choice (same_arms arms two.0 i) (same_else e two.1 i))
    same_cell (call name distinct es) h =
        λ i. as_cell (call_value graph (function_named name) (same_cells es h i) (same_outcomes es h i) (same_exists es h i))
    same_cell _ h = refl

    same_cells : (es : Expressions) → all_read_below (length columns) es ≡ true → cells_of graph row (renumbered_expressions columns es) ≡ cells_of graph moved es
    same_cells no_more h = refl
    same_cells (more e es) h =
        let two = and_parts (reads_below (length columns) e) (all_read_below (length columns) es) h in
        λ i. on_two (λ c cs. Ok (c ∷ cs)) (same_cell e two.0 i) (same_cells es two.1 i)

    same_values : (es : Expressions) → all_read_below (length columns) es ≡ true → values_of graph row (renumbered_expressions columns es) ≡ values_of graph moved es
    same_values no_more h = refl
    same_values (more e es) h =
        let two = and_parts (reads_below (length columns) e) (all_read_below (length columns) es) h in
        λ i. on_two (λ v vs. Ok (v ∷ vs)) (on_one value_in_cell (same_cell e two.0 i)) (same_values es two.1 i)

    same_chain : (c : Cell) (links : Links) → links_read_below (length columns) links ≡ true → chain graph row c (renumbered_links columns links) ≡ chain graph moved c links
    same_chain c no_links h = refl
    same_chain c (link comparator e links) h =
        let two = and_parts (reads_below (length columns) e) (links_read_below (length columns) links) h in
        λ i. on_one (λ d. on_two (λ a b. Ok (both a b)) (compared comparator c d) (same_chain d links two.1 i)) (same_cell e two.0 i)

    same_outcomes : (es : Expressions) → all_read_below (length columns) es ≡ true → outcomes_of graph row (renumbered_expressions columns es) ≡ outcomes_of graph moved es
    same_outcomes no_more h = refl
    same_outcomes (more e es) h =
        let two = and_parts (reads_below (length columns) e) (all_read_below (length columns) es) h in
        λ i. on_one value_in_cell (same_cell e two.0 i) ∷ same_outcomes es two.1 i

    same_arms : (arms : Arms) → arms_read_below (length columns) arms ≡ true → outcomes_of_arms graph row (renumbered_arms columns arms) ≡ outcomes_of_arms graph moved arms
    same_arms no_arms h = refl
    same_arms (arm condition outcome arms) h =
        let two = and_parts (reads_below (length columns) condition && reads_below (length columns) outcome) (arms_read_below (length columns) arms) h in
        let first = and_parts (reads_below (length columns) condition) (reads_below (length columns) outcome) two.0 in
        λ i. (on_one value_in_cell (same_cell condition first.0 i), on_one value_in_cell (same_cell outcome first.1 i)) ∷ same_arms arms two.1 i

    same_else : (e : Otherwise) → else_reads_below (length columns) e ≡ true → outcome_of_else graph row (renumbered_otherwise columns e) ≡ outcome_of_else graph moved e
    same_else nothing h = refl
    same_else (otherwise e) h = λ i. on_one value_in_cell (same_cell e h i)

    same_exists : (es : Expressions) → all_read_below (length columns) es ≡ true → property_exists graph row (renumbered_expressions columns es) ≡ property_exists graph moved es
    same_exists no_more h = refl
    same_exists (more (property e key) no_more) h =
        let two = and_parts (reads_below (length columns) e) true h in λ i. on_one (existence graph key) (same_cell e two.0 i)
    same_exists (more (property e key) (more d es)) h = refl
    same_exists (more null es) h = refl
    same_exists (more _ es) h = refl

-- ---- what it reads

module _ (columns : List ℕ) where
  mutual
    pub same_reading : (e : Expression) → reads_columns (renumbered columns e) ≡ reads_columns e
    same_reading (unary operator e) = same_reading e
    same_reading (binary operator a b) = λ i. same_reading a i && same_reading b i
    same_reading (comparison e links) = λ i. same_reading e i && links_reading links i
    same_reading (list es) = all_reading es
    same_reading (case arms e) = λ i. arms_reading arms i && else_reading e i
    same_reading (call name distinct es) = λ i. not (reads_graph (function_named name)) && all_reading es i
    same_reading _ = refl

    all_reading : (es : Expressions) → all_read_columns (renumbered_expressions columns es) ≡ all_read_columns es
    all_reading no_more = refl
    all_reading (more e es) = λ i. same_reading e i && all_reading es i

    links_reading : (links : Links) → links_read_columns (renumbered_links columns links) ≡ links_read_columns links
    links_reading no_links = refl
    links_reading (link comparator e links) = λ i. same_reading e i && links_reading links i

    arms_reading : (arms : Arms) → arms_read_columns (renumbered_arms columns arms) ≡ arms_read_columns arms
    arms_reading no_arms = refl
    arms_reading (arm condition outcome arms) = λ i. same_reading condition i && same_reading outcome i && arms_reading arms i

    else_reading : (e : Otherwise) → else_reads_columns (renumbered_otherwise columns e) ≡ else_reads_columns e
    else_reading nothing = refl
    else_reading (otherwise e) = same_reading e

-- columns below a number stand for those of a row
module _ (most : ℕ) (columns : List ℕ) (inside : AllByRecursion (λ c. c < most) columns) where
  below_at : (cs : List ℕ) (i d : ℕ) → AllByRecursion (λ c. c < most) cs → i < length cs → slice_index_or cs i d < most
  below_at [] i d each less = absurd (omega (arith, less))
  below_at (c ∷ cs) zero d each less = each.0
  below_at (c ∷ cs) (suc i) d each less = below_at cs i d each.1 (omega (arith, less))

  column_below : (o : Option ℕ) → option_map_or (λ c. nat_lt c (length columns)) o true ≡ true → option_map_or (λ c. nat_lt c most) (option_map (new_column columns) o) true ≡ true
  column_below None h = refl
  column_below (Some c) h = lt-ltb (slice_index_or columns c c) most (below_at columns c c inside (grind (arith, nat_tests, h)))

  halves : (a b c d : Bool) → (a ≡ true → c ≡ true) → (b ≡ true → d ≡ true) → (a && b) ≡ true → (c && d) ≡ true
  halves a b c d left right h = let two = and_parts a b h in and_from c d (left two.0) (right two.1)

  abbrev n : ℕ
  n = length columns

  mutual
    pub reads_inside : (e : Expression) → reads_below n e ≡ true → reads_below most (renumbered columns e) ≡ true
    reads_inside (variable v) h = column_below v.column h
    reads_inside (property e key) h = reads_inside e h
    reads_inside (has_labels e labels) h = reads_inside e h
    reads_inside (unary operator e) h = reads_inside e h
    reads_inside (binary operator a b) h = halves _ _ _ _ (reads_inside a) (reads_inside b) h
    reads_inside (comparison e links) h = halves _ _ _ _ (reads_inside e) (links_inside links) h
    reads_inside (list es) h = all_inside es h
    reads_inside (case arms e) h = halves _ _ _ _ (arms_inside arms) (else_inside e) h
    reads_inside (call name distinct es) h = all_inside es h
    reads_inside _ h = refl

    all_inside : (es : Expressions) → all_read_below n es ≡ true → all_read_below most (renumbered_expressions columns es) ≡ true
    all_inside no_more h = refl
    all_inside (more e es) h = halves _ _ _ _ (reads_inside e) (all_inside es) h

    links_inside : (links : Links) → links_read_below n links ≡ true → links_read_below most (renumbered_links columns links) ≡ true
    links_inside no_links h = refl
    links_inside (link comparator e links) h = halves _ _ _ _ (reads_inside e) (links_inside links) h

    arms_inside : (arms : Arms) → arms_read_below n arms ≡ true → arms_read_below most (renumbered_arms columns arms) ≡ true
    arms_inside no_arms h = refl
    arms_inside (arm condition outcome arms) h =
        halves (reads_below n condition && reads_below n outcome) (arms_read_below n arms) _ _
        (λ both. halves (reads_below n condition) (reads_below n outcome) _ _ (reads_inside condition) (reads_inside outcome) both) (arms_inside arms) h

    else_inside : (e : Otherwise) → else_reads_below n e ≡ true → else_reads_below most (renumbered_otherwise columns e) ≡ true
    else_inside nothing h = refl
    else_inside (otherwise e) h = reads_inside e h
