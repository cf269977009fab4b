-- What a projection without aggregates and without order makes.
use Rattle.std.proofs.Common.{◌≡◌, ℕ, min, Bool, true, false, ◌||◌, List, [], ◌∷◌, ◌++◌, map, refl, sym, ap, subst, ◌∙◌}
use Rattle.std.specs.Prelude.{IsOk, is_some, Option, None, Some, Result, Ok, Err, if◌then◌else◌}
use Rattle.std.specs.List.{AllByRecursion}
use Rattle.std.proofs.lemmas.Bool.{true≢false, or_parts}
use Rattle.cy_values.specs.declared.rows.Cell.{Cell}
use Rattle.cy_values.specs.Bag.{count_of}
use Rattle.cy_values.specs.Order.{row_cmp}
use Rattle.cy_trees.specs.Trees.{Item, Key, Projection}
use Rattle.cy_scope_kinds.specs.Aggregates.{has_aggregates}
use Rattle.cy_scope.specs.Views.{has_keys, has_order}
use Rattle.cy_graph.specs.Graph.{Content}
use Rattle.cy_expr.specs.declared.faults.EvalFault.{EvalFault}
use Rattle.cy_expr.specs.Evaluation.{cell_of}
use Rattle.cy_expr.specs.Faults.{on_one}
use Rattle.cy_expr.specs.Graphs.{lookups}
use Rattle.cy_oneshot_patterns.specs.Outcomes.{gathered, together}
use Rattle.cy_oneshot_meaning.specs.Order.{Keyed, each_once, in_order, keyed_order}
use Rattle.cy_oneshot_meaning.specs.Groups as groups
use Rattle.cy_oneshot_meaning.specs.Projection.{Projected, cut, distinct_rows, item_rows, keyed, project, projected, projection_rows, with_columns_alone}
use Rattle.cy_planner_algebra.specs.Expressions.{cell_or_null}
use Rattle.cy_planner_rows.specs.Rows.{cells_on}
use Rattle.cy_planner.specs.internal.Projections.{IsPlain, expressions_in}
use Rattle.cy_planner_optional.proofs.Outcomes.{both_ok, then_ok}

-- ---- outcomes of single things

module _ {X A : Type 0} where
  pub gathered_made : (P : X → Type 0) (f : X → Result A EvalFault) (g : X → A) → ((x : X) → P x → f x ≡ Ok (g x)) → (xs : List X) → AllByRecursion P xs → gathered (map f xs) ≡ Ok (map g xs)
  gathered_made P f g step [] each = refl
  gathered_made P f g step (x ∷ xs) each =
      λ i. together (on_one (λ (y : A). Ok (y ∷ [])) (step x each.0 i)) (gathered_made P f g step xs each.1 i)

  pub gathered_each : (f : X → Result A EvalFault) (xs : List X) → IsOk (gathered (map f xs)) → AllByRecursion (λ x. IsOk (f x)) xs
  gathered_each f [] is = tt
  gathered_each f (x ∷ xs) is =
      let both = both_ok (on_one (λ (y : A). Ok (y ∷ [])) (f x)) (gathered (map f xs)) is in
      (then_ok (λ (y : A). Ok (y ∷ [])) (f x) both.0, gathered_each f xs both.1)

-- ---- a projection without order

module _ (graph : Content) (items : List Item) where
  cell_is : (o : Result Cell EvalFault) → IsOk o → o ≡ Ok (cell_or_null o)
  cell_is (Ok c) is = refl
  cell_is (Err fault) is = cc

  abbrev pub HasCells : List Cell → Type 0
  HasCells row = AllByRecursion (λ (i : Item). IsOk (cell_of (lookups graph) row i.expression)) items

  on_items : (row : List Cell) (some : List Item) → map (λ (i : Item). cell_or_null (cell_of (lookups graph) row i.expression)) some ≡ cells_on graph (expressions_in some) row
  on_items row [] = refl
  on_items row (i ∷ some) = ap (λ l. cell_or_null (cell_of (lookups graph) row i.expression) ∷ l) (on_items row some)

  cells_are : (row : List Cell) → HasCells row → groups.cells_on graph items row ≡ Ok (cells_on graph (expressions_in items) row)
  cells_are row has =
      gathered_made (λ (i : Item). IsOk (cell_of (lookups graph) row i.expression)) (λ (i : Item). cell_of (lookups graph) row i.expression)
      (λ (i : Item). cell_or_null (cell_of (lookups graph) row i.expression)) (λ i is. cell_is (cell_of (lookups graph) row i.expression) is) items has
      ∙ ap Ok (on_items row items)

  abbrev pub made_of : List Cell → Projected
  made_of row = record { row = cells_on graph (expressions_in items) row; seen = cells_on graph (expressions_in items) row ++ row }

  project_is : (row : List Cell) → HasCells row → project graph items row ≡ Ok (made_of row)
  project_is row has = ap (on_one (λ cells. let p : Projected = record { row = cells; seen = cells ++ row } in Ok p)) (cells_are row has)

  have_cells : (rows : List (List Cell)) → IsOk (gathered (map (project graph items) rows)) → AllByRecursion HasCells rows
  have_cells rows is = of_each rows (gathered_each (project graph items) rows is)
    where
      of_each : (rows : List (List Cell)) → AllByRecursion (λ row. IsOk (project graph items row)) rows → AllByRecursion HasCells rows
      of_each [] each = tt
      of_each (row ∷ rows) each = (
        gathered_each (λ (i : Item). cell_of (lookups graph) row i.expression) items
            (then_ok (λ cells. let p : Projected = record { row = cells; seen = cells ++ row } in Ok p) (groups.cells_on graph items row) each.0),
        of_each rows each.1,
      )

pub items_made : (graph : Content) (items : List Item) (rows : List (List Cell)) → AllByRecursion (HasCells graph items) rows → gathered (map (project graph items) rows) ≡ Ok (map (made_of graph items) rows)
items_made graph items rows has = gathered_made (HasCells graph items) (project graph items) (made_of graph items) (project_is graph items) rows has

-- ---- without keys, nothing is cut

keys_none : (keys : List Key) → has_keys keys ≡ false → keys ≡ []
keys_none [] h = refl
keys_none (key ∷ keys) h = absurd (true≢false h)

none_there : {A : Type 0} (o : Option A) → is_some o ≡ false → o ≡ None
none_there None h = refl
none_there (Some x) h = absurd (true≢false h)

-- a projection without order
abbrev plain : Projection → Projection
plain p = record p { order = []; skip = None; limit = None }

plain_is : (p : Projection) → has_order p ≡ false → p ≡ plain p
plain_is p h =
    let last = or_parts (has_keys p.order || is_some p.skip) (is_some p.limit) h in
    let first = or_parts (has_keys p.order) (is_some p.skip) last.0 in
    λ i. record p { order = keys_none p.order first.0 i; skip = none_there p.skip first.1 i; limit = none_there p.limit last.1 i }

abbrev pub without_keys : Projected → Keyed
without_keys r = record { row = r.row; keys = [] }

any_each : {A : Type 0} (xs : List A) → AllByRecursion (λ (x : A). Unit {0}) xs
any_each [] = tt
any_each (x ∷ xs) = (tt, any_each xs)

abbrev pub as_ordered : List Projected → List (List Cell)
as_ordered rows = map (λ (k : Keyed). k.row) (in_order (keyed_order []) (map without_keys rows))

abbrev pub chosen_rows : Bool → List Projected → List Projected
chosen_rows distinct rows = if distinct then distinct_rows rows else rows

module _ (graph : Content) (p : Projection) where
  keyed_are : (rows : List Projected) → gathered (map (keyed graph (plain p)) rows) ≡ Ok (map without_keys rows)
  keyed_are rows = gathered_made (λ r. Unit {0}) (keyed graph (plain p)) without_keys (λ r is. refl) rows (any_each rows)

  ordered_are : (rows : List Projected) → on_one (λ with_keys. Ok (cut (plain p) with_keys)) (gathered (map (keyed graph (plain p)) rows)) ≡ Ok (as_ordered rows)
  ordered_are rows = ap (on_one (λ with_keys. Ok (cut (plain p) with_keys))) (keyed_are rows)

  rows_of_items : (o : Result (List Projected) EvalFault) (rows : List Projected) → o ≡ Ok rows
      → on_one (λ made. on_one (λ with_keys. Ok (cut (plain p) with_keys)) (gathered (map (keyed graph (plain p)) made))) (on_one (λ made. Ok (chosen_rows p.distinct made)) o)
      ≡ Ok (as_ordered (chosen_rows p.distinct rows))
  rows_of_items o rows is =
      ap (λ (q : Result (List Projected) EvalFault). on_one (λ made. on_one (λ with_keys. Ok (cut (plain p) with_keys)) (gathered (map (keyed graph (plain p)) made))) (on_one (λ made. Ok (chosen_rows p.distinct made)) q)) is
      ∙ ordered_are (chosen_rows p.distinct rows)

  module _ (none : has_aggregates p ≡ false) (table : List (List Cell)) where
    items_are : item_rows graph (plain p) table ≡ gathered (map (project graph p.items) table)
    items_are =
        ap (λ (b : Bool). if b then on_one (λ rows. Ok (map with_columns_alone rows)) (groups.aggregated graph p.items table) else gathered (map (project graph p.items) table)) none

    plain_have : IsOk (projection_rows graph (plain p) table) → AllByRecursion (HasCells graph p.items) table
    plain_have is =
        have_cells graph p.items table
        (subst (λ (o : Result (List Projected) EvalFault). IsOk o) items_are
        (then_ok (λ made. Ok (chosen_rows p.distinct made)) (item_rows graph (plain p) table)
        (then_ok (λ made. on_one (λ with_keys. Ok (cut (plain p) with_keys)) (gathered (map (keyed graph (plain p)) made))) (projected graph (plain p) table) is)))

    plain_rows : AllByRecursion (HasCells graph p.items) table → projection_rows graph (plain p) table ≡ Ok (as_ordered (chosen_rows p.distinct (map (made_of graph p.items) table)))
    plain_rows has = rows_of_items (item_rows graph (plain p) table) (map (made_of graph p.items) table) (items_are ∙ items_made graph p.items table has)

  -- so it is of a projection that has none
  pub rows_from : IsPlain p → (table : List (List Cell)) → AllByRecursion (HasCells graph p.items) table
      → projection_rows graph p table ≡ Ok (as_ordered (chosen_rows p.distinct (map (made_of graph p.items) table)))
  rows_from is table has = ap (λ (q : Projection). projection_rows graph q table) (plain_is p is.1) ∙ plain_rows is.0 table has

  pub have_all : IsPlain p → (table : List (List Cell)) → IsOk (projection_rows graph p table) → AllByRecursion (HasCells graph p.items) table
  have_all is table ok = plain_have is.0 table (subst (λ (q : Projection). IsOk (projection_rows graph q table)) (plain_is p is.1) ok)

  pub rows_are : IsPlain p → (table : List (List Cell)) → IsOk (projection_rows graph p table)
      → projection_rows graph p table ≡ Ok (as_ordered (chosen_rows p.distinct (map (made_of graph p.items) table)))
  rows_are is table ok = rows_from is table (have_all is table ok)

-- without DISTINCT it has no fault either
pub wide_ok : (graph : Content) (p : Projection) → IsPlain p → (table : List (List Cell)) → IsOk (projection_rows graph p table) → IsOk (projection_rows graph (record p { distinct = false }) table)
wide_ok graph p is table ok =
    subst (λ (o : Result (List (List Cell)) EvalFault). IsOk o) (sym (rows_from graph (record p { distinct = false }) is table (have_all graph p is table ok))) refl

-- ---- how often rows count there

rows_alone : (rows : List (List Cell)) → map (λ (r : Projected). r.row) (map with_columns_alone rows) ≡ rows
rows_alone [] = refl
rows_alone (row ∷ rows) = ap (λ l. row ∷ l) (rows_alone rows)

rows_made : (graph : Content) (items : List Item) (table : List (List Cell)) → map (λ (r : Projected). r.row) (map (made_of graph items) table) ≡ map (cells_on graph (expressions_in items)) table
rows_made graph items [] = refl
rows_made graph items (row ∷ table) = ap (λ l. cells_on graph (expressions_in items) row ∷ l) (rows_made graph items table)

rows_keyed : (rows : List Projected) → map (λ (k : Keyed). k.row) (map without_keys rows) ≡ map (λ (r : Projected). r.row) rows
rows_keyed [] = refl
rows_keyed (r ∷ rows) = ap (λ l. r.row ∷ l) (rows_keyed rows)

-- the counts of a projection, by those of its items
abbrev pub counted : Bool → ℕ → ℕ
counted distinct n = if distinct then min 1 n else n

module _ (ordered : (descending : List Bool) (row : List Cell) (rows : List Keyed) → count_of row (map (λ k. k.row) (in_order (keyed_order descending) rows)) ≡ count_of row (map (λ k. k.row) rows))
    (once : (row : List Cell) (rows : List (List Cell)) → count_of row (each_once row_cmp rows) ≡ min 1 (count_of row rows)) where
  counts_ordered : (row : List Cell) (rows : List Projected) → count_of row (as_ordered rows) ≡ count_of row (map (λ (r : Projected). r.row) rows)
  counts_ordered row rows = ordered [] row (map without_keys rows) ∙ ap (count_of row) (rows_keyed rows)

  counts_chosen : (row : List Cell) (distinct : Bool) (rows : List Projected) → count_of row (map (λ (r : Projected). r.row) (chosen_rows distinct rows)) ≡ counted distinct (count_of row (map (λ (r : Projected). r.row) rows))
  counts_chosen row true rows = ap (count_of row) (rows_alone (each_once row_cmp (map (λ (r : Projected). r.row) rows))) ∙ once row (map (λ (r : Projected). r.row) rows)
  counts_chosen row false rows = refl

  pub counts_are : (graph : Content) (p : Projection) (table : List (List Cell)) (row : List Cell)
      → count_of row (as_ordered (chosen_rows p.distinct (map (made_of graph p.items) table))) ≡ counted p.distinct (count_of row (map (cells_on graph (expressions_in p.items)) table))
  counts_are graph p table row =
      counts_ordered row (chosen_rows p.distinct (map (made_of graph p.items) table))
      ∙ counts_chosen row p.distinct (map (made_of graph p.items) table)
      ∙ ap (λ rows. counted p.distinct (count_of row rows)) (rows_made graph p.items table)
