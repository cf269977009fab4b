-- A projection gives the same of rows in which the cells that it doesn't read are null.
use Rattle.std.proofs.Common.{◌≡◌, inl, inr, ℕ, zero, suc, ◌+◌, ◌-◌, Bool, true, false, cond, List, [], ◌∷◌, ◌++◌, filter, map, refl, sym, ap, subst, ◌∙◌, arith}
use Rattle.std.specs.Prelude.{Result, Ok, Err, IfOk, Option, Some, None, ◌||◌, length, not, pos, slice_index_or}
use Rattle.std.specs.List.{list_any}
use Rattle.std.specs.Ordering.{eq_by_cmp}
use Rattle.std.proofs.lemmas.Bool.{or_parts}
use Rattle.std.proofs.lemmas.List.{length-map, map-append}
use Rattle.std.proofs.lemmas.Simd.{map-map}
use Rattle.cy_values.specs.declared.scalars.Value.TheVariants as value
use Rattle.cy_values.specs.declared.rows.Cell.{Cell}
use Rattle.cy_values.specs.declared.rows.Cell.TheVariants as cell
use Rattle.cy_values.specs.Order.{row_cmp}
use Rattle.cy_trees.specs.Trees.{Expression, call, call_star, no_more, more, Item, Key, Projection, Clause, unwind, «with», «return»}
use Rattle.cy_graph.specs.Graph.{Content}
use Rattle.cy_scope_kinds.specs.Aggregates.{has_aggregates, is_aggregate_call}
use Rattle.cy_scope_kinds.specs.Functions.{function_named}
use Rattle.cy_expr.specs.declared.faults.EvalFault.{EvalFault}
use Rattle.cy_expr.specs.Evaluation.{as_cell, cell_of}
use Rattle.cy_expr.specs.Faults.{on_one}
use Rattle.cy_expr.specs.Graphs.{lookups}
use Rattle.cy_oneshot_meaning.specs.Order.{Keyed, each_once}
use Rattle.cy_oneshot_patterns.specs.Matching.{kept}
use Rattle.cy_oneshot_patterns.specs.Outcomes.{and_also, gathered, joined}
use Rattle.cy_oneshot_outcomes.specs.Columns.{AgreeOn, columns_read}
use Rattle.cy_oneshot_outcomes.proofs.Agreeing.{cell-same}
use Rattle.cy_oneshot_meaning.specs.Groups.{Grouped, aggregate_if, aggregated, argument_of, arguments, cells_on, group_cells, group_keys, group_rows, grouped, grouping, key_on, looked_at_with, over_rows, rows_of_group, taken, values_among}
use Rattle.cy_oneshot_meaning.specs.Projection.{Projected, cut, distinct_rows, item_of_key, item_rows, key_cell, keyed, project, projection_rows, with_columns_alone}
use Rattle.cy_oneshot_meaning.specs.Queries.{rows_after, rows_after_all}
use Rattle.cy_oneshot.specs.Carried.{AreKeysRead, AreNeeded, AreRead, AreSeen, IsClauseRead, IsEnough, IsProjectionRead, IsSeen, carried, carried_from, is_last, is_needed, is_projection, keys_of}
use Rattle.cy_oneshot_meaning.specs.internal.Answers.{on_value}
use Rattle.cy_oneshot.proofs.Carried.{AreLong, all_carried, column_carried}
use Rattle.cy_oneshot.proofs.CarriedMatch.{cell_less, long_grown, reading_less}
use Rattle.cy_scope.specs.Views.{is_update}
use Rattle.cy_oneshot_meaning.proofs.SeenRows.{cells_length, gathered_values}

-- ---- outcomes

made : {A B : Type 0} (f : A → B) (o : Result A EvalFault) → on_one (λ x. Ok (f x)) o ≡ on_value f o
made f (Ok x) = refl
made f (Err fault) = refl

-- what the second of two outcomes gives, where the first is seen by a function
and_also_seen : {A B C : Type 0} (f : A → B) (o : Result A EvalFault) (q : Result C EvalFault) → and_also (on_value f o) q ≡ and_also o q
and_also_seen f (Ok x) q = refl
and_also_seen f (Err fault) (Ok y) = refl
and_also_seen f (Err fault) (Err other) = refl

values_more : {A B : Type 0} (f : A → B) (o : Result A EvalFault) (qs : List (Result B EvalFault)) (os : List (Result A EvalFault))
    → values_among qs ≡ map f (values_among os) → values_among (on_value f o ∷ qs) ≡ map f (values_among (o ∷ os))
values_more f (Ok x) qs os is = ap (λ ys. f x ∷ ys) is
values_more f (Err fault) qs os is = is

values_seen : {X A B : Type 0} (f : A → B) (g : X → Result A EvalFault) (xs : List X) → values_among (map (λ x. on_value f (g x)) xs) ≡ map f (values_among (map g xs))
values_seen f g [] = refl
values_seen f g (x ∷ xs) = values_more f (g x) (map (λ x. on_value f (g x)) xs) (map g xs) (values_seen f g xs)

module _ (graph : Content) (needed : List Bool) where
  abbrev less : List Cell → List Cell
  less row = carried_from needed 0 row

  -- expressions that read what is needed
  cells_less : (items : List Item) (row : List Cell) → AreRead needed items → map (λ i. cell_of (lookups graph) (less row) i.expression) items ≡ map (λ i. cell_of (lookups graph) row i.expression) items
  cells_less [] row read = refl
  cells_less (i ∷ items) row read = λ j. cell_less graph needed i.expression row read.0 j ∷ cells_less items row read.1 j

  on_less : (items : List Item) (row : List Cell) → AreRead needed items → cells_on graph items (less row) ≡ cells_on graph items row
  on_less items row read = ap gathered (cells_less items row read)

  -- an expression on each row
  each_less : (e : Expression) (rows : List (List Cell)) → AreNeeded needed (columns_read e) → map (λ row. cell_of (lookups graph) row e) (map less rows) ≡ map (λ row. cell_of (lookups graph) row e) rows
  each_less e [] read = refl
  each_less e (row ∷ rows) read = λ j. cell_less graph needed e row read j ∷ each_less e rows read j

  -- ---- groups

  first_read : (columns : List ℕ) → AreNeeded needed (columns ++ []) → AreNeeded needed columns
  first_read [] read = tt
  first_read (c ∷ columns) read = (read.0, first_read columns read.1)

  over_less : (e : Expression) (rows : List (List Cell)) → AreNeeded needed (columns_read e) → over_rows graph e (map less rows) ≡ over_rows graph e rows
  over_less (call f distinct (more e no_more)) rows read =
      ap (λ os. on_one (λ cells. aggregate_if (function_named f) (taken distinct cells)) (gathered os)) (each_less e rows (first_read (columns_read e) read))
  over_less (call_star f) rows read = ap (λ n. Ok (value.Int (pos n))) (length-map rows less)
  over_less (call f distinct no_more) rows read = refl
  over_less (call f distinct (more e (more d es))) rows read = refl
  over_less _ rows read = refl

  group_less : (items : List Item) (key : List Cell) (rows : List (List Cell)) → AreRead needed items → group_cells graph items key (map less rows) ≡ group_cells graph items key rows
  group_less [] key rows read = refl
  group_less (i ∷ items) [] rows read = λ j. as_cell (over_less i.expression rows read.0 j) ∷ group_less items [] rows read.1 j
  group_less (i ∷ items) (c ∷ key) rows read =
      λ j. cond (is_aggregate_call i.expression) (as_cell (over_less i.expression rows read.0 j) ∷ group_less items (c ∷ key) rows read.1 j) (Ok c ∷ group_less items key rows read.1 j)

  abbrev grouped_less : Grouped → Grouped
  grouped_less g = record { key = g.key; row = less g.row }

  rows_less : (key : List Cell) (gs : List Grouped) → rows_of_group key (map grouped_less gs) ≡ map less (rows_of_group key gs)
  rows_less key [] = refl
  rows_less key (g ∷ gs) =
      elim (eq_by_cmp row_cmp key g.key) as (λ b. map (λ (g : Grouped). g.row) (cond b (grouped_less g ∷ filter (λ g. eq_by_cmp row_cmp key g.key) (map grouped_less gs)) (filter (λ g. eq_by_cmp row_cmp key g.key) (map grouped_less gs)))
      ≡ map less (map (λ (g : Grouped). g.row) (cond b (g ∷ filter (λ g. eq_by_cmp row_cmp key g.key) gs) (filter (λ g. eq_by_cmp row_cmp key g.key) gs)))) [
        | true ↦ ap (λ rows. less g.row ∷ rows) (rows_less key gs)
        | false ↦ rows_less key gs
      ]

  keys_less : (items : List Item) (gs : List Grouped) → group_keys items (map grouped_less gs) ≡ group_keys items gs
  keys_less [] gs = refl
  keys_less (i ∷ items) gs = ap (each_once row_cmp) (map-map (λ (g : Grouped). g.key) grouped_less gs)

  group_rows_less : (items : List Item) (gs : List Grouped) → AreRead needed items → group_rows graph items (map grouped_less gs) ≡ group_rows graph items gs
  group_rows_less items gs read =
      ap (λ keys. gathered (map (λ key. gathered (group_cells graph items key (rows_of_group key (map grouped_less gs)))) keys)) (keys_less (grouping items) gs)
      ∙ (λ j. gathered (map (λ key. gathered ((ap (group_cells graph items key) (rows_less key gs) ∙ group_less items key (rows_of_group key gs) read) j)) (group_keys (grouping items) gs)))

  grouping_read : (items : List Item) → AreRead needed items → AreRead needed (grouping items)
  grouping_read [] read = tt
  grouping_read (i ∷ items) read =
      elim (not (is_aggregate_call i.expression)) as (λ b. AreRead needed (cond b (i ∷ grouping items) (grouping items))) [
        | true ↦ (read.0, grouping_read items read.1)
        | false ↦ grouping_read items read.1
      ]

  key_less : (row : List Cell) (o : Result (List Cell) EvalFault) → on_one (λ key. Ok (record { key = key; row = less row })) o ≡ on_value grouped_less (on_one (λ key. Ok (record { key = key; row = row })) o)
  key_less row (Ok key) = refl
  key_less row (Err fault) = refl

  -- the arguments of the aggregates
  argument_less : (e : Expression) (row : List Cell) → AreNeeded needed (columns_read e) → map (λ a. cell_of (lookups graph) (less row) a) (argument_of e) ≡ map (λ a. cell_of (lookups graph) row a) (argument_of e)
  argument_less (call f distinct (more e no_more)) row read = ap (λ o. o ∷ []) (cell_less graph needed e row (first_read (columns_read e) read))
  argument_less (call f distinct no_more) row read = refl
  argument_less (call f distinct (more e (more d es))) row read = refl
  argument_less _ row read = refl

  arguments_less : (items : List Item) (row : List Cell) → AreRead needed items → map (λ a. cell_of (lookups graph) (less row) a) (arguments items) ≡ map (λ a. cell_of (lookups graph) row a) (arguments items)
  arguments_less [] row read = refl
  arguments_less (i ∷ items) row read =
      elim (is_aggregate_call i.expression) as (λ b. map (λ a. cell_of (lookups graph) (less row) a) (cond b (argument_of i.expression ++ arguments items) (arguments items))
      ≡ map (λ a. cell_of (lookups graph) row a) (cond b (argument_of i.expression ++ arguments items) (arguments items))) [
        | true ↦
            map-append (λ a. cell_of (lookups graph) (less row) a) (argument_of i.expression) (arguments items)
            ∙ (λ j. argument_less i.expression row read.0 j ++ arguments_less items row read.1 j)
            ∙ sym (map-append (λ a. cell_of (lookups graph) row a) (argument_of i.expression) (arguments items))
        | false ↦ arguments_less items row read.1
      ]

  key_is : (items : List Item) (row : List Cell) → AreRead needed items → key_on graph items (less row) ≡ key_on graph items row
  key_is items row read = λ j. looked_at_with (on_less (grouping items) row (grouping_read items read) j) (gathered (arguments_less items row read j))

  grouped_is : (items : List Item) (row : List Cell) → AreRead needed items → grouped graph items (less row) ≡ on_value grouped_less (grouped graph items row)
  grouped_is items row read =
      ap (on_one (λ key. Ok (record { key = key; row = less row }))) (key_is items row read)
      ∙ key_less row (key_on graph items row)

  all_grouped : (items : List Item) (rows : List (List Cell)) → AreRead needed items → map (grouped graph items) (map less rows) ≡ map (λ row. on_value grouped_less (grouped graph items row)) rows
  all_grouped items [] read = refl
  all_grouped items (row ∷ rows) read = λ j. grouped_is items row read j ∷ all_grouped items rows read j

  aggregated_less : (items : List Item) (rows : List (List Cell)) → AreRead needed items → aggregated graph items (map less rows) ≡ aggregated graph items rows
  aggregated_less items rows read =
      ap (λ os. and_also (gathered os) (group_rows graph items (values_among os))) (all_grouped items rows read)
      ∙ ap (λ o. and_also o (group_rows graph items (values_among (map (λ row. on_value grouped_less (grouped graph items row)) rows)))) (gathered_values grouped_less (grouped graph items) rows)
      ∙ and_also_seen (map grouped_less) (gathered (map (grouped graph items) rows)) (group_rows graph items (values_among (map (λ row. on_value grouped_less (grouped graph items row)) rows)))
      ∙ ap (λ gs. and_also (gathered (map (grouped graph items) rows)) (group_rows graph items gs)) (values_seen grouped_less (grouped graph items) rows)
      ∙ ap (and_also (gathered (map (grouped graph items) rows))) (group_rows_less items (values_among (map (grouped graph items) rows)) read)

  -- ---- the rows that are projected

  abbrev row_of : Projected → List Cell
  row_of r = r.row

  abbrev rows_in : Result (List Projected) EvalFault → Result (List (List Cell)) EvalFault
  rows_in o = on_value (map row_of) o

  row_alone : (before : List Cell) (o : Result (List Cell) EvalFault) → on_value row_of (on_one (λ row. Ok (record { row = row; seen = row ++ before })) o) ≡ o
  row_alone before (Ok row) = refl
  row_alone before (Err fault) = refl

  rows_each : (items : List Item) (rows : List (List Cell)) → rows_in (gathered (map (project graph items) rows)) ≡ gathered (map (cells_on graph items) rows)
  rows_each items rows =
      sym (gathered_values row_of (project graph items) rows)
      ∙ (λ j. gathered (map (λ row. row_alone row (cells_on graph items row) j) rows))

  all_cells_less : (items : List Item) (rows : List (List Cell)) → AreRead needed items → map (cells_on graph items) (map less rows) ≡ map (cells_on graph items) rows
  all_cells_less items [] read = refl
  all_cells_less items (row ∷ rows) read = λ j. on_less items row read j ∷ all_cells_less items rows read j

  items_less : (p : Projection) (rows : List (List Cell)) → AreRead needed p.items → rows_in (item_rows graph p (map less rows)) ≡ rows_in (item_rows graph p rows)
  items_less p rows read =
      elim (has_aggregates p) as (λ b. rows_in (cond b (on_one (λ rows. Ok (map with_columns_alone rows)) (aggregated graph p.items (map less rows))) (gathered (map (project graph p.items) (map less rows))))
      ≡ rows_in (cond b (on_one (λ rows. Ok (map with_columns_alone rows)) (aggregated graph p.items rows)) (gathered (map (project graph p.items) rows)))) [
        | true ↦ ap (λ o. rows_in (on_one (λ rows. Ok (map with_columns_alone rows)) o)) (aggregated_less p.items rows read)
        | false ↦ rows_each p.items (map less rows) ∙ ap gathered (all_cells_less p.items rows read) ∙ sym (rows_each p.items rows)
      ]

  -- ---- where the keys see the columns alone, the rows alone count

  module _ (p : Projection) where
    abbrev end : List Projected → Result (List (List Cell)) EvalFault
    end rs = on_one (λ ks. Ok (cut p ks)) (gathered (map (keyed graph p) rs))

    abbrev once : List Projected → List Projected
    once rs = cond p.distinct (distinct_rows rs) rs

    abbrev whole : Result (List Projected) EvalFault → Result (List (List Cell)) EvalFault
    whole o = on_one end (on_one (λ rs. Ok (once rs)) o)

    abbrev AreSame : List Projected → List Projected → Type 0
    AreSame rs qs = map row_of rs ≡ map row_of qs

    ends_same : ((rs qs : List Projected) → AreSame rs qs → end (once rs) ≡ end (once qs)) → (o q : Result (List Projected) EvalFault) → rows_in o ≡ rows_in q → whole o ≡ whole q
    ends_same ends (Ok rs) (Ok qs) same = ends rs qs (let e : map row_of rs ≡ map row_of qs = cc same in e)
    ends_same ends (Ok rs) (Err g) same = absurd (let e : ⊥ = cc same in e)
    ends_same ends (Err f) (Ok qs) same = absurd (let e : ⊥ = cc same in e)
    ends_same ends (Err f) (Err g) same = let e : f ≡ g = cc same in ap Err e

    -- with DISTINCT
    once_same : p.distinct ≡ true → (rs qs : List Projected) → AreSame rs qs → once rs ≡ once qs
    once_same distinct rs qs same =
        ap (λ b. cond b (distinct_rows rs) rs) distinct ∙ ap (λ rows. map with_columns_alone (each_once row_cmp rows)) same ∙ sym (ap (λ b. cond b (distinct_rows qs) qs) distinct)

    -- with an aggregate
    abbrev grouped_rows : List (List Cell) → Result (List Projected) EvalFault
    grouped_rows rows = on_one (λ rows. Ok (map with_columns_alone rows)) (aggregated graph p.items rows)

    abbrev each_row : List (List Cell) → Result (List Projected) EvalFault
    each_row rows = gathered (map (project graph p.items) rows)

    aggregates_same : has_aggregates p ≡ true → (rows : List (List Cell)) → AreRead needed p.items → item_rows graph p (map less rows) ≡ item_rows graph p rows
    aggregates_same has rows read =
        ap (λ b. cond b (grouped_rows (map less rows)) (each_row (map less rows))) has
        ∙ ap (on_one (λ rows. Ok (map with_columns_alone rows))) (aggregated_less p.items rows read)
        ∙ sym (ap (λ b. cond b (grouped_rows rows) (each_row rows)) has)

    -- else each key sees the columns of the items, and after them what it reads of the row before
    get_after : (cells before : List Cell) (column : ℕ) → IsSeen needed (length cells) column
        → slice_index_or (cells ++ less before) column (cell.Value value.Null) ≡ slice_index_or (cells ++ before) column (cell.Value value.Null)
    get_after [] before column is = sym (column_carried needed 0 before column (ap (is_needed needed) (let e : 0 + column ≡ column - 0 = omega arith in e) ∙ is (omega arith)))
    get_after (c ∷ cells) before zero is = refl
    get_after (c ∷ cells) before (suc column) is =
        get_after cells before column (λ past. ap (is_needed needed) (let e : column - length cells ≡ suc column - suc (length cells) = omega arith in e) ∙ is (omega (arith, past)))

    seen_agree : (cells before : List Cell) (columns : List ℕ) → AreSeen needed (length cells) columns → AgreeOn columns (cells ++ less before) (cells ++ before)
    seen_agree cells before [] are = tt
    seen_agree cells before (c ∷ columns) are = (get_after cells before c are.0, seen_agree cells before columns are.1)

    abbrev seen_with : List Cell → List Cell → Projected
    seen_with cells before = record { row = cells; seen = cells ++ before }

    key_seen : (cells before : List Cell) (place : Option ℕ) (e : Expression) → (place ≡ None → AreSeen needed (length cells) (columns_read e)) → key_cell graph (seen_with cells (less before)) place e ≡ key_cell graph (seen_with cells before) place e
    key_seen cells before (Some column) e are = refl
    key_seen cells before None e are = cell-same (lookups graph) (cells ++ less before) (cells ++ before) e (seen_agree cells before (columns_read e) (are refl))

    keys_seen : (cells before : List Cell) (keys : List Key) → AreKeysRead needed (length cells) (map (λ key. (item_of_key p.items key, key)) keys)
        → map (λ key. key_cell graph (seen_with cells (less before)) (item_of_key p.items key) key.expression) keys ≡ map (λ key. key_cell graph (seen_with cells before) (item_of_key p.items key) key.expression) keys
    keys_seen cells before [] are = refl
    keys_seen cells before (key ∷ keys) are = λ j. key_seen cells before (item_of_key p.items key) key.expression are.0 j ∷ keys_seen cells before keys are.1 j

    abbrev with_keys : Result Projected EvalFault → Result (Result Keyed EvalFault) EvalFault
    with_keys o = on_value (keyed graph p) o

    cells_keyed : (before : List Cell) → AreKeysRead needed (length p.items) (keys_of p) → (o : Result (List Cell) EvalFault) → IfOk o (λ cells. length cells ≡ length p.items)
        → with_keys (on_one (λ cells. Ok (seen_with cells (less before))) o) ≡ with_keys (on_one (λ cells. Ok (seen_with cells before)) o)
    cells_keyed before are (Ok cells) long =
        ap (λ os. Ok (on_one (λ keys. Ok (record { row = cells; keys = keys })) (gathered os))) (keys_seen cells before p.order (subst (λ n. AreKeysRead needed n (keys_of p)) (sym long) are))
    cells_keyed before are (Err fault) long = refl

    row_keyed : (row : List Cell) → AreRead needed p.items → AreKeysRead needed (length p.items) (keys_of p) → with_keys (project graph p.items (less row)) ≡ with_keys (project graph p.items row)
    row_keyed row read are =
        ap (λ o. with_keys (on_one (λ cells. Ok (seen_with cells (less row))) o)) (on_less p.items row read)
        ∙ cells_keyed row are (cells_on graph p.items row) (cells_length graph p.items row)

    all_keyed : (rows : List (List Cell)) → AreRead needed p.items → AreKeysRead needed (length p.items) (keys_of p)
        → map (λ row. with_keys (project graph p.items row)) (map less rows) ≡ map (λ row. with_keys (project graph p.items row)) rows
    all_keyed [] read are = refl
    all_keyed (row ∷ rows) read are = λ j. row_keyed row read are j ∷ all_keyed rows read are j

    keyed_same : (rows : List (List Cell)) → AreRead needed p.items → AreKeysRead needed (length p.items) (keys_of p) → on_value (map (keyed graph p)) (each_row (map less rows)) ≡ on_value (map (keyed graph p)) (each_row rows)
    keyed_same rows read are =
        sym (gathered_values (keyed graph p) (project graph p.items) (map less rows)) ∙ ap gathered (all_keyed rows read are) ∙ gathered_values (keyed graph p) (project graph p.items) rows

    ends_keyed : (o q : Result (List Projected) EvalFault) → on_value (map (keyed graph p)) o ≡ on_value (map (keyed graph p)) q → on_one end o ≡ on_one end q
    ends_keyed (Ok rs) (Ok qs) same = let e : map (keyed graph p) rs ≡ map (keyed graph p) qs = cc same in ap (λ os. on_one (λ ks. Ok (cut p ks)) (gathered os)) e
    ends_keyed (Ok rs) (Err g) same = absurd (let e : ⊥ = cc same in e)
    ends_keyed (Err f) (Ok qs) same = absurd (let e : ⊥ = cc same in e)
    ends_keyed (Err f) (Err g) same = let e : f ≡ g = cc same in ap Err e

    plain : p.distinct ≡ false → (o : Result (List Projected) EvalFault) → whole o ≡ on_one end o
    plain once_each (Ok rs) = ap (λ b. end (cond b (distinct_rows rs) rs)) once_each
    plain once_each (Err fault) = refl

    plain_same : p.distinct ≡ false → has_aggregates p ≡ false → (rows : List (List Cell)) → AreRead needed p.items → AreKeysRead needed (length p.items) (keys_of p)
        → projection_rows graph p (map less rows) ≡ projection_rows graph p rows
    plain_same once_each alone rows read are =
        let as_rows : (table : List (List Cell)) → projection_rows graph p table ≡ on_one end (each_row table) =
        λ table. plain once_each (item_rows graph p table) ∙ ap (λ b. on_one end (cond b (grouped_rows table) (each_row table))) alone in
        as_rows (map less rows) ∙ ends_keyed (each_row (map less rows)) (each_row rows) (keyed_same rows read are) ∙ sym (as_rows rows)

    projection_less : (rows : List (List Cell)) → IsProjectionRead needed p → projection_rows graph p (map less rows) ≡ projection_rows graph p rows
    projection_less rows read =
        (elim p.distinct as (λ d. p.distinct ≡ d → projection_rows graph p (map less rows) ≡ projection_rows graph p rows) [
          | true ↦ λ distinct. ends_same (λ rs qs same. ap end (once_same distinct rs qs same)) (item_rows graph p (map less rows)) (item_rows graph p rows) (items_less p rows read.0)
          | false ↦ λ each.
              (elim (has_aggregates p) as (λ a. has_aggregates p ≡ a → projection_rows graph p (map less rows) ≡ projection_rows graph p rows) [
                | true ↦ λ has. ap whole (aggregates_same has rows read.0)
                | false ↦ λ alone. plain_same each alone rows read.0 read.1
              ]) refl
        ]) refl

  -- ---- the clauses that are left

  same_rows : (clauses : List Clause) → needed ≡ [] → (o : Result (List (List Cell)) EvalFault) → on_one (rows_after_all graph clauses) (carried needed o) ≡ on_one (rows_after_all graph clauses) o
  same_rows clauses none o = ap (on_one (rows_after_all graph clauses)) (ap (λ n. carried n o) none ∙ all_carried o)

  -- WITH and RETURN
  pub projecting_less : (c : Clause) → is_projection c ≡ true → IsClauseRead needed c → (rows : List (List Cell)) → rows_after graph c (map less rows) ≡ rows_after graph c rows
  projecting_less («with» p w) is read rows = ap (on_one (λ made. joined (map (kept graph w) made))) (projection_less p rows read)
  projecting_less («return» p) is read rows = projection_less p rows read
  projecting_less (unwind e v) is read rows = absurd (let e : false ≡ true = is in cc)
  projecting_less _ is read rows = absurd (let e : false ≡ true = is in cc)

  pub not_last : (c : Clause) (cs : List Clause) → is_projection c ≡ false → is_update c ≡ false → is_last c cs ≡ false
  not_last c [] keeps reads = λ j. keeps j || reads j
  not_last c (d ∷ cs) keeps reads = keeps

  -- what is left makes the same of the rows that are carried along
  pub goes_on_same : (alike : Bool) (clauses : List Clause) → IsEnough alike needed clauses → list_any is_update clauses ≡ false
      → (o : Result (List (List Cell)) EvalFault) → IfOk o (AreLong needed) → on_one (rows_after_all graph clauses) (carried needed o) ≡ on_one (rows_after_all graph clauses) o
  goes_on_same alike clauses enough reading (Err fault) long = refl
  goes_on_same alike [] enough reading (Ok rows) long = same_rows [] enough (Ok rows)
  goes_on_same alike (c ∷ cs) (inl none) reading (Ok rows) long = same_rows (c ∷ cs) none (Ok rows)
  goes_on_same alike (c ∷ cs) (inr enough) reading (Ok rows) long =
      let reads = or_parts (is_update c) (list_any is_update cs) reading in
      elim (is_projection c) as (λ b. is_projection c ≡ b → on_one (rows_after_all graph cs) (rows_after graph c (map less rows)) ≡ on_one (rows_after_all graph cs) (rows_after graph c rows)) [
        | true ↦ λ ends. ap (on_one (rows_after_all graph cs)) (projecting_less c ends enough.1 rows)
        | false ↦ λ keeps.
            ap (on_one (rows_after_all graph cs)) (reading_less graph needed c reads.0 keeps enough.1 rows long)
            ∙ goes_on_same alike cs (enough.2 (not_last c cs keeps reads.0)) reads.1 (rows_after graph c rows) (long_grown graph needed c reads.0 keeps rows long)
      ] refl
