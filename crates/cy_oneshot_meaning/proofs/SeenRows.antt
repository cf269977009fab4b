-- What the items of a projection make of rows, each with what its keys see after it.
use Rattle.std.proofs.Common.{◌≡◌, ℕ, suc, ◌≤◌, true, false, cond, List, [], ◌∷◌, ◌++◌, length, map, take, refl, sym, ap, subst, ◌∙◌, arith}
use Rattle.std.specs.Prelude.{Result, Ok, Err, IfOk, Option}
use Rattle.std.specs.List.{AllByRecursion}
use Rattle.std.proofs.lemmas.List.{length-map, take_at, take_all}
use Rattle.std.proofs.lemmas.Simd.{map-map}
use Rattle.cy_values.specs.declared.rows.Cell.{Cell}
use Rattle.cy_trees.specs.Trees.{Expression, Item, Key, Projection}
use Rattle.cy_scope_kinds.specs.Aggregates.{is_aggregate_call}
use Rattle.cy_graph.specs.Graph.{Content}
use Rattle.cy_expr.specs.declared.faults.EvalFault.{EvalFault}
use Rattle.cy_expr.specs.Evaluation.{as_cell, cell_of}
use Rattle.cy_expr.specs.Faults.{on_one}
use Rattle.cy_expr.specs.Graphs.{lookups}
use Rattle.cy_oneshot_meaning.specs.Groups.{Grouped, aggregated, cells_on, group_cells, group_keys, group_rows, grouped, grouping, over_rows, rows_of_group, values_among}
use Rattle.cy_oneshot_patterns.specs.Outcomes.{together, gathered}
use Rattle.cy_oneshot_meaning.specs.Order.{Keyed}
use Rattle.cy_oneshot_meaning.specs.Projection.{Projected, item_of_key, key_cell, keyed, project, with_columns_alone}
use Rattle.cy_oneshot_meaning.specs.internal.Answers.{on_value}
use Rattle.cy_oneshot_meaning.specs.internal.Seen.{cells_by, keyed_by, projected_of, seen_by}
use Rattle.cy_oneshot_meaning.specs.internal.Permuted.{Permuted, nothing, more, exchanged, and_then}
use Rattle.cy_oneshot_meaning.proofs.Each.{each_gathered, each_made}
use Rattle.cy_oneshot_meaning.proofs.EachValue.{second_of_both}
use Rattle.cy_oneshot_meaning.proofs.Together.{single}

-- ---- outcomes

-- as many things as outcomes
length_more : {A : Type 0} (n : ℕ) (o : Result A EvalFault) (r : Result (List A) EvalFault) → IfOk r (λ xs. length xs ≡ n) → IfOk (together (single o) r) (λ xs. length xs ≡ suc n)
length_more n (Ok x) (Ok xs) h = ap suc h
length_more n (Ok x) (Err g) h = tt
length_more n (Err f) (Ok xs) h = tt
length_more n (Err f) (Err g) h = tt

pub length_gathered : {A : Type 0} (os : List (Result A EvalFault)) → IfOk (gathered os) (λ xs. length xs ≡ length os)
length_gathered [] = refl
length_gathered (o ∷ os) = length_more (length os) o (gathered os) (length_gathered os)

value_more : {A B : Type 0} (f : A → B) (o : Result A EvalFault) (r : Result (List A) EvalFault) → together (single (on_value f o)) (on_value (map f) r) ≡ on_value (map f) (together (single o) r)
value_more f (Ok x) (Ok xs) = refl
value_more f (Ok x) (Err g) = refl
value_more f (Err h) (Ok xs) = refl
value_more f (Err h) (Err g) = refl

pub gathered_values : {X A B : Type 0} (f : A → B) (g : X → Result A EvalFault) (xs : List X) → gathered (map (λ x. on_value f (g x)) xs) ≡ on_value (map f) (gathered (map g xs))
gathered_values f g [] = refl
gathered_values f g (x ∷ xs) = ap (together (single (on_value f (g x)))) (gathered_values f g xs) ∙ value_more f (g x) (gathered (map g xs))

-- ---- items on rows

abbrev pub expressions : List Item → List Expression
expressions items = map (λ i. i.expression) items

-- a row with another one after it, and a row with its keys
abbrev seen_as : List Cell → List Cell → Projected
seen_as row seen = record { row = row; seen = seen }

abbrev seen_before : List Cell → Result (List Cell) EvalFault → Result Projected EvalFault
seen_before before o = on_one (λ row. Ok (seen_as row (row ++ before))) o

abbrev with_keys : List Cell → Result (List Cell) EvalFault → Result Keyed EvalFault
with_keys row o = on_one (λ keys. Ok (record { row = row; keys = keys })) o

module _ (graph : Content) where
  pub cells_are : (items : List Item) (row : List Cell) → cells_on graph items row ≡ cells_by graph (expressions items) row
  cells_are items row = ap gathered (sym (map-map (λ e. cell_of (lookups graph) row e) (λ (i : Item). i.expression) items))

  pub cells_length : (items : List Item) (row : List Cell) → IfOk (cells_on graph items row) (λ cells. length cells ≡ length items)
  cells_length items row =
      subst (λ n. IfOk (cells_on graph items row) (λ cells. length cells ≡ n)) (length-map items (λ (i : Item). cell_of (lookups graph) row i.expression))
      (length_gathered (map (λ i. cell_of (lookups graph) row i.expression) items))

  behind : (n : ℕ) (before : List Cell) (o : Result (List Cell) EvalFault) → IfOk o (λ cells. length cells ≡ n)
      → seen_before before o ≡ on_value (projected_of n) (on_one (λ row. Ok (row ++ before)) o)
  behind n before (Ok cells) long = ap (λ l. Ok (seen_as l (cells ++ before))) (sym (take_at cells before n long))
  behind n before (Err fault) long = refl

  project_is : (items : List Item) (before : List Cell) → project graph items before ≡ on_value (projected_of (length items)) (seen_by graph (expressions items) before)
  project_is items before =
      behind (length items) before (cells_on graph items before) (cells_length items before)
      ∙ ap (λ o. on_value (projected_of (length items)) (on_one (λ row. Ok (row ++ before)) o)) (cells_are items before)

  pub projects_are : (items : List Item) (rows : List (List Cell))
      → gathered (map (project graph items) rows) ≡ on_value (map (projected_of (length items))) (gathered (map (seen_by graph (expressions items)) rows))
  projects_are items rows =
      (λ i. gathered (map (λ row. project_is items row i) rows))
      ∙ gathered_values (projected_of (length items)) (seen_by graph (expressions items)) rows

  -- ---- groups

  group_length : (items : List Item) (key : List Cell) (rows : List (List Cell)) → length (group_cells graph items key rows) ≡ length items
  group_length [] key rows = refl
  group_length (i ∷ items) [] rows = ap suc (group_length items [] rows)
  group_length (i ∷ items) (c ∷ key) rows =
      elim (is_aggregate_call i.expression) as (λ b. length (cond b (as_cell (over_rows graph i.expression rows) ∷ group_cells graph items (c ∷ key) rows) (Ok c ∷ group_cells graph items key rows)) ≡ suc (length items)) [
        | true ↦ ap suc (group_length items (c ∷ key) rows)
        | false ↦ ap suc (group_length items key rows)
      ]

  pub aggregated_length : (items : List Item) (table : List (List Cell)) → IfOk (aggregated graph items table) (AllByRecursion (λ row. length row ≡ length items))
  aggregated_length items table =
      let gs : List Grouped = values_among (map (grouped graph items) table) in
      second_of_both (AllByRecursion (λ row. length row ≡ length items)) (gathered (map (grouped graph items) table)) (group_rows graph items gs)
      (each_gathered (λ row. length row ≡ length items) (map (λ key. gathered (group_cells graph items key (rows_of_group key gs))) (group_keys (grouping items) gs))
      (each_made (λ o. IfOk o (λ row. length row ≡ length items)) (λ key. gathered (group_cells graph items key (rows_of_group key gs)))
      (λ key. subst (λ n. IfOk (gathered (group_cells graph items key (rows_of_group key gs))) (λ row. length row ≡ n)) (group_length items key (rows_of_group key gs))
      (length_gathered (group_cells graph items key (rows_of_group key gs)))) (group_keys (grouping items) gs)))

  -- ---- keys

  pub keyed_is : (p : Projection) (keys : List (Option ℕ × Key)) → keys ≡ map (λ k. (item_of_key p.items k, k)) p.order → (r : Projected) → keyed graph p r ≡ keyed_by graph keys r
  keyed_is p keys are r =
      ap (λ os. with_keys r.row (gathered os))
      (sym (ap (map (λ k. key_cell graph r k.0 k.1.expression)) are ∙ map-map (λ k. key_cell graph r k.0 k.1.expression) (λ k. (item_of_key p.items k, k)) p.order))

-- what holds of each holds of each in another order
pub each_permuted : {A : Type 0} (P : A → Type 0) {xs ys : List A} → Permuted xs ys → AllByRecursion P ys → AllByRecursion P xs
each_permuted P nothing each = tt
each_permuted P (more x p) each = (each.0, each_permuted P p each.1)
each_permuted P (exchanged x y xs) each = (each.1.0, (each.0, each.1.1))
each_permuted P (and_then p q) each = each_permuted P p (each_permuted P q each)

whole : (n : ℕ) (row : List Cell) → length row ≡ n → row ≡ take n row
whole n row long = sym (take_all n row (let le : length row ≤ n = omega arith in le))

-- rows of this many cells
pub alone : (n : ℕ) (rows : List (List Cell)) → AllByRecursion (λ row. length row ≡ n) rows → map with_columns_alone rows ≡ map (projected_of n) rows
alone n [] each = refl
alone n (row ∷ rows) each = λ i. record { row = whole n row each.0 i; seen = row } ∷ alone n rows each.1 i
