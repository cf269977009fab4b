-- What holds of each row that a projection gives, where it holds of what each row before gives.
use Rattle.std.proofs.Common.{ℕ, true, false, cond, List, ◌++◌, map}
use Rattle.std.specs.Prelude.{Option, Some, None, Ok, IfOk}
use Rattle.std.specs.List.{AllByRecursion}
use Rattle.std.specs.declared.cmp.Ordering.{Ordering}
use Rattle.cy_values.specs.declared.rows.Cell.{Cell}
use Rattle.cy_values.specs.Order.{row_cmp}
use Rattle.cy_trees.specs.Trees.{Projection}
use Rattle.cy_graph.specs.Graph.{Content}
use Rattle.cy_scope_kinds.specs.Aggregates.{has_aggregates}
use Rattle.cy_expr.specs.Faults.{on_one}
use Rattle.cy_oneshot_meaning.specs.Groups.{aggregated, cells_on}
use Rattle.cy_oneshot_meaning.specs.Order.{Keyed, each_once, in_order, keyed_order}
use Rattle.cy_oneshot_patterns.specs.Outcomes.{gathered}
use Rattle.cy_oneshot_meaning.specs.Projection.{Projected, cut, distinct_rows, item_of_key, item_rows, key_cell, keyed, limited, project, projected, projection_rows, skipped, with_columns_alone}
use Rattle.cy_oneshot_meaning.proofs.Each.{each_drop, each_gathered, each_in_order, each_map, each_of_once, each_take, if_ok_any, if_ok_then}

-- a projection: what its items give on rows that P holds of, or on groups of them
module _ (graph : Content) (p : Projection) (P Q : List Cell → Type 0) (on_rows : (row : List Cell) → P row → IfOk (cells_on graph p.items row) Q)
    (on_groups : (table : List (List Cell)) → AllByRecursion P table → IfOk (aggregated graph p.items table) (AllByRecursion Q)) where
  abbrev Made : Projected → Type 0
  Made r = Q r.row

  abbrev MadeKeyed : Keyed → Type 0
  MadeKeyed k = Q k.row

  alone_each : (rows : List (List Cell)) → AllByRecursion Q rows → AllByRecursion Made (map with_columns_alone rows)
  alone_each rows each = each_map Q Made with_columns_alone (λ row here. here) rows each

  project_each : (row : List Cell) → P row → IfOk (project graph p.items row) Made
  project_each row here = if_ok_then Q Made (λ made. Ok (record { row = made; seen = made ++ row })) (λ made it. it) (cells_on graph p.items row) (on_rows row here)

  pub item_rows_each : (table : List (List Cell)) → AllByRecursion P table → IfOk (item_rows graph p table) (AllByRecursion Made)
  item_rows_each table each =
      elim (has_aggregates p) as (λ b. IfOk (cond b (on_one (λ rows. Ok (map with_columns_alone rows)) (aggregated graph p.items table)) (gathered (map (project graph p.items) table))) (AllByRecursion Made)) [
        | true ↦ if_ok_then (AllByRecursion Q) (AllByRecursion Made) (λ rows. Ok (map with_columns_alone rows)) alone_each (aggregated graph p.items table) (on_groups table each)
        | false ↦ each_gathered Made (map (project graph p.items) table) (each_map P (λ o. IfOk o Made) (project graph p.items) project_each table each)
      ]

  distinct_each : (rows : List Projected) → AllByRecursion Made rows → AllByRecursion Made (distinct_rows rows)
  distinct_each rows each =
      alone_each (each_once row_cmp (map (λ r. r.row) rows)) (each_of_once Q row_cmp (map (λ r. r.row) rows) (each_map Made Q (λ (r : Projected). r.row) (λ r here. here) rows each))

  projected_each : (table : List (List Cell)) → AllByRecursion P table → IfOk (projected graph p table) (AllByRecursion Made)
  projected_each table each =
      if_ok_then (AllByRecursion Made) (AllByRecursion Made) (λ rows. Ok (cond p.distinct (distinct_rows rows) rows))
      (λ rows all. elim p.distinct as (λ b. AllByRecursion Made (cond b (distinct_rows rows) rows)) [ true ↦ distinct_each rows all | false ↦ all ])
      (item_rows graph p table) (item_rows_each table each)

  limited_each : (limit : Option ℕ) (rows : List (List Cell)) → AllByRecursion Q rows → AllByRecursion Q (limited limit rows)
  limited_each None rows each = each
  limited_each (Some n) rows each = each_take Q n rows each

  skipped_each : (skip : Option ℕ) (rows : List (List Cell)) → AllByRecursion Q rows → AllByRecursion Q (skipped skip rows)
  skipped_each None rows each = each
  skipped_each (Some n) rows each = each_drop Q n rows each

  cut_each : (ks : List Keyed) → AllByRecursion MadeKeyed ks → AllByRecursion Q (cut p ks)
  cut_each ks each =
      let order : Keyed → Keyed → Ordering = keyed_order (map (λ key. key.descending) p.order) in
      let rows : List (List Cell) = map (λ k. k.row) (in_order order ks) in
      limited_each p.limit (skipped p.skip rows)
      (skipped_each p.skip rows (each_map MadeKeyed Q (λ (k : Keyed). k.row) (λ k here. here) (in_order order ks) (each_in_order MadeKeyed order ks each)))

  keyed_each : (r : Projected) → Made r → IfOk (keyed graph p r) MadeKeyed
  keyed_each r here =
      if_ok_any MadeKeyed (λ keys. Ok (record { row = r.row; keys = keys })) (λ keys. here)
      (gathered (map (λ key. key_cell graph r (item_of_key p.items key) key.expression) p.order))

  pub projection_each : (table : List (List Cell)) → AllByRecursion P table → IfOk (projection_rows graph p table) (AllByRecursion Q)
  projection_each table each =
      if_ok_then (AllByRecursion Made) (AllByRecursion Q) (λ rows. on_one (λ with_keys. Ok (cut p with_keys)) (gathered (map (keyed graph p) rows)))
      (λ rows all. if_ok_then (AllByRecursion MadeKeyed) (AllByRecursion Q) (λ with_keys. Ok (cut p with_keys)) cut_each (gathered (map (keyed graph p) rows))
      (each_gathered MadeKeyed (map (keyed graph p) rows) (each_map Made (λ o. IfOk o MadeKeyed) (keyed graph p) keyed_each rows all)))
      (projected graph p table) (projected_each table each)
