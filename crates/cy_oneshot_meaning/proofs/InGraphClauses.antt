-- What a clause's rows name is in the graph where what its table names is.
use Rattle.std.proofs.Common.{true, false, cond, List, [], ◌∷◌, map}
use Rattle.std.specs.Prelude.{Ok, IfOk}
use Rattle.std.specs.List.{AllByRecursion}
use Rattle.cy_values.specs.declared.rows.Cell.{Cell}
use Rattle.cy_values.specs.Order.{row_cmp}
use Rattle.cy_trees.specs.Trees.{Item, Projection, Clause, «match», unwind, «with», «return»}
use Rattle.cy_graph.specs.Graph.{Content}
use Rattle.cy_scope_kinds.specs.Aggregates.{is_aggregate_call}
use Rattle.cy_expr.specs.Evaluation.{as_cell, cell_of}
use Rattle.cy_oneshot_meaning.specs.Groups.{arguments_on, cells_on, grouping, key_on, Grouped, grouped, group_cells, group_keys, group_rows, over_rows, rows_of_group, values_among, aggregated}
use Rattle.cy_oneshot_patterns.specs.Matching.{kept, matched_where, optionally_matched, unwound}
use Rattle.cy_oneshot_patterns.specs.Outcomes.{gathered, joined}
use Rattle.cy_oneshot_meaning.specs.Projection.{projection_rows}
use Rattle.cy_oneshot_meaning.specs.Queries.{rows_after}
use Rattle.cy_expr.specs.Graphs.{lookups}
use Rattle.cy_oneshot_meaning.specs.Reading.{IsInGraph, AreInGraph}
use Rattle.cy_oneshot_meaning.proofs.EachRow.{all_kept_each, matched_each, one_by_one_each, optionally_each}
use Rattle.cy_oneshot_meaning.proofs.EachProjected.{projection_each}
use Rattle.cy_oneshot_meaning.proofs.Each.{each_gathered, each_made, each_map, each_of_once, if_ok_then}
use Rattle.cy_oneshot_meaning.proofs.EachValue.{each_value, first_looked_at, second_of_both}
use Rattle.cy_oneshot_meaning.proofs.InGraphLemmas.{cell_there, fitting_there, nulls_there, unwound_there, value_there}

module _ (graph : Content) where
  abbrev There : Cell → Type 0
  There c = IsInGraph graph c

  abbrev RowThere : List Cell → Type 0
  RowThere row = AllByRecursion (IsInGraph graph) row

  abbrev RowsThere : List (List Cell) → Type 0
  RowsThere rows = AllByRecursion (λ row. AllByRecursion (IsInGraph graph) row) rows

  cells_there : (items : List Item) (row : List Cell) → RowThere row → IfOk (cells_on graph items row) RowThere
  cells_there items row there =
      each_gathered There (map (λ i. cell_of (lookups graph) row i.expression) items)
      (each_made (λ o. IfOk o There) (λ (i : Item). cell_of (lookups graph) row i.expression) (λ i. cell_there graph row there i.expression) items)

  -- ---- groups

  abbrev KeyThere : Grouped → Type 0
  KeyThere g = AllByRecursion (IsInGraph graph) g.key

  grouped_there : (items : List Item) (row : List Cell) → RowThere row → IfOk (grouped graph items row) KeyThere
  grouped_there items row there =
      if_ok_then RowThere KeyThere (λ key. Ok (record { key = key; row = row })) (λ key here. here) (key_on graph items row)
      (first_looked_at RowThere (cells_on graph (grouping items) row) (arguments_on graph items row) (cells_there (grouping items) row there))

  keys_there : (items : List Item) (gs : List Grouped) → AllByRecursion KeyThere gs → RowsThere (group_keys items gs)
  keys_there [] gs each = (tt, tt)
  keys_there (i ∷ items) gs each = each_of_once RowThere row_cmp (map (λ g. g.key) gs) (each_map KeyThere RowThere (λ (g : Grouped). g.key) (λ g here. here) gs each)

  group_cells_there : (items : List Item) (key : List Cell) (rows : List (List Cell)) → RowThere key → AllByRecursion (λ o. IfOk o There) (group_cells graph items key rows)
  group_cells_there [] key rows there = tt
  group_cells_there (i ∷ items) [] rows there = (value_there graph (over_rows graph i.expression rows), group_cells_there items [] rows there)
  group_cells_there (i ∷ items) (c ∷ key) rows there =
      elim (is_aggregate_call i.expression) as (λ b. AllByRecursion (λ o. IfOk o There) (cond b (as_cell (over_rows graph i.expression rows) ∷ group_cells graph items (c ∷ key) rows) (Ok c ∷ group_cells graph items key rows))) [
        | true ↦ (value_there graph (over_rows graph i.expression rows), group_cells_there items (c ∷ key) rows there)
        | false ↦ (there.0, group_cells_there items key rows there.1)
      ]

  pub aggregated_there : (items : List Item) (table : List (List Cell)) → RowsThere table → IfOk (aggregated graph items table) RowsThere
  aggregated_there items table there =
      let gs : List Grouped = values_among (map (grouped graph items) table) in
      let keys : List (List Cell) = group_keys (grouping items) gs in
      second_of_both RowsThere (gathered (map (grouped graph items) table)) (group_rows graph items gs)
      (each_gathered RowThere (map (λ key. gathered (group_cells graph items key (rows_of_group key gs))) keys)
      (each_map RowThere (λ o. IfOk o RowThere) (λ key. gathered (group_cells graph items key (rows_of_group key gs)))
      (λ key here. each_gathered There (group_cells graph items key (rows_of_group key gs)) (group_cells_there items key (rows_of_group key gs) here)) keys
      (keys_there (grouping items) gs
      (each_value KeyThere (map (grouped graph items) table) (each_map RowThere (λ o. IfOk o KeyThere) (grouped graph items) (grouped_there items) table there)))))

  -- ---- clauses

  projection_there : (p : Projection) (rows : List (List Cell)) → RowsThere rows → IfOk (projection_rows graph p rows) RowsThere
  projection_there p rows there = projection_each graph p RowThere RowThere (cells_there p.items) (aggregated_there p.items) rows there

  pub clause_there : (clause : Clause) (rows : List (List Cell)) → AreInGraph graph rows → IfOk (rows_after graph clause rows) (AreInGraph graph)
  clause_there («match» false paths w) rows there =
      one_by_one_each RowThere RowThere (matched_where graph paths w) (λ row here. matched_each graph RowThere paths w row (fitting_there graph paths row here)) rows there
  clause_there («match» true paths w) rows there =
      one_by_one_each RowThere RowThere (optionally_matched graph paths w)
      (λ row here. optionally_each graph RowThere paths w row (fitting_there graph paths row here) (nulls_there graph paths row here)) rows there
  clause_there (unwind e v) rows there = one_by_one_each RowThere RowThere (unwound graph e) (unwound_there graph e) rows there
  clause_there («with» p w) rows there =
      if_ok_then RowsThere RowsThere (λ made. joined (map (kept graph w) made)) (all_kept_each graph RowThere w) (projection_rows graph p rows) (projection_there p rows there)
  clause_there («return» p) rows there = projection_there p rows there
  clause_there _ rows there = there
