-- WITH and RETURN: items with their aggregates, then DISTINCT, then order, SKIP and LIMIT. (openCypher 9, WITH and RETURN; ties
-- and faults own)
use Rattle.std.specs.Prelude.{ℕ, List, ◌++◌, map, take, drop, slice_index_or, Option, None, Some, Result, Ok, if◌then◌else◌}
use Rattle.std.specs.List.{position_from}
use Rattle.cy_values.specs.declared.scalars.Value.TheVariants as value
use Rattle.cy_values.specs.declared.rows.Cell.{Cell}
use Rattle.cy_values.specs.declared.rows.Cell.TheVariants as cell
use Rattle.cy_values.specs.Order.{row_cmp}
use Rattle.cy_trees.specs.Trees.{Expression, Item, Key, Projection}
use Rattle.cy_graph.specs.Graph.{Content}
use Rattle.cy_scope_kinds.specs.Aggregates.{has_aggregates}
use Rattle.cy_scope_kinds.specs.Same.{same}
use Rattle.cy_expr.specs.declared.faults.EvalFault.{EvalFault}
use Rattle.cy_expr.specs.Evaluation.{cell_of}
use Rattle.cy_expr.specs.Faults.{on_one}
use Rattle.cy_oneshot_meaning.specs.Groups.{cells_on, aggregated}
use Rattle.cy_oneshot_meaning.specs.Order.{Keyed, each_once, in_order, keyed_order}
use Rattle.cy_oneshot_patterns.specs.Outcomes.{gathered}
use Rattle.cy_expr.specs.Graphs.{lookups}

-- a projected row, and what its keys see: its columns and, after them, the row before, unless DISTINCT or an aggregate hides it
pub record Projected : Type 0 where
  pub row : List Cell
  pub seen : List Cell

abbrev pub with_columns_alone : List Cell → Projected
with_columns_alone row = record { row = row; seen = row }

abbrev pub project : Content → List Item → List Cell → Result Projected EvalFault
project graph items before = on_one (λ row. Ok (record { row = row; seen = row ++ before })) (cells_on graph items before)

-- DISTINCT: each row once, null being the same as null
abbrev pub distinct_rows : List Projected → List Projected
distinct_rows rows = map with_columns_alone (each_once row_cmp (map (λ r. r.row) rows))

-- the items, on each row or on each group
abbrev pub item_rows : Content → Projection → List (List Cell) → Result (List Projected) EvalFault
item_rows graph p table =
    if has_aggregates p then on_one (λ rows. Ok (map with_columns_alone rows)) (aggregated graph p.items table)
    else gathered (map (project graph p.items) table)

abbrev pub projected : Content → Projection → List (List Cell) → Result (List Projected) EvalFault
projected graph p table = on_one (λ rows. Ok (if p.distinct then distinct_rows rows else rows)) (item_rows graph p table)

-- a key whose tree is that of an item is that item's column; any other one is evaluated on what keys see
abbrev pub key_cell : Content → Projected → Option ℕ → Expression → Result Cell EvalFault
key_cell graph r (Some column) e = Ok (slice_index_or r.row column (cell.Value value.Null))
key_cell graph r None e = cell_of (lookups graph) r.seen e

abbrev pub item_of_key : List Item → Key → Option ℕ
item_of_key items key = position_from (λ i. same i.expression key.expression) 0 items

abbrev pub keyed : Content → Projection → Projected → Result Keyed EvalFault
keyed graph p r =
    on_one (λ keys. Ok (record { row = r.row; keys = keys })) (gathered (map (λ key. key_cell graph r (item_of_key p.items key) key.expression) p.order))

abbrev pub skipped : Option ℕ → List (List Cell) → List (List Cell)
skipped None rows = rows
skipped (Some count) rows = drop count rows

abbrev pub limited : Option ℕ → List (List Cell) → List (List Cell)
limited None rows = rows
limited (Some count) rows = take count rows

-- the rows in order, without those that are cut
abbrev pub cut : Projection → List Keyed → List (List Cell)
cut p rows = limited p.limit (skipped p.skip (map (λ k. k.row) (in_order (keyed_order (map (λ key. key.descending) p.order)) rows)))

-- The rows of a projection in their order. All items come before the first key: the first of the two steps that faults decides,
-- by its smallest code.
abbrev pub projection_rows : Content → Projection → List (List Cell) → Result (List (List Cell)) EvalFault
projection_rows graph p table = on_one (λ rows. on_one (λ with_keys. Ok (cut p with_keys)) (gathered (map (keyed graph p) rows))) (projected graph p table)
