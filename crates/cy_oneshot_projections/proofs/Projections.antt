-- The rows of a projection, from the rows with what their keys see.
use Rattle.std.proofs.Common.{◌≡◌, ℕ, true, false, cond, List, length, map, take, sym, ap, subst, ◌∙◌}
use Rattle.std.specs.Prelude.{IfOk, Option, Result, Ok, Err}
use Rattle.std.specs.List.{AllByRecursion}
use Rattle.std.specs.Cmp.{IsTotalOrder}
use Rattle.std.proofs.lemmas.Simd.{map-map}
use Rattle.cy_values.specs.declared.rows.Cell.{Cell}
use Rattle.cy_values.specs.Order.{row_cmp}
use Rattle.cy_trees.specs.Trees.{Key, Projection}
use Rattle.cy_scope_kinds.specs.Aggregates.{has_aggregates}
use Rattle.cy_graph.specs.Graph.{Content}
use Rattle.cy_expr.specs.declared.faults.EvalFault.{EvalFault}
use Rattle.cy_expr.specs.Faults.{on_one}
use Rattle.cy_oneshot_meaning.specs.Groups.{aggregated}
use Rattle.cy_oneshot_patterns.specs.Outcomes.{gathered}
use Rattle.cy_oneshot_meaning.specs.Order.{each_once, in_order}
use Rattle.cy_oneshot_meaning.specs.Projection.{Projected, cut, distinct_rows, item_of_key, item_rows, keyed, project, projected, projection_rows, with_columns_alone}
use Rattle.cy_oneshot_meaning.specs.internal.Answers.{on_value}
use Rattle.cy_oneshot_meaning.specs.internal.Seen.{keyed_by, projected_of, seen_by}
use Rattle.cy_oneshot_meaning.specs.internal.Permuted.{Alike, Permuted, and_then}
use Rattle.cy_oneshot_meaning.proofs.GroupLemmas.{same_after}
use Rattle.cy_oneshot_meaning.proofs.Each.{each_any, each_map, each_of_once}
use Rattle.cy_oneshot_meaning.proofs.EachProjected.{item_rows_each}
use Rattle.cy_oneshot_meaning.proofs.OnceCounts.{permuted_in_order}
use Rattle.cy_oneshot_meaning.proofs.ProjectionLemmas.{distinct_if, same_rows_of}
use Rattle.cy_oneshot_meaning.proofs.Permuted.{permuted_map}
use Rattle.cy_oneshot_meaning.proofs.SeenRows.{aggregated_length, alone, cells_length, each_permuted, expressions, keyed_is, projects_are}

module _ (total : IsTotalOrder row_cmp) (graph : Content) (p : Projection) where
  pub after_seen : (n : ℕ) (rows seen : List (List Cell)) (keys : List (Option ℕ × Key)) → keys ≡ map (λ k. (item_of_key p.items k, k)) p.order
      → Alike (Ok (map (projected_of n) seen)) (projected graph p rows)
      → projection_rows graph p rows ≡ on_one (λ ks. Ok (cut p ks)) (gathered (map (keyed_by graph keys) (map (projected_of n) seen)))
  after_seen n rows seen keys are alike =
      sym (same_after (λ made. on_one (λ ks. Ok (cut p ks)) (gathered (map (keyed graph p) made))) (same_rows_of total graph p) (Ok (map (projected_of n) seen)) (projected graph p rows) alike)
      ∙ (λ i. on_one (λ ks. Ok (cut p ks)) (gathered (map (λ r. keyed_is graph p keys are r i) (map (projected_of n) seen))))

-- the rows of groups, each with its own cells alone
module _ (graph : Content) (p : Projection) where
  seen_from : (made : List (List Cell)) (o : Result (List (List Cell)) EvalFault) → IfOk o (AllByRecursion (λ row. length row ≡ length p.items)) → Alike (Ok made) o
      → Alike (Ok (map (projected_of (length p.items)) made)) (on_one (λ l. Ok (map with_columns_alone l)) o)
  seen_from made (Ok ys) long q =
      subst (λ (l : List Projected). Permuted l (map with_columns_alone ys)) (alone (length p.items) made (each_permuted (λ row. length row ≡ length p.items) q long)) (permuted_map with_columns_alone q)
  seen_from made (Err f) long q = absurd q

  pub groups_seen : (rows made : List (List Cell)) → has_aggregates p ≡ true → Alike (Ok made) (aggregated graph p.items rows)
      → Alike (Ok (map (projected_of (length p.items)) made)) (item_rows graph p rows)
  groups_seen rows made aggregates alike =
      subst (λ b. Alike (Ok (map (projected_of (length p.items)) made)) (cond b (on_one (λ l. Ok (map with_columns_alone l)) (aggregated graph p.items rows)) (gathered (map (project graph p.items) rows)))) (sym aggregates)
      (seen_from made (aggregated graph p.items rows) (aggregated_length graph p.items rows) alike)

  -- the items on each row
  pub rows_seen : (rows seen : List (List Cell)) → has_aggregates p ≡ false → gathered (map (seen_by graph (expressions p.items)) rows) ≡ Ok seen
      → item_rows graph p rows ≡ Ok (map (projected_of (length p.items)) seen)
  rows_seen rows seen aggregates are =
      ap (λ b. cond b (on_one (λ l. Ok (map with_columns_alone l)) (aggregated graph p.items rows)) (gathered (map (project graph p.items) rows))) aggregates
      ∙ projects_are graph p.items rows
      ∙ ap (on_value (map (projected_of (length p.items)))) are

-- ---- DISTINCT

rows_only : (n : ℕ) (seen : List (List Cell)) → map (λ (r : Projected). r.row) (map (projected_of n) seen) ≡ map (take n) seen
rows_only n seen = map-map (λ (r : Projected). r.row) (projected_of n) seen

module _ (total : IsTotalOrder row_cmp) (graph : Content) (p : Projection) where
  abbrev Long : Projected → Type 0
  Long r = length r.row ≡ length p.items

  items_long : (rows : List (List Cell)) → IfOk (item_rows graph p rows) (AllByRecursion Long)
  items_long rows =
      item_rows_each graph p (λ row. Unit {0}) (λ row. length row ≡ length p.items) (λ row here. cells_length graph p.items row) (λ table each. aggregated_length graph p.items table) rows (each_any rows)

  once_from : (seen : List (List Cell)) (o : Result (List Projected) EvalFault) → IfOk o (AllByRecursion Long) → Alike (Ok (map (projected_of (length p.items)) seen)) o
      → Alike (Ok (map (projected_of (length p.items)) (in_order row_cmp (each_once row_cmp (map (take (length p.items)) seen))))) (on_one (λ rows. Ok (distinct_rows rows)) o)
  once_from seen (Ok ys) long q =
      let n : ℕ = length p.items in
      let once : List (List Cell) = each_once row_cmp (map (take n) seen) in
      let wide : AllByRecursion (λ row. length row ≡ n) (map (take n) seen) =
      subst (λ (l : List (List Cell)). AllByRecursion (λ row. length row ≡ n) l) (rows_only n seen)
      (each_map Long (λ row. length row ≡ n) (λ (r : Projected). r.row) (λ r here. here) (map (projected_of n) seen) (each_permuted Long q long)) in
      let alone_once : map with_columns_alone once ≡ map (projected_of n) once = alone n once (each_of_once (λ row. length row ≡ n) row_cmp (map (take n) seen) wide) in
      and_then (permuted_map (projected_of n) (permuted_in_order row_cmp once))
      (subst (λ (l : List Projected). Permuted l (distinct_rows ys)) alone_once
      (subst (λ (l : List (List Cell)). Permuted (map with_columns_alone (each_once row_cmp l)) (distinct_rows ys)) (rows_only n seen) (distinct_if total graph p true q)))
  once_from seen (Err f) long q = absurd q

  pub distinct_seen : (rows seen : List (List Cell)) → p.distinct ≡ true → Alike (Ok (map (projected_of (length p.items)) seen)) (item_rows graph p rows)
      → Alike (Ok (map (projected_of (length p.items)) (in_order row_cmp (each_once row_cmp (map (take (length p.items)) seen))))) (projected graph p rows)
  distinct_seen rows seen distinct alike =
      subst (λ b. Alike (Ok (map (projected_of (length p.items)) (in_order row_cmp (each_once row_cmp (map (take (length p.items)) seen))))) (on_one (λ l. Ok (cond b (distinct_rows l) l)) (item_rows graph p rows))) (sym distinct)
      (once_from seen (item_rows graph p rows) (items_long rows) alike)

  plain_from : (made : List Projected) (o : Result (List Projected) EvalFault) → Alike (Ok made) o → Alike (Ok made) (on_one (λ l. Ok l) o)
  plain_from made (Ok ys) q = q
  plain_from made (Err f) q = q

  pub plain_seen : (rows : List (List Cell)) (made : List Projected) → p.distinct ≡ false → Alike (Ok made) (item_rows graph p rows) → Alike (Ok made) (projected graph p rows)
  plain_seen rows made distinct alike =
      subst (λ b. Alike (Ok made) (on_one (λ l. Ok (cond b (distinct_rows l) l)) (item_rows graph p rows))) (sym distinct) (plain_from made (item_rows graph p rows) alike)
