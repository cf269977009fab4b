-- The rows of a projection, in their order, are the same on tables that are one bag.
use Rattle.std.proofs.Common.{◌≡◌, Bool, true, false, cond, List, map, ap}
use Rattle.std.specs.Prelude.{Result, Ok, Err}
use Rattle.std.specs.Cmp.{IsTotalOrder}
use Rattle.cy_values.specs.declared.rows.Cell.{Cell}
use Rattle.cy_values.specs.Order.{row_cmp}
use Rattle.cy_trees.specs.Trees.{Projection}
use Rattle.cy_graph.specs.Graph.{Content}
use Rattle.cy_scope_kinds.specs.Aggregates.{has_aggregates}
use Rattle.cy_expr.specs.declared.faults.EvalFault.{EvalFault}
use Rattle.cy_expr.specs.Faults.{on_one}
use Rattle.cy_oneshot_meaning.specs.Groups.{aggregated}
use Rattle.cy_oneshot_meaning.specs.Order.{Keyed, keyed_order}
use Rattle.cy_oneshot_patterns.specs.Outcomes.{gathered}
use Rattle.cy_oneshot_meaning.specs.Projection.{Projected, with_columns_alone, project, distinct_rows, item_rows, projected, keyed, limited, skipped, cut, projection_rows}
use Rattle.cy_oneshot_meaning.proofs.BagLemmas.{identity}
use Rattle.cy_oneshot_meaning.proofs.GroupLemmas.{alike_aggregated, same_after}
use Rattle.cy_oneshot_meaning.proofs.InOrder.{same_in_order}
use Rattle.cy_oneshot_meaning.proofs.Joined.{Alike, gathered_each}
use Rattle.cy_oneshot_meaning.proofs.KeyOrders.{keyed_total, tied_rows}
use Rattle.cy_oneshot_meaning.proofs.Once.{permuted_once, tied_either_way}
use Rattle.cy_oneshot_meaning.proofs.Permuted.{Permuted, permuted_map}

pub alike_after : {A B : Type 0} (f : List A → List B) → ((xs ys : List A) → Permuted xs ys → Permuted (f xs) (f ys))
    → (r s : Result (List A) EvalFault) → Alike r s → Alike (on_one (λ xs. Ok (f xs)) r) (on_one (λ xs. Ok (f xs)) s)
alike_after f keeps (Ok xs) (Ok ys) p = keeps xs ys p
alike_after f keeps (Err fault) (Err other) p = p
alike_after f keeps (Ok xs) (Err other) p = absurd p
alike_after f keeps (Err fault) (Ok ys) p = absurd p

module _ (total : IsTotalOrder row_cmp) (graph : Content) (p : Projection) where
  abbrev item_rows_if : Bool → List (List Cell) → Result (List Projected) EvalFault
  item_rows_if aggregates table =
      cond aggregates (on_one (λ rows. Ok (map with_columns_alone rows)) (aggregated graph p.items table)) (gathered (map (project graph p.items) table))

  alike_items : (aggregates : Bool) {rows others : List (List Cell)} → Permuted rows others → Alike (item_rows_if aggregates rows) (item_rows_if aggregates others)
  alike_items true {rows} {others} q =
      alike_after (map with_columns_alone) (λ xs ys r. permuted_map with_columns_alone r) (aggregated graph p.items rows) (aggregated graph p.items others) (alike_aggregated total graph p.items q)
  alike_items false q = gathered_each (project graph p.items) q

  pub distinct_if : (distinct : Bool) {rows others : List Projected} → Permuted rows others
      → Permuted (cond distinct (distinct_rows rows) rows) (cond distinct (distinct_rows others) others)
  distinct_if true q = permuted_map with_columns_alone (permuted_once row_cmp identity (tied_either_way row_cmp total) (permuted_map (λ (r : Projected). r.row) q))
  distinct_if false q = q

  alike_projected : {rows others : List (List Cell)} → Permuted rows others → Alike (projected graph p rows) (projected graph p others)
  alike_projected {rows} {others} q =
      alike_after (λ made. cond p.distinct (distinct_rows made) made) (λ xs ys r. distinct_if p.distinct r) (item_rows graph p rows) (item_rows graph p others)
      (alike_items (has_aggregates p) q)

  same_cut : (ks ls : List Keyed) → Permuted ks ls → cut p ks ≡ cut p ls
  same_cut ks ls q =
      let flags : List Bool = map (λ key. key.descending) p.order in
      ap (λ rows. limited p.limit (skipped p.skip rows)) (same_in_order (keyed_order flags) (keyed_total total flags) (λ (k : Keyed). k.row) (tied_rows flags) q)

  pub same_rows_of : (rows others : List Projected) → Permuted rows others
      → on_one (λ with_keys. Ok (cut p with_keys)) (gathered (map (keyed graph p) rows)) ≡ on_one (λ with_keys. Ok (cut p with_keys)) (gathered (map (keyed graph p) others))
  same_rows_of rows others q =
      same_after (λ with_keys. Ok (cut p with_keys)) (λ ks ls r. ap Ok (same_cut ks ls r)) _ _ (gathered_each (keyed graph p) q)

  pub same_projection : {rows others : List (List Cell)} → Permuted rows others → projection_rows graph p rows ≡ projection_rows graph p others
  same_projection {rows} {others} q =
      same_after (λ made. on_one (λ with_keys. Ok (cut p with_keys)) (gathered (map (keyed graph p) made))) same_rows_of
      (projected graph p rows) (projected graph p others) (alike_projected q)
