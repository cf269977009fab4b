-- What the deltas of single parts are.
use Rattle.std.proofs.Common.{◌≡◌, Bool, cond, List, sym, subst, filter, min, arith}
use Rattle.std.specs.Prelude.{flat_map}
use Rattle.cy_values.specs.declared.rows.Cell.{Cell}
use Rattle.cy_values.specs.Bag.{count_of}
use Rattle.cy_planner_algebra.specs.Meaning.{each_once}
use Rattle.cy_planner_algebra.proofs.Counts.{count_once, count_passing}
use Rattle.cy_network_memory.specs.declared.memory.RowDelta.{RowDelta}
use Rattle.cy_network_operators.specs.Deltas.{IsDelta, counts}
use Rattle.cy_network_operators.proofs.DeltaLemmas.{recounted, recounts, delta_alike}

pub distinct_delta : (before after : List (List Cell)) (deltas changed : List RowDelta) → changed ≡ flat_map (recounted (λ row n. min n 1)) deltas
    → IsDelta (counts before) (counts after) deltas → IsDelta (counts (each_once before)) (counts (each_once after)) changed
distinct_delta before after deltas changed is delta =
    delta_alike (λ row. min (count_of row before) 1) (λ row. min (count_of row after) 1) (counts (each_once before)) (counts (each_once after)) changed
    (λ row. omega (arith, count_once row before)) (λ row. omega (arith, count_once row after))
    (subst (IsDelta (λ row. min (count_of row before) 1) (λ row. min (count_of row after) 1)) (sym is) (recounts (λ row n. min n 1) (counts before) (counts after) deltas delta))

pub filter_delta : (p : List Cell → Bool) (before after : List (List Cell)) (deltas kept : List RowDelta) → kept ≡ flat_map (recounted (λ row n. cond (p row) n 0)) deltas
    → IsDelta (counts before) (counts after) deltas → IsDelta (counts (filter p before)) (counts (filter p after)) kept
filter_delta p before after deltas kept is delta =
    delta_alike (λ row. cond (p row) (count_of row before) 0) (λ row. cond (p row) (count_of row after) 0) (counts (filter p before)) (counts (filter p after)) kept
    (λ row. sym (count_passing p row before)) (λ row. sym (count_passing p row after))
    (subst (IsDelta (λ row. cond (p row) (count_of row before) 0) (λ row. cond (p row) (count_of row after) 0)) (sym is) (recounts (λ row n. cond (p row) n 0) (counts before) (counts after) deltas delta))
