-- What holds of each row after a clause, where it holds of what each row before gives.
use Rattle.std.proofs.Common.{true, false, cond, List, [], ◌∷◌, map}
use Rattle.std.specs.Prelude.{Result, Ok, IfOk}
use Rattle.std.specs.List.{AllByRecursion}
use Rattle.cy_values.specs.declared.rows.Cell.{Cell}
use Rattle.cy_trees.specs.Trees.{Path, Where}
use Rattle.cy_graph.specs.Graph.{Content}
use Rattle.cy_expr.specs.declared.faults.EvalFault.{EvalFault}
use Rattle.cy_oneshot_patterns.specs.Matching.{fitting, kept, map_values, matched_where, optionally_matched, unless_none, where_truth, with_nulls}
use Rattle.cy_oneshot_patterns.specs.Outcomes.{joined}
use Rattle.cy_oneshot_meaning.proofs.Each.{each_joined, each_map, if_ok_any, if_ok_then}

-- what holds of each row that each row gives
pub one_by_one_each : (P Q : List Cell → Type 0) (f : List Cell → Result (List (List Cell)) EvalFault) → ((row : List Cell) → P row → IfOk (f row) (AllByRecursion Q))
    → (rows : List (List Cell)) → AllByRecursion P rows → IfOk (joined (map f rows)) (AllByRecursion Q)
one_by_one_each P Q f step rows each = each_joined Q (map f rows) (each_map P (λ o. IfOk o (AllByRecursion Q)) f step rows each)

module _ (graph : Content) (P : List Cell → Type 0) where
  kept_each : (w : Where) (row : List Cell) → P row → IfOk (kept graph w row) (AllByRecursion P)
  kept_each w row here =
      if_ok_any (AllByRecursion P) (λ holds. Ok (cond holds (row ∷ []) []))
      (λ holds. elim holds as (λ b. AllByRecursion P (cond b (row ∷ []) [])) [ true ↦ (here, tt) | false ↦ tt ]) (where_truth graph w row)

  pub all_kept_each : (w : Where) (rows : List (List Cell)) → AllByRecursion P rows → IfOk (joined (map (kept graph w) rows)) (AllByRecursion P)
  all_kept_each w rows each = one_by_one_each P P (kept graph w) (kept_each w) rows each

  pub matched_each : (paths : List Path) (w : Where) (row : List Cell) → AllByRecursion P (fitting graph paths row) → IfOk (matched_where graph paths w row) (AllByRecursion P)
  matched_each paths w row each =
      if_ok_any (AllByRecursion P) (λ values. joined (map (kept graph w) (fitting graph paths row))) (λ values. all_kept_each w (fitting graph paths row) each) (map_values graph paths row)

  unless_each : (row : List Cell) (rows : List (List Cell)) → P row → AllByRecursion P rows → AllByRecursion P (unless_none row rows)
  unless_each row [] here each = (here, tt)
  unless_each row (found ∷ others) here each = each

  pub optionally_each : (paths : List Path) (w : Where) (row : List Cell) → AllByRecursion P (fitting graph paths row) → P (with_nulls paths row)
      → IfOk (optionally_matched graph paths w row) (AllByRecursion P)
  optionally_each paths w row each nulls =
      if_ok_then (AllByRecursion P) (AllByRecursion P) (λ rows. Ok (unless_none (with_nulls paths row) rows))
      (λ rows all. unless_each (with_nulls paths row) rows nulls all) (matched_where graph paths w row) (matched_each paths w row each)
