use Rattle.std.proofs.Common.{◌≡◌, ◌+◌, ◌++◌, ◌∷◌, [], ℕ, sym, ap, ◌∙◌}
use Rattle.std.specs.List.{range_with_len}
use Rattle.std.proofs.lemmas.List.{map-id}
use Rattle.std.proofs.lemmas.List.FromFn.{map-range_with_len_more}
use Rattle.cy_values.proofs.Naturals.{nothing_added}
use Rattle.cy_planner_algebra.proofs.columns.row_columns.Goals as goal

one_more : (n : ℕ) → range_with_len 0 (n + 1) ≡ range_with_len 0 n ++ n ∷ []
one_more n = sym (map-id _) ∙ map-range_with_len_more (λ x. x) 0 n n (nothing_added n) ∙ ap (λ xs. xs ++ n ∷ []) (map-id _)

pub loop-column-preserved : goal.loop-column-preserved
loop-column-preserved c = c.in_ok-push.ensures.items ∙ ap (λ xs. xs ++ c.loop-column.column ∷ []) c.loop-column.invariant ∙ sym (one_more c.loop-column.column)
