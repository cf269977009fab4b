-- What holds of the rows of a part, before a change and after it, holds of its row deltas.
use Rattle.std.proofs.Common.{◌≡◌, ◌+◌, ◌<◌, List, Option, Some, None, IfSome, length, sym, ap, subst, ◌∙◌}
use Rattle.std.specs.List.{All}
use Rattle.std.proofs.lemmas.List.Elements.{All-nil, All-weaker}
use Rattle.cy_network_counts.proofs.PlanLemmas.{of_counted}
use Rattle.cy_values.specs.declared.rows.Cell.{Cell}
use Rattle.cy_values.specs.Bag.{count_of}
use Rattle.cy_graph.specs.Graph.{IsGraph, State}
use Rattle.cy_expr.specs.Lookups.{IsNumbered}
use Rattle.cy_network_memory.specs.Counts.{Counts}
use Rattle.cy_planner_algebra.specs.Plans.{Plan}
use Rattle.cy_planner_algebra.proofs.Numbers.{numbered_rows}
use Rattle.cy_network_memory.specs.declared.memory.RowDelta.{RowDelta}
use Rattle.cy_network_operators.specs.OperatorCosts.{changed_rows}
use Rattle.cy_network_operators.specs.Deltas.{IsDelta, counts, counts_after, rows_at}
use Rattle.cy_network_operators.proofs.DeltaLemmas.{row_delta_there}
use Rattle.cy_network_operators.proofs.Staging.{after_delta}
use Rattle.cy_network_operators.proofs.StepLemmas.{row_delta_number}
use Rattle.cy_network_operators.proofs.PlanLemmas.{one_of_two}
use Rattle.cy_network_sources.specs.Changes.{IsChange, Touches}
use Rattle.cy_network_parts.specs.internal.Upkeep.{IsDeltaOf, content_of, state_of}
use Rattle.cy_network_parts.proofs.Steps.{old_graph}

-- what holds of counts holds of the same counts
pub by_two : (P : Counts → Counts → Type 0) (a b x y : Counts) → x ≡ a → y ≡ b → P a b → P x y
by_two P a b x y first second holds = subst (λ n. P n y) (sym first) (subst (λ n. P a n) (sym second) holds)

pub by_four : (P : Counts → Counts → Counts → Counts → Type 0) (a b c d x y z w : Counts) → x ≡ a → y ≡ b → z ≡ c → w ≡ d → P a b c d → P x y z w
by_four P a b c d x y z w first second third fourth holds =
    by_two (λ m n. P m n z w) a b x y first second (by_two (λ m n. P a b m n) c d z w third fourth holds)

pub of_deltas : (P : List Cell → Type 0) (before after : List (List Cell)) (deltas : List RowDelta) → IsDelta (counts before) (counts after) deltas → All P before → All P after
    → All (λ s. P s.row) deltas
of_deltas P before after deltas delta first second =
    All-weaker (λ (s : RowDelta). 0 < count_of s.row before + count_of s.row after) (λ (s : RowDelta). P s.row)
    (λ s some. one_of_two (count_of s.row before) (count_of s.row after) some (P s.row) (of_counted P before first s.row) (of_counted P after second s.row))
    deltas (row_delta_there (counts before) (counts after) deltas delta)

-- where a memory counts the rows before, the row deltas lead from what it counts to the rows after
pub after_is : (was : Counts) (before after : List (List Cell)) (deltas : List RowDelta) → was ≡ counts before → IsDelta (counts before) (counts after) deltas → counts_after deltas was ≡ counts after
after_is was before after deltas is delta = ap (counts_after deltas) is ∙ (λ i row. after_delta (counts before) (counts after) deltas delta row i)

pub held_delta : (was : Counts) (before after : List (List Cell)) (deltas : List RowDelta) → was ≡ counts before → IsDelta (counts before) (counts after) deltas
    → IsDelta was (counts_after deltas was) deltas
held_delta was before after deltas is delta =
    subst (λ w. IsDelta w (counts_after deltas was) deltas) (sym is)
    (subst (λ a. IsDelta (counts before) a deltas) (sym (after_is was before after deltas is delta)) delta)

-- what names entities in the rows of a part has numbers
pub numbered_at : (old : Option State) → IfSome old IsGraph → (p : Plan) → All (λ row. All IsNumbered row) (rows_at (content_of old) p)
numbered_at None is p = All-nil (λ row. All IsNumbered row)
numbered_at (Some s) is p = numbered_rows s is p

pub row_delta_numbers : (old : Option State) (now : State) (touches : Touches) (p : Plan) (deltas : List RowDelta) → IsChange (state_of old) now touches → IsDeltaOf old now p deltas
    → All (λ s. All IsNumbered s.row) deltas
row_delta_numbers old now touches p deltas change part =
    of_deltas (λ row. All IsNumbered row) (rows_at (content_of old) p) (rows_at (Some now.content) p) deltas part.delta
    (numbered_at old (old_graph old now touches change) p) (numbered_at (Some now) change.graph_now p)

-- there are as many row deltas as rows that change
pub deltas_long : (old : Option State) (now : State) (p : Plan) (deltas : List RowDelta) → IsDeltaOf old now p deltas
    → length deltas ≡ changed_rows (rows_at (content_of old) p) (rows_at (Some now.content) p)
deltas_long old now p deltas part = row_delta_number (rows_at (content_of old) p) (rows_at (Some now.content) p) deltas part.delta
