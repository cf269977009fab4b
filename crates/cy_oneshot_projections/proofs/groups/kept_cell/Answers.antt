use Rattle.std.proofs.Common.{sym, ap, ◌∙◌}
use Rattle.std.specs.Vec.Iter.{into_iter_items}
use Rattle.cy_oneshot_projections.specs.internal.Grouping.{kept_of}
use Rattle.cy_oneshot_projections.proofs.GroupAnswers.{kept_next}
use Rattle.cy_oneshot_projections.proofs.groups.kept_cell.Goals as goal

pub returns-else-is_aggregate_call-clause-cell : goal.returns-else-is_aggregate_call-clause-cell
returns-else-is_aggregate_call-clause-cell c =
    (kept_next c.next.result c.args.key.now c.next.new.self c.next.ensures.items c.next.ensures.cases).0
    ∙ ap (λ b. (kept_of b (into_iter_items c.args.key.now)).0) (sym (sym c.is_aggregate_call.ensures ∙ c.if-is_aggregate_call.false))

pub returns-else-is_aggregate_call-clause-left : goal.returns-else-is_aggregate_call-clause-left
returns-else-is_aggregate_call-clause-left c =
    (kept_next c.next.result c.args.key.now c.next.new.self c.next.ensures.items c.next.ensures.cases).1
    ∙ ap (λ b. (kept_of b (into_iter_items c.args.key.now)).1) (sym (sym c.is_aggregate_call.ensures ∙ c.if-is_aggregate_call.false))
