use Rattle.std.proofs.Common.{sym, ap, ◌∙◌}
use Rattle.std.specs.Prelude.{nat_lt}
use Rattle.std.specs.List.{list_all}
use Rattle.cy_network_memory.specs.declared.memory.RowDelta.{RowDelta}
use Rattle.cy_network_counts.proofs.Gathered.{none_come_delta, none_go_delta, together_delta}
use Rattle.cy_network_counts.proofs.GreatestCounts.{greatest_bounded}
use Rattle.cy_network_counts.proofs.OneToOne.{if_ok_more}
use Rattle.cy_network_counts.proofs.projections.gather.Goals as goal
use Rattle.cy_network_counts.proofs.projections.gather.Goals.{then-none_come-via-then-none_come, then-none_come-via-else-none_come+then-none_go}

pub returns-then-none_come-clause-delta : goal.returns-then-none_come-clause-delta
returns-then-none_come-clause-delta c outputs deltas before after are one_before one_after delta =
    elim c.then-none_come.branch [
      | then-none_come-via-then-none_come w ↦
          none_come_delta outputs before after deltas one_before one_after delta c.args.images.items are
          (ap (list_all (λ (s : RowDelta). nat_lt 0 s.before)) (sym c.deref.ensures.value) ∙ sym c.none_come.ensures ∙ w.if-none_come.true)
      | then-none_come-via-else-none_come+then-none_go w ↦
          none_go_delta outputs before after deltas one_before one_after delta c.args.images.items are
          (ap (list_all (λ (s : RowDelta). nat_lt 0 s.after)) (sym w.deref-else-none_come.ensures.value) ∙ sym w.none_go.ensures ∙ w.if-none_go.true)
    ]

pub returns-clause-delta : goal.returns-clause-delta
returns-clause-delta c =
    if_ok_more _ _ c.together.result c.together.ensures
    (λ made most outputs deltas before after are one_before one_after delta.
    together_delta outputs before after deltas one_before one_after delta c.args.images.items made.items are most)

pub returns-clause-bounded : goal.returns-clause-bounded
returns-clause-bounded c =
    if_ok_more _ _ c.together.result c.together.ensures
    (λ made most each. greatest_bounded c.args.images.items made.items most each)
