use Rattle.std.proofs.Common.{[], map, sym, ap, subst, ◌∙◌}
use Rattle.cy_network_operators.specs.Deltas.{counts}
use Rattle.cy_network_parts.specs.Counted.{ArePositive, counted, written}
use Rattle.cy_network.proofs.Held.{written_delta}
use Rattle.cy_network.proofs.pending.rows_from.Goals as goal

pub write_counts-requires-clause-positive : goal.write_counts-requires-clause-positive
write_counts-requires-clause-positive c = subst ArePositive (sym c.in_ok-rows.ensures.empty) (λ row. tt)

pub returns-clause-counts : goal.returns-clause-counts
returns-clause-counts c = λ after delta.
    c.write_counts.ensures.counts
    ∙ ap (λ xs. written xs (counted c.in_ok-rows.rows.entries)) c.in_ok-next.ensures
    ∙ ap (λ xs. written (map (λ s. (s.row, s.after)) c.args.deltas.items) (counted xs)) c.in_ok-rows.ensures.empty
    ∙ written_delta c.args.deltas.items (counts []) (counts after) delta
