use Rattle.std.proofs.Common.{◌++◌, sym, ap, ◌∙◌}
use Rattle.std.specs.Map.{keys_of}
use Rattle.std.proofs.lemmas.List.{append-nil}
use Rattle.cy_network_operators.specs.Deltas.{deltas_of}
use Rattle.cy_network_counts.proofs.GreatestCounts.{distinct_rows, entries_made, entry_deltas}
use Rattle.cy_network_counts.proofs.greatest.deltas_of_counts.Goals as goal

pub returns : goal.returns
returns c row =
    let made = c.loop-row.made.items in
    ap (deltas_of row) (sym (append-nil made) ∙ ap (λ rest. made ++ entry_deltas rest) (sym c.in-None.ensures.steps.0) ∙ c.loop-row.invariant)
    ∙ entries_made c.args.counts.entries (distinct_rows _ c.rows_equal.ensures (keys_of c.args.counts.entries) c.into_iter-row-iterator.ensures.into_iter_gives.4) row
