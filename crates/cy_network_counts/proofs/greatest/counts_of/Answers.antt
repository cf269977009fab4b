use Rattle.std.proofs.Common.{ℕ, Option, ap, ◌∙◌}
use Rattle.std.specs.Prelude.{unwrap_or}
use Rattle.cy_network_counts.proofs.GreatestCounts.{found_at}
use Rattle.cy_network_counts.proofs.greatest.counts_of.Goals as goal

pub returns : goal.returns
returns c =
    c.unwrap_or.ensures ∙ ap (λ (o : Option (ℕ × ℕ)). unwrap_or o (0, 0)) (c.copied.ensures ∙ c.get.ensures.value) ∙ found_at _ c.rows_equal.ensures c.args.counts.now c.args.row.now
