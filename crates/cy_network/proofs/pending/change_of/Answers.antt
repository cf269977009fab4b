use Rattle.std.proofs.Common.{◌<◌, List, ℕ, ap, sym, subst, ◌∙◌}
use Rattle.std.specs.List.{All}
use Rattle.cy_values.specs.declared.rows.Cell.{Cell}
use Rattle.cy_values.specs.Bag.{IsCanonical, weight_of}
use Rattle.cy_network_operators.specs.Deltas.{counts}
use Rattle.cy_network_memory.specs.Listings.{AreOnce}
use Rattle.cy_network.proofs.Excess.{excess_once, excess_positive, gains_weight, losses_weight}
use Rattle.cy_network.proofs.pending.change_of.Goals as goal

pub sorted-requires-clause-once : goal.sorted-requires-clause-once
sorted-requires-clause-once c =
    subst AreOnce (sym c.in_ok-pairs.ensures.losses) (excess_once (λ s. s.before) (λ s. s.after) (counts c.requires.0) (counts c.requires.1.0) c.args.deltas.items c.requires.1.1)

pub sorted-requires-clause-positive : goal.sorted-requires-clause-positive
sorted-requires-clause-positive c =
    subst (All (λ (p : List Cell × ℕ). 0 < p.1)) (sym c.in_ok-pairs.ensures.losses) (excess_positive (λ s. s.before) (λ s. s.after) c.args.deltas.items)

pub sorted-requires-2-clause-once : goal.sorted-requires-2-clause-once
sorted-requires-2-clause-once c =
    subst AreOnce (sym c.in_ok-pairs.ensures.gains) (excess_once (λ s. s.after) (λ s. s.before) (counts c.requires.0) (counts c.requires.1.0) c.args.deltas.items c.requires.1.1)

pub sorted-requires-2-clause-positive : goal.sorted-requires-2-clause-positive
sorted-requires-2-clause-positive c =
    subst (All (λ (p : List Cell × ℕ). 0 < p.1)) (sym c.in_ok-pairs.ensures.gains) (excess_positive (λ s. s.after) (λ s. s.before) c.args.deltas.items)

pub returns : goal.returns
returns c = λ before after delta. record {
  removed = record {
    counts = λ row. ap (weight_of row) c.new.ensures ∙ c.in_ok-removed.ensures.counts row ∙ ap (weight_of row) c.in_ok-pairs.ensures.losses ∙ losses_weight (counts before) (counts after) c.args.deltas.items delta row;
    canonical = subst IsCanonical (sym c.new.ensures) c.in_ok-removed.ensures.canonical;
  };
  added = record {
    counts = λ row. ap (weight_of row) c.new-2.ensures ∙ c.in_ok-added.ensures.counts row ∙ ap (weight_of row) c.in_ok-pairs.ensures.gains ∙ gains_weight (counts before) (counts after) c.args.deltas.items delta row;
    canonical = subst IsCanonical (sym c.new-2.ensures) c.in_ok-added.ensures.canonical;
  };
}
