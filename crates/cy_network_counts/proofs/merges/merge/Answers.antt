use Rattle.std.proofs.Common.{◌≤◌, sym, subst, ◌∙◌}
use Rattle.cy_network_memory.specs.Counts.{Counts, greatest_count}
use Rattle.cy_network_counts.proofs.Merged.{bounded_of, merged_delta}
use Rattle.cy_network_counts.proofs.merges.merge.Goals as goal

pub returns-then-is_empty-clause-counts : goal.returns-then-is_empty-clause-counts
returns-then-is_empty-clause-counts g c = λ row. subst (λ (f : Counts). f row ≤ greatest_count) (sym c.requires.settled) (c.requires.counts row)

pub stage_losses-requires-clause-counts : goal.stage_losses-requires-clause-counts
stage_losses-requires-clause-counts g c = λ row. subst (λ (f : Counts). f row ≤ greatest_count) (sym c.requires.settled) (c.requires.counts row)

pub returns-clause-delta : goal.returns-clause-delta
returns-clause-delta g c =
    let was = g.M.Memory.was c.args.memory.now in
    let was_now = g.M.Memory.was c.stage_gains.new.memory in
    let gains = g.M.Memory.staged c.stage_gains.new.memory in
    let now = g.M.Memory.staged c.deltas_of_changes.new.memory in
    merged_delta was was_now (g.M.Memory.staged c.args.memory.now) (g.M.Memory.staged c.stage_losses.new.memory) gains now c.args.changes.items c.deref.result.now c.deref-2.result.now
    c.deref.ensures.value c.deref-2.ensures.value c.requires.settled (c.in_ok-stage_gains.ensures.was ∙ c.in_ok-stage_losses.ensures.was) c.in_ok-made.ensures.read.staged
    c.in_ok-stage_losses.ensures.staged c.in_ok-stage_gains.ensures.staged c.in_ok-made.made.items c.in_ok-made.ensures.made

pub returns-clause-deltas : goal.returns-clause-deltas
returns-clause-deltas g c =
    let gains = g.M.Memory.staged c.stage_gains.new.memory in
    let was_now = g.M.Memory.was c.stage_gains.new.memory in
    bounded_of was_now gains c.args.changes.items c.in_ok-made.made.items (λ row. subst (λ (f : Counts). f row ≤ greatest_count) (sym (c.in_ok-stage_gains.ensures.was ∙ c.in_ok-stage_losses.ensures.was)) (c.requires.counts row)) c.in_ok-stage_gains.ensures.counts c.in_ok-made.ensures.made
