use Rattle.std.proofs.Common.{◌+ℤ◌, pos, ap, ◌∙◌, rules, w64}
use Rattle.std.proofs.lemmas.Int.{to_z-of_z}
use Rattle.cy_network_counts.proofs.Staging.{less_if_staged}
use Rattle.cy_network_counts.proofs.merges.stages.stage_loss.Goals as goal

pub returns-then-change-clause-staged : goal.returns-then-change-clause-staged
returns-then-change-clause-staged g c =
    let s = c.args.change.now in
    let reads = to_z-of_z w64 c.change_of.result (search rules) in
    less_if_staged (g.M.Memory.staged c.args.memory.now) (g.M.Memory.staged c.stage.new.self) s _ (ap (λ z. pos s.before +ℤ z) reads ∙ c.change_of.ensures) c.if-change.true c.requires.held c.stage.result c.stage.ensures.staged
