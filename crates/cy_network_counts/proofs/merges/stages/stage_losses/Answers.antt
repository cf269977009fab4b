use Rattle.cy_network_counts.proofs.Staging.{enough}
use Rattle.cy_network_counts.proofs.merges.stages.stage_losses.Goals as goal

pub stage_loss-requires-clause-held : goal.stage_loss-requires-clause-held
stage_loss-requires-clause-held g c =
    enough c.args.changes.now c.loop-change.change-index c.change-item.result c.loop-change-test.true c.change-item.is (g.M.Memory.staged c.loop-change.memory) (g.M.Memory.staged c.args.memory.now) c.loop-change.invariant.staged c.requires.held
