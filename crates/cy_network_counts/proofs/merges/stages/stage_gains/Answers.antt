use Rattle.cy_network_memory.specs.Counts.{greatest_count}
use Rattle.cy_network_counts.proofs.Staging.{refused}
use Rattle.cy_network_counts.proofs.merges.stages.stage_gains.Goals as goal

pub returns-in_err-stage_gain-clause-too_many : goal.returns-in_err-stage_gain-clause-too_many
returns-in_err-stage_gain-clause-too_many g c =
    refused c.args.changes.now c.loop-change.change-index c.change-item.result c.loop-change-test.true c.change-item.is (g.M.Memory.staged c.loop-change.memory) (g.M.Memory.staged c.args.memory.now)
    greatest_count c.loop-change.invariant.staged c.from_residual.result _ c.from_residual.ensures.1 c.in_err-stage_gain.ensures.too_many
