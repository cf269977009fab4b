use Rattle.cy_network_memory.specs.Counts.{greatest_count}
use Rattle.cy_network_counts.proofs.ChangedRows.{project_held}
use Rattle.cy_network_counts.proofs.ImageChanges.{image_delta, image_staged, image_too_many}
use Rattle.cy_network_counts.proofs.projections.project.Goals as goal

pub merge-requires-clause-held : goal.merge-requires-clause-held
merge-requires-clause-held g c =
    let change = c.requires.held.1.1.1 in
    project_held c.requires.held.0 (g.M.Memory.was c.args.memory.now) change.deltas c.args.images.items change.are c.requires.held.1.0 c.requires.held.1.1.0 change.change

pub returns-clause-delta : goal.returns-clause-delta
returns-clause-delta g c =
    image_delta (g.M.Memory.was c.args.memory.now) c.args.images.items (g.M.Memory.staged c.merge.new.memory) c.merge.result (λ made. made.items) c.merge.ensures.delta c.merge.ensures.staged

pub returns-clause-staged : goal.returns-clause-staged
returns-clause-staged g c =
    image_staged (g.M.Memory.was c.args.memory.now) c.args.images.items (g.M.Memory.staged c.merge.new.memory) c.merge.result c.merge.ensures.staged

pub returns-clause-too_many : goal.returns-clause-too_many
returns-clause-too_many g c =
    image_too_many (g.M.Memory.was c.args.memory.now) c.args.images.items _ greatest_count c.merge.result c.merge.ensures.too_many
