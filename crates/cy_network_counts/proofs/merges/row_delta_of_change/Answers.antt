use Rattle.cy_network_counts.proofs.Merged.{single_row_delta}
use Rattle.cy_network_counts.proofs.merges.row_delta_of_change.Goals as goal

pub returns-clause-made : goal.returns-clause-made
returns-clause-made g c =
    single_row_delta (g.M.Memory.was c.args.memory.now) (g.M.Memory.staged c.args.memory.now) c.args.changes.items c.pop.new.self.items c.add_change.new.made.items c.in-Some.change
    c.requires.single c.in-Some.ensures.items c.in_ok-add_change.ensures.made
