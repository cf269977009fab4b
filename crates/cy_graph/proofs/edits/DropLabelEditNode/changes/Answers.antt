use Rattle.std.proofs.Common.{sym}
use Rattle.cy_graph.proofs.Unchanged.{label_gone}
use Rattle.cy_graph.proofs.edits.DropLabelEditNode.changes.Goals as goal

-- the label is not there
pub returns : goal.returns
returns c passes = label_gone c.args.self.now.0.now c.args.node.now c.entries-rising.ensures.rising c.get.result (sym c.get.ensures) c.is_some.result c.is_some.ensures passes
