use Rattle.std.proofs.Common.{sym, ap, ◌∙◌}
use Rattle.cy_graph.specs.Maps.{value_at}
use Rattle.cy_graph.proofs.Unchanged.{label_there}
use Rattle.cy_graph.proofs.edits.AddLabelEditNode.changes.Goals as goal

-- the label is there
pub returns : goal.returns
returns c passes =
    label_there c.args.self.now.0 c.args.node.now c.entries-rising.ensures.rising c.get.result
    (ap (λ k. value_at k c.args.node.now.labels) (sym c.as_str.ensures) ∙ sym c.get.ensures) c.is_none.result c.is_none.ensures passes
