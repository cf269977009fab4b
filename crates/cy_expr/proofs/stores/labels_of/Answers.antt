use Rattle.cy_expr.proofs.LabelNames.{all_made}
use Rattle.cy_expr.proofs.stores.labels_of.Goals as goal

pub returns-clause-all : goal.returns-clause-all
returns-clause-all c =
    all_made c.args.node.now.labels c.entries-entries.result.now c.loop-entry.entry-index c.loop-entry.labels.items
    c.loop-entry-test.false c.entries-entries.ensures.all c.loop-entry.invariant
