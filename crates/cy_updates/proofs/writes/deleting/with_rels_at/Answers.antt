use Rattle.cy_updates.proofs.DeletedAll.{with_those_at}
use Rattle.cy_updates.proofs.writes.deleting.with_rels_at.Goals as goal

pub returns-clause-rels : goal.returns-clause-rels
returns-clause-rels c =
    with_those_at c.args.store.now.graph.now c.laws.ensures c.args.named.rels.items c.push_rels_at.new.rels.items c.each_once-nodes.result.items c.args.named.nodes.items
    c.each_once-nodes.ensures (rw c.deref.ensures.value at c.in_ok-push_rels_at.ensures.all)
