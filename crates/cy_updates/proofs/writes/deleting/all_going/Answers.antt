use Rattle.cy_updates.proofs.DeletedAll.{named_alone}
use Rattle.cy_updates.proofs.writes.deleting.all_going.Goals as goal

pub returns-then-detach-clause-rels : goal.returns-then-detach-clause-rels
returns-then-detach-clause-rels c = rw c.if-detach.true c.with_rels_at.ensures.rels

pub returns-clause-rels : goal.returns-clause-rels
returns-clause-rels c = rw c.if-detach.false (named_alone c.args.named.rels.items c.args.named.nodes.items c.args.store.now.graph.now.content.rels)
