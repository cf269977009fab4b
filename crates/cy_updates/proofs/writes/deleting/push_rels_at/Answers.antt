use Rattle.std.proofs.Common.{◌+◌, ◌++◌, List, append_assoc, drop, sym, ap, ◌∙◌}
use Rattle.std.proofs.lemmas.List.{append-nil, drop_all}
use Rattle.cy_values.specs.declared.numbers.NodeId.{NodeId}
use Rattle.cy_values.specs.declared.numbers.RelId.{RelId}
use Rattle.cy_updates.specs.internal.Deleting.{rels_at}
use Rattle.cy_updates_meaning.proofs.InTurn.{item_at}
use Rattle.cy_updates.proofs.writes.deleting.push_rels_at.Goals as goal

pub loop-id-preserved : goal.loop-id-preserved
loop-id-preserved c =
    let l = c.loop-id in
    let nodes = c.args.nodes.now in
    let rels = c.args.store.now.graph.now.content.rels in
    let rest = rels_at (drop (l.id-index + 1) nodes) rels in
    ap (λ (l : List RelId). l ++ rest) c.in_ok-push_rels_of.ensures.all ∙ append_assoc l.rels.items _ rest
    ∙ ap (λ (ids : List NodeId). l.rels.items ++ rels_at ids rels) (sym (item_at nodes l.id-index _ c.loop-id-test.true)) ∙ l.invariant

pub returns-clause-all : goal.returns-clause-all
returns-clause-all c =
    let l = c.loop-id in
    sym (append-nil l.rels.items) ∙ ap (λ (ids : List NodeId). l.rels.items ++ rels_at ids c.args.store.now.graph.now.content.rels) (sym (drop_all l.id-index c.args.nodes.now c.loop-id-test.false)) ∙ l.invariant
