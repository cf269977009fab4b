use Rattle.std.proofs.Common.{[], Some, IsSome, cond, nat_eq, sym, subst, ap, ◌∙◌, arith}
use Rattle.cy_graph.specs.declared.nodes.Node.{Node}
use Rattle.cy_graph.specs.Graph.{node_at, with_node}
use Rattle.cy_index.specs.Index.{StoreState}
use Rattle.cy_index.specs.internal.Indexed.{Turns}
use Rattle.cy_index.specs.internal.Under.{is_key_of}
use Rattle.cy_index.proofs.Kept.{node_settled}
use Rattle.cy_index.proofs.Matching.{at_added, no_node}
use Rattle.cy_index.proofs.Turning.{node_comes}
use Rattle.cy_index.proofs.store.Store.add_node.Goals as goal

-- the node comes under its keys
pub invariant_of-self-2 : goal.invariant_of-self-2
invariant_of-self-2 c =
    let graph = c.self.inside.graph in
    let chosen = c.self.inside.chosen.items in
    let id = c.in_ok-id.id in
    let node : Node = record { labels = c.args.labels; props = c.args.props } in
    let coming = c.in_ok-coming.coming.items in
    let number = c.in_ok-id.ensures.number in
    let fresh = no_node id.0 graph.now.next_node graph.now.content.nodes c.laws.ensures.numbered (omega (arith, number)) in
    let turns = subst (λ o. Turns chosen o (Some node) [] coming) (sym fresh) (node_comes chosen node coming (λ k. c.in_ok-coming.ensures k ∙ ap (λ ps. is_key_of ps c.args.labels c.args.props k) c.deref.ensures.value)) in
    node_settled c.add_node-done.result chosen graph c.add_node-done.new.self (with_node node graph.now) c.self.inside.postings c.replace.new.self c.undo_if_refused.new.postings c.mark-mark.result id (Some node) [] coming c.self.invariant
    (subst (λ (s : StoreState). IsSome s.graph.was) (sym c.self.view_is) c.requires.open) c.replace.ensures.goes c.mark-mark.ensures c.in_ok-replace.ensures.ok
    (λ m. at_added m node graph.now c.laws.ensures ∙ ap (λ n. cond (nat_eq m n) (Some node) (node_at (record { 0 = m }) graph.now)) (sym number)) turns
    c.add_node-done.ensures.added c.add_node-done.ensures.err c.undo_if_refused.ensures.ok c.undo_if_refused.ensures.err
