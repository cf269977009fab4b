use Rattle.std.proofs.Common.{[], None, IsSome, sym, subst}
use Rattle.cy_graph.specs.Graph.{node_at, without_node}
use Rattle.cy_index.specs.Index.{StoreState}
use Rattle.cy_index.specs.internal.Indexed.{Turns}
use Rattle.cy_index.proofs.Kept.{node_settled}
use Rattle.cy_index.proofs.Matching.{at_removed}
use Rattle.cy_index.proofs.store.Store.remove_node.Goals as goal

-- the node leaves its keys
pub invariant_of-self-2 : goal.invariant_of-self-2
invariant_of-self-2 c =
    let graph = c.self.inside.graph in
    let id = c.args.id in
    let leaving = c.deref.result.now in
    let none = c.new-none.result.items in
    let turned = subst (λ keys. Turns c.args.self.now.chosen (node_at id c.args.self.now.graph.now) None keys []) (sym c.deref.ensures.value) c.in_ok-leaving.ensures in
    let turns = subst (λ (s : StoreState). Turns s.chosen (node_at id s.graph.now) None leaving none) (sym c.self.view_is)
    (subst (λ keys. Turns c.args.self.now.chosen (node_at id c.args.self.now.graph.now) None leaving keys) (sym c.new-none.ensures.items) turned) in
    node_settled c.remove_node-done.result c.self.inside.chosen.items graph c.remove_node-done.new.self (without_node id graph.now) c.self.inside.postings c.replace.new.self c.undo_if_refused.new.postings c.mark-mark.result id None leaving none c.self.invariant
    (subst (λ (s : StoreState). IsSome s.graph.was) (sym c.self.view_is) c.requires.open) c.replace.ensures.goes c.mark-mark.ensures c.in_ok-replace.ensures.ok (λ m. at_removed m id graph.now) turns
    c.remove_node-done.ensures.ok c.remove_node-done.ensures.err c.undo_if_refused.ensures.ok c.undo_if_refused.ensures.err

-- it stays just where a relationship is at it
pub returns-clause-connected : goal.returns-clause-connected
returns-clause-connected c = rw (← c.self.view_is) c.remove_node-done.ensures.connected
