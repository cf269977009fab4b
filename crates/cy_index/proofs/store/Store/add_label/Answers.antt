use Rattle.std.proofs.Common.{[], IsSome, sym, subst}
use Rattle.std.specs.Option.{option_map}
use Rattle.cy_graph.specs.Graph.{node_at, with_label, with_node_changed}
use Rattle.cy_index.specs.Index.{StoreState}
use Rattle.cy_index.specs.internal.Indexed.{Turns}
use Rattle.cy_index.proofs.Kept.{node_settled}
use Rattle.cy_index.proofs.Matching.{at_changed}
use Rattle.cy_index.proofs.store.Store.add_label.Goals as goal

-- the node comes under the keys of the label
pub invariant_of-self-2 : goal.invariant_of-self-2
invariant_of-self-2 c =
    let graph = c.self.inside.graph in
    let id = c.args.id in
    let change = with_label c.args.label in
    let coming = c.in_ok-coming.coming.items in
    let turned = c.in_ok-coming.ensures.come in
    let turns = subst (λ (s : StoreState). Turns s.chosen (node_at id s.graph.now) (option_map change (node_at id s.graph.now)) [] coming) (sym c.self.view_is) turned in
    let there = subst (λ (s : StoreState). IsSome (node_at id s.graph.now)) (sym c.self.view_is) c.requires.there in
    node_settled c.add_label-done.result c.self.inside.chosen.items graph c.add_label-done.new.self (with_node_changed id change graph.now) c.self.inside.postings c.replace.new.self c.undo_if_refused.new.postings c.mark-mark.result id
    (option_map change (node_at id graph.now)) [] coming c.self.invariant
    (subst (λ (s : StoreState). IsSome s.graph.was) (sym c.self.view_is) c.requires.open) c.replace.ensures.goes c.mark-mark.ensures c.in_ok-replace.ensures.ok (λ m. at_changed m id change graph.now there) turns
    c.add_label-done.ensures.ok c.add_label-done.ensures.err c.undo_if_refused.ensures.ok c.undo_if_refused.ensures.err
