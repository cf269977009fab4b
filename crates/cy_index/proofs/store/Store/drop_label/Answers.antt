use Rattle.std.proofs.Common.{[], IsSome, sym, subst}
use Rattle.std.specs.Option.{option_map}
use Rattle.cy_graph.specs.Graph.{node_at, without_label, with_node_changed}
use Rattle.cy_index.specs.Index.{StoreState}
use Rattle.cy_index.specs.internal.Indexed.{Turns}
use Rattle.cy_index.proofs.Kept.{node_settled}
use Rattle.cy_index.proofs.Matching.{at_changed}
use Rattle.cy_index.proofs.store.Store.drop_label.Goals as goal

-- the node leaves the keys of the label
pub invariant_of-self-2 : goal.invariant_of-self-2
invariant_of-self-2 c =
    let graph = c.self.inside.graph in
    let id = c.args.id in
    let change = without_label c.args.label.now in
    let leaving = c.deref.result.now in
    let none = c.new-none.result.items in
    let named = subst (λ l. Turns c.args.self.now.chosen (node_at id c.args.self.now.graph.now) (option_map (without_label l) (node_at id c.args.self.now.graph.now)) c.in_ok-leaving.leaving.items []) c.in_ok-name.ensures c.in_ok-leaving.ensures.go in
    let turned = subst (λ keys. Turns c.args.self.now.chosen (node_at id c.args.self.now.graph.now) (option_map change (node_at id c.args.self.now.graph.now)) keys []) (sym c.deref.ensures.value) named in
    let turns = subst (λ (s : StoreState). Turns s.chosen (node_at id s.graph.now) (option_map change (node_at id s.graph.now)) leaving none) (sym c.self.view_is)
    (subst (λ keys. Turns c.args.self.now.chosen (node_at id c.args.self.now.graph.now) (option_map change (node_at id c.args.self.now.graph.now)) leaving keys) (sym c.new-none.ensures.items) turned) in
    let there = subst (λ (s : StoreState). IsSome (node_at id s.graph.now)) (sym c.self.view_is) c.requires.there in
    node_settled c.drop_label-done.result c.self.inside.chosen.items graph c.drop_label-done.new.self (with_node_changed id change graph.now) c.self.inside.postings c.replace.new.self c.undo_if_refused.new.postings c.mark-mark.result id
    (option_map change (node_at id graph.now)) leaving none c.self.invariant
    (subst (λ (s : StoreState). IsSome s.graph.was) (sym c.self.view_is) c.requires.open) c.replace.ensures.goes c.mark-mark.ensures c.in_ok-replace.ensures.ok (λ m. at_changed m id change graph.now there) turns
    c.drop_label-done.ensures.ok c.drop_label-done.ensures.err c.undo_if_refused.ensures.ok c.undo_if_refused.ensures.err
