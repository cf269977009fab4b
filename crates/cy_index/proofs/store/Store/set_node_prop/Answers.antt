use Rattle.std.proofs.Common.{[], IsSome, sym, subst, ◌∙◌}
use Rattle.std.specs.Option.{option_copied, option_map}
use Rattle.cy_graph.specs.Graph.{node_at, set_at, with_node_changed}
use Rattle.cy_index.specs.Index.{StoreState}
use Rattle.cy_index.specs.internal.Indexed.{Turns}
use Rattle.cy_index.proofs.Kept.{node_settled, node_stays}
use Rattle.cy_index.proofs.Matching.{at_changed}
use Rattle.cy_index.proofs.Turning.{value_nowhere}
use Rattle.cy_index.proofs.store.Store.set_node_prop.Goals as goal

-- the node leaves the keys of its old value, and comes under those of the new one
pub invariant_of-self-2 : goal.invariant_of-self-2
invariant_of-self-2 c =
    let graph = c.self.inside.graph in
    let state = c.args.self.now in
    let id = c.args.id in
    let change = set_at c.args.key c.args.value in
    let leaving = c.deref.result.now in
    let coming = c.in_ok-leaving.coming.items in
    let by_key = subst (λ at. Turns state.chosen (node_at id state.graph.now) (option_map (set_at at (option_copied c.as_ref.result)) (node_at id state.graph.now)) c.in_ok-leaving.leaving.items coming) c.as_str-2.ensures c.in_ok-leaving.ensures in
    let by_value = subst (λ v. Turns state.chosen (node_at id state.graph.now) (option_map (set_at c.args.key v) (node_at id state.graph.now)) c.in_ok-leaving.leaving.items coming) c.as_ref.ensures.value by_key in
    let turned = subst (λ keys. Turns state.chosen (node_at id state.graph.now) (option_map change (node_at id state.graph.now)) keys coming) (sym c.deref.ensures.value) by_value in
    let turns = subst (λ (s : StoreState). Turns s.chosen (node_at id s.graph.now) (option_map change (node_at id s.graph.now)) leaving coming) (sym c.self.view_is) turned in
    let there = subst (λ (s : StoreState). IsSome (node_at id s.graph.now)) (sym c.self.view_is) c.requires.there in
    node_settled c.set_prop-done.result c.self.inside.chosen.items graph c.set_prop-done.new.self (with_node_changed id change graph.now) c.self.inside.postings c.replace.new.self c.undo_if_refused.new.postings c.mark-mark.result id
    (option_map change (node_at id graph.now)) leaving coming c.self.invariant
    (subst (λ (s : StoreState). IsSome s.graph.was) (sym c.self.view_is) c.requires.open) c.replace.ensures.goes c.mark-mark.ensures c.in_ok-replace.ensures.ok (λ m. at_changed m id change graph.now there) turns
    c.set_prop-done.ensures.ok c.set_prop-done.ensures.err c.undo_if_refused.ensures.ok c.undo_if_refused.ensures.err

-- without an index of the values at the key the node stays under its keys
pub invariant_of-self : goal.invariant_of-self
invariant_of-self c =
    let graph = c.self.inside.graph in
    let id = c.args.id in
    let change = set_at c.args.key c.args.value in
    let state = c.args.self.now in
    let none = sym c.has_index_at.ensures ∙ c.if-not-has_index_at.true in
    let turned = subst (λ at. Turns state.chosen (node_at id state.graph.now) (option_map (set_at at c.args.value) (node_at id state.graph.now)) [] []) c.as_str.ensures (value_nowhere state.chosen c.as_str.result.now c.args.value (node_at id state.graph.now) none) in
    let turns = subst (λ (s : StoreState). Turns s.chosen (node_at id s.graph.now) (option_map change (node_at id s.graph.now)) [] []) (sym c.self.view_is) turned in
    let there = subst (λ (s : StoreState). IsSome (node_at id s.graph.now)) (sym c.self.view_is) c.requires.there in
    node_stays c.set_prop.result c.self.inside.chosen.items graph c.set_prop.new.self (with_node_changed id change graph.now) c.self.inside.postings id (option_map change (node_at id graph.now)) c.self.invariant
    (subst (λ (s : StoreState). IsSome s.graph.was) (sym c.self.view_is) c.requires.open) (λ m. at_changed m id change graph.now there) turns c.set_prop.ensures.ok c.set_prop.ensures.err
