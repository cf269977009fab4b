use Rattle.std.proofs.Common.{◌≡◌, Some, [], sym, ap, ◌∙◌}
use Rattle.std.specs.Option.{option_map}
use Rattle.std.proofs.lemmas.Result.{IfOk-weaker}
use Rattle.cy_graph.specs.Graph.{node_at, with_label, without_label}
use Rattle.cy_index.specs.Index.{StoreState}
use Rattle.cy_index.specs.declared.keys.Key.{Key}
use Rattle.cy_index.specs.internal.Indexed.{Turns}
use Rattle.cy_index.specs.internal.Under.{among, is_key_of_label}
use Rattle.cy_index.proofs.Turning.{label_turns, label_dropped}
use Rattle.cy_index.proofs.store.Store.keys_of_label.Goals as goal

pub returns-in-Some-clause-come : goal.returns-in-Some-clause-come
returns-in-Some-clause-come c =
    let state = c.args.self.now in
    let label = c.args.label.now in
    let node = c.in-Some.node.now in
    let o = node_at c.args.id state.graph.now in
    let is : o ≡ Some node = sym (ap (λ (s : StoreState). node_at c.args.id s.graph.now) c.self.view_is) ∙ sym c.in-Some.ensures in
    let chosen_is = c.deref.ensures.value ∙ ap (λ (s : StoreState). s.chosen) c.self.view_is in
    IfOk-weaker c.label_keys.result (λ keys. (k : Key) → among k keys.items ≡ is_key_of_label c.deref.result.now label node.props k) (λ keys. Turns state.chosen o (option_map (with_label label) o) [] keys.items)
    (λ keys are. label_turns state.chosen label o node keys.items is (λ k. are k ∙ ap (λ ps. is_key_of_label ps label node.props k) chosen_is)) c.label_keys.ensures

pub returns-in-Some-clause-go : goal.returns-in-Some-clause-go
returns-in-Some-clause-go c =
    let state = c.args.self.now in
    let label = c.args.label.now in
    let node = c.in-Some.node.now in
    let o = node_at c.args.id state.graph.now in
    let is : o ≡ Some node = sym (ap (λ (s : StoreState). node_at c.args.id s.graph.now) c.self.view_is) ∙ sym c.in-Some.ensures in
    let chosen_is = c.deref.ensures.value ∙ ap (λ (s : StoreState). s.chosen) c.self.view_is in
    IfOk-weaker c.label_keys.result (λ keys. (k : Key) → among k keys.items ≡ is_key_of_label c.deref.result.now label node.props k) (λ keys. Turns state.chosen o (option_map (without_label label) o) keys.items [])
    (λ keys are. label_dropped state.chosen label o node keys.items is (λ k. are k ∙ ap (λ ps. is_key_of_label ps label node.props k) chosen_is)) c.label_keys.ensures
