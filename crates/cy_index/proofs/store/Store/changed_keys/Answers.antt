use Rattle.std.proofs.Common.{◌≡◌, Some, sym, ap, ◌∙◌}
use Rattle.std.specs.Option.{option_copied}
use Rattle.cy_graph.specs.Graph.{node_at}
use Rattle.cy_graph.proofs.Same.{same_options, same_values}
use Rattle.cy_index.specs.Index.{StoreState}
use Rattle.cy_index.specs.internal.Under.{is_key_of_value}
use Rattle.cy_index.proofs.Turning.{value_kept, value_turns}
use Rattle.cy_index.proofs.store.Store.changed_keys.Goals as goal

-- with the value that is there no key changes
pub returns-then-eq : goal.returns-then-eq
returns-then-eq c =
    let state = c.args.self.now in
    let node = c.in-Some.node.now in
    let is : node_at c.args.id state.graph.now ≡ Some node = sym (ap (λ (s : StoreState). node_at c.args.id s.graph.now) c.self.view_is) ∙ sym c.in-Some.ensures in
    let same = same_options _ (λ r. r.now) (λ x y. same_values x.now y.now) c.get-stored.result c.args.value (sym c.if-eq.ensures) in
    value_kept state.chosen c.args.key.now (option_copied c.args.value) (node_at c.args.id state.graph.now) node c.new-then-eq.result.items c.new-then-eq-2.result.items is
    (sym c.get-stored.ensures ∙ same) c.new-then-eq.ensures.items c.new-then-eq-2.ensures.items

-- with another one those of its old value go, and those of the new one come
pub returns : goal.returns
returns c =
    let state = c.args.self.now in
    let at = c.args.key.now in
    let v = option_copied c.args.value in
    let node = c.in-Some.node.now in
    let is : node_at c.args.id state.graph.now ≡ Some node = sym (ap (λ (s : StoreState). node_at c.args.id s.graph.now) c.self.view_is) ∙ sym c.in-Some.ensures in
    let chosen_is = c.deref.ensures.value ∙ ap (λ (s : StoreState). s.chosen) c.self.view_is in
    let chosen_is' = c.deref-2.ensures.value ∙ ap (λ (s : StoreState). s.chosen) c.self.view_is in
    value_turns state.chosen at v (node_at c.args.id state.graph.now) node c.in_ok-leaving.leaving.items c.in_ok-coming.coming.items is
    (λ k. c.in_ok-leaving.ensures k ∙ (λ i. is_key_of_value (chosen_is i) node.labels at (c.get-stored.ensures i) k))
    (λ k. c.in_ok-coming.ensures k ∙ ap (λ ps. is_key_of_value ps node.labels at v k) chosen_is')
