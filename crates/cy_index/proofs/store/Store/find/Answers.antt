use Rattle.std.proofs.Common.{◌≡◌, sym, ap, ◌∙◌}
use Rattle.std.proofs.lemmas.Result.{IfOk-weaker}
use Rattle.cy_values.specs.declared.scalars.Value.{Value}
use Rattle.cy_index.specs.Index.{nodes_where, found_nodes}
use Rattle.cy_index.specs.declared.keys.Key.TheVariants as key
use Rattle.cy_index.specs.internal.Under.{is_key_of}
use Rattle.cy_index.proofs.Found.{found_are}
use Rattle.cy_index.proofs.store.Store.find.Goals as goal

-- those under the key of the value in the index
pub returns-in_ok-copy-in-Some : goal.returns-in_ok-copy-in-Some
returns-in_ok-copy-in-Some c =
    let state = c.args.self.now in
    let place = c.in-Some.place in
    let label = c.args.label.now in
    let at = c.args.key.now in
    let value = c.args.value.now in
    let copied = c.in_ok-copy-in-Some.field-0 in
    IfOk-weaker c.nodes_at.result (λ nodes. nodes.items ≡ nodes_where (λ node. is_key_of state.chosen node.labels node.props (key.Prop place copied)) state.graph.now.content) (λ nodes. nodes.items ≡ found_nodes label at value state.graph.now.content)
    (λ nodes are. are ∙ ap (λ (v : Value). nodes_where (λ node. is_key_of state.chosen node.labels node.props (key.Prop place v)) state.graph.now.content) c.in_ok-copy-in-Some.ensures
    ∙ found_are state.chosen label at place value state.graph.now c.laws.ensures (sym c.in-Some.ensures)) c.nodes_at.ensures
