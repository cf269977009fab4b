use Rattle.std.proofs.Common.{rules, false, filter, ap, ◌∙◌}
use Rattle.std.specs.Option.{option_map_or}
use Rattle.std.proofs.lemmas.Fn.{filter_same}
use Rattle.cy_values.specs.declared.numbers.NodeId.{NodeId}
use Rattle.cy_graph.specs.Graph.{node_at}
use Rattle.cy_index.specs.Index.{has_value}
use Rattle.cy_index.proofs.Found.{found_among}
use Rattle.cy_index.proofs.store.Store.find_by_label.Goals as goal

-- those of the nodes with the label that have the value
pub returns : goal.returns
returns c =
    let state = c.args.self.now.graph.now in
    let test = λ (id : NodeId). option_map_or (has_value c.args.key.now c.args.value.now) (node_at id state) false in
    filter_same _ test _ (λ x b f' k. search rules) _ _ c.retain.ensures.filtered
    ∙ ap (filter test) c.in_ok-nodes.ensures
    ∙ found_among c.args.label.now c.args.key.now c.args.value.now state c.laws.ensures
