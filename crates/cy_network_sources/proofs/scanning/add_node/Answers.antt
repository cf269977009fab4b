use Rattle.std.proofs.Common.{◌++◌, sym, ap, ◌∙◌}
use Rattle.std.proofs.lemmas.List.{append-nil}
use Rattle.cy_values.specs.Bag.{count_of}
use Rattle.cy_network_operators.specs.Deltas.{deltas_of}
use Rattle.cy_network_sources.proofs.Owners.{none_between}
use Rattle.cy_network_sources.proofs.scanning.add_node.Goals as goal

pub returns-then-are_alike_nodes-clause-made : goal.returns-then-are_alike_nodes-clause-made
returns-then-are_alike_nodes-clause-made c = λ row.
    sym (ap (λ made. deltas_of row c.args.deltas.now.items ++ made) (none_between row _ _ (ap (count_of row) (c.are_alike_nodes.ensures c.if-are_alike_nodes.true c.args.id.0)))
    ∙ append-nil (deltas_of row c.args.deltas.now.items))
