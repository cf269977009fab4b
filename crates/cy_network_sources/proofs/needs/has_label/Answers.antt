use Rattle.std.proofs.Common.{ap, ◌∙◌}
use Rattle.cy_graph.specs.Maps.{value_at}
use Rattle.cy_expr.proofs.LabelNames.{name_found}
use Rattle.cy_network_sources.proofs.needs.has_label.Goals as goal

pub returns : goal.returns
returns c = c.is_some.ensures ∙ name_found c.args.label.now c.args.node.now.labels c.get.result (c.get.ensures ∙ ap (λ name. value_at name c.args.node.now.labels) c.as_str.ensures)
