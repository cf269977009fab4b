use Rattle.std.proofs.Common.{◌≡◌, sym}
use Rattle.std.specs.Prelude.{Some}
use Rattle.cy_graph.specs.Graph.{node_in}
use Rattle.cy_expr.proofs.LabelNames.{name_found}
use Rattle.cy_expr.proofs.stores.StoreLookups.has_label.Goals as goal

pub returns-in-Some : goal.returns-in-Some
returns-in-Some c =
    let there : node_in c.args.self.now.graph.now.content c.args.node ≡ Some c.in-Some.node.now = sym c.in-Some.ensures in
    rw (there, c.is_some.ensures) (name_found c.args.label.now c.in-Some.node.now.labels c.get.result c.get.ensures)
