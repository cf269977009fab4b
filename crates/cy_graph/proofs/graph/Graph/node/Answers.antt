use Rattle.std.proofs.Common.{sym, ◌∙◌}
use Rattle.cy_graph.proofs.Contents.{find_named}
use Rattle.cy_graph.proofs.graph.Graph.node.Goals as goal

pub returns : goal.returns
returns c = rw (← c.self.view_is) (c.get.ensures.value ∙ sym (find_named c.args.id c.self.inside.nodes.now.entries))
