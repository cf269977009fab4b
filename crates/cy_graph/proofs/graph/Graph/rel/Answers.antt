use Rattle.std.proofs.Common.{sym, ◌∙◌}
use Rattle.cy_graph.proofs.RelContents.{find_rel}
use Rattle.cy_graph.proofs.graph.Graph.rel.Goals as goal

pub returns : goal.returns
returns c = rw (← c.self.view_is) (c.get.ensures.value ∙ sym (find_rel c.args.id c.self.inside.rels.now.entries))
