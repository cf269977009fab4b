use Rattle.cy_network_columns.proofs.Links.{previous_found}
use Rattle.cy_network_columns.proofs.index.HashIndex.previous.Goals as goal

pub returns : goal.returns
returns c =
    rw (← c.self.view_is) (previous_found c.self.inside.heads.items c.self.inside.links.items c.deref.result.now c.self.invariant c.deref.ensures.value c.args.hash c.args.number c.index.result.now
    (rw (← c.self.view_is) at c.requires) c.index.ensures c.last_with.result c.last_with.ensures)
