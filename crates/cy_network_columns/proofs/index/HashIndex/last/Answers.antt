use Rattle.std.proofs.Common.{arith}
use Rattle.cy_network_columns.proofs.Links.{last_found, last_inside, nothing_found}
use Rattle.cy_network_columns.proofs.index.HashIndex.last.Goals as goal

pub returns-then-places-eq0 : goal.returns-then-places-eq0
returns-then-places-eq0 c =
    rw (← c.self.view_is) (nothing_found c.self.inside.heads.items c.self.inside.links.items c.args.hash c.len-places.result c.self.invariant (search c.len-places.ensures) c.if-places-eq0.true)

pub last_with-requires-clause-inside : goal.last_with-requires-clause-inside
last_with-requires-clause-inside c =
    last_inside c.self.inside.heads.items c.self.inside.links.items c.deref.result.now c.self.invariant c.deref.ensures.value c.args.hash c.len-places.result c.index.result.now (search c.len-places.ensures)
    (omega (arith, c.if-places-eq0.false)) c.index.ensures

pub returns : goal.returns
returns c =
    rw (← c.self.view_is) (last_found c.self.inside.heads.items c.self.inside.links.items c.deref.result.now c.self.invariant c.deref.ensures.value c.args.hash c.len-places.result c.index.result.now (search c.len-places.ensures)
    (omega (arith, c.if-places-eq0.false)) c.index.ensures c.last_with.result c.last_with.ensures)
