use Rattle.std.proofs.Common.{rules}
use Rattle.std.proofs.lemmas.Fn.{always_returns_same}
use Rattle.cy_graph.specs.Maps.{text_order}
use Rattle.cy_graph.proofs.Places.{searched}
use Rattle.cy_graph.proofs.maps.TextMap.search.Goals as goal

-- the closure compares an entry's key with the key, and the slice is the map's entries
pub returns : goal.returns
returns g c =
    let facts = c.binary_search_by.ensures in
    let by_key = facts.position (λ e. text_order e.0 c.args.key.now) (always_returns_same _ _ _ (λ a r f called. search rules)) in
    rw (← c.self.view_is, ← c.deref.ensures.value) (searched c.args.key.now _ (rw c.deref.ensures.value c.self.invariant) _ facts.bound by_key)
