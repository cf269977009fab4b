use Rattle.cy_graph.specs.internal.Slots.{value_under}
use Rattle.cy_graph.proofs.Slots.{not_found}
use Rattle.cy_graph.proofs.series.Start.is_first_change.Goals as goal

-- the map has no such key
pub returns-then-slot-self : goal.returns-then-slot-self
returns-then-slot-self g c =
    let kept = c.args.self.now.before.entries in
    let none = not_found c.contains.result (value_under c.args.number kept) c.contains.ensures in
    (λ missing. (c.if-slot-self.true, none.0 missing), λ first. none.1 first.1)
