use Rattle.cy_graph.proofs.Slots.{live_rises}
use Rattle.cy_graph.proofs.series.Series.laws.Goals as goal

pub returns : goal.returns
returns g c =
    let inside = c.self.inside in
    rw (← c.self.view_is) (record { rising = live_rises 1 inside.next inside.slots.entries c.self.invariant.rising; range = c.self.invariant.range })
