use Rattle.cy_graph.specs.declared.series.Start.{Start}
use Rattle.cy_graph.proofs.Steps.{begun_line, is_kept_begun}
use Rattle.cy_graph.proofs.series.Series.begin.Goals as goal

-- all slots are those of the beginning, and nothing was kept of them yet
pub invariant_of-self : goal.invariant_of-self
invariant_of-self g c = is_kept_begun _ _ _ c.self.invariant c.new.ensures c.len.ensures.len

pub returns : goal.returns
returns g c =
    let inside = c.self.inside in
    let start : Start g.row.V.Denot = record { slots = c.len.result; empty = inside.empty; next = inside.next; before = c.new.result } in
    rw (← c.self.view_is) (begun_line inside.slots.entries start c.new.ensures c.len.ensures.len)
