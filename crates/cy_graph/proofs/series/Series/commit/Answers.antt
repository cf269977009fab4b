use Rattle.std.proofs.Common.{None, ap, sym, subst}
use Rattle.cy_graph.specs.internal.Series.{IsKept}
use Rattle.cy_graph.specs.Model.{SeriesVersions}
use Rattle.cy_graph.proofs.Slots.{live_filter}
use Rattle.cy_graph.proofs.Steps.{is_kept_compacted}
use Rattle.cy_graph.proofs.series.Series.commit.Goals as goal

-- only empty slots went
pub invariant_of-self : goal.invariant_of-self
invariant_of-self g c =
    let inside = c.self.inside in
    subst (λ slots. IsKept slots inside.next None) (sym c.drop_empty.ensures) (is_kept_compacted inside.slots.entries inside.next inside.change c.self.invariant)

pub returns-then-self-len : goal.returns-then-self-len
returns-then-self-len g c =
    let inside = c.self.inside in
    rw (← c.self.view_is, c.drop_empty.ensures) (ap (λ values. let l : SeriesVersions g.row.V.Denot = record { now = record { entries = values; next = inside.next }; was = None } in l) (live_filter inside.slots.entries))
