use Rattle.std.proofs.Common.{◌≡◌, Some, None}
use Rattle.cy_graph.specs.Graph.{number_end}
use Rattle.cy_graph.proofs.Slots.{raised}
use Rattle.cy_graph.proofs.Steps.{is_kept_rolled_back}
use Rattle.cy_graph.proofs.series.Series.rollback.Goals as goal

-- the first slots are those of the beginning
pub put_back-requires : goal.put_back-requires
put_back-requires g c =
    let start = c.in-Some.start in
    let open_change : c.self.inside.change ≡ Some start = cc in
    let before = c.self.invariant.was start open_change in
    rw c.truncate.ensures.entries (raised 1 start.next number_end _ before.range.1 before.rising)

-- with what was kept they are the slots of the beginning
pub invariant_of-self : goal.invariant_of-self
invariant_of-self g c =
    let start = c.in-Some.start in
    let open_change : c.self.inside.change ≡ Some start = cc in
    let closed : c.take.new.self ≡ None = cc in
    let before = c.self.invariant.was start open_change in
    rw (c.put_back.ensures, c.truncate.ensures.entries, closed) (is_kept_rolled_back c.self.inside.slots.entries start before)
