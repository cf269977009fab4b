use Rattle.std.proofs.Common.{ap, ◌∙◌}
use Rattle.cy_oneshot.specs.Carried.{carried_from}
use Rattle.cy_oneshot.proofs.Carried.{carried_after}
use Rattle.cy_oneshot.proofs.unwinding.with_cell.Goals as goal

pub returns : goal.returns
returns c =
    let cells = c.in_ok-cells.cells in
    c.new.ensures
    ∙ c.in_ok-push.ensures.items
    ∙ carried_after c.args.needed.now c.args.row.now cells.items c.len.result c.args.last c.if_needed-last.result (c.in_ok-cells.ensures ∙ ap (carried_from c.args.needed.now 0) c.as_slice.ensures)
    (c.len.ensures ∙ cells.ok.0) c.if_needed-last.ensures
