use Rattle.std.proofs.Common.{ap, ◌∙◌}
use Rattle.std.proofs.lemmas.List.{take_all}
use Rattle.cy_oneshot.specs.Carried.{carried_from}
use Rattle.cy_oneshot.proofs.Carried.{carried_more}
use Rattle.cy_oneshot.proofs.unwinding.copied_cells.Goals as goal

pub loop-cell-preserved : goal.loop-cell-preserved
loop-cell-preserved c =
    let cells = c.loop-cell.cells in
    c.in_ok-push.ensures.items
    ∙ carried_more c.args.needed.now c.args.row.now cells.items c.loop-cell.cell-index c.len-place.result c.cell-item.result _ c.loop-cell-test.true c.cell-item.is c.loop-cell.invariant
    (c.len-place.ensures ∙ cells.ok.0) c.in_ok-next.ensures

pub returns : goal.returns
returns c = c.loop-cell.invariant ∙ ap (carried_from c.args.needed.now 0) (take_all c.loop-cell.cell-index c.args.row.now c.loop-cell-test.false)
