use Rattle.std.proofs.Common.{arith, ◌∙◌}
use Rattle.cy_index.proofs.Versions.{undone_once}
use Rattle.cy_index.proofs.postings.Postings.undo_to.Goals as goal

-- one step less
pub loop-self-preserved : goal.loop-self-preserved
loop-self-preserved g c =
    let l = c.loop-self in
    let once = undone_once l.self c.undo.new.self c.args.mark c.undo.ensures (omega (arith, c.mark.ensures, c.loop-self-test.true)) in
    record { there = once.there; leads = once.leads ∙ l.invariant.leads }
