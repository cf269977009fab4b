use Rattle.std.proofs.Common.{◌≡◌, true, List, ℕ, subst}
use Rattle.std.proofs.lemmas.List.{take_all}
use Rattle.cy_oneshot.specs.Carried.{AreNeeded, is_needed}
use Rattle.cy_oneshot.proofs.Marked.{each_number, still_nothing, still_then}
use Rattle.cy_oneshot.proofs.needed.mark.Goals as goal

pub loop-column-init : goal.loop-column-init
loop-column-init c = record { read = tt; still = still_nothing c.args.needed.now.items }

pub loop-column-preserved : goal.loop-column-preserved
loop-column-preserved c =
    let before = c.loop-column.needed.items in
    let after = c.mark_one.new.needed.items in
    let marked = c.mark_one.ensures in
    record {
      read = each_number (λ flags column. is_needed flags column ≡ true) before after c.args.columns.now c.loop-column.column-index c.loop-column-test.true marked.still.0 c.loop-column.invariant.read marked.marked;
      still = still_then c.args.needed.now.items before after c.loop-column.invariant.still marked.still;
    }

pub returns-clause-marked : goal.returns-clause-marked
returns-clause-marked c = subst (λ (xs : List ℕ). AreNeeded c.loop-column.needed.items xs) (take_all c.loop-column.column-index c.args.columns.now c.loop-column-test.false) c.loop-column.invariant.read

pub returns-clause-still : goal.returns-clause-still
returns-clause-still c = c.loop-column.invariant.still
