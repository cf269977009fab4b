use Rattle.std.proofs.Common.{List, ℕ, subst}
use Rattle.std.proofs.lemmas.List.{take_all}
use Rattle.cy_oneshot.specs.Carried.{AreSeen, IsSeen}
use Rattle.cy_oneshot.proofs.Marked.{each_number, still_nothing, still_seen_one, still_then}
use Rattle.cy_oneshot.proofs.needed.mark_seen.Goals as goal

pub loop-column-init : goal.loop-column-init
loop-column-init c = record { read = tt; still = still_nothing c.args.needed.now.items }

pub loop-column-preserved : goal.loop-column-preserved
loop-column-preserved c =
    let before = c.loop-column.needed.items in
    let after = c.mark_if_after.new.needed.items in
    let marked = c.mark_if_after.ensures in
    record {
      read = each_number (λ flags column. IsSeen flags c.args.count column) before after c.args.columns.now c.loop-column.column-index c.loop-column-test.true (still_seen_one before after marked.still c.args.count) c.loop-column.invariant.read marked.read;
      still = still_then c.args.needed.now.items before after c.loop-column.invariant.still marked.still;
    }

pub returns-clause-read : goal.returns-clause-read
returns-clause-read c = subst (λ (xs : List ℕ). AreSeen c.loop-column.needed.items c.args.count xs) (take_all c.loop-column.column-index c.args.columns.now c.loop-column-test.false) c.loop-column.invariant.read

pub returns-clause-still : goal.returns-clause-still
returns-clause-still c = c.loop-column.invariant.still
