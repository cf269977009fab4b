use Rattle.std.proofs.Common.{List, subst}
use Rattle.std.proofs.lemmas.List.{take_all}
use Rattle.std.specs.List.{AllByRecursion}
use Rattle.cy_values.specs.declared.rows.Cell.{Cell}
use Rattle.cy_oneshot.specs.Carried.{IsAlike}
use Rattle.cy_oneshot.proofs.Marked.{each_more_same, still_alike, still_nothing, still_then}
use Rattle.cy_oneshot.proofs.needed.mark_others.Goals as goal

pub loop-row-init : goal.loop-row-init
loop-row-init c = record { alike = tt; still = still_nothing c.args.needed.now.items }

pub loop-row-preserved : goal.loop-row-preserved
loop-row-preserved c =
    let before = c.loop-row.needed.items in
    let after = c.mark_other.new.needed.items in
    let first = c.args.first.now in
    let marked = c.mark_other.ensures in
    record {
      alike = each_more_same (λ flags row. IsAlike flags first row) before after c.args.rows.now c.loop-row.row-index c.row-item.result c.loop-row-test.true c.row-item.is (still_alike before after marked.still first) c.loop-row.invariant.alike
          (subst (IsAlike after first) c.as_slice.ensures marked.alike);
      still = still_then c.args.needed.now.items before after c.loop-row.invariant.still marked.still;
    }

pub returns-clause-alike : goal.returns-clause-alike
returns-clause-alike c =
    subst (λ (xs : List (List Cell)). AllByRecursion (IsAlike c.loop-row.needed.items c.args.first.now) xs) (take_all c.loop-row.row-index c.args.rows.now c.loop-row-test.false) c.loop-row.invariant.alike

pub returns-clause-still : goal.returns-clause-still
returns-clause-still c = c.loop-row.invariant.still
