use Rattle.std.proofs.Common.{List, map, subst}
use Rattle.std.proofs.lemmas.List.{take_all}
use Rattle.cy_trees.specs.declared.clauses.Item.{Item}
use Rattle.cy_trees.specs.TreeModels.{item_of}
use Rattle.cy_oneshot_outcomes.specs.Columns.{columns_read}
use Rattle.cy_oneshot.specs.Carried.{AreNeeded, AreRead}
use Rattle.cy_oneshot.proofs.Marked.{each_more, still_item, still_nothing, still_then}
use Rattle.cy_oneshot.proofs.needed.mark_items.Goals as goal

pub loop-item-init : goal.loop-item-init
loop-item-init c = record { read = tt; still = still_nothing c.args.needed.now.items }

pub loop-item-preserved : goal.loop-item-preserved
loop-item-preserved c =
    let before = c.loop-item.needed.items in
    let after = c.mark_read.new.needed.items in
    let marked = c.in_ok-mark_read.ensures in
    record {
      read = each_more (λ flags i. AreNeeded flags (columns_read i.expression)) item_of before after c.args.items.now c.loop-item.item-index c.item-item.result c.loop-item-test.true c.item-item.is (still_item before after marked.still) c.loop-item.invariant.read marked.read;
      still = still_then c.args.needed.now.items before after c.loop-item.invariant.still marked.still;
    }

pub returns-clause-read : goal.returns-clause-read
returns-clause-read c = subst (λ (xs : List Item). AreRead c.loop-item.needed.items (map item_of xs)) (take_all c.loop-item.item-index c.args.items.now c.loop-item-test.false) c.loop-item.invariant.read

pub returns-clause-still : goal.returns-clause-still
returns-clause-still c = c.loop-item.invariant.still
