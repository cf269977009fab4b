use Rattle.std.proofs.Common.{List, map, subst}
use Rattle.std.proofs.lemmas.List.{take_all}
use Rattle.std.specs.List.{AllByRecursion}
use Rattle.cy_trees.specs.declared.clauses.RemoveItem.{RemoveItem}
use Rattle.cy_trees.specs.TreeModels.{remove_item_of}
use Rattle.cy_oneshot.specs.Carried.{IsRemoveRead}
use Rattle.cy_oneshot.proofs.Marked.{each_more, still_nothing, still_remove, still_then}
use Rattle.cy_oneshot.proofs.needed.mark_remove.Goals as goal

pub loop-item-init : goal.loop-item-init
loop-item-init c = record { read = tt; still = still_nothing c.args.needed.now.items }

pub loop-item-preserved : goal.loop-item-preserved
loop-item-preserved c =
    let before = c.loop-item.needed.items in
    let after = c.mark_remove_item.new.needed.items in
    let marked = c.mark_remove_item.ensures in
    record {
      read = each_more IsRemoveRead remove_item_of before after c.args.items.now c.loop-item.item-index c.item-item.result c.loop-item-test.true c.item-item.is (still_remove before after marked.still) c.loop-item.invariant.read marked.read;
      still = still_then c.args.needed.now.items before after c.loop-item.invariant.still marked.still;
    }

pub returns-clause-read : goal.returns-clause-read
returns-clause-read c = subst (λ (xs : List RemoveItem). AllByRecursion (IsRemoveRead c.loop-item.needed.items) (map remove_item_of xs)) (take_all c.loop-item.item-index c.args.items.now c.loop-item-test.false) c.loop-item.invariant.read

pub returns-clause-still : goal.returns-clause-still
returns-clause-still c = c.loop-item.invariant.still
