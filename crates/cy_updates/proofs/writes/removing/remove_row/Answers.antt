use Rattle.std.proofs.Common.{◌+◌, IsSome, Option, sym, subst, ◌∙◌, drop, map}
use Rattle.cy_graph.specs.Graph.{State}
use Rattle.cy_trees.specs.TreeModels.{remove_item_of}
use Rattle.cy_updates_meaning.specs.Setting.{removed_item}
use Rattle.cy_updates_meaning.proofs.Graphs.{Kept, node_kept, rel_kept}
use Rattle.cy_updates_meaning.proofs.Grown.{row_still}
use Rattle.cy_updates_meaning.proofs.InTurn.{all_folded, next_folds, next_in, none_in}
use Rattle.cy_updates_meaning.proofs.SetGraphs.{removed_item_kept}
use Rattle.cy_updates.proofs.writes.removing.remove_row.Goals as goal

pub loop-item-preserved : goal.loop-item-preserved
loop-item-preserved c =
    let l = c.loop-item in
    let items = c.args.items.now in
    let row = c.args.row.now in
    let item = remove_item_of c.item-item.result in
    let done = c.in_ok-remove_item.ensures in
    let now = c.remove_item.new.store.graph.now in
    let before = l.store.graph.now in
    let is = done.changed in
    let kept : Kept before now = subst (Kept before) (sym is) (removed_item_kept row item before c.laws.ensures) in
    record {
      leads = next_folds (removed_item row) (map remove_item_of (drop l.item-index items)) before _ l.invariant.leads (map remove_item_of (drop (l.item-index + 1) items)) item
          (next_in remove_item_of items l.item-index c.item-item.result c.loop-item-test.true c.item-item.is) now is;
      there = row_still before.content now.content (node_kept before now kept.same) (rel_kept before now kept.same) row l.invariant.there;
      was = done.open ∙ l.invariant.was;
      opened = subst (λ (o : Option State). IsSome o) (sym done.open) l.invariant.opened;
      indexes = done.indexes ∙ l.invariant.indexes;
    }

pub returns-clause-changed : goal.returns-clause-changed
returns-clause-changed c =
    let l = c.loop-item in
    sym (all_folded (removed_item c.args.row.now) (map remove_item_of (drop l.item-index c.args.items.now)) l.store.graph.now _ l.invariant.leads (none_in remove_item_of c.args.items.now l.item-index c.loop-item-test.false))
