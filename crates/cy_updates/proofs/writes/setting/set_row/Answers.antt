use Rattle.std.proofs.Common.{◌+◌, IsSome, Option, sym, subst, ◌∙◌, drop, map}
use Rattle.std.proofs.lemmas.Result.{IfOk-at_ok, err_from_is_err_and}
use Rattle.cy_graph.specs.Graph.{State}
use Rattle.cy_trees.specs.TreeModels.{set_item_of}
use Rattle.cy_updates_meaning.specs.Setting.{set_item}
use Rattle.cy_updates_meaning.proofs.Graphs.{Kept, node_kept, rel_kept}
use Rattle.cy_updates_meaning.proofs.Grown.{row_still}
use Rattle.cy_updates_meaning.proofs.InTurn.{all_done, next_in, next_leads, next_stops, none_in, or_wants}
use Rattle.cy_updates_meaning.proofs.SetGraphs.{set_item_kept}
use Rattle.cy_updates.proofs.writes.setting.set_row.Goals as goal

pub returns-in_err-set_item-clause-meaning : goal.returns-in_err-set_item-clause-meaning
returns-in_err-set_item-clause-meaning c =
    let l = c.loop-item in
    let items = c.args.items.now in
    let p = err_from_is_err_and c.from_residual.result c.from_residual.ensures.1 in
    let why = c.in_err-set_item.field-0.0 in
    rw (p.1, p.2) (or_wants why
    (next_stops (set_item c.args.row.now) (map set_item_of (drop l.item-index items)) (map set_item_of (drop (l.item-index + 1) items)) (set_item_of c.item-item.result)
    (next_in set_item_of items l.item-index c.item-item.result c.loop-item-test.true c.item-item.is) l.store.graph.now _ l.invariant.leads why) c.in_err-set_item.ensures.meaning)

pub loop-item-preserved : goal.loop-item-preserved
loop-item-preserved c =
    let l = c.loop-item in
    let items = c.args.items.now in
    let row = c.args.row.now in
    let done = c.in_ok-set_item.ensures in
    let now = c.set_item.new.store.graph.now in
    let kept : Kept l.store.graph.now now = IfOk-at_ok (Kept l.store.graph.now) done.meaning (set_item_kept row (set_item_of c.item-item.result) l.store.graph.now c.laws.ensures) in
    record {
      leads = next_leads (set_item row) (map set_item_of (drop l.item-index items)) (map set_item_of (drop (l.item-index + 1) items)) (set_item_of c.item-item.result)
          (next_in set_item_of items l.item-index c.item-item.result c.loop-item-test.true c.item-item.is) l.store.graph.now _ l.invariant.leads now done.meaning;
      there = row_still l.store.graph.now.content now.content (node_kept l.store.graph.now now kept.same) (rel_kept l.store.graph.now now kept.same) row l.invariant.there;
      was = done.open ∙ l.invariant.was;
      opened = subst (λ (o : Option State). IsSome o) (sym done.open) l.invariant.opened;
      indexes = done.indexes ∙ l.invariant.indexes;
    }

pub returns-clause-meaning : goal.returns-clause-meaning
returns-clause-meaning c =
    let l = c.loop-item in
    all_done (set_item c.args.row.now) (map set_item_of (drop l.item-index c.args.items.now)) (none_in set_item_of c.args.items.now l.item-index c.loop-item-test.false) l.store.graph.now _ l.invariant.leads
