use Rattle.std.proofs.Common.{◌+◌, IsSome, Option, sym, subst, ◌∙◌, drop, map}
use Rattle.std.proofs.lemmas.List.{drop_all}
use Rattle.std.proofs.lemmas.Result.{IfOk-at_ok, err_from_is_err_and}
use Rattle.cy_graph.specs.Graph.{State}
use Rattle.cy_trees.specs.TreeModels.{set_item_of}
use Rattle.cy_oneshot_meaning.specs.internal.Answers.{IsRowThere}
use Rattle.cy_oneshot_patterns.proofs.SliceReads.{next_of}
use Rattle.cy_updates_meaning.specs.Statements.{set_row}
use Rattle.cy_updates_meaning.proofs.Graphs.{Kept, node_kept, rel_kept}
use Rattle.cy_updates_meaning.proofs.Grown.{rows_still}
use Rattle.cy_updates_meaning.proofs.InTurn.{all_done, here_in, next_leads, next_stops, or_wants}
use Rattle.cy_updates_meaning.proofs.SetGraphs.{set_row_kept}
use Rattle.cy_updates.proofs.writes.setting.set.Goals as goal

pub set_row-requires-clause-there : goal.set_row-requires-clause-there
set_row-requires-clause-there c =
    here_in (IsRowThere c.loop-row.store.graph.now.content) c.args.rows.now c.loop-row.row-index c.row-item.result c.loop-row.invariant.there c.loop-row-test.true c.row-item.is

pub returns-in_err-set_row-clause-meaning : goal.returns-in_err-set_row-clause-meaning
returns-in_err-set_row-clause-meaning c =
    let l = c.loop-row in
    let rows = c.args.rows.now in
    let p = err_from_is_err_and c.from_residual.result c.from_residual.ensures.1 in
    let why = c.in_err-set_row.field-0.0 in
    rw (p.1, p.2) (or_wants why
    (next_stops (set_row (map set_item_of c.args.items.now)) (drop l.row-index rows) (drop (l.row-index + 1) rows) c.row-item.result (next_of rows l.row-index c.row-item.result c.loop-row-test.true c.row-item.is)
    l.store.graph.now _ l.invariant.leads why) c.in_err-set_row.ensures.meaning)

pub loop-row-preserved : goal.loop-row-preserved
loop-row-preserved c =
    let l = c.loop-row in
    let rows = c.args.rows.now in
    let items = map set_item_of c.args.items.now in
    let done = c.in_ok-set_row.ensures in
    let now = c.set_row.new.store.graph.now in
    let kept : Kept l.store.graph.now now = IfOk-at_ok (Kept l.store.graph.now) done.meaning (set_row_kept items c.row-item.result l.store.graph.now c.laws.ensures) in
    record {
      leads = next_leads (set_row items) (drop l.row-index rows) (drop (l.row-index + 1) rows) c.row-item.result (next_of rows l.row-index c.row-item.result c.loop-row-test.true c.row-item.is)
          l.store.graph.now _ l.invariant.leads now done.meaning;
      there = rows_still l.store.graph.now.content now.content (node_kept l.store.graph.now now kept.same) (rel_kept l.store.graph.now now kept.same) rows l.invariant.there;
      was = done.open ∙ l.invariant.was;
      opened = subst (λ (o : Option State). IsSome o) (sym done.open) l.invariant.opened;
      indexes = done.indexes ∙ l.invariant.indexes;
    }

pub returns-clause-meaning : goal.returns-clause-meaning
returns-clause-meaning c =
    let l = c.loop-row in
    all_done (set_row (map set_item_of c.args.items.now)) (drop l.row-index c.args.rows.now) (drop_all l.row-index c.args.rows.now c.loop-row-test.false) l.store.graph.now _ l.invariant.leads
