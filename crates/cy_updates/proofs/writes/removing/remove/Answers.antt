use Rattle.std.proofs.Common.{◌+◌, IsSome, Option, sym, subst, ◌∙◌, drop, map}
use Rattle.std.proofs.lemmas.List.{drop_all}
use Rattle.cy_graph.specs.Graph.{State}
use Rattle.cy_trees.specs.TreeModels.{remove_item_of}
use Rattle.cy_oneshot_meaning.specs.internal.Answers.{IsRowThere}
use Rattle.cy_oneshot_patterns.proofs.SliceReads.{next_of}
use Rattle.cy_updates_meaning.specs.Statements.{remove_row}
use Rattle.cy_updates_meaning.proofs.Graphs.{Kept, node_kept, rel_kept}
use Rattle.cy_updates_meaning.proofs.Grown.{rows_still}
use Rattle.cy_updates_meaning.proofs.InTurn.{all_folded, here_in, next_folds}
use Rattle.cy_updates_meaning.proofs.SetGraphs.{remove_row_kept}
use Rattle.cy_updates.proofs.writes.removing.remove.Goals as goal

pub remove_row-requires-clause-there : goal.remove_row-requires-clause-there
remove_row-requires-clause-there c =
    here_in (IsRowThere c.loop-row.store.graph.now.content) c.args.rows.now c.loop-row.row-index c.row-item.result c.loop-row.invariant.there c.loop-row-test.true c.row-item.is

pub loop-row-preserved : goal.loop-row-preserved
loop-row-preserved c =
    let l = c.loop-row in
    let rows = c.args.rows.now in
    let items = map remove_item_of c.args.items.now in
    let done = c.in_ok-remove_row.ensures in
    let now = c.remove_row.new.store.graph.now in
    let before = l.store.graph.now in
    let is = done.changed in
    let kept : Kept before now = subst (Kept before) (sym is) (remove_row_kept items c.row-item.result before c.laws.ensures) in
    record {
      leads = next_folds (remove_row items) (drop l.row-index rows) before _ l.invariant.leads (drop (l.row-index + 1) rows) c.row-item.result
          (next_of rows l.row-index c.row-item.result c.loop-row-test.true c.row-item.is) now is;
      there = rows_still before.content now.content (node_kept before now kept.same) (rel_kept before now kept.same) rows l.invariant.there;
      was = done.open ∙ l.invariant.was;
      opened = subst (λ (o : Option State). IsSome o) (sym done.open) l.invariant.opened;
      indexes = done.indexes ∙ l.invariant.indexes;
    }

pub returns-clause-changed : goal.returns-clause-changed
returns-clause-changed c =
    let l = c.loop-row in
    sym (all_folded (remove_row (map remove_item_of c.args.items.now)) (drop l.row-index c.args.rows.now) l.store.graph.now _ l.invariant.leads (drop_all l.row-index c.args.rows.now c.loop-row-test.false))
