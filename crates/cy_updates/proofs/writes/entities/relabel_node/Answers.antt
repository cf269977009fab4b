use Rattle.std.proofs.Common.{◌+◌, IsSome, Option, sym, subst, ◌∙◌, drop}
use Rattle.std.proofs.lemmas.List.{drop_all}
use Rattle.cy_graph.specs.Graph.{State, with_node_changed}
use Rattle.cy_oneshot_patterns.proofs.SliceReads.{next_of}
use Rattle.cy_updates.specs.internal.Entities.{relabelled}
use Rattle.cy_updates_meaning.proofs.Graphs.{Kept, node_kept}
use Rattle.cy_updates_meaning.proofs.InTurn.{all_folded, next_folds}
use Rattle.cy_updates.proofs.Relabelled.{relabelled_kept}
use Rattle.cy_updates.proofs.writes.entities.relabel_node.Goals as goal

pub loop-label-preserved : goal.loop-label-preserved
loop-label-preserved c =
    let l = c.loop-label in
    let labels = c.args.labels.now in
    let before = l.store.graph.now in
    let now = c.change_label.new.store.graph.now in
    let done = c.in_ok-change_label.ensures in
    let kept : Kept before now = subst (Kept before) (sym done.changed) (relabelled_kept c.args.change c.args.id c.label-item.result before c.laws.ensures) in
    record {
      leads = next_folds (λ graph label. with_node_changed c.args.id (relabelled c.args.change label) graph) (drop l.label-index labels) before _ l.invariant.leads (drop (l.label-index + 1) labels) c.label-item.result
          (next_of labels l.label-index c.label-item.result c.loop-label-test.true c.label-item.is) now done.changed;
      there = node_kept before now kept.same c.args.id l.invariant.there;
      was = done.open ∙ l.invariant.was;
      opened = subst (λ (o : Option State). IsSome o) (sym done.open) l.invariant.opened;
      indexes = done.indexes ∙ l.invariant.indexes;
    }

pub returns-clause-changed : goal.returns-clause-changed
returns-clause-changed c =
    let l = c.loop-label in
    sym (all_folded (λ graph label. with_node_changed c.args.id (relabelled c.args.change label) graph) (drop l.label-index c.args.labels.now) l.store.graph.now _ l.invariant.leads
    (drop_all l.label-index c.args.labels.now c.loop-label-test.false))
