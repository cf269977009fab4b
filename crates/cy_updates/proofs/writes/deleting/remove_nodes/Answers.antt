use Rattle.std.proofs.Common.{◌≡◌, ◌+◌, ◌≤◌, [], IsSome, Option, List, filter, length, sym, ap, subst, ◌∙◌, arith}
use Rattle.std.proofs.lemmas.List.{nil_from_length}
use Rattle.cy_values.specs.declared.numbers.NodeId.{NodeId}
use Rattle.cy_values.specs.declared.numbers.RelId.{RelId}
use Rattle.cy_graph.specs.declared.nodes.Rel.{Rel}
use Rattle.cy_graph.specs.Graph.{State, number_end}
use Rattle.cy_updates.specs.internal.Deleting.{lies_among, without_nodes}
use Rattle.cy_updates.proofs.DeletedAll.{last_alone, still_alone}
use Rattle.cy_updates.proofs.DeletedSets.{few_nodes, without_no_nodes}
use Rattle.cy_updates.proofs.writes.deleting.remove_nodes.Goals as goal

pub remove_node-requires-clause-alone : goal.remove_node-requires-clause-alone
remove_node-requires-clause-alone c =
    last_alone c.pop.new.self.items c.in-Some.id c.loop-id.ids.items c.in-Some.ensures.items c.loop-id.store.graph.now.content.rels c.loop-id.invariant.alone

pub overflow_add-gone : goal.overflow_add-gone
overflow_add-gone c =
    let graph = c.args.store.now.graph.now in
    let less : length graph.content.nodes + 1 ≤ number_end = few_nodes graph c.laws.ensures in
    omega (arith, less, c.loop-id.invariant.count, c.in_ok-more.ensures.count)

pub loop-id-preserved : goal.loop-id-preserved
loop-id-preserved c =
    let l = c.loop-id in
    let left = c.pop.new.self.items in
    let done = c.in_ok-more.ensures in
    record {
      removed = done.removed left ∙ ap (λ ids. without_nodes ids l.store.graph.now) (sym c.in-Some.ensures.items) ∙ l.invariant.removed;
      alone = subst (λ (rels : List (RelId × Rel)). filter (lies_among left) rels ≡ []) (sym done.rels) (still_alone left c.in-Some.id l.ids.items c.in-Some.ensures.items l.store.graph.now.content.rels l.invariant.alone);
      count = omega (arith, l.invariant.count, done.count);
      rels = done.rels ∙ l.invariant.rels;
      was = done.open ∙ l.invariant.was;
      opened = subst (λ (o : Option State). IsSome o) (sym done.open) l.invariant.opened;
      indexes = done.indexes ∙ l.invariant.indexes;
    }

pub returns-clause-removed : goal.returns-clause-removed
returns-clause-removed c =
    let l = c.loop-id in
    let none = nil_from_length l.ids.items (omega (arith, l.ids.ok.0, c.in_default.ensures.cases.0)) in
    sym (without_no_nodes l.store.graph.now) ∙ ap (λ (ids : List NodeId). without_nodes ids l.store.graph.now) (sym none) ∙ l.invariant.removed
