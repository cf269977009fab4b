use Rattle.std.proofs.Common.{◌+◌, ◌≤◌, IsSome, List, Option, length, refl, sym, ap, subst, ◌∙◌, arith}
use Rattle.std.proofs.lemmas.List.{nil_from_length}
use Rattle.cy_values.specs.declared.numbers.RelId.{RelId}
use Rattle.cy_graph.specs.Graph.{State, number_end}
use Rattle.cy_updates.specs.internal.Deleting.{without_rels}
use Rattle.cy_updates.proofs.DeletedSets.{few_rels, without_no_rels}
use Rattle.cy_updates.proofs.writes.deleting.remove_rels.Goals as goal

pub loop-id-init : goal.loop-id-init
loop-id-init c = record {
  removed = refl;
  count = omega arith;
  was = refl;
  opened = c.requires.open;
  indexes = refl;
}

pub overflow_add-gone : goal.overflow_add-gone
overflow_add-gone c =
    let graph = c.args.store.now.graph.now in
    let less : length graph.content.rels + 1 ≤ number_end = few_rels graph c.laws.ensures in
    omega (arith, less, c.loop-id.invariant.count, c.in_ok-more.ensures.count)

pub loop-id-preserved : goal.loop-id-preserved
loop-id-preserved c =
    let l = c.loop-id in
    let done = c.in_ok-more.ensures in
    record {
      removed = done.removed c.pop.new.self.items ∙ ap (λ ids. without_rels ids l.store.graph.now) (sym c.in-Some.ensures.items) ∙ l.invariant.removed;
      count = omega (arith, l.invariant.count, done.count);
      was = done.open ∙ l.invariant.was;
      opened = subst (λ (o : Option State). IsSome o) (sym done.open) l.invariant.opened;
      indexes = done.indexes ∙ l.invariant.indexes;
    }

pub returns-clause-removed : goal.returns-clause-removed
returns-clause-removed c =
    let l = c.loop-id in
    let none = nil_from_length l.ids.items (omega (arith, l.ids.ok.0, c.in_default.ensures.cases.0)) in
    sym (without_no_rels l.store.graph.now) ∙ ap (λ (ids : List RelId). without_rels ids l.store.graph.now) (sym none) ∙ l.invariant.removed
