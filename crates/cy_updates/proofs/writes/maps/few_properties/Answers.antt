use Rattle.std.proofs.Common.{◌+◌, List, Option, sym, ap, subst, ◌∙◌, drop, map}
use Rattle.std.proofs.lemmas.Result.{err_from_is_err_and}
use Rattle.cy_values.specs.declared.scalars.Value.{Value}
use Rattle.cy_trees.specs.Trees.{Name}
use Rattle.cy_trees.specs.TreeModels.{entry_of}
use Rattle.cy_graph.specs.Graph.{set_or_removed}
use Rattle.cy_updates_meaning.proofs.InTurn.{next_in, or_wants}
use Rattle.cy_updates.proofs.MapValues.{entry_next, entry_stops, set_from}
use Rattle.cy_updates_meaning.proofs.StoredValues.{AreProperties, set_properties}
use Rattle.cy_updates.proofs.writes.maps.few_properties.Goals as goal

pub returns-in_err-value-clause-answer : goal.returns-in_err-value-clause-answer
returns-in_err-value-clause-answer c =
    let l = c.loop-entry in
    let entries = c.args.entries.now in
    let p = err_from_is_err_and c.from_residual-in_err-value.result c.from_residual-in_err-value.ensures.1 in
    let why = c.in_err-value.field-0.0 in
    rw (p.1, p.2) (or_wants why
    (entry_stops c.args.store.now.graph.now c.args.row.now (entry_of c.entry-item.result) (map entry_of (drop (l.entry-index + 1) entries)) (map entry_of (drop l.entry-index entries))
    (next_in entry_of entries l.entry-index c.entry-item.result c.loop-entry-test.true c.entry-item.is) l.props _ l.invariant.leads why) c.in_err-value.ensures)

pub loop-entry-preserved : goal.loop-entry-preserved
loop-entry-preserved c =
    let l = c.loop-entry in
    let graph = c.args.store.now.graph.now in
    let row = c.args.row.now in
    let entries = c.args.entries.now in
    let entry = entry_of c.entry-item.result in
    let rest = map entry_of (drop (l.entry-index + 1) entries) in
    let kept = c.in_ok-kept.ensures in
    let made = c.in_ok-set.ensures.ok ∙ ap (λ (o : Option Value). set_or_removed entry.key o l.props) kept.1 in
    record {
      leads = ap (λ (p : List (Name × Value)). set_from graph row p rest) made
          ∙ entry_next graph row entry rest (map entry_of (drop l.entry-index entries)) (next_in entry_of entries l.entry-index c.entry-item.result c.loop-entry-test.true c.entry-item.is) l.props _ l.invariant.leads
          c.in_ok-value.value c.in_ok-value.ensures kept.0;
      good = subst AreProperties (sym c.in_ok-set.ensures.ok) (set_properties entry.key c.in_ok-kept.kept l.props kept.2 l.invariant.good);
    }
