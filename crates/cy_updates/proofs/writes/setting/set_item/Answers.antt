use Rattle.std.proofs.Common.{sym, subst}
use Rattle.std.specs.Prelude.{Result}
use Rattle.std.proofs.lemmas.Result.{err_from_is_err_and}
use Rattle.cy_trees.specs.TreeModels.{expression_of}
use Rattle.cy_graph.specs.Graph.{State}
use Rattle.cy_updates_meaning.specs.declared.faults.UpdateFault.{UpdateFault}
use Rattle.cy_updates_meaning.specs.internal.Answers.{IsAnswer}
use Rattle.cy_updates_meaning.proofs.InTurn.{or_wants}
use Rattle.cy_updates.proofs.SetItems.{changed_answer, property_item, property_item_stops}
use Rattle.cy_updates.proofs.writes.setting.set_item.Goals as goal

pub returns-in_err-value-in-Property-clause-meaning : goal.returns-in_err-value-in-Property-clause-meaning
returns-in_err-value-in-Property-clause-meaning c =
    let p = err_from_is_err_and c.from_residual.result c.from_residual.ensures.1 in
    let i = c.in-Property in
    let why = c.in_err-value-in-Property.field-0.0 in
    rw (p.1, p.2, i.is) (or_wants why (property_item_stops c.args.row.now i.variable i.key (expression_of i.expression) c.args.store.now.graph.now why) c.in_err-value-in-Property.ensures)

pub returns-in_ok-value-in-Property-clause-meaning : goal.returns-in_ok-value-in-Property-clause-meaning
returns-in_ok-value-in-Property-clause-meaning c =
    let i = c.in-Property in
    rw i.is (subst (λ (m : Result State UpdateFault). IsAnswer c.set_property.result (λ u. c.set_property.new.store.graph.now) m)
    (sym (property_item c.args.row.now i.variable i.key (expression_of i.expression) c.args.store.now.graph.now c.in_ok-value-in-Property.value c.in_ok-value-in-Property.ensures)) c.set_property.ensures.meaning)

pub returns-in-Labels-clause-meaning : goal.returns-in-Labels-clause-meaning
returns-in-Labels-clause-meaning c =
    rw c.in-Labels.is (changed_answer c.relabel.result c.relabel.new.store.graph.now _ (rw c.deref.ensures.value at c.relabel.ensures.changed) c.relabel.ensures.memory)
