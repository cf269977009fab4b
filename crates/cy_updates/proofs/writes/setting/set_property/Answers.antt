use Rattle.std.proofs.Common.{sym, subst, ap, inr}
use Rattle.std.specs.Prelude.{Option, Result}
use Rattle.std.proofs.lemmas.Result.{err_from_is_err_and}
use Rattle.cy_values.specs.declared.numbers.Entity.{Entity}
use Rattle.cy_graph.specs.Graph.{State, with_prop}
use Rattle.cy_updates_meaning.specs.declared.faults.UpdateFault.{UpdateFault}
use Rattle.cy_updates_meaning.specs.Setting.{with_property}
use Rattle.cy_updates_meaning.specs.Values.{named_by}
use Rattle.cy_updates_meaning.specs.internal.Answers.{IsAnswer}
use Rattle.cy_updates.proofs.NamedCells.{named_there}
use Rattle.cy_updates.proofs.SetItems.{changed_answer, property_put, property_refused}
use Rattle.cy_updates.proofs.writes.setting.set_property.Goals as goal

pub returns-in_default-clause-meaning : goal.returns-in_default-clause-meaning
returns-in_default-clause-meaning c = ap (λ (o : Option Entity). with_property o c.args.key.now c.args.value c.args.store.now.graph.now) (sym c.in_default.ensures)

pub returns-in_err-kept-clause-meaning : goal.returns-in_err-kept-clause-meaning
returns-in_err-kept-clause-meaning c =
    let p = err_from_is_err_and c.from_residual.result c.from_residual.ensures.1 in
    rw (p.1, p.2) (inr (property_refused (named_by c.args.variable.now c.args.row.now) c.in-Some.entity c.in-Some.ensures c.args.key.now c.args.value c.args.store.now.graph.now c.in_err-kept.field-0.0 c.in_err-kept.ensures))

pub put-requires-clause-there : goal.put-requires-clause-there
put-requires-clause-there c = named_there c.args.store.now.graph.now c.args.variable.now c.args.row.now c.in-Some.entity c.requires.there c.in-Some.ensures

pub returns-clause-meaning : goal.returns-clause-meaning
returns-clause-meaning c =
    let now = c.args.store.now.graph.now in
    let x = c.in-Some.entity in
    let kept = c.in_ok-kept in
    subst (λ (m : Result State UpdateFault). IsAnswer c.put.result (λ u. c.put.new.store.graph.now) m)
    (sym (property_put (named_by c.args.variable.now c.args.row.now) x c.in-Some.ensures c.args.key.now c.args.value now kept.ensures.0 kept.kept kept.ensures.1))
    (changed_answer c.put.result c.put.new.store.graph.now (with_prop x c.args.key.now kept.kept now) c.put.ensures.changed c.put.ensures.memory)
