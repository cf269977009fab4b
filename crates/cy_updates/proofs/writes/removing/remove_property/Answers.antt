use Rattle.std.proofs.Common.{◌≡◌, Option, subst, ap}
use Rattle.std.specs.Result.{OnOk}
use Rattle.cy_values.specs.declared.numbers.Entity.{Entity}
use Rattle.cy_updates_meaning.specs.Setting.{without_property}
use Rattle.cy_updates.proofs.NamedCells.{named_there}
use Rattle.cy_updates.proofs.writes.removing.remove_property.Goals as goal

pub put-requires-clause-there : goal.put-requires-clause-there
put-requires-clause-there c = named_there c.args.store.now.graph.now c.args.variable.now c.args.row.now c.in-Some.entity c.requires.there c.in-Some.ensures

pub returns-in-Some-clause-changed : goal.returns-in-Some-clause-changed
returns-in-Some-clause-changed c =
    subst (λ (o : Option Entity). OnOk c.put.result (c.put.new.store.graph.now ≡ without_property o c.args.key.now c.args.store.now.graph.now)) c.in-Some.ensures c.put.ensures.changed

pub returns-in-None-clause-changed : goal.returns-in-None-clause-changed
returns-in-None-clause-changed c = ap (λ (o : Option Entity). without_property o c.args.key.now c.args.store.now.graph.now) c.in-None.ensures
