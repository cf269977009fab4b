use Rattle.std.proofs.Common.{sym, subst}
use Rattle.std.specs.Prelude.{Result}
use Rattle.cy_trees.specs.TreeModels.{node_of}
use Rattle.cy_updates_meaning.specs.declared.faults.UpdateFault.{UpdateFault}
use Rattle.cy_updates_meaning.specs.Creating.{Creation}
use Rattle.cy_updates_meaning.specs.internal.Answers.{IsAnswer}
use Rattle.cy_updates.specs.internal.Creating.{creation}
use Rattle.cy_updates.proofs.CreatedRows.{bound_place, free_place}
use Rattle.cy_updates.proofs.writes.creating.place_node.Goals as goal

pub returns-in-Some-clause-meaning : goal.returns-in-Some-clause-meaning
returns-in-Some-clause-meaning c = bound_place c.args.store.now.graph.now c.args.before.now c.args.made.now (node_of c.args.place.now) c.in-Some.node (rw c.deref.ensures.value at c.in-Some.ensures)

pub returns-in-None-clause-meaning : goal.returns-in-None-clause-meaning
returns-in-None-clause-meaning c =
    subst (λ (m : Result Creation UpdateFault). IsAnswer c.create_node.result (λ u. creation c.create_node.new.store.graph.now c.args.before.now c.create_node.new.made) m)
    (sym (free_place c.args.store.now.graph.now c.args.before.now c.args.made.now (node_of c.args.place.now) (rw c.deref.ensures.value at c.in-None.ensures))) c.create_node.ensures.meaning
