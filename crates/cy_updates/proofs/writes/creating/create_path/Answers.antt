use Rattle.std.proofs.Common.{sym, subst}
use Rattle.std.specs.Prelude.{Result}
use Rattle.std.proofs.lemmas.Result.{err_from_is_err_and}
use Rattle.cy_values.proofs.Lists.{each_left}
use Rattle.cy_trees.specs.TreeModels.{path_of}
use Rattle.cy_oneshot_meaning.specs.Reading.{IsInGraph}
use Rattle.cy_updates_meaning.specs.declared.faults.UpdateFault.{UpdateFault}
use Rattle.cy_updates_meaning.specs.Creating.{Creation}
use Rattle.cy_updates_meaning.specs.internal.Answers.{IsAnswer}
use Rattle.cy_updates.specs.internal.Creating.{creation}
use Rattle.cy_updates.proofs.CreatedRows.{path_after, path_at_start, start_kept}
use Rattle.cy_updates_meaning.proofs.InTurn.{or_wants}
use Rattle.cy_updates.proofs.writes.creating.create_path.Goals as goal

pub place_node-requires-clause-there : goal.place_node-requires-clause-there
place_node-requires-clause-there c = each_left (IsInGraph c.args.store.now.graph.now.content) c.args.before.now c.args.made.now.cells.items c.requires.there.row

pub returns-in_err-place_node-clause-meaning : goal.returns-in_err-place_node-clause-meaning
returns-in_err-place_node-clause-meaning c =
    let p = err_from_is_err_and c.from_residual.result c.from_residual.ensures.1 in
    let why = c.in_err-place_node.field-0.0 in
    rw (p.1, p.2) (or_wants why (path_at_start c.args.before.now (path_of c.args.path.now) (creation c.args.store.now.graph.now c.args.before.now c.args.made.now) why) c.in_err-place_node.ensures.meaning)

pub create_steps-requires-clause-there : goal.create_steps-requires-clause-there
create_steps-requires-clause-there c =
    let row = c.args.before.now in
    start_kept row (creation c.args.store.now.graph.now row c.args.made.now) (creation c.place_node.new.store.graph.now row c.place_node.new.made) c.laws.ensures c.requires.there ((path_of c.args.path.now).start)
    c.in_ok-place_node.ensures.meaning

pub returns-clause-meaning : goal.returns-clause-meaning
returns-clause-meaning c =
    let row = c.args.before.now in
    subst (λ (m : Result Creation UpdateFault). IsAnswer c.create_steps.result (λ u. creation c.create_steps.new.store.graph.now row c.create_steps.new.made) m)
    (sym (path_after row (path_of c.args.path.now) (creation c.args.store.now.graph.now row c.args.made.now) (creation c.place_node.new.store.graph.now row c.place_node.new.made) c.in_ok-place_node.ensures.meaning))
    (rw c.deref.ensures.value at c.create_steps.ensures.meaning)
