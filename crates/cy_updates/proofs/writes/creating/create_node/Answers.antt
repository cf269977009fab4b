use Rattle.std.proofs.Common.{Err, Some, refl, ap}
use Rattle.std.proofs.lemmas.Result.{err_from_is_err_and}
use Rattle.cy_trees.specs.TreeModels.{node_of}
use Rattle.cy_index.specs.Index.{StoreState}
use Rattle.cy_updates.specs.declared.writes.creating.Made.{Made}
use Rattle.cy_updates.specs.internal.Creating.{creation}
use Rattle.cy_updates.proofs.CreatedRows.{node_at_map, node_done, node_made, node_refused}
use Rattle.cy_updates_meaning.proofs.InTurn.{or_wants}
use Rattle.cy_updates.proofs.writes.creating.create_node.Goals as goal

pub returns-in_err-props-clause-meaning : goal.returns-in_err-props-clause-meaning
returns-in_err-props-clause-meaning c =
    let p = err_from_is_err_and c.from_residual-in_err-props.result c.from_residual-in_err-props.ensures.1 in
    let why = c.in_err-props.field-0.0 in
    rw (p.1, p.2) (or_wants why (node_at_map c.args.store.now.graph.now c.args.before.now (node_of c.args.place.now) c.args.made.now why) c.in_err-props.ensures.answer)

pub returns-in_err-id-clause-meaning : goal.returns-in_err-id-clause-meaning
returns-in_err-id-clause-meaning c =
    let p = err_from_is_err_and c.from_residual-in_err-id.result c.from_residual-in_err-id.ensures.1 in
    let refused = c.in_err-id in
    rw (p.1, p.2) (node_refused c.args.store.now.graph.now c.args.before.now (node_of c.args.place.now) c.args.made.now c.in_ok-props.props c.in_ok-props.ensures.answer refused.field-0.0 refused.ensures.fault (λ is. refused.ensures.full.0 (ap Err is)))

pub returns-clause-meaning : goal.returns-clause-meaning
returns-clause-meaning c =
    let graph = c.args.store.now.graph.now in
    let row = c.args.before.now in
    let n = node_of c.args.place.now in
    let made = c.args.made.now in
    let more : Made = record c.add_column.new.made { last = Some c.in_ok-id.id } in
    node_done graph row n made c.in_ok-props.props c.in_ok-props.ensures.answer (λ full. let wrong = c.in_ok-id.ensures.full.1 full in cc) (creation c.add_node.new.self.graph.now row more)
    (node_made graph row n made c.in_ok-props.props c.in_ok-props.ensures.answer c.in_ok-labels.labels (rw c.deref.ensures.value at c.in_ok-labels.ensures.set) c.in_ok-id.id c.in_ok-id.ensures.number
    c.add_node.new.self.graph.now (ap (λ (t : StoreState). t.graph.now) c.in_ok-id.ensures.added) more c.in_ok-add_column.ensures.column (Some c.in_ok-id.id) refl)
