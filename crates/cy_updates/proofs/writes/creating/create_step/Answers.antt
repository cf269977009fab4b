use Rattle.std.proofs.Common.{◌≡◌, Err, Ok, ap, sym, ◌∙◌, inl}
use Rattle.std.proofs.lemmas.Result.{err_from_is_err_and}
use Rattle.cy_values.proofs.Lists.{each_left}
use Rattle.cy_trees.specs.TreeModels.{step_of}
use Rattle.cy_graph.specs.Graph.{with_rel}
use Rattle.cy_index.specs.Index.{StoreState}
use Rattle.cy_oneshot_meaning.specs.Reading.{IsInGraph}
use Rattle.cy_updates_meaning.specs.Creating.{Creation}
use Rattle.cy_updates.specs.internal.Creating.{creation}
use Rattle.cy_updates.proofs.CreatedRows.{ends_there, memory_only, named_is, never_full, place_is, step_at_place, step_at_rel, step_done}
use Rattle.cy_updates_meaning.proofs.InTurn.{or_wants}
use Rattle.cy_updates.proofs.writes.creating.create_step.Goals as goal

pub new_relationship-requires : goal.new_relationship-requires
new_relationship-requires c = each_left (IsInGraph c.args.store.now.graph.now.content) c.args.before.now c.args.made.now.cells.items c.requires.there.row

pub place_node-requires-clause-there : goal.place_node-requires-clause-there
place_node-requires-clause-there c = each_left (IsInGraph c.args.store.now.graph.now.content) c.args.before.now c.args.made.now.cells.items c.requires.there.row

pub returns-in_err-rel-clause-meaning : goal.returns-in_err-rel-clause-meaning
returns-in_err-rel-clause-meaning c =
    let p = err_from_is_err_and c.from_residual-in_err-rel.result c.from_residual-in_err-rel.ensures.1 in
    let why = c.in_err-rel.field-0.0 in
    let graph = c.args.store.now.graph.now in
    let row = c.args.before.now in
    let s = step_of c.args.step.now in
    let named = named_is graph row c.args.made.now c.add_column.new.made s.relationship c.next_numbers.result.1 c.next_numbers.ensures.rel (c.in_ok-add_column.ensures.column row) c.in_ok-add_column.ensures.last in
    let at = place_is graph row c.add_column.new.made s.node c.next_numbers.result.0 c.next_numbers.ensures.node c.node_at-right.result (rw c.deref.ensures.value at c.node_at-right.ensures) in
    rw (p.1, p.2) (or_wants why (step_at_rel row s (creation graph row c.args.made.now) (creation graph row c.add_column.new.made) named c.node_at-right.result at why) c.in_err-rel.ensures.meaning)

pub returns-in_err-place_node-clause-meaning : goal.returns-in_err-place_node-clause-meaning
returns-in_err-place_node-clause-meaning c =
    let p = err_from_is_err_and c.from_residual-in_err-place_node.result c.from_residual-in_err-place_node.ensures.1 in
    let why = c.in_err-place_node.field-0.0 in
    let graph = c.args.store.now.graph.now in
    let row = c.args.before.now in
    let s = step_of c.args.step.now in
    let named = named_is graph row c.args.made.now c.add_column.new.made s.relationship c.next_numbers.result.1 c.next_numbers.ensures.rel (c.in_ok-add_column.ensures.column row) c.in_ok-add_column.ensures.last in
    let at = place_is graph row c.add_column.new.made s.node c.next_numbers.result.0 c.next_numbers.ensures.node c.node_at-right.result (rw c.deref.ensures.value at c.node_at-right.ensures) in
    rw (p.1, p.2) (or_wants why
    (step_at_place row s (creation graph row c.args.made.now) (creation graph row c.add_column.new.made) named c.node_at-right.result at c.in_ok-rel.rel c.in_ok-rel.ensures.meaning why) c.in_err-place_node.ensures.meaning)

pub add_rel-requires-clause-from : goal.add_rel-requires-clause-from
add_rel-requires-clause-from c =
    let graph = c.args.store.now.graph.now in
    let row = c.args.before.now in
    let s = step_of c.args.step.now in
    let named = named_is graph row c.args.made.now c.add_column.new.made s.relationship c.next_numbers.result.1 c.next_numbers.ensures.rel (c.in_ok-add_column.ensures.column row) c.in_ok-add_column.ensures.last in
    let at = place_is graph row c.add_column.new.made s.node c.next_numbers.result.0 c.next_numbers.ensures.node c.node_at-right.result (rw c.deref.ensures.value at c.node_at-right.ensures) in
    let ends = ends_there row s (creation graph row c.args.made.now) (creation graph row c.add_column.new.made) named c.node_at-right.result at c.in_ok-rel.rel c.in_ok-rel.ensures.meaning c.laws.ensures c.requires.there
    (creation c.place_node.new.store.graph.now row c.place_node.new.made) c.in_ok-place_node.ensures.meaning in
    ends.0

pub add_rel-requires-clause-to : goal.add_rel-requires-clause-to
add_rel-requires-clause-to c =
    let graph = c.args.store.now.graph.now in
    let row = c.args.before.now in
    let s = step_of c.args.step.now in
    let named = named_is graph row c.args.made.now c.add_column.new.made s.relationship c.next_numbers.result.1 c.next_numbers.ensures.rel (c.in_ok-add_column.ensures.column row) c.in_ok-add_column.ensures.last in
    let at = place_is graph row c.add_column.new.made s.node c.next_numbers.result.0 c.next_numbers.ensures.node c.node_at-right.result (rw c.deref.ensures.value at c.node_at-right.ensures) in
    let ends = ends_there row s (creation graph row c.args.made.now) (creation graph row c.add_column.new.made) named c.node_at-right.result at c.in_ok-rel.rel c.in_ok-rel.ensures.meaning c.laws.ensures c.requires.there
    (creation c.place_node.new.store.graph.now row c.place_node.new.made) c.in_ok-place_node.ensures.meaning in
    ends.1

pub returns-in_err-add_rel-clause-meaning : goal.returns-in_err-add_rel-clause-meaning
returns-in_err-add_rel-clause-meaning c =
    let p = err_from_is_err_and c.from_residual-in_err-add_rel.result c.from_residual-in_err-add_rel.ensures.1 in
    let refused = c.in_err-add_rel in
    let graph = c.args.store.now.graph.now in
    let row = c.args.before.now in
    let s = step_of c.args.step.now in
    let named = named_is graph row c.args.made.now c.add_column.new.made s.relationship c.next_numbers.result.1 c.next_numbers.ensures.rel (c.in_ok-add_column.ensures.column row) c.in_ok-add_column.ensures.last in
    let at = place_is graph row c.add_column.new.made s.node c.next_numbers.result.0 c.next_numbers.ensures.node c.node_at-right.result (rw c.deref.ensures.value at c.node_at-right.ensures) in
    let ends = ends_there row s (creation graph row c.args.made.now) (creation graph row c.add_column.new.made) named c.node_at-right.result at c.in_ok-rel.rel c.in_ok-rel.ensures.meaning c.laws.ensures c.requires.there
    (creation c.place_node.new.store.graph.now row c.place_node.new.made) c.in_ok-place_node.ensures.meaning in
    rw (p.1, p.2) (inl (memory_only refused.field-0.0 refused.ensures.fault (λ is. never_full c.place_node.new.store.graph.now.next_rel ends.2 (refused.ensures.full.0 (ap Err is)))))

pub returns-clause-meaning : goal.returns-clause-meaning
returns-clause-meaning c =
    let graph = c.args.store.now.graph.now in
    let row = c.args.before.now in
    let s = step_of c.args.step.now in
    let named = named_is graph row c.args.made.now c.add_column.new.made s.relationship c.next_numbers.result.1 c.next_numbers.ensures.rel (c.in_ok-add_column.ensures.column row) c.in_ok-add_column.ensures.last in
    let at = place_is graph row c.add_column.new.made s.node c.next_numbers.result.0 c.next_numbers.ensures.node c.node_at-right.result (rw c.deref.ensures.value at c.node_at-right.ensures) in
    let next : Creation = creation c.place_node.new.store.graph.now row c.place_node.new.made in
    let grown : c.add_rel.new.self.graph.now ≡ with_rel c.in_ok-rel.rel c.place_node.new.store.graph.now = ap (λ (t : StoreState). t.graph.now) c.in_ok-add_rel.ensures.added in
    step_done row s (creation graph row c.args.made.now) (creation graph row c.add_column.new.made) named c.node_at-right.result at c.in_ok-rel.rel c.in_ok-rel.ensures.meaning next c.in_ok-place_node.ensures.meaning
    ∙ (λ i. Ok (record next { graph = sym grown i }))
