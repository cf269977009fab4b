use Rattle.std.proofs.Common.{map, sym, ◌∙◌}
use Rattle.std.proofs.lemmas.Bool.{false≢true}
use Rattle.std.proofs.lemmas.Result.{err_from_is_err_and}
use Rattle.cy_trees.specs.TreeModels.{clause_of}
use Rattle.cy_updates.proofs.ClauseSteps.{none_gone, read_done, read_in_order, read_stopped, return_reads, update_next}
use Rattle.cy_updates.proofs.queries.after_clause.Goals as goal

pub update-requires-clause-updates : goal.update-requires-clause-updates
update-requires-clause-updates c = sym c.is_update.ensures ∙ c.if-is_update.true

pub returns-then-is_update-clause-meaning : goal.returns-then-is_update-clause-meaning
returns-then-is_update-clause-meaning c =
    update_next (clause_of c.args.clause.now) (sym c.is_update.ensures ∙ c.if-is_update.true) c.args.store.now.graph.now c.args.table.columns.items c.args.table.rows.items (map clause_of c.args.others.now) c.update.result c.update.new.store.graph.now c.update.ensures.meaning

pub returns-then-is_update-clause-ordered : goal.returns-then-is_update-clause-ordered
returns-then-is_update-clause-ordered c = λ returns.
    absurd (false≢true (sym (return_reads (clause_of c.args.clause.now) returns) ∙ sym c.is_update.ensures ∙ c.if-is_update.true))

pub read_clause_before-requires-clause-reading : goal.read_clause_before-requires-clause-reading
read_clause_before-requires-clause-reading c = sym c.is_update.ensures ∙ c.if-is_update.false

pub returns-in_err-after-clause-meaning : goal.returns-in_err-after-clause-meaning
returns-in_err-after-clause-meaning c =
    let p = err_from_is_err_and c.from_residual.result c.from_residual.ensures.1 in
    rw (p.1, p.2) (read_stopped (clause_of c.args.clause.now) (sym c.is_update.ensures ∙ c.if-is_update.false) c.args.store.now.graph.now c.args.table.rows.items c.in_err-after.field-0.0 c.in_err-after.ensures.rows)

pub returns-clause-meaning : goal.returns-clause-meaning
returns-clause-meaning c =
    rw c.with_none_gone.ensures
    (read_done (clause_of c.args.clause.now) (sym c.is_update.ensures ∙ c.if-is_update.false) c.args.store.now.graph.now c.args.table.rows.items c.args.table.columns.items (map clause_of c.args.others.now) c.in_ok-after.after.rows.items c.in_ok-after.ensures.rows)

pub returns-clause-ordered : goal.returns-clause-ordered
returns-clause-ordered c = λ returns.
    rw c.with_none_gone.ensures
    (read_in_order (clause_of c.args.clause.now) (sym c.is_update.ensures ∙ c.if-is_update.false) c.args.store.now.graph.now c.args.table.rows.items c.in_ok-after.after.rows.items (c.in_ok-after.ensures.ordered returns))

pub returns-clause-gone : goal.returns-clause-gone
returns-clause-gone c = rw c.with_none_gone.ensures (none_gone c.args.store.now.graph.now)
