use Rattle.std.proofs.Common.{sym, ap, map, subst, inl}
use Rattle.std.specs.Prelude.{Ok}
use Rattle.std.proofs.lemmas.Result.{err_from_is_err_and}
use Rattle.cy_trees.specs.TreeModels.{remove_item_of}
use Rattle.cy_updates_meaning.specs.internal.Answers.{graph_table}
use Rattle.cy_updates.proofs.ClauseSteps.{none_gone_same}
use Rattle.cy_updates_meaning.proofs.Graphs.{Kept}
use Rattle.cy_updates_meaning.proofs.SetGraphs.{remove_kept}
use Rattle.cy_updates.proofs.clauses.remove_on.Goals as goal

pub returns-in_err-remove-clause-meaning : goal.returns-in_err-remove-clause-meaning
returns-in_err-remove-clause-meaning c =
    let p = err_from_is_err_and c.from_residual.result c.from_residual.ensures.1 in
    rw (p.1, p.2) (inl c.in_err-remove.ensures.memory)

pub returns-clause-meaning : goal.returns-clause-meaning
returns-clause-meaning c = rw c.with_none_gone.ensures (ap (λ g. Ok (graph_table g c.args.table.rows.items)) (sym (rw c.deref.ensures.value at c.in_ok-remove.ensures.changed)))

pub returns-clause-gone : goal.returns-clause-gone
returns-clause-gone c =
    let before = c.args.store.now.graph.now in
    let kept = subst (Kept before) (sym (rw c.deref.ensures.value at c.in_ok-remove.ensures.changed)) (remove_kept (map remove_item_of c.args.items.now) c.args.table.rows.items before c.laws.ensures) in
    rw c.with_none_gone.ensures (none_gone_same before c.remove.new.store.graph.now kept.same)
