use Rattle.std.proofs.Common.{ap, map}
use Rattle.std.specs.Prelude.{Ok}
use Rattle.std.proofs.lemmas.Result.{IfOk-at_ok, err_from_is_err_and}
use Rattle.cy_trees.specs.TreeModels.{set_item_of}
use Rattle.cy_updates_meaning.specs.Faults.{◌>>=◌}
use Rattle.cy_updates_meaning.specs.internal.Answers.{graph_table}
use Rattle.cy_updates.proofs.ClauseSteps.{none_gone_same}
use Rattle.cy_updates_meaning.proofs.Graphs.{Kept}
use Rattle.cy_updates_meaning.proofs.InTurn.{or_wants}
use Rattle.cy_updates_meaning.proofs.SetGraphs.{set_kept}
use Rattle.cy_updates.proofs.clauses.set_on.Goals as goal

pub returns-in_err-set-clause-meaning : goal.returns-in_err-set-clause-meaning
returns-in_err-set-clause-meaning c =
    let p = err_from_is_err_and c.from_residual.result c.from_residual.ensures.1 in
    rw (p.1, p.2) (or_wants c.in_err-set.field-0.0 (ap (λ r. r >>= λ after. Ok (graph_table after c.args.table.rows.items))) (rw c.deref.ensures.value at c.in_err-set.ensures.meaning))

pub returns-clause-meaning : goal.returns-clause-meaning
returns-clause-meaning c = rw c.with_none_gone.ensures (ap (λ r. r >>= λ after. Ok (graph_table after c.args.table.rows.items)) (rw c.deref.ensures.value at c.in_ok-set.ensures.meaning))

pub returns-clause-gone : goal.returns-clause-gone
returns-clause-gone c =
    let before = c.args.store.now.graph.now in
    let kept = IfOk-at_ok (Kept before) (rw c.deref.ensures.value at c.in_ok-set.ensures.meaning) (set_kept (map set_item_of c.args.items.now) c.args.table.rows.items before c.laws.ensures) in
    rw c.with_none_gone.ensures (none_gone_same before c.set.new.store.graph.now kept.same)
