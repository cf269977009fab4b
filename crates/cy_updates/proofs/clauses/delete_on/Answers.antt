use Rattle.std.proofs.Common.{[], ap, sym, ◌∙◌}
use Rattle.std.specs.Prelude.{Ok}
use Rattle.std.proofs.lemmas.Result.{err_from_is_err_and}
use Rattle.cy_updates_meaning.specs.Faults.{◌>>=◌}
use Rattle.cy_updates_meaning.specs.internal.Answers.{graph_table}
use Rattle.cy_updates_meaning.proofs.InTurn.{or_wants}
use Rattle.cy_updates.proofs.clauses.delete_on.Goals as goal

pub returns-in_err-gone-clause-meaning : goal.returns-in_err-gone-clause-meaning
returns-in_err-gone-clause-meaning c =
    let p = err_from_is_err_and c.from_residual.result c.from_residual.ensures.1 in
    rw (p.1, p.2) (or_wants c.in_err-gone.field-0.0 (ap (λ r. r >>= λ after. Ok (graph_table after []))) (rw (c.deref.ensures.value, c.deref-2.ensures.value) at c.in_err-gone.ensures.meaning))

pub returns-clause-meaning : goal.returns-clause-meaning
returns-clause-meaning c =
    ap (λ r. r >>= λ after. Ok (graph_table after [])) (rw (c.deref.ensures.value, c.deref-2.ensures.value) at c.in_ok-gone.ensures.meaning) ∙ ap (λ rows. Ok (graph_table c.delete.new.store.graph.now rows)) (sym c.new.ensures.items)
