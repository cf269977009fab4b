use Rattle.std.proofs.Common.{List, [], map, cond, ap, subst, ◌∙◌}
use Rattle.std.proofs.lemmas.Result.{err_from_is_err_and}
use Rattle.cy_trees.specs.declared.clauses.Clause.{Clause}
use Rattle.cy_trees.specs.Trees.{Query}
use Rattle.cy_trees.specs.TreeModels.{clause_of, query_of}
use Rattle.cy_scope.specs.Views.{ends_with_return}
use Rattle.cy_updates.specs.internal.Reached.{IsReached}
use Rattle.cy_updates_meaning.proofs.InTurn.{or_wants}
use Rattle.cy_updates.proofs.QuerySteps.{query_done, query_stopped}
use Rattle.cy_updates.proofs.queries.execute_query.Goals as goal

pub each_clause-requires-clause-checked : goal.each_clause-requires-clause-checked
each_clause-requires-clause-checked c = rw c.as_slice-clauses.ensures.value c.requires.checked

-- the fault of a clause is that of the query
pub returns-in_err-reached-clause-meaning : goal.returns-in_err-reached-clause-meaning
returns-in_err-reached-clause-meaning c =
    let p = err_from_is_err_and c.from_residual.result c.from_residual.ensures.1 in
    let why = c.in_err-reached.field-0.0 in
    rw (p.1, p.2) (or_wants why (query_stopped c.args.store.now.graph.now (query_of c.args.query.now) why) (rw c.as_slice-clauses.ensures.value at c.in_err-reached.ensures.refused))

pub returns-clause-meaning : goal.returns-clause-meaning
returns-clause-meaning c =
    let first = c.args.store.now.graph.now in
    let now = c.each_clause.new.store.graph.now in
    let query : Query = query_of c.args.query.now in
    let after = c.in_ok-reached.reached in
    let reached : IsReached first now query after [] =
    subst (λ (cs : List Clause). IsReached first now (let q : Query = record { clauses = map clause_of cs } in q) after []) c.as_slice-clauses.ensures.value c.in_ok-reached.ensures.reached in
    query_done first now query after reached _ (rw c.as_slice-clauses.ensures.value at c.answered.ensures.rows)

pub returns-clause-columns : goal.returns-clause-columns
returns-clause-columns c =
    let first = c.args.store.now.graph.now in
    let now = c.each_clause.new.store.graph.now in
    let query : Query = query_of c.args.query.now in
    let after = c.in_ok-reached.reached in
    let reached : IsReached first now query after [] =
    subst (λ (cs : List Clause). IsReached first now (let q : Query = record { clauses = map clause_of cs } in q) after []) c.as_slice-clauses.ensures.value c.in_ok-reached.ensures.reached in
    (rw c.as_slice-clauses.ensures.value at c.answered.ensures.columns) ∙ ap (λ l. cond (ends_with_return query.clauses) l []) reached.names
