use Rattle.std.proofs.Common.{◌≤◌, List, [], sym, refl, ap, subst, arith, map}
use Rattle.std.specs.Prelude.{Ok}
use Rattle.std.proofs.lemmas.Result.{err_from_is_err_and}
use Rattle.cy_trees.specs.declared.clauses.Query as coded
use Rattle.cy_trees.specs.Trees.{Statement}
use Rattle.cy_trees.specs.TreeModels.{query_of, statement_of}
use Rattle.cy_updates_meaning.specs.Faults.{◌>>=◌}
use Rattle.cy_updates_meaning.specs.Statements.{outcome_of}
use Rattle.cy_updates.specs.internal.Queries.{HaveCome}
use Rattle.cy_updates_meaning.proofs.InTurn.{or_wants}
use Rattle.cy_updates.proofs.QuerySteps.{answered}
use Rattle.cy_updates.proofs.statements.execute_in_change.Goals as goal

pub each_query-requires-clause-graph : goal.each_query-requires-clause-graph
each_query-requires-clause-graph c = c.laws.ensures

-- each query of a checked statement is checked
pub each_query-requires-clause-checked : goal.each_query-requires-clause-checked
each_query-requires-clause-checked c =
    rw (c.as_slice-queries.ensures.value, c.statement-statement.ensures.tree) (c.checked_statements.ensures.each (statement_of c.args.checked.now) c.statement-statement.ensures.checked)

-- the fault of a query is that of the statement
pub returns-in_err-reached-clause-meaning : goal.returns-in_err-reached-clause-meaning
returns-in_err-reached-clause-meaning c =
    let p = err_from_is_err_and c.from_residual.result c.from_residual.ensures.1 in
    let why = c.in_err-reached.field-0.0 in
    rw (p.1, p.2, sym c.statement-statement.ensures.tree) (or_wants why (ap (λ r. r >>= λ done. Ok (outcome_of (statement_of c.statement-statement.result.now) done))) (rw c.as_slice-queries.ensures.value at c.in_err-reached.ensures.refused))

pub overflow_sub-made_nodes : goal.overflow_sub-made_nodes
overflow_sub-made_nodes c =
    let up : c.args.store.now.graph.now.next_node ≤ c.each_query.new.store.graph.now.next_node = c.in_ok-reached.ensures.reached.gone.nodes_up in
    omega (arith, up, c.next_numbers.ensures.node, c.next_numbers-2.ensures.node)

pub overflow_sub-made_rels : goal.overflow_sub-made_rels
overflow_sub-made_rels c =
    let up : c.args.store.now.graph.now.next_rel ≤ c.each_query.new.store.graph.now.next_rel = c.in_ok-reached.ensures.reached.gone.rels_up in
    omega (arith, up, c.next_numbers.ensures.rel, c.next_numbers-2.ensures.rel)

pub returns-clause-meaning : goal.returns-clause-meaning
returns-clause-meaning c =
    let first = c.args.store.now.graph.now in
    let now = c.each_query.new.store.graph.now in
    let statement : Statement = statement_of c.statement-statement.result.now in
    let after = c.in_ok-reached.reached in
    let come : HaveCome first now statement.queries after [] =
    subst (λ (qs : List coded.Query). HaveCome first now (map query_of qs) after []) c.as_slice-queries.ensures.value c.in_ok-reached.ensures.reached in
    let node_up : first.next_node ≤ now.next_node = come.gone.nodes_up in
    let rel_up : first.next_rel ≤ now.next_rel = come.gone.rels_up in
    rw (sym c.statement-statement.ensures.tree)
    (answered first now statement after come (c.counts_agree.ensures.statements first statement c.laws.ensures) _ refl
    (omega (arith, node_up, c.next_numbers.ensures.node, c.next_numbers-2.ensures.node)) refl (omega (arith, rel_up, c.next_numbers.ensures.rel, c.next_numbers-2.ensures.rel)) refl refl
    (rw c.as_slice-queries.ensures.value at c.put_together.ensures))
