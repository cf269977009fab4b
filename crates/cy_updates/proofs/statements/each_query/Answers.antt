use Rattle.std.proofs.Common.{◌+◌, ◌≤◌, List, [], Option, IsSome, drop, map, sym, ap, subst, ◌∙◌, refl, arith}
use Rattle.std.specs.List.{All}
use Rattle.std.proofs.lemmas.List.Elements.{All-head, All-tail}
use Rattle.std.proofs.lemmas.Result.{err_from_is_err_and}
use Rattle.cy_trees.specs.declared.clauses.Query as coded
use Rattle.cy_trees.specs.Trees.{Query}
use Rattle.cy_trees.specs.TreeModels.{query_of}
use Rattle.cy_graph.specs.Graph.{State, number_end}
use Rattle.cy_scope.specs.Checked.{IsChecked, single}
use Rattle.cy_updates.specs.declared.clauses.Updated.{Updated}
use Rattle.cy_updates.specs.internal.Queries.{HaveCome}
use Rattle.cy_updates_meaning.proofs.InTurn.{next_in, none_in, or_wants}
use Rattle.cy_updates.proofs.ClauseSteps.{few_nodes_gone, few_rels_gone}
use Rattle.cy_updates.proofs.QuerySteps.{come_stops, first_come, first_stops, more_come, no_query, none_come}
use Rattle.cy_updates.proofs.statements.each_query.Goals as goal

-- a statement without a query
pub returns-in_default-clause-reached : goal.returns-in_default-clause-reached
returns-in_default-clause-reached c =
    let first = c.args.store.now.graph.now in
    let done = c.with_none_gone.ensures in
    subst (λ (qs : List coded.Query). HaveCome first first (map query_of qs) c.with_none_gone.result []) (sym (no_query c.args.queries.now c.in_default.ensures.cases))
    (none_come first c.with_none_gone.result (ap (λ (u : Updated). u.table.columns.items) done ∙ c.no_table.ensures.columns) (ap (λ (u : Updated). u.table.rows.items) done ∙ c.no_table.ensures.rows)
    (ap (λ (u : Updated). u.gone.nodes) done) (ap (λ (u : Updated). u.gone.rels) done))

-- the first query
pub execute_query-requires-clause-checked : goal.execute_query-requires-clause-checked
execute_query-requires-clause-checked c =
    All-head (λ (q : Query). IsChecked (single q)) (query_of c.in-Some.first.now) (map query_of c.in-Some.others.now)
    (subst (All (λ (q : Query). IsChecked (single q))) (ap (map query_of) c.in-Some.ensures.cases.0) c.requires.checked)

pub returns-in_err-done-clause-refused : goal.returns-in_err-done-clause-refused
returns-in_err-done-clause-refused c =
    let p = err_from_is_err_and c.from_residual.result c.from_residual.ensures.1 in
    let why = c.in_err-done.field-0.0 in
    rw (p.1, p.2) (or_wants why
    (first_stops c.args.store.now.graph.now (map query_of c.args.queries.now) (map query_of c.in-Some.others.now) (query_of c.in-Some.first.now) (ap (map query_of) c.in-Some.ensures.cases.0) why) c.in_err-done.ensures.meaning)

pub loop-query-init : goal.loop-query-init
loop-query-init c =
    let are = ap (map query_of) c.in-Some.ensures.cases.0 in
    let done = c.in_ok-done.ensures in
    record {
      come = first_come c.args.store.now.graph.now c.execute_query.new.store.graph.now (map query_of c.args.queries.now) (map query_of c.in-Some.others.now) (query_of c.in-Some.first.now) are
          c.in_ok-done.done done.meaning done.columns done.gone;
      checked = All-tail (λ (q : Query). IsChecked (single q)) (query_of c.in-Some.first.now) (map query_of c.in-Some.others.now) (subst (All (λ (q : Query). IsChecked (single q))) are c.requires.checked);
      graph = c.laws.ensures;
      was = done.open;
      opened = subst (λ (o : Option State). IsSome o) (sym done.open) c.requires.open;
      indexes = done.indexes;
    }

-- the next one
pub execute_query-requires-in-loop-query-clause-checked : goal.execute_query-requires-in-loop-query-clause-checked
execute_query-requires-in-loop-query-clause-checked c =
    let l = c.loop-query in
    let others = c.in-Some.others.now in
    All-head (λ (q : Query). IsChecked (single q)) (query_of c.query-item.result) (map query_of (drop (l.query-index + 1) others))
    (subst (All (λ (q : Query). IsChecked (single q))) (next_in query_of others l.query-index c.query-item.result c.loop-query-test.true c.query-item.is) l.invariant.checked)

pub returns-in_err-more-clause-refused : goal.returns-in_err-more-clause-refused
returns-in_err-more-clause-refused c =
    let l = c.loop-query in
    let others = c.in-Some.others.now in
    let p = err_from_is_err_and c.from_residual-in_err-more.result c.from_residual-in_err-more.ensures.1 in
    let why = c.in_err-more.field-0.0 in
    rw (p.1, p.2) (or_wants why
    (come_stops c.args.store.now.graph.now l.store.graph.now l.store.graph.now (map query_of c.args.queries.now) (map query_of (drop l.query-index others)) (map query_of (drop (l.query-index + 1) others))
    (query_of c.query-item.result) (next_in query_of others l.query-index c.query-item.result c.loop-query-test.true c.query-item.is) l.done l.invariant.come why) c.in_err-more.ensures.meaning)

pub overflow_add-nodes : goal.overflow_add-nodes
overflow_add-nodes c =
    let l = c.loop-query in
    let most : l.done.gone.nodes + c.in_ok-more.more.gone.nodes ≤ number_end =
    few_nodes_gone c.args.store.now.graph.now l.store.graph.now c.execute_query-in-loop-query.new.store.graph.now c.requires.graph c.laws-in-loop-query.ensures _ _ _ _ l.invariant.come.gone c.in_ok-more.ensures.gone in
    omega (arith, most)

pub overflow_add-rels : goal.overflow_add-rels
overflow_add-rels c =
    let l = c.loop-query in
    let most : l.done.gone.rels + c.in_ok-more.more.gone.rels ≤ number_end =
    few_rels_gone c.args.store.now.graph.now l.store.graph.now c.execute_query-in-loop-query.new.store.graph.now c.requires.graph c.laws-in-loop-query.ensures _ _ _ _ l.invariant.come.gone c.in_ok-more.ensures.gone in
    omega (arith, most)

pub loop-query-preserved : goal.loop-query-preserved
loop-query-preserved c =
    let l = c.loop-query in
    let others = c.in-Some.others.now in
    let more = c.in_ok-more.ensures in
    let next = next_in query_of others l.query-index c.query-item.result c.loop-query-test.true c.query-item.is in
    record {
      come = more_come c.args.store.now.graph.now l.store.graph.now c.execute_query-in-loop-query.new.store.graph.now (map query_of c.args.queries.now) (map query_of (drop l.query-index others))
          (map query_of (drop (l.query-index + 1) others)) (query_of c.query-item.result) next l.done l.invariant.come c.in_ok-more.more.table.rows.items _ _ more.meaning more.gone _ refl c.in_ok-append.ensures.items refl refl;
      checked = All-tail (λ (q : Query). IsChecked (single q)) (query_of c.query-item.result) (map query_of (drop (l.query-index + 1) others)) (subst (All (λ (q : Query). IsChecked (single q))) next l.invariant.checked);
      graph = c.laws-in-loop-query.ensures;
      was = more.open ∙ l.invariant.was;
      opened = subst (λ (o : Option State). IsSome o) (sym more.open) l.invariant.opened;
      indexes = more.indexes ∙ l.invariant.indexes;
    }

pub returns-clause-reached : goal.returns-clause-reached
returns-clause-reached c =
    let l = c.loop-query in
    subst (λ (qs : List Query). HaveCome c.args.store.now.graph.now l.store.graph.now (map query_of c.args.queries.now) l.done qs) (none_in query_of c.in-Some.others.now l.query-index c.loop-query-test.false) l.invariant.come
