use Rattle.std.proofs.Common.{◌+◌, ◌≤◌, IsSome, List, Option, sym, ap, subst, ◌∙◌, drop, map, refl, arith}
use Rattle.std.proofs.lemmas.Result.{err_from_is_err_and}
use Rattle.cy_trees.specs.Trees.{Clause, Query}
use Rattle.cy_trees.specs.TreeModels.{clause_of}
use Rattle.cy_graph.specs.Graph.{State, number_end}
use Rattle.cy_oneshot_meaning.proofs.ClauseLemmas.{same_clause, same_rows_of}
use Rattle.cy_updates.specs.declared.clauses.Updated.{Updated}
use Rattle.cy_updates.specs.internal.Reached.{IsReached, LeadsTo}
use Rattle.cy_oneshot.proofs.Marked.{all_left}
use Rattle.cy_updates_meaning.proofs.Bags.{same_clauses}
use Rattle.cy_updates.proofs.ClauseSteps.{few_nodes_gone, few_rels_gone, rows_wide}
use Rattle.cy_updates_meaning.proofs.InTurn.{next_in, none_in, or_wants}
use Rattle.cy_updates.proofs.ReachedSteps.{reached_first, reached_more, reached_stops}
use Rattle.cy_updates.proofs.queries.each_clause.Goals as goal

pub loop-at-init : goal.loop-at-init
loop-at-init c =
    let query : Query = record { clauses = map clause_of c.args.clauses.now } in
    let first = c.in_ok-first.ensures in
    let done = c.with_none_gone-done.ensures in
    record {
      reached = reached_first c.args.store.now.graph.now query c.requires.checked c.with_none_gone-done.result
          (ap (λ (u : Updated). u.table.columns.items) done ∙ first.columns) (ap (λ (u : Updated). u.table.rows.items) done ∙ first.rows)
          (ap (λ (u : Updated). u.gone.nodes) done) (ap (λ (u : Updated). u.gone.rels) done);
      graph = c.requires.graph;
      was = refl;
      opened = c.requires.open;
      indexes = refl;
    }

pub after_clause-requires-clause-there : goal.after_clause-requires-clause-there
after_clause-requires-clause-there c = c.loop-at.invariant.reached.there

pub after_clause-requires-clause-width : goal.after_clause-requires-clause-width
after_clause-requires-clause-width c = rows_wide _ _ _ c.loop-at.invariant.reached.resolved

pub returns-in_err-after-clause-refused : goal.returns-in_err-after-clause-refused
returns-in_err-after-clause-refused c =
    let l = c.loop-at in
    let clauses = c.args.clauses.now in
    let query : Query = record { clauses = map clause_of clauses } in
    let p = err_from_is_err_and c.from_residual-in_err-after.result c.from_residual-in_err-after.ensures.1 in
    let why = c.in_err-after.field-0.0 in
    rw (p.1, p.2) (or_wants why
    (reached_stops c.args.store.now.graph.now l.store.graph.now query l.done (clause_of c.index-clauses-at.result) (map clause_of (drop (l.at + 1) clauses)) (map clause_of (drop l.at clauses))
    (next_in clause_of clauses l.at c.index-clauses-at.result c.loop-at-test.true c.index-clauses-at.is) l.invariant.reached why) c.in_err-after.ensures.meaning)

pub overflow_add-nodes : goal.overflow_add-nodes
overflow_add-nodes c =
    let l = c.loop-at in
    let most : l.done.gone.nodes + c.in_ok-after.after.gone.nodes ≤ number_end =
    few_nodes_gone c.args.store.now.graph.now l.store.graph.now c.after_clause.new.store.graph.now c.requires.graph c.laws.ensures _ _ _ _ l.invariant.reached.gone c.in_ok-after.ensures.gone in
    omega (arith, most)

pub overflow_add-rels : goal.overflow_add-rels
overflow_add-rels c =
    let l = c.loop-at in
    let most : l.done.gone.rels + c.in_ok-after.after.gone.rels ≤ number_end =
    few_rels_gone c.args.store.now.graph.now l.store.graph.now c.after_clause.new.store.graph.now c.requires.graph c.laws.ensures _ _ _ _ l.invariant.reached.gone c.in_ok-after.ensures.gone in
    omega (arith, most)

pub loop-at-preserved : goal.loop-at-preserved
loop-at-preserved c =
    let l = c.loop-at in
    let clauses = c.args.clauses.now in
    let query : Query = record { clauses = map clause_of clauses } in
    let total = c.row_order_laws.ensures.total in
    let after = c.in_ok-after.ensures in
    record {
      reached = reached_more total (same_clauses total (λ graph clause rows others reads same. same_clause total graph rows others same clause)) (λ graph p rows others same. same_rows_of total graph rows others same p)
          c.args.store.now.graph.now l.store.graph.now c.after_clause.new.store.graph.now query l.done c.in_ok-after.after (clause_of c.index-clauses-at.result)
          (map clause_of (drop (l.at + 1) clauses)) (map clause_of (drop l.at clauses))
          (next_in clause_of clauses l.at c.index-clauses-at.result c.loop-at-test.true c.index-clauses-at.is) l.invariant.reached l.invariant.graph
          (subst (λ cs. LeadsTo l.store.graph.now l.done.table.columns.items l.done.table.rows.items (clause_of c.index-clauses-at.result) (map clause_of cs) c.after_clause.new.store.graph.now c.in_ok-after.after.table.rows.items) (all_left clauses (l.at + 1)) after.meaning) after.ordered after.columns after.gone _ refl refl refl;
      graph = c.laws.ensures;
      was = after.open ∙ l.invariant.was;
      opened = subst (λ (o : Option State). IsSome o) (sym after.open) l.invariant.opened;
      indexes = after.indexes ∙ l.invariant.indexes;
    }

pub returns-clause-reached : goal.returns-clause-reached
returns-clause-reached c =
    let l = c.loop-at in
    let clauses = c.args.clauses.now in
    let query : Query = record { clauses = map clause_of clauses } in
    subst (λ (cs : List Clause). IsReached c.args.store.now.graph.now l.store.graph.now query l.done cs) (none_in clause_of clauses l.at c.loop-at-test.false) l.invariant.reached
