-- A statement goes on by a query.
use Rattle.std.proofs.Common.{◌≡◌, ℕ, ◌+◌, true, false, cond, List, [], ◌∷◌, ◌++◌, length, refl, sym, ap, subst, ◌∙◌, arith}
use Rattle.std.specs.Prelude.{Result, Ok, Err, IfOk}
use Rattle.cy_values.specs.declared.rows.Cell.{Cell}
use Rattle.cy_trees.specs.declared.clauses.Query as coded
use Rattle.cy_trees.specs.Trees.{Query, Statement}
use Rattle.cy_graph.specs.Graph.{State, IsGraph}
use Rattle.cy_scope.specs.Views.{ends_with_return}
use Rattle.cy_oneshot_meaning.specs.Queries.{put_together}
use Rattle.cy_updates_meaning.specs.declared.faults.UpdateFault.{UpdateFault}
use Rattle.cy_updates_meaning.specs.Bags.{IsSameResult}
use Rattle.cy_updates_meaning.specs.Counts.{AgreeWith, Counts, no_counts}
use Rattle.cy_updates_meaning.specs.Faults.{◌>>=◌, each_in_turn}
use Rattle.cy_updates_meaning.specs.Statements.{Outcome, Progress, after_clause, after_query, beginning, columns_of, outcome_of, statement_outcome, table_of}
use Rattle.cy_updates_meaning.specs.internal.Gone.{AreGone}
use Rattle.cy_updates_meaning.proofs.InTurn.{next_leads, next_stops}
use Rattle.cy_updates.specs.declared.clauses.Updated.{Updated}
use Rattle.cy_updates.specs.internal.Queries.{HaveCome, LeadsOver}
use Rattle.cy_updates.specs.internal.Reached.{IsReached, at_end, opening, progress}
use Rattle.cy_updates.proofs.ClauseSteps.{gone_then, none_gone}

-- ---- one query

-- what a query makes of what its clauses come to, after other rows
abbrev with_table : Query → List (List Cell) → Result Progress UpdateFault → Result Progress UpdateFault
with_table query rows r = r >>= λ done. Ok (record done { rows = rows ++ table_of query done.rows })

module _ (first now : State) (query : Query) (after : Updated) (reached : IsReached first now query after []) (left : List (List Cell))
    (left_is : left ≡ cond (ends_with_return query.clauses) after.table.rows.items []) where
  -- what the clauses come to
  abbrev reaches : Counts → Progress
  reaches some = progress now after.table.rows.items (reached.leads.counts some)

  -- the rows of RETURN are the same ones in their order
  same_table : (some : Counts) (q : Progress) → (ends_with_return query.clauses ≡ true → (◌≡◌ {A = Result Progress UpdateFault} (Ok (reaches some)) (Ok q))) → table_of query q.rows ≡ left
  same_table some q exact =
      elim (ends_with_return query.clauses) as (λ b. ends_with_return query.clauses ≡ b → cond b q.rows [] ≡ cond b after.table.rows.items []) [
        | true ↦ λ h. let e : reaches some ≡ q = let is = exact h in cc in ap (λ (p : Progress). p.rows) (sym e)
        | false ↦ λ h. refl
      ] refl ∙ sym left_is

  by_clauses : (rows : List (List Cell)) (some : Counts) (r : Result Progress UpdateFault)
      → IsSameResult (at_end (ends_with_return query.clauses) (Ok (reaches some))) (at_end (ends_with_return query.clauses) r)
      → (ends_with_return query.clauses ≡ true → Ok (reaches some) ≡ r)
      → with_table query rows r ≡ Ok (progress now (rows ++ left) (reached.leads.counts some))
  by_clauses rows some (Ok q) same exact = λ i. Ok (progress (sym same.0 i) (rows ++ same_table some q exact i) (sym same.2 i))
  by_clauses rows some (Err why) same exact = absurd same

  pub query_done : LeadsOver first query now left
  query_done = λ rows some. (
    reached.leads.counts some,
    by_clauses rows some (each_in_turn after_clause query.clauses (opening first some)) (reached.leads.bag some) (λ ends. reached.leads.ordered ends some),
  )

-- a fault that the clauses stop at is that of the query
pub query_stopped : (first : State) (query : Query) (why : UpdateFault) → ((some : Counts) → each_in_turn after_clause query.clauses (opening first some) ≡ Err why)
    → (rows : List (List Cell)) (some : Counts) → after_query query (progress first rows some) ≡ Err why
query_stopped first query why stops rows some = ap (with_table query rows) (stops some)

-- ---- one query more

pub no_query : (queries : List coded.Query) → length queries ≡ 0 → queries ≡ []
no_query [] none = refl
no_query (q ∷ queries) none = absurd (omega (arith, none))

pub none_come : (first : State) (done : Updated) → done.table.columns.items ≡ [] → done.table.rows.items ≡ [] → done.gone.nodes ≡ 0 → done.gone.rels ≡ 0 → HaveCome first first [] done []
none_come first done columns rows nodes rels = record {
  counts = no_counts;
  leads = ap (λ (l : List (List Cell)). Ok (progress first l no_counts)) rows;
  columns = columns;
  gone = subst (λ (n : ℕ). AreGone first first n done.gone.rels) (sym nodes) (subst (λ (n : ℕ). AreGone first first 0 n) (sym rels) (none_gone first));
}

pub first_come : (first now : State) (queries others : List Query) (query : Query) → queries ≡ query ∷ others → (done : Updated) → LeadsOver first query now done.table.rows.items
    → done.table.columns.items ≡ columns_of (query ∷ []) → AreGone first now done.gone.nodes done.gone.rels → HaveCome first now queries done others
first_come first now queries others query are done over columns gone =
    let step = over [] no_counts in
    record {
      counts = step.0;
      leads = next_leads after_query queries others query are (beginning first) (each_in_turn after_query queries (beginning first)) refl (progress now done.table.rows.items step.0) step.1;
      columns = columns ∙ ap columns_of (sym are);
      gone = gone;
    }

module _ (first now next : State) (queries left others : List Query) (query : Query) (are : left ≡ query ∷ others) (done : Updated) (come : HaveCome first now queries done left) where
  pub more_come : (added : List (List Cell)) (nodes rels : ℕ) → LeadsOver now query next added → AreGone now next nodes rels → (whole : Updated)
      → whole.table.columns.items ≡ done.table.columns.items → whole.table.rows.items ≡ done.table.rows.items ++ added → whole.gone.nodes ≡ done.gone.nodes + nodes → whole.gone.rels ≡ done.gone.rels + rels
      → HaveCome first next queries whole others
  more_come added nodes rels over gone whole columns rows nodes_are rels_are =
      let step = over done.table.rows.items come.counts in
      record {
        counts = step.0;
        leads = ap (λ (l : List (List Cell)). each_in_turn after_query others (progress next l step.0)) rows
            ∙ next_leads after_query left others query are (progress now done.table.rows.items come.counts) (each_in_turn after_query queries (beginning first)) come.leads
            (progress next (done.table.rows.items ++ added) step.0) step.1;
        columns = columns ∙ come.columns;
        gone = subst (λ (n : ℕ). AreGone first next n whole.gone.rels) (sym nodes_are) (subst (λ (n : ℕ). AreGone first next (done.gone.nodes + nodes) n) (sym rels_are)
            (gone_then first now next done.gone.nodes done.gone.rels nodes rels come.gone gone));
      }

  -- a fault that a query stops at is that of the statement
  pub come_stops : (why : UpdateFault) → ((rows : List (List Cell)) (some : Counts) → after_query query (progress now rows some) ≡ Err why) → each_in_turn after_query queries (beginning first) ≡ Err why
  come_stops why stops =
      next_stops after_query left others query are (progress now done.table.rows.items come.counts) (each_in_turn after_query queries (beginning first)) come.leads why (stops done.table.rows.items come.counts)

-- the first query stops
pub first_stops : (first : State) (queries others : List Query) (query : Query) → queries ≡ query ∷ others → (why : UpdateFault) → ((rows : List (List Cell)) (some : Counts) → after_query query (progress first rows some) ≡ Err why)
    → each_in_turn after_query queries (beginning first) ≡ Err why
first_stops first queries others query are why stops = next_stops after_query queries others query are (beginning first) (each_in_turn after_query queries (beginning first)) refl why (stops [] no_counts)

-- ---- the end

module _ (first now : State) (statement : Statement) (after : Updated) (come : HaveCome first now statement.queries after [])
    (agrees : IfOk (statement_outcome first statement) (λ (o : Outcome). IsGraph o.graph × AgreeWith first o.graph o.counts)) (seen : Outcome) (graph : seen.graph ≡ now)
    (made_nodes : seen.counts.made_nodes + first.next_node ≡ now.next_node) (gone_nodes : seen.counts.gone_nodes ≡ after.gone.nodes)
    (made_rels : seen.counts.made_rels + first.next_rel ≡ now.next_rel) (gone_rels : seen.counts.gone_rels ≡ after.gone.rels)
    (columns : seen.columns ≡ after.table.columns.items) (rows : seen.rows ≡ put_together statement.all statement.queries after.table.rows.items) where
  abbrev last : Progress
  last = progress now after.table.rows.items come.counts

  means : statement_outcome first statement ≡ Ok (outcome_of statement last)
  means = ap (λ r. r >>= λ done. Ok (outcome_of statement done)) (sym come.leads)

  agree : AgreeWith first now come.counts
  agree = (subst (λ (r : Result Outcome UpdateFault). IfOk r (λ (o : Outcome). IsGraph o.graph × AgreeWith first o.graph o.counts)) means agrees).1

  same_counts : come.counts ≡ seen.counts
  same_counts =
      let nodes_one : first.next_node + come.counts.made_nodes ≡ now.next_node = agree.node_numbers in
      let rels_one : first.next_rel + come.counts.made_rels ≡ now.next_rel = agree.rel_numbers in
      let nodes_two : length first.content.nodes + come.counts.made_nodes ≡ length now.content.nodes + come.counts.gone_nodes = agree.nodes in
      let rels_two : length first.content.rels + come.counts.made_rels ≡ length now.content.rels + come.counts.gone_rels = agree.rels in
      let nodes_three : after.gone.nodes + length now.content.nodes + first.next_node ≡ length first.content.nodes + now.next_node = come.gone.nodes_gone in
      let rels_three : after.gone.rels + length now.content.rels + first.next_rel ≡ length first.content.rels + now.next_rel = come.gone.rels_gone in
      let a : come.counts.made_nodes ≡ seen.counts.made_nodes = omega (arith, nodes_one, made_nodes) in
      let b : come.counts.gone_nodes ≡ seen.counts.gone_nodes = omega (arith, nodes_one, nodes_two, nodes_three, gone_nodes) in
      let d : come.counts.made_rels ≡ seen.counts.made_rels = omega (arith, rels_one, made_rels) in
      let e : come.counts.gone_rels ≡ seen.counts.gone_rels = omega (arith, rels_one, rels_two, rels_three, gone_rels) in
      λ i. record { made_nodes = a i; gone_nodes = b i; made_rels = d i; gone_rels = e i }

  pub answered : statement_outcome first statement ≡ Ok seen
  answered = means ∙ (λ i. Ok (record {
    graph = sym graph i;
    counts = same_counts i;
    columns = (sym come.columns ∙ sym columns) i;
    rows = sym rows i;
  }))
