-- How far a query has come, with one clause more.
use Rattle.std.proofs.Common.{◌≡◌, ℕ, ◌+◌, true, false, cond, List, [], ◌∷◌, length, map, None, IsTrue, refl, sym, ap, subst, ◌∙◌, arith}
use Rattle.std.specs.Prelude.{◌&&◌, Bool, Result, Ok, Err, IfOk}
use Rattle.std.specs.List.{AllByRecursion}
use Rattle.std.specs.Cmp.{IsTotalOrder}
use Rattle.std.proofs.lemmas.Bool.{and_parts, false≢true}
use Rattle.cy_values.specs.declared.rows.Cell.{Cell}
use Rattle.cy_values.specs.declared.rows.Cell.TheVariants as cell
use Rattle.cy_values.specs.declared.scalars.Value.TheVariants as value
use Rattle.cy_values.specs.Bag.{IsSameBag}
use Rattle.cy_values.specs.Order.{row_cmp}
use Rattle.cy_trees.specs.Trees.{Name, Clause, Projection, Query, Statement, «match», unwind}
use Rattle.cy_scope.specs.Checked.{IsChecked, single}
use Rattle.cy_scope.specs.ClauseFaults.{clause_fault, later_query_fault, queries_fault, query_fault}
use Rattle.cy_scope.specs.ClauseScopes.{query_scope, scope_after}
use Rattle.cy_scope.specs.Resolved.{resolved_clause, resolved_query}
use Rattle.cy_scope_kinds.specs.Faults.{first_fault}
use Rattle.cy_scope_kinds.specs.Rows.{is_cell_of, row_fits}
use Rattle.cy_scope_kinds.specs.Scopes.{Scope}
use Rattle.cy_scope.specs.Views.{ends_with_return, is_return, is_update}
use Rattle.cy_scope.proofs.KindedExpressions.{first_none}
use Rattle.cy_graph.specs.Graph.{Content, State, IsGraph}
use Rattle.cy_expr.specs.declared.faults.EvalFault.{EvalFault}
use Rattle.cy_oneshot.specs.declared.table.Table.{Table}
use Rattle.cy_oneshot_meaning.specs.Projection.{projection_rows}
use Rattle.cy_oneshot_meaning.specs.Queries.{columns_after, columns_after_all, rows_after}
use Rattle.cy_oneshot_meaning.specs.Reading.{AreInGraph, IsInGraph}
use Rattle.cy_oneshot.specs.Carried.{carried_from, is_needed}
use Rattle.cy_oneshot.proofs.Carried.{row_there}
use Rattle.cy_oneshot_meaning.proofs.Each.{each_map}
use Rattle.cy_oneshot_meaning.proofs.InGraphClauses.{clause_there}
use Rattle.cy_oneshot_meaning.proofs.QueryLemmas.{last_later}
use Rattle.cy_oneshot_meaning.proofs.ScopeClauses as reading
use Rattle.cy_oneshot_meaning.proofs.ScopeColumns.{clause_columns}
use Rattle.cy_updates.specs.declared.clauses.Updated.{Updated}
use Rattle.cy_updates_meaning.specs.declared.faults.UpdateFault.{UpdateFault}
use Rattle.cy_updates_meaning.specs.Bags.{IsSameProgress, IsSameResult}
use Rattle.cy_updates_meaning.specs.Counts.{Counts, counts_between, no_counts, plus}
use Rattle.cy_updates_meaning.specs.Faults.{◌>>=◌, each_in_turn, evaluated}
use Rattle.cy_updates_meaning.specs.Statements.{GraphTable, Progress, after_clause, after_reading, after_updating, updated}
use Rattle.cy_updates_meaning.specs.internal.Gone.{AreGone}
use Rattle.cy_updates.specs.internal.Reached.{AreResolved, IsReached, LeadOn, LeadsTo, at_end, carried_after, opening, progress}
use Rattle.cy_updates_meaning.proofs.Bags.{same_itself}
use Rattle.cy_updates_meaning.proofs.UpdatedGraphs.{Come, clause_come}
use Rattle.cy_updates.proofs.CarriedOn.{goes_on_by}
use Rattle.cy_updates.proofs.ClauseSteps.{IsWritten, carried_return, each_of_same, first_written, gone_then, more_bag, more_ordered, none_gone, resolved_updates, rows_wide, same_fault}
use Rattle.cy_updates_meaning.proofs.ScopedRows.{clause_fits}
use Rattle.cy_updates_meaning.proofs.StoredValues.{and_then, if_ok_weaker}

abbrev Fits : Scope → List Cell → Type 0
Fits scope row = IsTrue (row_fits scope row)

-- ---- the rows after a clause fit the scope after it

module _ (graph : State) (scope : Scope) (w : Clause) (rows : List (List Cell)) (counts : Counts) where
  abbrev later : Scope
  later = scope_after scope w

  abbrev c : Clause
  c = resolved_clause scope later w

  abbrev p : Progress
  p = progress graph rows counts

  updating_fits : IfOk (updated graph c rows) (λ (t : GraphTable). AllByRecursion (Fits later) t.rows) → IfOk (after_updating c p) (λ (next : Progress). AllByRecursion (Fits later) next.rows)
  updating_fits fits =
      and_then (λ (t : GraphTable). AllByRecursion (Fits later) t.rows) (λ (next : Progress). AllByRecursion (Fits later) next.rows)
      (λ after. Ok (progress after.graph after.rows (plus counts (counts_between graph.content after.graph.content)))) (λ after here. here) (updated graph c rows) fits

  reading_fits : (r : Result (List (List Cell)) EvalFault) → IfOk r (AllByRecursion (Fits later)) → IfOk (evaluated r >>= λ made. Ok (progress graph made counts)) (λ (next : Progress). AllByRecursion (Fits later) next.rows)
  reading_fits (Ok made) fits = fits
  reading_fits (Err fault) fits = tt

  pub after_fits : clause_fault scope w ≡ None → AllByRecursion (Fits scope) rows → IfOk (after_clause c p) (λ (next : Progress). AllByRecursion (Fits later) next.rows)
  after_fits good fit =
      elim (is_update w) as (λ b. is_update w ≡ b → IfOk (after_clause c p) (λ (next : Progress). AllByRecursion (Fits later) next.rows)) [
        | true ↦ λ h.
            subst (λ b. IfOk (cond b (after_updating c p) (after_reading c p)) (λ (next : Progress). AllByRecursion (Fits later) next.rows)) (sym (resolved_updates scope later w ∙ h))
            (updating_fits (clause_fits graph scope w rows good h fit))
        | false ↦ λ h.
            subst (λ b. IfOk (cond b (after_updating c p) (after_reading c p)) (λ (next : Progress). AllByRecursion (Fits later) next.rows)) (sym (resolved_updates scope later w ∙ h))
            (reading_fits (rows_after graph.content c rows) (reading.clause_fits graph.content scope w rows good h fit))
      ] refl

-- ---- what holds of each row holds of what is carried along of it

each_carried : (P : State → List Cell → Type 0) (c : Clause) (needed : List Bool) → ((graph : State) (row : List Cell) → P graph row → P graph (carried_from needed 0 row)) → (r : Result Progress UpdateFault)
    → IfOk r (λ (q : Progress). AllByRecursion (P q.graph) q.rows) → IfOk (carried_after c needed r) (λ (q : Progress). AllByRecursion (P q.graph) q.rows)
each_carried P (unwind e v) needed less (Ok q) each = each_map (P q.graph) (P q.graph) (carried_from needed 0) (less q.graph) q.rows each
each_carried P (unwind e v) needed less (Err why) each = tt
each_carried P («match» optional paths test) needed less r each = each
each_carried P _ needed less r each = each

less_fits : (needed : List Bool) (scope : Scope) (place : ℕ) (row : List Cell) → row_fits scope row ≡ true → row_fits scope (carried_from needed place row) ≡ true
less_fits needed [] place [] fit = refl
less_fits needed [] place (c ∷ row) fit = absurd (false≢true fit)
less_fits needed (v ∷ scope) place [] fit = absurd (false≢true fit)
less_fits needed (v ∷ scope) place (c ∷ row) fit =
    let parts = and_parts (is_cell_of v.1 c) (row_fits scope row) fit in
    let here : is_cell_of v.1 (cond (is_needed needed place) c (cell.Value value.Null)) ≡ true =
    elim (is_needed needed place) as (λ b. is_cell_of v.1 (cond b c (cell.Value value.Null)) ≡ true) [ true ↦ parts.0 | false ↦ refl ] in
    λ j. here j && less_fits needed scope (place + 1) row parts.1 j

-- ---- rows that name what is in the graph

same_graph : (next : Progress) (r : Result Progress UpdateFault) → IsSameResult (Ok next) r → (P : State → List Cell → Type 0) → IfOk r (λ q. AllByRecursion (P q.graph) q.rows) → IfOk r (λ q. AllByRecursion (P next.graph) q.rows)
same_graph next (Ok q) same P all = subst (λ (g : State). AllByRecursion (P g) q.rows) (sym same.0) all
same_graph next (Err why) same P all = absurd same

module _ (total : IsTotalOrder row_cmp) (graph : State) (is : IsGraph graph) (rows : List (List Cell)) (there : AreInGraph graph.content rows) (c : Clause) (next : Progress)
    (needed : List Bool) (same : IsSameResult (Ok next) (carried_after c needed (after_clause c (progress graph rows no_counts)))) where
  come_first : Come graph (progress graph rows no_counts)
  come_first = record { is = is; counted = record { node_numbers = omega arith; rel_numbers = omega arith; nodes = omega arith; rels = omega arith }; rows = there }

  pub rows_there : AreInGraph next.graph.content next.rows
  rows_there =
      each_of_same total (AllByRecursion (IsInGraph next.graph.content)) next (carried_after c needed (after_clause c (progress graph rows no_counts))) same
      (same_graph next (carried_after c needed (after_clause c (progress graph rows no_counts))) same (λ g. AllByRecursion (IsInGraph g.content))
      (each_carried (λ g. AllByRecursion (IsInGraph g.content)) c needed (λ g row here. row_there g.content needed 0 row here) (after_clause c (progress graph rows no_counts))
      (if_ok_weaker (Come graph) (λ (q : Progress). AreInGraph q.graph.content q.rows) (λ q come. come.rows) (after_clause c (progress graph rows no_counts))
      (clause_come (λ content clause others reads here. clause_there content clause others here) graph c (progress graph rows no_counts) come_first))))

-- ---- one clause more

module _ (total : IsTotalOrder row_cmp)
    (on_bags : (clauses : List Clause) (one other : Progress) → IsSameProgress one other → IsSameResult (each_in_turn after_clause clauses one) (each_in_turn after_clause clauses other))
    (ordered : (graph : Content) (p : Projection) (rows others : List (List Cell)) → IsSameBag rows others → projection_rows graph p rows ≡ projection_rows graph p others)
    (first now next : State) (query : Query) (done after : Updated) (c : Clause) (cs clauses : List Clause) (are : clauses ≡ c ∷ cs)
    (reached : IsReached first now query done clauses) (is : IsGraph now)
    (leads_to : LeadsTo now done.table.columns.items done.table.rows.items c cs next after.table.rows.items)
    (exact : IsTrue (is_return c) → (some : Counts) → (more : Counts) × (after_clause c (progress now done.table.rows.items some) ≡ Ok (progress next after.table.rows.items more)))
    (columns : after.table.columns.items ≡ columns_after done.table.columns.items c)
    (gone : AreGone now next after.gone.nodes after.gone.rels) where
  abbrev rows : List (List Cell)
  rows = done.table.rows.items

  abbrev left : List (List Cell)
  left = after.table.rows.items

  abbrev all : Counts → Result Progress UpdateFault
  all begun = each_in_turn after_clause query.clauses (opening first begun)

  leads : LeadOn first now rows (c ∷ cs) query
  leads = subst (λ (l : List Clause). LeadOn first now rows l query) are reached.leads

  abbrev returns : Bool
  returns = ends_with_return query.clauses

  abbrev needed : List Bool
  needed = leads_to.needed

  -- what the clause leaves, with what is carried along
  abbrev stands : Counts → Result Progress UpdateFault
  stands some = carried_after c needed (after_clause c (progress now rows some))

  abbrev one : (begun : Counts) → (more : Counts) × IsSameResult (Ok (progress next left more)) (stands (leads.counts begun))
  one begun = leads_to.step (leads.counts begun)

  -- the counts are those of the one outcome
  same_counts : (some more : Counts) (r : Result Progress UpdateFault) → IsSameResult (Ok (progress next left some)) r → r ≡ Ok (progress next left more) → r ≡ Ok (progress next left some)
  same_counts some more (Ok q) same is_it = let e : q ≡ progress next left more = cc in λ i. Ok (progress (sym same.0 i) (e i).rows (sym same.2 i))
  same_counts some more (Err why) same is_it = absurd same

  exactly : is_return c ≡ true → (begun : Counts) → after_clause c (progress now rows (leads.counts begun)) ≡ Ok (progress next left (one begun).0)
  exactly is_last begun =
      let found = exact is_last (leads.counts begun) in
      same_counts (one begun).0 found.0 (after_clause c (progress now rows (leads.counts begun)))
      (subst (λ (r : Result Progress UpdateFault). IsSameResult (Ok (progress next left (one begun).0)) r) (carried_return c needed (after_clause c (progress now rows (leads.counts begun))) is_last) (one begun).1) found.1

  later_returns : ends_with_return (c ∷ cs) ≡ true → (d : Clause) (ds : List Clause) → cs ≡ d ∷ ds → ends_with_return cs ≡ true
  later_returns ends d ds they =
      ap ends_with_return they ∙ sym (last_later c d ds) ∙ ap (λ l. ends_with_return (c ∷ l)) (sym they) ∙ ends

  -- the others make the same of it
  goes_on : (some : Counts) → at_end returns (stands some >>= λ p. each_in_turn after_clause cs p) ≡ at_end returns (each_in_turn after_clause (c ∷ cs) (progress now rows some))
  goes_on some =
      goes_on_by total returns (length done.table.columns.items) cs now rows needed leads_to.alike leads_to.enough leads_to.within (rows_wide done.table.columns.items rows clauses reached.resolved)
      (λ ends d ds they. later_returns (leads.returns ends c cs refl) d ds they) c some

  leads_more : LeadOn first next left cs query
  leads_more = record {
    counts = λ begun. (one begun).0;
    bag = λ begun. more_bag on_bags ordered returns c cs (progress now rows (leads.counts begun)) (progress next left (one begun).0) (stands (leads.counts begun)) (one begun).1 (goes_on (leads.counts begun))
        (at_end returns (all begun)) (leads.bag begun);
    ordered = λ ends begun. more_ordered on_bags ordered returns ends c cs (progress now rows (leads.counts begun)) (progress next left (one begun).0) (stands (leads.counts begun)) (one begun).1
        (goes_on (leads.counts begun)) (leads.returns ends c cs refl) (λ is_last. exactly is_last begun) (all begun) (leads.ordered ends begun);
    returns = λ ends d ds they. later_returns (leads.returns ends c cs refl) d ds they;
  }

  written : IsWritten done.table.columns.items rows c cs
  written = first_written done.table.columns.items rows c cs clauses are reached.resolved

  fits_later : AllByRecursion (Fits (scope_after written.scope written.written)) left
  fits_later =
      let found = leads_to.step no_counts in
      each_of_same total (Fits (scope_after written.scope written.written)) (progress next left found.0) (stands no_counts) found.1
      (each_carried (λ g. Fits (scope_after written.scope written.written)) c needed (λ g row fit. less_fits needed (scope_after written.scope written.written) 0 row fit) (after_clause c (progress now rows no_counts))
      (subst (λ (d : Clause). IfOk (after_clause d (progress now rows no_counts)) (λ (q : Progress). AllByRecursion (Fits (scope_after written.scope written.written)) q.rows)) (sym written.is)
      (after_fits now written.scope written.written rows no_counts written.good written.fit)))

  resolved_more : AreResolved after.table.columns.items left cs
  resolved_more = record {
    scope = scope_after written.scope written.written;
    written = written.others;
    good = written.others_good;
    are = written.others_are;
    names = sym (clause_columns written.scope written.written written.good) ∙ (λ i. columns_after (written.names i) (sym written.is i)) ∙ sym columns;
    fit = fits_later;
  }

  pub reached_more : (whole : Updated) → whole.table ≡ after.table → whole.gone.nodes ≡ done.gone.nodes + after.gone.nodes → whole.gone.rels ≡ done.gone.rels + after.gone.rels → IsReached first next query whole cs
  reached_more whole tables nodes rels = record {
    leads = subst (λ (t : Table). LeadOn first next t.rows.items cs query) (sym tables) leads_more;
    names = ap (λ (t : Table). columns_after_all t.columns.items cs) tables ∙ ap (λ (l : List Name). columns_after_all l cs) columns ∙ ap (columns_after_all done.table.columns.items) (sym are) ∙ reached.names;
    there = subst (λ (t : Table). AreInGraph next.content t.rows.items) (sym tables) (let found = leads_to.step no_counts in rows_there total now is rows reached.there c (progress next left found.0) needed found.1);
    resolved = subst (λ (t : Table). AreResolved t.columns.items t.rows.items cs) (sym tables) resolved_more;
    gone = subst (λ (n : ℕ). AreGone first next n whole.gone.rels) (sym nodes) (subst (λ (n : ℕ). AreGone first next (done.gone.nodes + after.gone.nodes) n) (sym rels)
        (gone_then first now next done.gone.nodes done.gone.rels after.gone.nodes after.gone.rels reached.gone gone));
  }

-- ---- the beginning

-- what a checked query was written as
pub record IsQueryWritten (query : Query) : Type 0 where
  pub written : Query
  pub good : query_fault written ≡ None
  pub is : query ≡ resolved_query written

query_written : (query : Query) → IsChecked (single query) → IsQueryWritten query
query_written query checked = by checked.0.queries checked.1 (ap (λ (s : Statement). s.queries) checked.2)
  where
    by : (ws : List Query) → queries_fault ws ≡ None → (query ∷ []) ≡ map resolved_query ws → IsQueryWritten query
    by [] good is = cc
    by (w ∷ ws) good is =
        let parts = first_none (query_fault w) (first_fault (later_query_fault (query_scope w)) ws) good in
        let head : query ≡ resolved_query w = cc in
        record { written = w; good = parts.0; is = head }

pub reached_first : (first : State) (query : Query) → IsChecked (single query) → (done : Updated) → done.table.columns.items ≡ [] → done.table.rows.items ≡ [] ∷ [] → done.gone.nodes ≡ 0 → done.gone.rels ≡ 0
    → IsReached first first query done query.clauses
reached_first first query checked done columns rows nodes rels =
    let was = query_written query checked in
    record {
      leads = subst (λ (l : List (List Cell)). LeadOn first first l query.clauses query) (sym rows) (record {
        counts = λ begun. begun;
        bag = λ begun. same_itself (at_end (ends_with_return query.clauses) (each_in_turn after_clause query.clauses (opening first begun)));
        ordered = λ ends begun. refl;
        returns = λ ends c cs they. ends;
      });
      names = ap (λ (l : List Name). columns_after_all l query.clauses) columns;
      there = subst (λ (l : List (List Cell)). AreInGraph first.content l) (sym rows) (tt, tt);
      resolved = subst (λ (l : List Name). AreResolved l done.table.rows.items query.clauses) (sym columns) (subst (λ (l : List (List Cell)). AreResolved [] l query.clauses) (sym rows) (record {
        scope = [];
        written = was.written.clauses;
        good = was.good;
        are = ap (λ (q : Query). q.clauses) was.is;
        names = refl;
        fit = (refl, tt);
      }));
      gone = subst (λ (n : ℕ). AreGone first first n done.gone.rels) (sym nodes) (subst (λ (n : ℕ). AreGone first first 0 n) (sym rels) (none_gone first));
    }

end_fault : (returns : Bool) (why : UpdateFault) (r : Result Progress UpdateFault) → at_end returns r ≡ Err why → r ≡ Err why
end_fault returns why (Ok done) is = absurd (let e : ⊥ = cc is in e)
end_fault returns why (Err other) is = is

-- a fault that a clause stops at is that of the query
pub reached_stops : (first now : State) (query : Query) (done : Updated) (c : Clause) (cs clauses : List Clause) → clauses ≡ c ∷ cs → IsReached first now query done clauses → (why : UpdateFault)
    → ((some : Counts) → after_clause c (progress now done.table.rows.items some) ≡ Err why) → (begun : Counts) → each_in_turn after_clause query.clauses (opening first begun) ≡ Err why
reached_stops first now query done c cs clauses are reached why stops begun =
    let leads : LeadOn first now done.table.rows.items (c ∷ cs) query = subst (λ (l : List Clause). LeadOn first now done.table.rows.items l query) are reached.leads in
    let here : each_in_turn after_clause (c ∷ cs) (progress now done.table.rows.items (leads.counts begun)) ≡ Err why = ap (λ r. r >>= λ p. each_in_turn after_clause cs p) (stops (leads.counts begun)) in
    let all : Result Progress UpdateFault = each_in_turn after_clause query.clauses (opening first begun) in
    let returns : Bool = ends_with_return query.clauses in
    end_fault returns why all (same_fault why (at_end returns all) (subst (λ (r : Result Progress UpdateFault). IsSameResult (at_end returns r) (at_end returns all)) here (leads.bag begun)))
