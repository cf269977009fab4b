-- How far the clauses of a query have been executed.
use Rattle.std.specs.Prelude.{◌≡◌, ◌⊎◌, ◌≤◌, Bool, true, [], ◌∷◌, List, length, map, None, IsTrue, Result, Ok, Err, MatchResult, if◌then◌else◌, IfOk}
use Rattle.std.specs.List.{AllByRecursion}
use Rattle.cy_values.specs.declared.rows.Cell.{Cell}
use Rattle.cy_trees.specs.Trees.{Name, Clause, unwind, Query}
use Rattle.cy_scope.specs.ClauseFaults.{clauses_fault}
use Rattle.cy_scope.specs.Resolved.{resolved_clauses}
use Rattle.cy_scope_kinds.specs.Rows.{row_fits}
use Rattle.cy_scope_kinds.specs.Scopes.{Scope}
use Rattle.cy_scope.specs.Views.{ends_with_return}
use Rattle.cy_graph.specs.Graph.{State}
use Rattle.cy_oneshot_meaning.specs.Queries.{columns_after_all, query_columns}
use Rattle.cy_oneshot_meaning.specs.Reading.{AreInGraph}
use Rattle.cy_oneshot.specs.Carried.{AreAlike, IsEnough, carried_from, updates_ahead}
use Rattle.cy_updates.specs.declared.clauses.Updated.{Updated}
use Rattle.cy_updates_meaning.specs.declared.faults.UpdateFault.{UpdateFault}
use Rattle.cy_updates_meaning.specs.declared.faults.UpdateFault.TheVariants.{NoMemory}
use Rattle.cy_updates_meaning.specs.Bags.{IsSameResult}
use Rattle.cy_updates_meaning.specs.Counts.{Counts}
use Rattle.cy_updates_meaning.specs.Faults.{◌>>=◌, each_in_turn}
use Rattle.cy_updates_meaning.specs.internal.Gone.{AreGone}
use Rattle.cy_updates_meaning.specs.Statements.{Progress, after_clause}

-- where clauses were executed, from one graph to another, they count what they removed, and give these columns
abbrev pub CountsGone : State → State → Result Updated UpdateFault → Type 0
CountsGone before after result = IfOk result (λ done. AreGone before after done.gone.nodes done.gone.rels)

abbrev pub HasColumns : Result Updated UpdateFault → List Name → Type 0
HasColumns result columns = IfOk result (λ done. done.table.columns.items ≡ columns)

-- how far a statement has come: a graph, rows, and counts
abbrev pub progress : State → List (List Cell) → Counts → Progress
progress graph rows counts = record { graph = graph; rows = rows; counts = counts }

-- where a query begins: the empty row, once
abbrev pub opening : State → Counts → Progress
opening graph counts = progress graph ([] ∷ []) counts

-- what a query leaves, of which the rows count where it returns
abbrev pub at_end : Bool → Result Progress UpdateFault → Result Progress UpdateFault
at_end returns r = r >>= λ done. Ok (record done { rows = (if returns then done.rows else []) })

-- what UNWIND leaves, with null for each cell that isn't needed
abbrev pub carried_after : Clause → List Bool → Result Progress UpdateFault → Result Progress UpdateFault
carried_after (unwind e v) needed r = r >>= λ done. Ok (record done { rows = map (carried_from needed 0) done.rows })
carried_after clause needed r = r

-- the rows fit a scope that has these columns, and in which the clauses have no fault, and the columns of their variables
pub record AreResolved (columns : List Name) (rows : List (List Cell)) (clauses : List Clause) : Type 0 where
  pub scope : Scope
  pub written : List Clause
  pub good : clauses_fault scope written ≡ None
  pub are : clauses ≡ resolved_clauses scope written
  pub names : map (λ v. v.0) scope ≡ columns
  pub fit : AllByRecursion (λ row. IsTrue (row_fits scope row)) rows

-- The clauses lead on from a graph and a table as all of them do from the beginning, whatever had been made and removed before it.
pub record LeadOn (first graph : State) (rows : List (List Cell)) (clauses : List Clause) (query : Query) : Type 0 where
  pub counts : Counts → Counts
  pub bag : (begun : Counts) → IsSameResult (at_end (ends_with_return query.clauses) (each_in_turn after_clause clauses (progress graph rows (counts begun)))) (at_end (ends_with_return query.clauses) (each_in_turn after_clause query.clauses (opening first begun)))
  pub ordered : IsTrue (ends_with_return query.clauses) → (begun : Counts) → each_in_turn after_clause clauses (progress graph rows (counts begun)) ≡ each_in_turn after_clause query.clauses (opening first begun)
  pub returns : IsTrue (ends_with_return query.clauses) → (c : Clause) (cs : List Clause) → clauses ≡ c ∷ cs → IsTrue (ends_with_return clauses)

-- the graph, the table and what went so far, and the clauses that are left
pub record IsReached (first graph : State) (query : Query) (after : Updated) (clauses : List Clause) : Type 0 where
  pub leads : LeadOn first graph after.table.rows.items clauses query
  pub names : columns_after_all after.table.columns.items clauses ≡ query_columns query
  pub there : AreInGraph graph.content after.table.rows.items
  pub resolved : AreResolved after.table.columns.items after.table.rows.items clauses
  pub gone : AreGone first graph after.gone.nodes after.gone.rels

-- from a graph and a table a clause leads to this graph and these rows, as a bag, but for cells that the clauses after it don't need, which are null
pub record LeadsTo (before : State) (columns : List Name) (rows : List (List Cell)) (clause : Clause) (others : List Clause) (graph : State) (left : List (List Cell)) : Type 0 where
  pub needed : List Bool
  pub alike : updates_ahead others ≡ true → AreAlike needed rows
  pub enough : IsEnough (updates_ahead others) needed others
  pub within : length needed ≤ length columns
  pub step : (some : Counts) → (more : Counts) × IsSameResult (Ok (progress graph left more)) (carried_after clause needed (after_clause clause (progress before rows some)))

-- so does the code, or it stops at the clause's fault, or it is out of memory
abbrev pub IsNext : Result Updated UpdateFault → State → List Name → List (List Cell) → Clause → List Clause → State → Type 0
IsNext result before columns rows clause others graph =
    MatchResult result (λ after. LeadsTo before columns rows clause others graph after.table.rows.items) (λ why. (why ≡ NoMemory) ⊎ ((some : Counts) → after_clause clause (progress before rows some) ≡ Err why))

-- the code goes on to this graph with the rows in their order, or it stops at the fault, or it is out of memory
abbrev pub IsNextInOrder : Result Updated UpdateFault → State → (Counts → Result Progress UpdateFault) → Type 0
IsNextInOrder result graph meant =
    MatchResult result (λ after. (some : Counts) → (more : Counts) × (meant some ≡ Ok (progress graph after.table.rows.items more))) (λ why. Unit {0})
