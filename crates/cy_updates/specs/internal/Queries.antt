-- How far the queries of a statement have been executed.
use Rattle.std.specs.Prelude.{◌≡◌, ◌⊎◌, ◌++◌, List, Result, Ok, Err, MatchResult}
use Rattle.cy_values.specs.declared.rows.Cell.{Cell}
use Rattle.cy_trees.specs.Trees.{Query}
use Rattle.cy_graph.specs.Graph.{State}
use Rattle.cy_updates.specs.declared.clauses.Updated.{Updated}
use Rattle.cy_updates_meaning.specs.declared.faults.UpdateFault.{UpdateFault}
use Rattle.cy_updates_meaning.specs.declared.faults.UpdateFault.TheVariants.{NoMemory}
use Rattle.cy_updates_meaning.specs.Counts.{Counts}
use Rattle.cy_updates_meaning.specs.Faults.{each_in_turn}
use Rattle.cy_updates_meaning.specs.internal.Gone.{AreGone}
use Rattle.cy_updates_meaning.specs.Statements.{after_query, beginning, columns_of}
use Rattle.cy_updates.specs.internal.Reached.{progress}

-- from a graph a query leads to this one, and adds these rows to any that were there before it
abbrev pub LeadsOver : State → Query → State → List (List Cell) → Type 0
LeadsOver before query graph left =
    (rows : List (List Cell)) (some : Counts) → (more : Counts) × (after_query query (progress before rows some) ≡ Ok (progress graph (rows ++ left) more))

-- so does the code, or it stops at the query's fault, or it is out of memory
abbrev pub IsQueryDone : Result Updated UpdateFault → State → Query → State → Type 0
IsQueryDone result before query graph =
    MatchResult result (λ after. LeadsOver before query graph after.table.rows.items)
    (λ why. (why ≡ NoMemory) ⊎ ((rows : List (List Cell)) (some : Counts) → after_query query (progress before rows some) ≡ Err why))

-- the queries that are left lead on from a graph, the tables so far and what went as all do from the beginning
pub record HaveCome (first graph : State) (queries : List Query) (after : Updated) (left : List Query) : Type 0 where
  pub counts : Counts
  pub leads : each_in_turn after_query left (progress graph after.table.rows.items counts) ≡ each_in_turn after_query queries (beginning first)
  pub columns : after.table.columns.items ≡ columns_of queries
  pub gone : AreGone first graph after.gone.nodes after.gone.rels
