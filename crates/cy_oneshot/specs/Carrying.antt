-- What a reading clause answers for those after it. (own)
use Rattle.std.specs.Prelude.{◌≡◌, ◌⊎◌, ◌≤◌, Bool, true, List, length, Result, Ok, Err, MatchResult}
use Rattle.cy_values.specs.declared.rows.Cell.{Cell}
use Rattle.cy_trees.specs.Trees.{Name, Clause}
use Rattle.cy_graph.specs.Graph.{Content}
use Rattle.cy_expr.specs.declared.faults.EvalFault.{EvalFault}
use Rattle.cy_expr.specs.declared.faults.EvalFault.TheVariants.{NoMemory}
use Rattle.cy_oneshot_patterns.specs.Outcomes.{IsSameOutcome}
use Rattle.cy_oneshot_meaning.specs.Queries.{rows_after}
use Rattle.cy_oneshot.specs.Carried.{carried_by, updates_ahead, AreAlike, IsEnough}

-- these columns are needed for the clauses after it, and these are the rows that it makes, with null in the others
pub record Carries (graph : Content) (clause : Clause) (others : List Clause) (columns : List Name) (rows made : List (List Cell)) : Type 0 where
  pub needed : List Bool
  pub alike : updates_ahead others ≡ true → AreAlike needed rows
  pub enough : IsEnough (updates_ahead others) needed others
  pub within : length needed ≤ length columns
  pub same : IsSameOutcome (Ok made) (carried_by clause needed (rows_after graph clause rows))

-- a call answers such rows, or the clause's fault, or it is out of memory
abbrev pub IsAnswerFor : {A : Type 0} → Result A EvalFault → (A → List (List Cell)) → Content → Clause → List Clause → List Name → List (List Cell) → Type 0
IsAnswerFor result view graph clause others columns rows =
    MatchResult result (λ x. Carries graph clause others columns rows (view x)) (λ fault. (rows_after graph clause rows ≡ Err fault) ⊎ (fault ≡ NoMemory))
