-- The clauses of a view's query, one after another, each in the scope that those before it leave. (own)
use Rattle.std.specs.Prelude.{◌≡◌, true, false, ⊤, List, [], ◌∷◌, length, IsTrue, None}
use Rattle.std.specs.List.{AllByRecursion}
use Rattle.cy_trees.specs.Trees.{Clause}
use Rattle.cy_scope_kinds.specs.Rows.{row_fits}
use Rattle.cy_scope_kinds.specs.Scopes.{Scope}
use Rattle.cy_scope.specs.Checked.{ClauseIsKinded}
use Rattle.cy_scope.specs.ClauseFaults.{clause_fault}
use Rattle.cy_scope.specs.ClauseScopes.{scope_after}
use Rattle.cy_scope.specs.Resolved.{resolved_clause}
use Rattle.cy_scope.specs.Views.{has_aggregate, is_ordered, is_sure_after, is_sure_before, is_unbounded, is_update}
use Rattle.cy_graph.specs.Graph.{State, IsGraph}
use Rattle.cy_planner_algebra.specs.Plans.{Plan, width}
use Rattle.cy_planner_algebra.specs.Meaning.{rows_of}

-- a clause with the columns of its variables, which has no fault in a scope and stands in the query of a view
pub record IsViewClause (scope : Scope) (c : Clause) : Type 0 where
  -- as it was before its variables had columns
  pub written : Clause
  pub good : clause_fault scope written ≡ None
  pub is : c ≡ resolved_clause scope (scope_after scope written) written
  pub kinded : ClauseIsKinded scope c
  pub reads : is_update c ≡ false
  pub sure_before : is_sure_before scope c ≡ true
  pub sure_after : is_sure_after (scope_after scope c) c ≡ true
  pub alone : has_aggregate c ≡ false
  pub unordered : is_ordered c ≡ false
  pub bounded : is_unbounded c ≡ false

abbrev pub AreViewClauses : Scope → List Clause → Type 0
AreViewClauses scope [] = ⊤
AreViewClauses scope (c ∷ cs) = IsViewClause scope c × AreViewClauses (scope_after scope c) cs

-- on each graph the rows of a plan fit a scope
pub record HasScope (scope : Scope) (p : Plan) : Type 0 where
  pub long : length scope ≡ width p
  pub fits : (graph : State) → IsGraph graph → AllByRecursion (λ row. IsTrue (row_fits scope row)) (rows_of graph.content p)
