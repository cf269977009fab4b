-- The plan of a query, clause by clause.
use Rattle.std.proofs.Common.{◌≡◌, false, List, [], ◌∷◌, ◌++◌, append_assoc, append-nil, refl, sym, subst, ◌∙◌}
use Rattle.std.specs.Prelude.{IsOk}
use Rattle.std.specs.Cmp.{IsTotalOrder}
use Rattle.cy_values.specs.declared.rows.Cell.{Cell}
use Rattle.cy_values.specs.Bag.{IsSameBag}
use Rattle.cy_values.specs.Order.{row_cmp}
use Rattle.cy_trees.specs.Trees.{Clause, Query}
use Rattle.cy_scope.specs.Checked.{ClausesAreKinded, IsChecked, IsViewQuery, single}
use Rattle.cy_scope.specs.ClauseScopes.{scope_after}
use Rattle.cy_scope.specs.Views.{is_update}
use Rattle.cy_graph.specs.Graph.{Content, State, IsGraph}
use Rattle.cy_oneshot_patterns.specs.Outcomes.{IsSameOutcome}
use Rattle.cy_oneshot_meaning.specs.Queries.{query_rows, rows_after}
use Rattle.cy_planner_algebra.specs.Plans as plan
use Rattle.cy_planner_algebra.specs.Plans.{Plan}
use Rattle.cy_planner_algebra.specs.WellFormed.{IsWellFormed}
use Rattle.cy_planner.specs.internal.ClausePlans.{CanBePlanned, IsPlanned}
use Rattle.cy_planner.specs.internal.QueryPlans.{IsQueryPlan}
use Rattle.cy_planner.specs.internal.Stands.{IsUnderWay, Stands}
use Rattle.cy_planner.specs.internal.ViewClauses.{HasScope}
use Rattle.cy_planner.proofs.GoingOn.{begins, clause_ok, ends, goes_on}
use Rattle.cy_planner.proofs.ViewClauses.{view_query}

pub under_way : ((q : Query) → IsChecked (single q) → ClausesAreKinded [] q.clauses) → (query : Query) → IsViewQuery (single query) → IsUnderWay query query.clauses plan.unit
under_way kinds query is = ([], [], refl, begins query, view_query kinds query is, refl)

module _ (total : IsTotalOrder row_cmp) (bags : (graph : Content) (clause : Clause) (rows others : List (List Cell)) → is_update clause ≡ false → IsSameBag rows others → IsSameOutcome (rows_after graph clause rows) (rows_after graph clause others))
    (query : Query) (ok : (graph : State) → IsGraph graph → IsOk (query_rows graph.content query)) (c : Clause) (left : List Clause) (below : Plan) where
  pub next_given : IsUnderWay query (c ∷ left) below → CanBePlanned c below
  next_given (done, scope, splits, stands, views, last) =
      let has : HasScope scope below = record { long = stands.long; fits = stands.fits } in
      (scope, views.0, has, λ graph is. clause_ok total bags query done c left splits ok scope below stands views.0.reads graph is)

  pub next_planned : (p : Plan) → IsUnderWay query (c ∷ left) below → IsPlanned c below p → IsUnderWay query left p
  next_planned p (done, scope, splits, stands, views, last) planned =
      let has : HasScope scope below = record { long = stands.long; fits = stands.fits } in (
        done ++ c ∷ [],
        scope_after scope c,
        splits ∙ sym (append_assoc done (c ∷ []) left),
        goes_on total bags query done c left splits ok scope below stands views.0.reads (scope_after scope c) p (planned scope views.0 has),
        views.1,
        last,
      )

pub all_planned : (query : Query) (p : Plan) → IsUnderWay query [] p → IsWellFormed p → IsQueryPlan query p
all_planned query p (done, scope, splits, stands, views, last) well =
    ends query scope p (subst (λ (cs : List Clause). Stands query cs scope p) (sym (splits ∙ append-nil done)) stands) last well
