-- The outcome of every clause is the same on tables that are one bag.
use Rattle.std.proofs.Common.{◌≡◌, true, false, List, map, subst, [], ◌∷◌}
use Rattle.std.specs.Prelude.{Result, Ok, Err}
use Rattle.std.specs.Cmp.{IsTotalOrder}
use Rattle.cy_values.specs.declared.rows.Cell.{Cell}
use Rattle.cy_values.specs.Bag.{IsSameBag}
use Rattle.cy_values.specs.Order.{row_cmp}
use Rattle.cy_trees.specs.Trees.{Clause, «match», unwind, «with», «return», Projection}
use Rattle.cy_graph.specs.Graph.{Content}
use Rattle.cy_expr.specs.declared.faults.EvalFault.{EvalFault}
use Rattle.cy_expr.specs.Faults.{on_one}
use Rattle.cy_oneshot_patterns.specs.Matching.{kept, matched_where, optionally_matched, unwound}
use Rattle.cy_oneshot_patterns.specs.Outcomes.{joined, IsSameOutcome}
use Rattle.cy_oneshot_meaning.specs.Projection.{projection_rows}
use Rattle.cy_oneshot_meaning.specs.Queries.{rows_after, rows_after_all}
use Rattle.cy_oneshot_meaning.proofs.BagLemmas.{permuted_bag, one_by_one}
use Rattle.cy_oneshot_meaning.proofs.BagOutcomes.{same_itself}
use Rattle.cy_oneshot_meaning.proofs.ProjectionLemmas.{same_projection}

module _ (total : IsTotalOrder row_cmp) (graph : Content) (rows others : List (List Cell)) (same : IsSameBag rows others) where
  pub same_rows_of : (p : Projection) → projection_rows graph p rows ≡ projection_rows graph p others
  same_rows_of p = same_projection total graph p (permuted_bag total rows others same)

  pub same_clause : (clause : Clause) → IsSameOutcome (rows_after graph clause rows) (rows_after graph clause others)
  same_clause («match» false paths w) = one_by_one total (matched_where graph paths w) rows others same
  same_clause («match» true paths w) = one_by_one total (optionally_matched graph paths w) rows others same
  same_clause (unwind e v) = one_by_one total (unwound graph e) rows others same
  same_clause («with» p w) =
      subst (λ r. IsSameOutcome (rows_after graph («with» p w) rows) (on_one (λ made. joined (map (kept graph w) made)) r)) (same_rows_of p)
      (same_itself (rows_after graph («with» p w) rows))
  same_clause («return» p) = subst (λ r. IsSameOutcome (projection_rows graph p rows) r) (same_rows_of p) (same_itself (projection_rows graph p rows))
  same_clause _ = same

-- what comes after outcomes that are the same
same_after_both : (f : List (List Cell) → Result (List (List Cell)) EvalFault) → ((rows others : List (List Cell)) → IsSameBag rows others → IsSameOutcome (f rows) (f others))
    → (r s : Result (List (List Cell)) EvalFault) → IsSameOutcome r s → IsSameOutcome (on_one f r) (on_one f s)
same_after_both f step (Ok rows) (Ok others) same = step rows others same
same_after_both f step (Err fault) (Err other) same = same
same_after_both f step (Ok rows) (Err other) same = absurd same
same_after_both f step (Err fault) (Ok others) same = absurd same

pub same_clauses : IsTotalOrder row_cmp → (graph : Content) (clauses : List Clause) (rows others : List (List Cell)) → IsSameBag rows others
    → IsSameOutcome (rows_after_all graph clauses rows) (rows_after_all graph clauses others)
same_clauses total graph [] rows others same = same
same_clauses total graph (clause ∷ clauses) rows others same =
    same_after_both (rows_after_all graph clauses) (same_clauses total graph clauses) (rows_after graph clause rows) (rows_after graph clause others)
    (same_clause total graph rows others same clause)
