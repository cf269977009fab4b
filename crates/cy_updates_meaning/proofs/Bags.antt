-- Clauses on tables that are one bag.
use Rattle.std.proofs.Common.{◌≡◌, true, false, cond, List, [], ◌∷◌, refl, ap, subst, ◌∙◌}
use Rattle.std.specs.Prelude.{Result, Ok, Err}
use Rattle.std.specs.Cmp.{IsTotalOrder}
use Rattle.cy_values.specs.declared.rows.Cell.{Cell}
use Rattle.cy_values.specs.Order.{row_cmp}
use Rattle.cy_values.proofs.Identity.{same_rows}
use Rattle.cy_trees.specs.Trees.{Clause}
use Rattle.cy_scope.specs.Views.{is_update}
use Rattle.cy_graph.specs.Graph.{Content, State}
use Rattle.cy_expr.specs.declared.faults.EvalFault.{EvalFault}
use Rattle.cy_values.specs.Bag.{IsSameBag}
use Rattle.cy_oneshot_patterns.specs.Outcomes.{IsSameOutcome}
use Rattle.cy_oneshot_meaning.specs.Order.{in_order}
use Rattle.cy_oneshot_meaning.specs.Queries.{rows_after}
use Rattle.cy_oneshot_meaning.proofs.BagLemmas.{permuted_bag}
use Rattle.cy_oneshot_meaning.proofs.InOrder.{AllTied, in_order_tied}
use Rattle.cy_updates_meaning.specs.declared.faults.UpdateFault.{UpdateFault}
use Rattle.cy_updates_meaning.specs.Bags.{IsSameProgress, IsSameResult}
use Rattle.cy_updates_meaning.specs.Counts.{Counts, counts_between, plus}
use Rattle.cy_updates_meaning.specs.Faults.{◌>>=◌, each_in_turn, evaluated, of_evaluation}
use Rattle.cy_updates_meaning.specs.Statements.{GraphTable, Progress, after_clause, after_reading, after_updating, rows_taken, updated}

-- rows that tie, place by place, are the same
tied_same : (rows others : List (List Cell)) → AllTied row_cmp rows others → rows ≡ others
tied_same [] [] t = refl
tied_same (row ∷ rows) (other ∷ others) t = λ i. same_rows row other t.0 i ∷ tied_same rows others t.1 i
tied_same [] (other ∷ others) t = absurd t
tied_same (row ∷ rows) [] t = absurd t

pub same_itself : (r : Result Progress UpdateFault) → IsSameResult r r
same_itself (Ok p) = (refl, (λ row. refl), refl)
same_itself (Err fault) = refl

-- what follows results that are the same
same_after : (f : Progress → Result Progress UpdateFault) → ((one other : Progress) → IsSameProgress one other → IsSameResult (f one) (f other))
    → (r s : Result Progress UpdateFault) → IsSameResult r s → IsSameResult (r >>= f) (s >>= f)
same_after f step (Ok one) (Ok other) same = step one other same
same_after f step (Err fault) (Err other) same = same
same_after f step (Ok one) (Err other) same = absurd same
same_after f step (Err fault) (Ok other) same = absurd same

-- progress with what a reading clause gives
abbrev read : State → Counts → Result (List (List Cell)) EvalFault → Result Progress UpdateFault
read graph counts r = evaluated r >>= λ rows. Ok (record { graph = graph; rows = rows; counts = counts })

same_read : (graph : State) (counts : Counts) (r s : Result (List (List Cell)) EvalFault) → IsSameOutcome r s → IsSameResult (read graph counts r) (read graph counts s)
same_read graph counts (Ok rows) (Ok others) same = (refl, same, refl)
same_read graph counts (Err fault) (Err other) same = ap of_evaluation same
same_read graph counts (Ok rows) (Err other) same = absurd same
same_read graph counts (Err fault) (Ok others) same = absurd same

-- progress with what an updating clause leaves
abbrev changed : State → Counts → Result GraphTable UpdateFault → Result Progress UpdateFault
changed graph counts r =
    r >>= λ after. Ok (record { graph = after.graph; rows = after.rows; counts = plus counts (counts_between graph.content after.graph.content) })

module _ (total : IsTotalOrder row_cmp) where
  same_order : (rows others : List (List Cell)) → IsSameBag rows others → in_order row_cmp rows ≡ in_order row_cmp others
  same_order rows others same = tied_same (in_order row_cmp rows) (in_order row_cmp others) (in_order_tied row_cmp total (permuted_bag total rows others same))

  pub same_update : (graph : State) (clause : Clause) (rows others : List (List Cell)) → IsSameBag rows others → updated graph clause rows ≡ updated graph clause others
  same_update graph clause rows others same = ap (rows_taken graph clause) (same_order rows others same)

  module _ (reading : (graph : Content) (clause : Clause) (rows others : List (List Cell)) → is_update clause ≡ false → IsSameBag rows others
      → IsSameOutcome (rows_after graph clause rows) (rows_after graph clause others)) where
    same_updating : (clause : Clause) (one other : Progress) → IsSameProgress one other → IsSameResult (after_updating clause one) (after_updating clause other)
    same_updating clause one other same =
        let outcomes : updated one.graph clause one.rows ≡ updated other.graph clause other.rows =
        same_update one.graph clause one.rows other.rows same.1 ∙ ap (λ graph. updated graph clause other.rows) same.0 in
        subst (λ r. IsSameResult (after_updating clause one) r) (λ i. changed (same.0 i) (same.2 i) (outcomes i)) (same_itself (after_updating clause one))

    same_reading : (clause : Clause) (one other : Progress) → is_update clause ≡ false → IsSameProgress one other → IsSameResult (after_reading clause one) (after_reading clause other)
    same_reading clause one other reads same =
        subst (λ r. IsSameResult (after_reading clause one) r) (λ i. read (same.0 i) (same.2 i) (rows_after ((same.0 i).content) clause other.rows))
        (same_read one.graph one.counts (rows_after one.graph.content clause one.rows) (rows_after one.graph.content clause other.rows) (reading one.graph.content clause one.rows other.rows reads same.1))

    same_clause : (clause : Clause) (one other : Progress) → IsSameProgress one other → IsSameResult (after_clause clause one) (after_clause clause other)
    same_clause clause one other same =
        elim (is_update clause) as (λ b. is_update clause ≡ b → IsSameResult (cond b (after_updating clause one) (after_reading clause one)) (cond b (after_updating clause other) (after_reading clause other))) [
          | true ↦ λ writes. same_updating clause one other same
          | false ↦ λ reads. same_reading clause one other reads same
        ] refl

    pub same_clauses : (clauses : List Clause) (one other : Progress) → IsSameProgress one other
        → IsSameResult (each_in_turn after_clause clauses one) (each_in_turn after_clause clauses other)
    same_clauses [] one other same = same
    same_clauses (clause ∷ clauses) one other same =
        same_after (each_in_turn after_clause clauses) (same_clauses clauses) (after_clause clause one) (after_clause clause other) (same_clause clause one other same)
