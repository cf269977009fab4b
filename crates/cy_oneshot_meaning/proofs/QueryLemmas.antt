-- The clauses of a query, one after another.
use Rattle.std.proofs.Common.{◌≡◌, suc, ◌-◌, true, false, List, [], ◌∷◌, length, refl, sym, ap, ◌∙◌, arith}
use Rattle.std.specs.Prelude.{Result, Ok, Err, IfOk, slice_get}
use Rattle.std.specs.List.{AllByRecursion}
use Rattle.std.specs.Option.{option_map_or}
use Rattle.std.specs.Cmp.{IsTotalOrder}
use Rattle.std.proofs.lemmas.Bool.{false≢true}
use Rattle.cy_values.specs.declared.rows.Cell.{Cell}
use Rattle.cy_values.specs.Order.{row_cmp}
use Rattle.cy_trees.specs.Trees.{Clause, «return»}
use Rattle.cy_scope.specs.Views.{ends_with_return, is_return}
use Rattle.cy_graph.specs.Graph.{Content}
use Rattle.cy_expr.specs.declared.faults.EvalFault.{EvalFault}
use Rattle.cy_expr.specs.Faults.{on_one}
use Rattle.cy_values.specs.Bag.{IsSameBag}
use Rattle.cy_oneshot_patterns.specs.Outcomes.{IsSameOutcome}
use Rattle.cy_oneshot_meaning.specs.Queries.{rows_after, rows_after_all}
use Rattle.cy_oneshot_meaning.proofs.BagLemmas.{permuted_bag}
use Rattle.cy_oneshot_meaning.proofs.BagOutcomes.{same_both}
use Rattle.cy_oneshot_meaning.proofs.ClauseLemmas.{same_clause, same_clauses, same_rows_of}
use Rattle.cy_oneshot_meaning.proofs.SeenRows.{each_permuted}

-- the last clause of more than one
pub last_later : (c d : Clause) (cs : List Clause) → ends_with_return (c ∷ d ∷ cs) ≡ ends_with_return (d ∷ cs)
last_later c d cs =
    ap (λ n. option_map_or is_return (slice_get (c ∷ d ∷ cs) n) false) (let e : length (c ∷ d ∷ cs) - 1 ≡ suc (length (d ∷ cs) - 1) = omega arith in e)

last_one : (c : Clause) → ends_with_return (c ∷ []) ≡ is_return c
last_one c = refl

after_both : (f : List (List Cell) → Result (List (List Cell)) EvalFault) → ((xs ys : List (List Cell)) → IsSameBag xs ys → f xs ≡ f ys)
    → (o q : Result (List (List Cell)) EvalFault) → IsSameOutcome o q → on_one f o ≡ on_one f q
after_both f same (Ok xs) (Ok ys) p = same xs ys p
after_both f same (Err g) (Err h) p = ap Err p
after_both f same (Ok xs) (Err h) p = absurd p
after_both f same (Err g) (Ok ys) p = absurd p

module _ (total : IsTotalOrder row_cmp) (graph : Content) where
  return_same : (c : Clause) → is_return c ≡ true → (xs ys : List (List Cell)) → IsSameBag xs ys → rows_after graph c xs ≡ rows_after graph c ys
  return_same («return» p) is xs ys same = same_rows_of total graph xs ys same p
  return_same _ is xs ys same = absurd (false≢true is)

  -- what ends with RETURN gives the rows in their order
  pub ends_same : (cs : List Clause) → ends_with_return cs ≡ true → (xs ys : List (List Cell)) → IsSameBag xs ys → rows_after_all graph cs xs ≡ rows_after_all graph cs ys
  ends_same [] ends xs ys same = absurd (false≢true ends)
  ends_same (c ∷ []) ends xs ys same = ap (on_one (rows_after_all graph [])) (return_same c (sym (last_one c) ∙ ends) xs ys same)
  ends_same (c ∷ d ∷ cs) ends xs ys same =
      after_both (rows_after_all graph (d ∷ cs)) (ends_same (d ∷ cs) (sym (last_later c d cs) ∙ ends)) (rows_after graph c xs) (rows_after graph c ys)
      (same_clause total graph xs ys same c)

  -- ---- one clause more

  -- the rows that a clause gave, and those of the clauses after it
  pub from_same : (cs : List Clause) (made : List (List Cell)) (o all : Result (List (List Cell)) EvalFault) → IsSameOutcome (Ok made) o
      → IsSameOutcome (on_one (rows_after_all graph cs) o) all → IsSameOutcome (rows_after_all graph cs made) all
  from_same cs made (Ok rows) all same before = same_both (rows_after_all graph cs made) (rows_after_all graph cs rows) all (same_clauses total graph cs made rows same) before
  from_same cs made (Err f) all same before = absurd same

  ends_from : (cs : List Clause) → ends_with_return cs ≡ true → (made : List (List Cell)) (o all : Result (List (List Cell)) EvalFault) → IsSameOutcome (Ok made) o
      → on_one (rows_after_all graph cs) o ≡ all → rows_after_all graph cs made ≡ all
  ends_from cs ends made (Ok rows) all same before = ends_same cs ends made rows same ∙ before
  ends_from cs ends made (Err f) all same before = absurd same

  pub ordered_more : (c : Clause) (cs : List Clause) (rows made : List (List Cell)) (o all : Result (List (List Cell)) EvalFault) → IsSameOutcome (Ok made) o
      → ends_with_return (c ∷ cs) ≡ true → (is_return c ≡ true → rows_after graph c rows ≡ Ok made) → on_one (rows_after_all graph cs) o ≡ rows_after_all graph (c ∷ cs) rows
      → rows_after_all graph (c ∷ cs) rows ≡ all → rows_after_all graph cs made ≡ all
  ordered_more c [] rows made o all same ends exact on before = ap (on_one (rows_after_all graph [])) (sym (exact (sym (last_one c) ∙ ends))) ∙ before
  ordered_more c (d ∷ cs) rows made o all same ends exact on before = ends_from (d ∷ cs) (sym (last_later c d cs) ∙ ends) made o all same (on ∙ before)

  -- what holds of the rows of a clause holds of the bag that it gave
  pub each_of_bag : (P : List Cell → Type 0) (made : List (List Cell)) (o : Result (List (List Cell)) EvalFault) → IsSameOutcome (Ok made) o → IfOk o (AllByRecursion P) → AllByRecursion P made
  each_of_bag P made (Ok rows) same each = each_permuted P (permuted_bag total made rows same) each
  each_of_bag P made (Err f) same each = absurd same
