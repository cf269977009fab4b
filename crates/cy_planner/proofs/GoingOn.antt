-- A plan that stands for the first clauses of a query, and one for the clause after them.
use Rattle.std.proofs.Common.{◌≡◌, ℕ, suc, ◌+◌, ◌≤◌, ◌<◌, Bool, true, false, cond, List, [], ◌∷◌, ◌++◌, length, refl, sym, ap, subst, ◌∙◌, inl, arith}
use Rattle.std.specs.Prelude.{IfOk, IsOk, Result, Ok, Err}
use Rattle.std.specs.List.{All, AllByRecursion, Contains}
use Rattle.std.specs.Cmp.{IsTotalOrder}
use Rattle.std.proofs.lemmas.List.Elements.{All-cons, All-nil}
use Rattle.cy_planner_optional.proofs.Outcomes.{then_ok}
use Rattle.cy_values.specs.declared.rows.Cell.{Cell}
use Rattle.cy_values.specs.Bag.{count_of, IsSameBag}
use Rattle.cy_values.specs.Order.{row_cmp}
use Rattle.cy_trees.specs.Trees.{Clause, create, set, remove, delete, Query}
use Rattle.cy_scope_kinds.specs.Scopes.{Scope}
use Rattle.cy_scope.specs.ClauseScopes.{query_scope}
use Rattle.cy_scope.specs.Views.{is_update}
use Rattle.cy_graph.specs.Graph.{Content, State, IsGraph}
use Rattle.cy_expr.specs.declared.faults.EvalFault.{EvalFault}
use Rattle.cy_expr.specs.Faults.{on_one}
use Rattle.cy_oneshot_patterns.specs.Outcomes.{IsSameOutcome}
use Rattle.cy_oneshot_meaning.proofs.BagLemmas.{permuted_bag}
use Rattle.cy_oneshot_meaning.proofs.BagOutcomes.{same_both}
use Rattle.cy_oneshot_meaning.proofs.SeenRows.{each_permuted}
use Rattle.cy_oneshot_meaning.specs.Queries.{query_rows, rows_after, rows_after_all}
use Rattle.cy_planner_algebra.specs.Plans as plan
use Rattle.cy_planner_algebra.specs.Plans.{Plan}
use Rattle.cy_planner_algebra.specs.Parts.{parts}
use Rattle.cy_planner_algebra.specs.Meaning.{rows_of}
use Rattle.cy_planner_algebra.specs.WellFormed.{IsWellFormed}
use Rattle.cy_planner_algebra.specs.Within.{IsWithin}
use Rattle.cy_planner_algebra.proofs.Counts.{count_cons, same}
use Rattle.cy_planner.specs.WideTables.{query_tables, rows_or_none, tables_after, unselected}
use Rattle.cy_planner.specs.internal.ClausePlans.{Fits, IsClausePlan}
use Rattle.cy_planner.specs.internal.QueryPlans.{IsQueryPlan}
use Rattle.cy_planner.specs.internal.Stands.{Stands}

abbrev pub Outcome : Type 0
Outcome = Result (List (List Cell)) EvalFault

-- ---- outcomes

pub value_of_ok : (o : Outcome) → IsOk o → (rows : List (List Cell)) × (o ≡ Ok rows)
value_of_ok (Ok rows) is = (rows, refl)
value_of_ok (Err fault) is = cc

same_back : (o q : Outcome) → IsSameOutcome o q → IsSameOutcome q o
same_back (Ok rows) (Ok others) same = λ row. sym (same row)
same_back (Err fault) (Err other) same = sym same
same_back (Ok rows) (Err other) same = same
same_back (Err fault) (Ok others) same = same

ok_same : (o q : Outcome) → IsSameOutcome o q → IsOk q → IsOk o
ok_same (Ok rows) q same is = refl
ok_same (Err fault) (Ok others) same is = absurd same
ok_same (Err fault) (Err other) same is = cc

-- ---- several clauses, and one after them

after_more : (graph : Content) (done : List Clause) (c : Clause) (rest : List Clause) (o : Outcome)
    → on_one (rows_after_all graph (done ++ c ∷ rest)) o ≡ on_one (rows_after_all graph (c ∷ rest)) (on_one (rows_after_all graph done) o)
after_more graph done c rest (Err fault) = refl
after_more graph [] c rest (Ok rows) = refl
after_more graph (d ∷ done) c rest (Ok rows) = after_more graph done c rest (rows_after graph d rows)

of_last : (graph : Content) (c : Clause) (o : Outcome) → on_one (rows_after_all graph (c ∷ [])) o ≡ on_one (rows_after graph c) o
of_last graph c (Err fault) = refl
of_last graph c (Ok rows) = alone (rows_after graph c rows)
  where
    alone : (o : Outcome) → on_one (rows_after_all graph []) o ≡ o
    alone (Ok rows) = refl
    alone (Err fault) = refl

after_one : (graph : Content) (done : List Clause) (c : Clause) (start : List (List Cell)) → rows_after_all graph (done ++ c ∷ []) start ≡ on_one (rows_after graph c) (rows_after_all graph done start)
after_one graph done c start = after_more graph done c [] (Ok start) ∙ of_last graph c (rows_after_all graph done start)

pub first_there : {A : Type 0} (x : A) (xs : List A) → Contains (x ∷ xs) x
first_there x xs = (0, (let less : 0 < suc (length xs) = omega arith in less), refl)

pub later_there : {A : Type 0} (x y : A) (xs : List A) → Contains xs x → Contains (y ∷ xs) x
later_there x y xs there = (suc there.0, (let more = there.1 in let less : suc there.0 < suc (length xs) = omega (arith, more) in less), there.2)

-- the table of a clause is among the wide tables
table_there : (graph : Content) (done : List Clause) (c : Clause) (rest : List Clause) (start rows : List (List Cell)) → rows_after_all graph done start ≡ Ok rows
    → Contains (tables_after graph (done ++ c ∷ rest) start) (rows_or_none (rows_after graph (unselected c) rows))
table_there graph [] c rest start rows is =
    subst (λ (some : List (List Cell)). Contains (tables_after graph (c ∷ rest) start) (rows_or_none (rows_after graph (unselected c) some))) (let e : start ≡ rows = cc in e)
    (first_there (rows_or_none (rows_after graph (unselected c) start)) (tables_after graph rest (rows_or_none (rows_after graph c start))))
table_there graph (d ∷ done) c rest start rows is =
    later_there (rows_or_none (rows_after graph (unselected c) rows)) (rows_or_none (rows_after graph (unselected d) start)) (tables_after graph (done ++ c ∷ rest) (rows_or_none (rows_after graph d start)))
    (further (λ some so. table_there graph done c rest some rows so) (rows_after graph d start) is)
  where
    further : ((some : List (List Cell)) → rows_after_all graph done some ≡ Ok rows → Contains (tables_after graph (done ++ c ∷ rest) some) (rows_or_none (rows_after graph (unselected c) rows)))
        → (o : Outcome) → on_one (rows_after_all graph done) o ≡ Ok rows → Contains (tables_after graph (done ++ c ∷ rest) (rows_or_none o)) (rows_or_none (rows_after graph (unselected c) rows))
    further there (Ok some) so = there some so
    further there (Err fault) so = cc

-- ---- the beginning and the end

pub begins : (query : Query) → Stands query [] [] plan.unit
begins query = record {
  long = refl;
  rows = λ graph is row. refl;
  fits = λ graph is. (refl, tt);
  sure = λ graph is. tt;
  bounded = λ graph is. All-cons (IsWithin graph.content (query_tables graph.content query)) plan.unit [] (λ row. inl (once row)) (All-nil (IsWithin graph.content (query_tables graph.content query)));
}
  where
    at_most : (b : Bool) (n : ℕ) → n ≡ 0 → cond b 1 0 + n ≤ 1
    at_most true n none = omega (arith, none)
    at_most false n none = omega (arith, none)

    once : (row : List Cell) → count_of row ([] ∷ []) ≤ 1
    once row = subst (λ n. n ≤ 1) (sym (count_cons row [] [])) (at_most (same row []) (count_of row []) refl)

pub ends : (query : Query) (scope : Scope) (p : Plan) → Stands query query.clauses scope p → scope ≡ query_scope query → IsWellFormed p → IsQueryPlan query p
ends query scope p stands last well = record {
  long = sym (ap length last) ∙ stands.long;
  rows = stands.rows;
  sure = stands.sure;
  well_formed = well;
  bounded = stands.bounded;
}

-- ---- one clause more

unselected_reads : (c : Clause) → is_update c ≡ false → is_update (unselected c) ≡ false
unselected_reads (create paths) reads = reads
unselected_reads (set items) reads = reads
unselected_reads (remove items) reads = reads
unselected_reads (delete detach variables) reads = reads
unselected_reads _ reads = refl

pub if_ok_value : (P : List (List Cell) → Type 0) (o : Outcome) (rows : List (List Cell)) → o ≡ Ok rows → IfOk o P → P rows
if_ok_value P o rows is here = subst (λ (q : Outcome). IfOk q P) is here

module _ (total : IsTotalOrder row_cmp) (bags : (graph : Content) (clause : Clause) (rows others : List (List Cell)) → is_update clause ≡ false → IsSameBag rows others → IsSameOutcome (rows_after graph clause rows) (rows_after graph clause others))
    (query : Query) (done : List Clause) (c : Clause) (rest : List Clause) (splits : query.clauses ≡ done ++ c ∷ rest) (ok : (graph : State) → IsGraph graph → IsOk (query_rows graph.content query))
    (scope : Scope) (below : Plan) (stands : Stands query done scope below) (reads : is_update c ≡ false) where
  module _ (graph : State) (is : IsGraph graph) where
    abbrev start : List (List Cell)
    start = [] ∷ []

    abbrev before : List (List Cell)
    before = rows_of graph.content below

    whole_ok : IsOk (on_one (rows_after_all graph.content (c ∷ rest)) (rows_after_all graph.content done start))
    whole_ok =
        subst (λ (o : Outcome). IsOk o) (after_more graph.content done c rest (Ok start))
        (subst (λ (cs : List Clause). IsOk (rows_after_all graph.content cs start)) splits (ok graph is))

    meant : (rows : List (List Cell)) × (rows_after_all graph.content done start ≡ Ok rows)
    meant = value_of_ok (rows_after_all graph.content done start) (then_ok (rows_after_all graph.content (c ∷ rest)) (rows_after_all graph.content done start) whole_ok)

    same_before : IsSameBag before meant.0
    same_before = subst (λ (o : Outcome). IsSameOutcome (Ok before) o) meant.1 (stands.rows graph is)

    same_after : IsSameOutcome (rows_after graph.content c before) (rows_after graph.content c meant.0)
    same_after = bags graph.content c before meant.0 reads same_before

    -- the clause has no fault on the rows of the plan
    pub clause_ok : IsOk (rows_after graph.content c before)
    clause_ok =
        ok_same (rows_after graph.content c before) (rows_after graph.content c meant.0) same_after
        (then_ok (rows_after_all graph.content rest) (rows_after graph.content c meant.0)
        (subst (λ (o : Outcome). IsOk (on_one (rows_after_all graph.content (c ∷ rest)) o)) meant.1 whole_ok))

    seen : AllByRecursion (Fits scope) before
    seen = stands.fits graph is

  module _ (after : Scope) (p : Plan) (made : IsClausePlan c scope after below p) where
    module _ (graph : State) (is : IsGraph graph) where
      next_rows : IsSameOutcome (Ok (rows_of graph.content p)) (rows_after_all graph.content (done ++ c ∷ []) (start graph is))
      next_rows =
          subst (λ (o : Outcome). IsSameOutcome (Ok (rows_of graph.content p)) o)
          (sym (after_one graph.content done c (start graph is) ∙ ap (on_one (rows_after graph.content c)) (meant graph is).1))
          (same_both (Ok (rows_of graph.content p)) (rows_after graph.content c (before graph is)) (rows_after graph.content c (meant graph is).0) (made.rows graph is (seen graph is) (clause_ok graph is)) (same_after graph is))

      made_value : (rows : List (List Cell)) × (rows_after graph.content c (before graph is) ≡ Ok rows)
      made_value = value_of_ok (rows_after graph.content c (before graph is)) (clause_ok graph is)

      next_fits : AllByRecursion (Fits after) (rows_of graph.content p)
      next_fits =
          each_permuted (Fits after)
          (permuted_bag total (rows_of graph.content p) made_value.0 (subst (λ (o : Outcome). IsSameOutcome (Ok (rows_of graph.content p)) o) made_value.1 (made.rows graph is (seen graph is) (clause_ok graph is))))
          (if_ok_value (AllByRecursion (Fits after)) (rows_after graph.content c (before graph is)) made_value.0 made_value.1 (made.fits graph is (seen graph is)))

      abbrev table : List (List Cell)
      table = rows_or_none (rows_after graph.content (unselected c) (meant graph is).0)

      there : Contains (query_tables graph.content query) table
      there =
          subst (λ (cs : List Clause). Contains (tables_after graph.content cs (start graph is)) table) (sym splits) (table_there graph.content done c rest (start graph is) (meant graph is).0 (meant graph is).1)

      same_wide : IsSameOutcome (rows_after graph.content (unselected c) (meant graph is).0) (rows_after graph.content (unselected c) (before graph is))
      same_wide = same_back (rows_after graph.content (unselected c) (before graph is)) (rows_after graph.content (unselected c) (meant graph is).0) (bags graph.content (unselected c) (before graph is) (meant graph is).0 (unselected_reads c reads) (same_before graph is))

      table_is : (o : Outcome) → IsOk o → o ≡ Ok (rows_or_none o)
      table_is (Ok rows) so = refl
      table_is (Err fault) so = cc

      same_table : IsSameOutcome (Ok table) (rows_after graph.content (unselected c) (before graph is))
      same_table =
          subst (λ (o : Outcome). IsSameOutcome o (rows_after graph.content (unselected c) (before graph is)))
          (table_is (rows_after graph.content (unselected c) (meant graph is).0) (ok_same (rows_after graph.content (unselected c) (meant graph is).0) (rows_after graph.content (unselected c) (before graph is)) same_wide (made.wide_ok graph is (clause_ok graph is))))
          same_wide

      next_bounded : All (IsWithin graph.content (query_tables graph.content query)) (parts p)
      next_bounded = made.bounded graph (query_tables graph.content query) table is (seen graph is) (clause_ok graph is) there same_table (stands.bounded graph is)

    pub goes_on : Stands query (done ++ c ∷ []) after p
    goes_on = record {
      long = made.long;
      rows = λ graph is. next_rows graph is;
      fits = λ graph is. next_fits graph is;
      sure = made.sure (λ graph is. seen graph is) (λ graph is. clause_ok graph is) stands.sure;
      bounded = λ graph is. next_bounded graph is;
    }
