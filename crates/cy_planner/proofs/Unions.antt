-- The rows of several queries, one after another, and the plan of them.
use Rattle.std.proofs.Common.{◌≡◌, ℕ, zero, suc, ◌≤◌, ◌<◌, Bool, true, false, cond, min, List, [], ◌∷◌, ◌++◌, length, map, refl, sym, ap, subst, ◌∙◌, inl, inr, arith}
use Rattle.std.specs.Prelude.{◌⊎◌, flat_map, IsOk, Ok, Err}
use Rattle.std.specs.List.{All, Contains, list_all}
use Rattle.std.specs.Cmp.{IsTotalOrder}
use Rattle.std.specs.Ordering.{eq_by_cmp}
use Rattle.std.proofs.lemmas.Bool.{and_parts}
use Rattle.std.proofs.lemmas.Cmp.{eq_by_cmp_equiv}
use Rattle.std.proofs.lemmas.List.{length-map}
use Rattle.std.proofs.lemmas.List.Elements.{All-append, All-cons, All-head, All-tail, All-weaker, Contains-append_left, Contains-append_right}
use Rattle.cy_values.specs.declared.rows.Cell.{Cell}
use Rattle.cy_values.specs.Bag.{count_of, IsSameBag}
use Rattle.cy_values.specs.Order.{row_cmp}
use Rattle.cy_trees.specs.Trees.{Query, Statement}
use Rattle.cy_scope_kinds.specs.Scopes.{Scope}
use Rattle.cy_scope.specs.Checked.{IsChecked, IsViewQuery, single}
use Rattle.cy_scope.specs.ClauseScopes.{query_scope}
use Rattle.cy_scope.specs.Views.{any_clause, are_readings, are_sure_clauses, has_aggregate, has_queries, is_ordered, is_reading, is_unbounded}
use Rattle.cy_graph.specs.Graph.{Content, State, IsGraph}
use Rattle.cy_expr.specs.Faults.{on_one}
use Rattle.cy_oneshot_patterns.specs.Outcomes.{IsSameOutcome}
use Rattle.cy_oneshot_meaning.proofs.OnceCounts.{once_count, permuted_in_order}
use Rattle.cy_oneshot_meaning.proofs.Permuted.{same_sum}
use Rattle.cy_oneshot_meaning.specs.Order.{each_once, in_order}
use Rattle.cy_oneshot_meaning.specs.Queries.{put_together, query_rows, rows_of_all, statement_rows}
use Rattle.cy_planner_algebra.specs.Plans as plan
use Rattle.cy_planner_algebra.specs.Plans.{Plan}
use Rattle.cy_planner_algebra.specs.Parts.{parts}
use Rattle.cy_planner_algebra.specs.Meaning.{rows_of}
use Rattle.cy_planner_algebra.specs.WellFormed.{IsWellFormed}
use Rattle.cy_planner_algebra.specs.Within.{CountsWithin, IsWithin}
use Rattle.cy_planner_algebra.proofs.Counts.{count_append, count_once}
use Rattle.cy_planner.specs.Serves.{Serves}
use Rattle.cy_planner.specs.WideTables.{query_tables, rows_or_none, wide_tables}
use Rattle.cy_planner.specs.internal.QueryPlans.{AreViewQueries, IsPlanOfAll, IsQueryPlan, tables_of_all}
use Rattle.cy_planner.proofs.GoingOn.{Outcome, first_there, value_of_ok}
use Rattle.cy_planner.proofs.ViewClauses.{no_reason}

-- ---- outcomes

meant_rows : (made : List (List Cell)) (o : Outcome) → IsSameOutcome (Ok made) o → (rows : List (List Cell)) × (o ≡ Ok rows) × IsSameBag made rows
meant_rows made (Ok rows) same = (rows, refl, same)
meant_rows made (Err fault) same = absurd same

module _ (graph : Content) where
  -- where no query has a fault they have rows together
  all_rows : (qs : List Query) → All (λ q. IsOk (query_rows graph q)) qs → (before : List (List Cell)) → IsOk (rows_of_all graph qs before)
  all_rows [] each before = refl
  all_rows (q ∷ qs) each before =
      let own = value_of_ok (query_rows graph q) (All-head (λ (r : Query). IsOk (query_rows graph r)) q qs each) in
      subst (λ (o : Outcome). IsOk (on_one (λ more. rows_of_all graph qs (before ++ more)) o)) (sym own.1)
      (all_rows qs (All-tail (λ (r : Query). IsOk (query_rows graph r)) q qs each) (before ++ own.0))

  -- the rows of further queries take none away
  grows : (qs : List Query) (before all : List (List Cell)) → rows_of_all graph qs before ≡ Ok all → (row : List Cell) → count_of row before ≤ count_of row all
  grows [] before all is row = let same : before ≡ all = cc in subst (λ (rows : List (List Cell)). count_of row before ≤ count_of row rows) same (omega arith)
  grows (q ∷ qs) before all is row = of (λ more so. grows qs (before ++ more) all so row) (query_rows graph q) is
    where
      of : ((more : List (List Cell)) → rows_of_all graph qs (before ++ more) ≡ Ok all → count_of row (before ++ more) ≤ count_of row all)
          → (o : Outcome) → on_one (λ more. rows_of_all graph qs (before ++ more)) o ≡ Ok all → count_of row before ≤ count_of row all
      of further (Ok more) is = let rest = further more is in let sum = count_append row before more in omega (arith, rest, sum)
      of further (Err fault) is = cc

-- ---- the queries of a view

some_query : (qs : List Query) → has_queries qs ≡ true → 0 < length qs
some_query [] is = cc
some_query (q ∷ qs) is = omega arith

as_many : (a b : Scope) → map (λ v. v.0) a ≡ map (λ v. v.0) b → length a ≡ length b
as_many a b same = sym (length-map a (λ v. v.0)) ∙ ap length same ∙ length-map b (λ v. v.0)

pub are_view_queries : ((tree : Statement) → IsViewQuery tree → All (λ q. IsViewQuery (single q)) tree.queries)
    → ((tree : Statement) → IsChecked tree → (p q : Query) → Contains tree.queries p → Contains tree.queries q → map (λ v. v.0) (query_scope p) ≡ map (λ v. v.0) (query_scope q))
    → (s : Statement) → IsViewQuery s → AreViewQueries s.queries
are_view_queries views columns s is =
    let facts =
    no_reason (are_readings s.queries) (any_clause is_ordered s.queries) (any_clause has_aggregate s.queries) (any_clause is_unbounded s.queries) (list_all (λ q. are_sure_clauses [] q.clauses) s.queries) is.1 in
    record {
      some = some_query s.queries (and_parts (has_queries s.queries) (list_all (λ q. is_reading q.clauses) s.queries) facts.0).0;
      each = views s is;
      as_wide = λ p q first second. as_many (query_scope p) (query_scope q) (columns s is.0 p q first second);
    }

-- ---- tables

-- what counts within some tables does so within others among which they are
within_more : (graph : Content) (tables others : List (List (List Cell))) → ((table : List (List Cell)) → Contains tables table → Contains others table) → (p : Plan) → IsWithin graph tables p → IsWithin graph others p
within_more graph tables others there p within = λ row. of (count_of row (rows_of graph p)) (within row)
  where
    of : (count : ℕ) → CountsWithin tables count → CountsWithin others count
    of count (inl once) = inl once
    of count (inr (table, is, found)) = inr (table, there table is, found)

-- the tables of a query are among those of all
query_there : (graph : Content) (qs : List Query) (q : Query) → Contains qs q → (table : List (List Cell)) → Contains (query_tables graph q) table → Contains (flat_map (query_tables graph) qs) table
query_there graph [] q (k, less, is) table there = absurd (let none : ⊥ = omega (arith, less) in none)
query_there graph (r ∷ qs) q (zero, less, is) table there =
    Contains-append_left (query_tables graph r) (flat_map (query_tables graph) qs) table (subst (λ (s : Query). Contains (query_tables graph s) table) (sym is) there)
query_there graph (r ∷ qs) q (suc k, less, is) table there =
    Contains-append_right (query_tables graph r) (flat_map (query_tables graph) qs) table (query_there graph qs q (k, (let fewer : k < length qs = omega (arith, less) in fewer), is) table there)

abbrev whole_table : Content → List Query → List (List Cell)
whole_table graph queries = rows_or_none (rows_of_all graph queries [])

-- and so are the rows of all
whole_there : (graph : Content) (queries : List Query) → Contains (tables_of_all graph queries) (whole_table graph queries)
whole_there graph queries =
    Contains-append_right (flat_map (query_tables graph) queries) (whole_table graph queries ∷ []) (whole_table graph queries) (first_there (whole_table graph queries) [])

-- ---- the plan, query by query

module _ (queries : List Query) where
  -- the parts of a query's plan
  query_bounded : (q : Query) (p : Plan) → Contains queries q → IsQueryPlan q p → (graph : State) → IsGraph graph → All (IsWithin graph.content (tables_of_all graph.content queries)) (parts p)
  query_bounded q p there is graph good =
      All-weaker (IsWithin graph.content (query_tables graph.content q)) (IsWithin graph.content (tables_of_all graph.content queries))
      (within_more graph.content (query_tables graph.content q) (tables_of_all graph.content queries)
      (λ table among. Contains-append_left (flat_map (query_tables graph.content) queries) (whole_table graph.content queries ∷ []) table (query_there graph.content queries q there table among)))
      (parts p) (is.bounded graph good)

  pub first_planned : (q : Query) (others : List Query) (p : Plan) → AreViewQueries queries → queries ≡ q ∷ others → IsQueryPlan q p → IsPlanOfAll queries others p
  first_planned q others p are splits is = record {
    long = λ r among. are.as_wide r q among there ∙ is.long;
    rows = λ graph good. first_rows graph good;
    sure = is.sure;
    bounded = λ graph good. query_bounded q p there is graph good;
  }
    where
      there : Contains queries q
      there = subst (λ (qs : List Query). Contains qs q) (sym splits) (first_there q others)

      first_rows : (graph : State) → IsGraph graph → (table : List (List Cell)) × IsSameBag (rows_of graph.content p) table × (rows_of_all graph.content others table ≡ rows_of_all graph.content queries [])
      first_rows graph good =
          let own = meant_rows (rows_of graph.content p) (query_rows graph.content q) (is.rows graph good) in (
            own.0,
            own.2,
            sym (ap (λ (qs : List Query). rows_of_all graph.content qs []) splits ∙ ap (on_one (λ more. rows_of_all graph.content others more)) own.1),
          )

  module _ (ok : (graph : Content) (q : Query) → IsViewQuery (single q) → IsOk (query_rows graph q)) (are : AreViewQueries queries) where
    whole_is : (graph : Content) → rows_of_all graph queries [] ≡ Ok (whole_table graph queries)
    whole_is graph =
        of (rows_of_all graph queries [])
        (all_rows graph queries (All-weaker (λ (q : Query). IsViewQuery (single q)) (λ (q : Query). IsOk (query_rows graph q)) (ok graph) queries are.each) [])
      where
        of : (o : Outcome) → IsOk o → o ≡ Ok (rows_or_none o)
        of (Ok rows) is = refl
        of (Err fault) is = cc

    pub next_planned : (q : Query) (left : List Query) (p more : Plan) → Contains queries q → IsPlanOfAll queries (q ∷ left) p → IsQueryPlan q more → IsPlanOfAll queries left (plan.union p more)
    next_planned q left p more there so_far is = record {
      long = so_far.long;
      rows = λ graph good. next_rows graph good;
      sure = λ graph good. (so_far.sure graph good, is.sure graph good);
      bounded = λ graph good.
          All-cons (IsWithin graph.content (tables_of_all graph.content queries)) (plan.union p more) (parts p ++ parts more) (λ row. inr (whole_table graph.content queries, whole_there graph.content queries, (row, fewer graph good row)))
          (All-append (IsWithin graph.content (tables_of_all graph.content queries)) (parts p) (parts more) (so_far.bounded graph good) (query_bounded q more there is graph good));
    }
      where
        next_rows : (graph : State) → IsGraph graph
            → (table : List (List Cell)) × IsSameBag (rows_of graph.content (plan.union p more)) table × (rows_of_all graph.content left table ≡ rows_of_all graph.content queries [])
        next_rows graph good =
            let before = so_far.rows graph good in
            let own = meant_rows (rows_of graph.content more) (query_rows graph.content q) (is.rows graph good) in (
              before.0 ++ own.0,
              (λ row.
                  let here = count_append row (rows_of graph.content p) (rows_of graph.content more) in
                  let meant = count_append row before.0 own.0 in
                  let first = before.1 row in
                  let second = own.2 row in
                  omega (arith, here, meant, first, second)),
              sym (ap (on_one (λ rows. rows_of_all graph.content left (before.0 ++ rows))) own.1) ∙ before.2,
            )

        fewer : (graph : State) → IsGraph graph → (row : List Cell) → count_of row (rows_of graph.content (plan.union p more)) ≤ count_of row (whole_table graph.content queries)
        fewer graph good row =
            let next = next_rows graph good in
            let same = next.1 row in
            let less = grows graph.content left next.0 (whole_table graph.content queries) (next.2 ∙ whole_is graph.content) row in
            omega (arith, same, less)

-- ---- the rows of all, as UNION puts them together

ordered_count : (row : List Cell) (rows : List (List Cell)) → count_of row (in_order row_cmp rows) ≡ count_of row rows
ordered_count row rows = same_sum (λ other. cond (eq_by_cmp row_cmp row other) 1 0) (permuted_in_order row_cmp rows)

keeps_all : (all : Bool) (queries : List Query) (rows : List (List Cell)) → (all ≡ true) ⊎ (length queries ≡ 1) → (row : List Cell) → count_of row (put_together all queries rows) ≡ count_of row rows
keeps_all all (q ∷ []) rows is row = refl
keeps_all true [] rows is row = ordered_count row rows
keeps_all true (q ∷ r ∷ queries) rows is row = ordered_count row rows
keeps_all false [] rows (inl is) row = cc
keeps_all false [] rows (inr is) row = cc
keeps_all false (q ∷ r ∷ queries) rows (inl is) row = cc
keeps_all false (q ∷ r ∷ queries) rows (inr is) row = absurd (let none : ⊥ = omega (arith, is) in none)

keeps_once : IsTotalOrder row_cmp → (all : Bool) (queries : List Query) (rows : List (List Cell)) → all ≡ false → (length queries ≡ 1 → ⊥) → (row : List Cell)
    → count_of row (put_together all queries rows) ≡ min 1 (count_of row rows)
keeps_once total true queries rows is several row = cc
keeps_once total false (q ∷ []) rows is several row = absurd (several refl)
keeps_once total false [] rows is several row = ordered_count row (each_once row_cmp rows) ∙ once_count row_cmp (eq_by_cmp_equiv total) row rows
keeps_once total false (q ∷ r ∷ queries) rows is several row = ordered_count row (each_once row_cmp rows) ∙ once_count row_cmp (eq_by_cmp_equiv total) row rows

module _ (s : Statement) (p : Plan) (is : IsPlanOfAll s.queries [] p) (well : IsWellFormed p) where
  -- the rows of the statement
  statement_is : (graph : State) (good : IsGraph graph) → statement_rows graph.content s ≡ Ok (put_together s.all s.queries (is.rows graph good).0)
  statement_is graph good = ap (on_one (λ rows. let made : Outcome = Ok (put_together s.all s.queries rows) in made)) (sym (is.rows graph good).2)

  pub all_served : (s.all ≡ true) ⊎ (length s.queries ≡ 1) → Serves p s
  all_served keeps = record {
    well_formed = well;
    sure = is.sure;
    rows = λ graph good.
        subst (λ (o : Outcome). IsSameOutcome (Ok (rows_of graph.content p)) o) (sym (statement_is graph good))
        (λ row. (is.rows graph good).1 row ∙ sym (keeps_all s.all s.queries (is.rows graph good).0 keeps row));
    bounded = is.bounded;
  }

  pub once_served : IsTotalOrder row_cmp → s.all ≡ false → (length s.queries ≡ 1 → ⊥) → Serves (plan.distinct p) s
  once_served total all several = record {
    well_formed = well;
    sure = is.sure;
    rows = λ graph good.
        subst (λ (o : Outcome). IsSameOutcome (Ok (rows_of graph.content (plan.distinct p))) o) (sym (statement_is graph good))
        (λ row.
        count_once row (rows_of graph.content p) ∙ ap (min 1) ((is.rows graph good).1 row) ∙ sym (keeps_once total s.all s.queries (is.rows graph good).0 all several row));
    bounded = λ graph good.
        All-cons (IsWithin graph.content (wide_tables graph.content s)) (plan.distinct p) (parts p)
        (λ row. inl (let count = count_once row (rows_of graph.content p) in omega (arith, count))) (is.bounded graph good);
  }
