-- What the query of a view promises of each of its clauses.
use Rattle.std.proofs.Common.{◌≡◌, Bool, true, false, cond, not, ◌&&◌, ◌||◌, List, [], ◌∷◌, length, map, refl, sym, ap, subst, ◌∙◌, inl, inr}
use Rattle.std.specs.Prelude.{◌⊎◌, IfOk, Option, None, Some}
use Rattle.std.specs.List.{AllByRecursion, list_any}
use Rattle.std.proofs.lemmas.Bool.{and_parts, true≢false, or_parts}
use Rattle.std.proofs.lemmas.List.{length-map}
use Rattle.std.proofs.lemmas.List.Elements.{recursion_from_All}
use Rattle.cy_values.specs.declared.rows.Cell.{Cell}
use Rattle.cy_values.proofs.Booleans.{untrue}
use Rattle.cy_trees.specs.Trees.{Expression, null, boolean, integer, text, variable, property, has_labels, unary, binary, comparison, list, case, call, call_star, Path, Item, Projection, Clause, «match», unwind, «with», «return», create, set, remove, delete, Query, Statement, Where}
use Rattle.cy_scope_kinds.specs.declared.functions.Function.{Function}
use Rattle.cy_scope_kinds.specs.declared.kinds.Kind.{Kind}
use Rattle.cy_scope_kinds.specs.Aggregates.{has_aggregates, is_aggregate_call, is_aggregate_if}
use Rattle.cy_scope_kinds.specs.Kinded.{HasKind, IsAggregate, IsKinded}
use Rattle.cy_scope_kinds.specs.Scopes.{Scope, with_paths}
use Rattle.cy_scope.specs.Checked.{ClausesAreKinded, FilterGivesValue, IsChecked, IsViewQuery, ItemIsKinded, ProjectionIsKinded, item_column, single}
use Rattle.cy_scope.specs.ClauseFaults.{clause_fault, clauses_fault, queries_fault, query_fault}
use Rattle.cy_scope.specs.ClauseScopes.{columns_of, scope_after}
use Rattle.cy_scope.specs.ConditionFaults.{where_fault}
use Rattle.cy_scope.specs.PatternFaults.{paths_fault}
use Rattle.cy_scope.specs.ProjectionFaults.{projection_fault}
use Rattle.cy_scope.specs.Resolved.{resolved_clause, resolved_clauses, resolved_path, resolved_projection, resolved_query}
use Rattle.cy_scope_kinds.specs.Faults.{first}
use Rattle.cy_scope_kinds.specs.declared.faults.ScopeFault.{ScopeFault}
use Rattle.cy_scope_kinds.specs.declared.faults.ViewFault.TheVariants.{AggregateInView, MayFail, NotAReading, OrderInView, Unbounded}
use Rattle.cy_scope.specs.Views.{are_sure_clauses, ends_with_return, has_aggregate, is_ordered, is_reading, is_sure_after, is_sure_before, is_unbounded, is_update}
use Rattle.cy_scope.proofs.KindedExpressions.{first_none}
use Rattle.cy_scope.proofs.KindsKept.{paths_kept, scope_kept}
use Rattle.cy_graph.specs.Graph.{Content}
use Rattle.cy_oneshot_meaning.proofs.ScopeClauses.{clause_fits, projection_fits}
use Rattle.cy_oneshot_meaning.specs.Projection.{projection_rows}
use Rattle.cy_oneshot_meaning.specs.Queries.{rows_after}
use Rattle.cy_planner_optional.specs.Matched.{IsTestKinded, where_only}
use Rattle.cy_planner.specs.internal.Projections.{expressions_in}
use Rattle.cy_planner.specs.internal.ClausePlans.{Fits}
use Rattle.cy_planner.specs.internal.ViewClauses.{AreViewClauses, IsViewClause}

-- ---- a query

none_of : (f : Clause → Bool) (c : Clause) (cs : List Clause) → list_any f (c ∷ cs) ≡ false → (f c ≡ false) × (list_any f cs ≡ false)
none_of f c cs is = or_parts (f c) (list_any f cs) is

view_clauses : (scope : Scope) (cs : List Clause) → clauses_fault scope cs ≡ None → ClausesAreKinded scope (resolved_clauses scope cs) → are_sure_clauses scope (resolved_clauses scope cs) ≡ true
    → list_any is_update (resolved_clauses scope cs) ≡ false → list_any has_aggregate (resolved_clauses scope cs) ≡ false → list_any is_ordered (resolved_clauses scope cs) ≡ false
    → list_any is_unbounded (resolved_clauses scope cs) ≡ false → AreViewClauses scope (resolved_clauses scope cs)
view_clauses scope [] good kinded sure reads alone unordered bounded = tt
view_clauses scope (c ∷ cs) good kinded sure reads alone unordered bounded =
    let after : Scope = scope_after scope c in
    let r : Clause = resolved_clause scope after c in
    let rest : List Clause = resolved_clauses after cs in
    let same : scope_after scope r ≡ after = scope_kept scope after c in
    let faults = first_none (clause_fault scope c) (clauses_fault after cs) good in
    let outer = and_parts (is_sure_before scope r && is_sure_after (scope_after scope r) r) (are_sure_clauses (scope_after scope r) rest) sure in
    let inner = and_parts (is_sure_before scope r) (is_sure_after (scope_after scope r) r) outer.0 in
    let reading = none_of is_update r rest reads in
    let groups = none_of has_aggregate r rest alone in
    let orders = none_of is_ordered r rest unordered in
    let lengths = none_of is_unbounded r rest bounded in
    let here : IsViewClause scope r = record {
      written = c;
      good = faults.0;
      is = refl;
      kinded = kinded.0;
      reads = reading.0;
      sure_before = inner.0;
      sure_after = inner.1;
      alone = groups.0;
      unordered = orders.0;
      bounded = lengths.0;
    } in (
      here,
      subst (λ (s : Scope). AreViewClauses s rest) (sym same)
          (view_clauses after cs faults.1 (subst (λ (s : Scope). ClausesAreKinded s rest) same kinded.1) (subst (λ (s : Scope). are_sure_clauses s rest ≡ true) same outer.1)
          reading.1 groups.1 orders.1 lengths.1),
    )

-- none of the reasons against a query of a view
pub no_reason : (a b c d e : Bool)
    → cond (not a) (Some NotAReading) (cond b (Some OrderInView) (cond c (Some AggregateInView) (cond d (Some Unbounded) (cond (not e) (Some MayFail) None)))) ≡ None
    → (a ≡ true) × (b ≡ false) × (c ≡ false) × (d ≡ false) × (e ≡ true)
no_reason true false false false true none = (refl, refl, refl, refl, refl)
no_reason true false false false false none = cc
no_reason true false false true e none = cc
no_reason true false true d e none = cc
no_reason true true c d e none = cc
no_reason false b c d e none = cc

of_one : (b : Bool) → b || false ≡ false → b ≡ false
of_one false is = refl
of_one true is = is

-- a statement of one query comes of one query
only_query : (q : Query) (qs : List Query) → q ∷ [] ≡ map resolved_query qs → (p : Query) × (qs ≡ p ∷ []) × (q ≡ resolved_query p)
only_query q [] is = cc
only_query q (p ∷ []) is = (p, refl, cc)
only_query q (p ∷ r ∷ qs) is = cc

pub view_query : ((q : Query) → IsChecked (single q) → ClausesAreKinded [] q.clauses) → (query : Query) → IsViewQuery (single query) → AreViewClauses [] query.clauses
view_query kinds query (of, good) =
    let cs : List Clause = query.clauses in
    let facts =
    no_reason (is_reading cs && true) (list_any is_ordered cs || false) (list_any has_aggregate cs || false) (list_any is_unbounded cs || false) (are_sure_clauses [] cs && true) good in
    let reading = and_parts (is_reading cs) true facts.0 in
    let reads : list_any is_update cs ≡ false = untrue (list_any is_update cs) (and_parts (ends_with_return cs) (not (list_any is_update cs)) reading.0).1 in
    let found = only_query query of.0.queries (ap (λ (s : Statement). s.queries) of.2) in
    let written : List Clause = found.0.clauses in
    let free : query_fault found.0 ≡ None = (first_none (query_fault found.0) None (ap queries_fault (sym found.1) ∙ of.1)).0 in
    let are : cs ≡ resolved_clauses [] written = ap (λ (q : Query). q.clauses) found.2 in
    let kinded : ClausesAreKinded [] cs = kinds query of in
    subst (λ (l : List Clause). AreViewClauses [] l) (sym are)
    (view_clauses [] written free (subst (λ (l : List Clause). ClausesAreKinded [] l) are kinded)
    (subst (λ (l : List Clause). are_sure_clauses [] l ≡ true) are (and_parts (are_sure_clauses [] cs) true facts.4).0)
    (subst (λ (l : List Clause). list_any is_update l ≡ false) are reads)
    (subst (λ (l : List Clause). list_any has_aggregate l ≡ false) are (of_one (list_any has_aggregate cs) facts.2))
    (subst (λ (l : List Clause). list_any is_ordered l ≡ false) are (of_one (list_any is_ordered cs) facts.1))
    (subst (λ (l : List Clause). list_any is_unbounded l ≡ false) are (of_one (list_any is_unbounded cs) facts.3)))

-- ---- the rows after a clause

module _ (scope : Scope) (c : Clause) (view : IsViewClause scope c) where
  same_scope : scope_after scope view.written ≡ scope_after scope c
  same_scope = sym (scope_kept scope (scope_after scope view.written) view.written) ∙ sym (ap (scope_after scope) view.is)

  written_reads : is_update view.written ≡ false
  written_reads = of (scope_after scope view.written) view.written (ap is_update (sym view.is) ∙ view.reads)
    where
      of : (after : Scope) (w : Clause) → is_update (resolved_clause scope after w) ≡ false → is_update w ≡ false
      of after («match» optional paths w) is = refl
      of after (unwind e v) is = refl
      of after («with» p w) is = refl
      of after («return» p) is = refl
      of after (create paths) is = is
      of after (set items) is = is
      of after (remove items) is = is
      of after (delete detach variables) is = is

  pub rows_fit : (graph : Content) (rows : List (List Cell)) → AllByRecursion (Fits scope) rows → IfOk (rows_after graph c rows) (AllByRecursion (Fits (scope_after scope c)))
  rows_fit graph rows each =
      subst (λ (d : Clause). IfOk (rows_after graph d rows) (AllByRecursion (Fits (scope_after scope c)))) (sym view.is)
      (subst (λ (s : Scope). IfOk (rows_after graph (resolved_clause scope (scope_after scope view.written) view.written) rows) (AllByRecursion (Fits s))) same_scope
      (clause_fits graph scope view.written rows view.good written_reads each))

-- ---- projections

-- an item that is no aggregate has a kind
item_read : (scope : Scope) (e : Expression) (k : Kind) → HasKind scope e k ⊎ IsAggregate scope e k → is_aggregate_call e ≡ false → IsKinded scope e
item_read scope e k (inl has) alone = (k, has)
item_read scope null k (inr is) alone = absurd is
item_read scope (boolean b) k (inr is) alone = absurd is
item_read scope (integer n) k (inr is) alone = absurd is
item_read scope (text t) k (inr is) alone = absurd is
item_read scope (variable v) k (inr is) alone = absurd is
item_read scope (property e key) k (inr is) alone = absurd is
item_read scope (has_labels e labels) k (inr is) alone = absurd is
item_read scope (unary operator e) k (inr is) alone = absurd is
item_read scope (binary operator a b) k (inr is) alone = absurd is
item_read scope (comparison e links) k (inr is) alone = absurd is
item_read scope (list es) k (inr is) alone = absurd is
item_read scope (case arms e) k (inr is) alone = absurd is
item_read scope (call name distinct es) k (inr is) alone = absurd (true≢false (sym is.3 ∙ ap (λ (o : Option Function). is_aggregate_if o) (sym is.2) ∙ alone))
item_read scope (call_star name) k (inr is) alone = absurd (true≢false (ap (λ (o : Option Function). is_aggregate_if o) (sym is.0) ∙ alone))

no_aggregate : (i : Item) (items : List Item) → list_any (λ (j : Item). is_aggregate_call j.expression) (i ∷ items) ≡ false
    → (is_aggregate_call i.expression ≡ false) × (list_any (λ (j : Item). is_aggregate_call j.expression) items ≡ false)
no_aggregate i items is = or_parts (is_aggregate_call i.expression) (list_any (λ (j : Item). is_aggregate_call j.expression) items) is

module _ (scope : Scope) where
  each_read : (items : List Item) → AllByRecursion (ItemIsKinded scope) items → list_any (λ (i : Item). is_aggregate_call i.expression) items ≡ false → AllByRecursion (IsKinded scope) (expressions_in items)
  each_read [] each alone = tt
  each_read (i ∷ items) each alone =
      let parts = no_aggregate i items alone in
      (item_read scope i.expression _ each.0 parts.0, each_read items each.1 parts.1)

  pub items_read : (p : Projection) → ProjectionIsKinded scope p → has_aggregates p ≡ false → AllByRecursion (IsKinded scope) (expressions_in p.items)
  items_read p kinded alone = each_read p.items (recursion_from_All (ItemIsKinded scope) p.items kinded.0) alone

  pub as_many : (p : Projection) → ProjectionIsKinded scope p → length (columns_of scope p.items) ≡ length p.items
  as_many p kinded = ap length kinded.1 ∙ length-map p.items (item_column scope)

  pub test_read : (test : Option Expression) → FilterGivesValue scope test → IsTestKinded scope test
  test_read None gives = tt
  test_read (Some e) gives = (gives.0, gives.1)

  -- the rows of the projection of WITH, before its WHERE
  pub projected_fit : (p : Projection) (test : Option Expression) (view : IsViewClause scope («with» p (where_only test))) (graph : Content) (rows : List (List Cell)) → AllByRecursion (Fits scope) rows
      → IfOk (projection_rows graph p rows) (AllByRecursion (Fits (columns_of scope p.items)))
  projected_fit p test view graph rows each = of view.written view.good view.is
    where
      of : (w : Clause) → clause_fault scope w ≡ None → «with» p (where_only test) ≡ resolved_clause scope (scope_after scope w) w → IfOk (projection_rows graph p rows) (AllByRecursion (Fits (columns_of scope p.items)))
      of («with» q other) good is =
          let same : p ≡ resolved_projection scope (columns_of scope q.items) q = cc in
          let kept : columns_of scope q.items ≡ columns_of scope p.items = sym (scope_kept scope (columns_of scope q.items) («with» q other)) ∙ sym (ap (scope_after scope) is) in
          subst (λ (r : Projection). IfOk (projection_rows graph r rows) (AllByRecursion (Fits (columns_of scope p.items)))) (sym same)
          (subst (λ (s : Scope). IfOk (projection_rows graph (resolved_projection scope (columns_of scope q.items) q) rows) (AllByRecursion (Fits s))) kept
          (projection_fits graph scope true q (first_none (projection_fault true scope q) (where_fault (columns_of scope q.items) other) good).0 rows each))
      of («match» optional paths other) good is = cc
      of (unwind e v) good is = cc
      of («return» q) good is = cc
      of (create paths) good is = cc
      of (set items) good is = cc
      of (remove items) good is = cc
      of (delete detach variables) good is = cc

  -- ---- patterns

  -- the paths of MATCH, before their variables had columns
  abbrev pub WrittenPaths : List Path → Type 0
  WrittenPaths paths = (written : List Path) × (paths_fault false scope scope written ≡ None) × (paths ≡ map (resolved_path (with_paths scope written)) written)

  pub written_paths : (optional : Bool) (paths : List Path) (v : Where) → IsViewClause scope («match» optional paths v) → WrittenPaths paths
  written_paths optional paths v view = of view.written view.good view.is
    where
      of : (w : Clause) → clause_fault scope w ≡ None → «match» optional paths v ≡ resolved_clause scope (scope_after scope w) w → WrittenPaths paths
      of («match» other ps filter) good is = (ps, (first_none (paths_fault false scope scope ps) (where_fault (with_paths scope ps) filter) good).0, (let e : paths ≡ map (resolved_path (with_paths scope ps)) ps = cc in e))
      of («with» q other) good is = cc
      of (unwind e v) good is = cc
      of («return» q) good is = cc
      of (create paths) good is = cc
      of (set items) good is = cc
      of (remove items) good is = cc
      of (delete detach variables) good is = cc

  -- the rows of MATCH, without its WHERE
  pub matched_fit : (paths : List Path) → WrittenPaths paths → (graph : Content) (rows : List (List Cell)) → AllByRecursion (Fits scope) rows
      → IfOk (rows_after graph («match» false paths (where_only None)) rows) (AllByRecursion (Fits (with_paths scope paths)))
  matched_fit paths (ps, good, is) graph rows each =
      let after : Scope = with_paths scope ps in
      let kept : after ≡ with_paths scope paths = sym (paths_kept after scope ps) ∙ sym (ap (with_paths scope) is) in
      subst (λ (qs : List Path). IfOk (rows_after graph («match» false qs (where_only None)) rows) (AllByRecursion (Fits (with_paths scope paths)))) (sym is)
      (subst (λ (s : Scope). IfOk (rows_after graph («match» false (map (resolved_path after) ps) (where_only None)) rows) (AllByRecursion (Fits s))) kept
      (clause_fits graph scope («match» false ps (where_only None)) rows (ap (λ (o : Option ScopeFault). first o None) good) refl each))
