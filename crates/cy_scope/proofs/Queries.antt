-- What holds of each query of a checked statement, and of a view's statement.
use Rattle.std.proofs.Common.{◌≡◌, Bool, true, false, cond, not, ◌&&◌, ◌||◌, List, [], ◌∷◌, map, Option, Some, None, refl, sym, ap, subst, ◌∙◌}
use Rattle.std.specs.List.{All, Contains, list_all, list_any}
use Rattle.std.specs.Str.{bytes_eq}
use Rattle.std.proofs.lemmas.Bool.{and_parts, or_parts, true≢false}
use Rattle.std.proofs.lemmas.List.Elements.{All-nil, All-cons, All-head, All-tail, All-contains}
use Rattle.std.proofs.lemmas.Slice.Eq.{bytes_eq-Decides}
use Rattle.cy_values.proofs.Booleans.{unfalse}
use Rattle.cy_trees.specs.Trees.{Name, Clause, Query, Statement}
use Rattle.cy_scope_kinds.specs.declared.faults.ScopeFault.TheVariants.{DuplicateColumn}
use Rattle.cy_scope_kinds.specs.declared.faults.ViewFault.{ViewFault}
use Rattle.cy_scope_kinds.specs.declared.faults.ViewFault.TheVariants.{NotAReading, MayFail, Unbounded, AggregateInView, OrderInView}
use Rattle.cy_scope_kinds.specs.Faults.{first, first_fault, unless}
use Rattle.cy_scope_kinds.specs.Scopes.{Scope, has_same_names}
use Rattle.cy_scope.specs.ClauseScopes.{query_scope}
use Rattle.cy_scope.specs.ClauseFaults.{query_fault, later_query_fault, queries_fault}
use Rattle.cy_scope.specs.Resolved.{resolved_query}
use Rattle.cy_scope.specs.Checked.{IsChecked, IsViewQuery, single, ClausesAreKinded}
use Rattle.cy_scope.specs.Views.{is_reading, is_ordered, has_aggregate, is_unbounded, are_sure_clauses, has_queries, are_readings, any_clause, view_fault}
use Rattle.cy_scope.proofs.KindedExpressions.{first_none, unless_none}
use Rattle.cy_scope.proofs.KindedClauses.{clauses_kinded}
use Rattle.cy_scope.proofs.KindsKept.{scopes_kept}

-- it came of a query without a fault
abbrev WasWritten : Query → Type 0
WasWritten q = (p : Query) × (query_fault p ≡ None) × (q ≡ resolved_query p)

later_written : (columns : Scope) (qs : List Query) → first_fault (later_query_fault columns) qs ≡ None → All WasWritten (map resolved_query qs)
later_written columns [] good = All-nil WasWritten
later_written columns (q ∷ qs) good =
    let (here, others) = first_none (later_query_fault columns q) (first_fault (later_query_fault columns) qs) good in
    let (own, names) = first_none (query_fault q) (unless (has_same_names columns (query_scope q)) DuplicateColumn) here in
    All-cons WasWritten (resolved_query q) (map resolved_query qs) (q, own, refl) (later_written columns qs others)

all_written : (qs : List Query) → queries_fault qs ≡ None → All WasWritten (map resolved_query qs)
all_written [] good = All-nil WasWritten
all_written (q ∷ qs) good =
    let (own, others) = first_none (query_fault q) (first_fault (later_query_fault (query_scope q)) qs) good in
    All-cons WasWritten (resolved_query q) (map resolved_query qs) (q, own, refl) (later_written (query_scope q) qs others)

written : (tree : Statement) → IsChecked tree → All WasWritten tree.queries
written tree (s, good, is) = subst (λ (t : Statement). All WasWritten t.queries) (sym is) (all_written s.queries good)

-- a query by itself
alone : (q : Query) → WasWritten q → IsChecked (single q)
alone q (p, good, is) = (single p, ap (λ o. first o None) good, ap single is)

all_alone : (qs : List Query) → All WasWritten qs → All (λ q. IsChecked (single q)) qs
all_alone [] each = All-nil (λ (q : Query). IsChecked (single q))
all_alone (q ∷ qs) each =
    All-cons (λ (r : Query). IsChecked (single r)) q qs (alone q (All-head WasWritten q qs each)) (all_alone qs (All-tail WasWritten q qs each))

pub each_checked : (tree : Statement) → IsChecked tree → All (λ q. IsChecked (single q)) tree.queries
each_checked tree is = all_alone tree.queries (written tree is)

pub checked_kinded : (q : Query) → IsChecked (single q) → ClausesAreKinded [] q.clauses
checked_kinded q checked =
    let (p, good, is) = All-head WasWritten q [] (written (single q) checked) in
    subst (λ (r : Query). ClausesAreKinded [] r.clauses) (sym is) (clauses_kinded [] p.clauses good)

-- the names of a query's columns
abbrev names : Scope → List Name
names scope = map (λ v. v.0) scope

same_names : (a b : Scope) → has_same_names a b ≡ true → names a ≡ names b
same_names [] [] is = refl
same_names (v ∷ a) (w ∷ b) is =
    let (here, others) = and_parts (bytes_eq v.0 w.0) (has_same_names a b) is in
    ap (λ (n : Name). n ∷ names a) ((bytes_eq-Decides v.0 w.0).0 here) ∙ ap (λ (ns : List Name). w.0 ∷ ns) (same_names a b others)
same_names [] (w ∷ b) is = absurd (true≢false (sym is))
same_names (v ∷ a) [] is = absurd (true≢false (sym is))

module _ (columns : List Name) where
  abbrev HasColumns : Query → Type 0
  HasColumns q = names (query_scope q) ≡ columns

  has_columns : (q : Query) → HasColumns q → HasColumns (resolved_query q)
  has_columns q is = ap names (scopes_kept [] q.clauses) ∙ is

  later_columns : (scope : Scope) (qs : List Query) → names scope ≡ columns → first_fault (later_query_fault scope) qs ≡ None → All HasColumns (map resolved_query qs)
  later_columns scope [] are good = All-nil HasColumns
  later_columns scope (q ∷ qs) are good =
      let (here, others) = first_none (later_query_fault scope q) (first_fault (later_query_fault scope) qs) good in
      let (own, alike) = first_none (query_fault q) (unless (has_same_names scope (query_scope q)) DuplicateColumn) here in
      All-cons HasColumns (resolved_query q) (map resolved_query qs)
      (has_columns q (sym (same_names scope (query_scope q) (unless_none (has_same_names scope (query_scope q)) DuplicateColumn alike)) ∙ are))
      (later_columns scope qs are others)

all_columns : (qs : List Query) → queries_fault qs ≡ None → (columns : List Name) × All (HasColumns columns) (map resolved_query qs)
all_columns [] good = ([], All-nil (HasColumns []))
all_columns (q ∷ qs) good =
    let (own, others) = first_none (query_fault q) (first_fault (later_query_fault (query_scope q)) qs) good in
    let columns = names (query_scope q) in
    (columns, All-cons (HasColumns columns) (resolved_query q) (map resolved_query qs) (has_columns columns q refl) (later_columns columns (query_scope q) qs refl others))

pub same_columns : (tree : Statement) → IsChecked tree → (p q : Query) → Contains tree.queries p → Contains tree.queries q → names (query_scope p) ≡ names (query_scope q)
same_columns tree (s, good, is) p q has_p has_q =
    let (columns, each) = all_columns s.queries good in
    let each_of = subst (λ (t : Statement). All (HasColumns columns) t.queries) (sym is) each in
    All-contains (HasColumns columns) tree.queries p each_of has_p ∙ sym (All-contains (HasColumns columns) tree.queries q each_of has_q)

-- what a view's statement promises, query by query
past : {A : Type 0} (b : Bool) (x : A) (o : Option A) → cond b (Some x) o ≡ None → (b ≡ false) × (o ≡ None)
past true x o is = cc
past false x o is = (refl, is)

abbrev reads : Query → Bool
reads q = is_reading q.clauses

abbrev sure : Query → Bool
sure q = are_sure_clauses [] q.clauses

abbrev any : (Clause → Bool) → Query → Bool
any holds q = list_any holds q.clauses

abbrev verdict : Bool → Bool → Bool → Bool → Bool → Option ViewFault
verdict reading ordered aggregates unbounded is_sure =
    cond (not (reading && true)) (Some NotAReading)
    (cond (ordered || false) (Some OrderInView)
    (cond (aggregates || false) (Some AggregateInView)
    (cond (unbounded || false) (Some Unbounded)
    (cond (not (is_sure && true)) (Some MayFail) None))))

no_fault : (q : Query) → reads q ≡ true → any is_ordered q ≡ false → any has_aggregate q ≡ false → any is_unbounded q ≡ false → sure q ≡ true → view_fault (single q) ≡ None
no_fault q reading ordered aggregates unbounded is_sure =
    ap (λ t. verdict t (any is_ordered q) (any has_aggregate q) (any is_unbounded q) (sure q)) reading
    ∙ ap (λ t. verdict true t (any has_aggregate q) (any is_unbounded q) (sure q)) ordered
    ∙ ap (λ t. verdict true false t (any is_unbounded q) (sure q)) aggregates
    ∙ ap (λ t. verdict true false false t (sure q)) unbounded
    ∙ ap (λ t. verdict true false false false t) is_sure

all_views : (qs : List Query) → All (λ q. IsChecked (single q)) qs → list_all reads qs ≡ true → any_clause is_ordered qs ≡ false → any_clause has_aggregate qs ≡ false → any_clause is_unbounded qs ≡ false
    → list_all sure qs ≡ true → All (λ q. IsViewQuery (single q)) qs
all_views [] each reading ordered aggregates unbounded is_sure = All-nil (λ (q : Query). IsViewQuery (single q))
all_views (q ∷ qs) each reading ordered aggregates unbounded is_sure =
    let (reading_here, reading_others) = and_parts (reads q) (list_all reads qs) reading in
    let (ordered_here, ordered_others) = or_parts (any is_ordered q) (any_clause is_ordered qs) ordered in
    let (aggregates_here, aggregates_others) = or_parts (any has_aggregate q) (any_clause has_aggregate qs) aggregates in
    let (unbounded_here, unbounded_others) = or_parts (any is_unbounded q) (any_clause is_unbounded qs) unbounded in
    let (sure_here, sure_others) = and_parts (sure q) (list_all sure qs) is_sure in
    All-cons (λ (r : Query). IsViewQuery (single r)) q qs
    (All-head (λ (r : Query). IsChecked (single r)) q qs each, no_fault q reading_here ordered_here aggregates_here unbounded_here sure_here)
    (all_views qs (All-tail (λ (r : Query). IsChecked (single r)) q qs each) reading_others ordered_others aggregates_others unbounded_others sure_others)

pub each_view : (tree : Statement) → IsViewQuery tree → All (λ q. IsViewQuery (single q)) tree.queries
each_view tree (checked, good) =
    let qs = tree.queries in
    let sure_part : Option ViewFault = cond (not (list_all sure qs)) (Some MayFail) None in
    let bounded_part : Option ViewFault = cond (any_clause is_unbounded qs) (Some Unbounded) sure_part in
    let alone_part : Option ViewFault = cond (any_clause has_aggregate qs) (Some AggregateInView) bounded_part in
    let ordered_part : Option ViewFault = cond (any_clause is_ordered qs) (Some OrderInView) alone_part in
    let reading = past (not (are_readings qs)) NotAReading ordered_part good in
    let orders = past (any_clause is_ordered qs) OrderInView alone_part reading.1 in
    let groups = past (any_clause has_aggregate qs) AggregateInView bounded_part orders.1 in
    let lengths = past (any_clause is_unbounded qs) Unbounded sure_part groups.1 in
    let all_sure = past (not (list_all sure qs)) MayFail None lengths.1 in
    all_views qs (each_checked tree checked) (and_parts (has_queries qs) (list_all reads qs) (unfalse (are_readings qs) reading.0)).1
    orders.0 groups.0 lengths.0 (unfalse (list_all sure qs) all_sure.0)
