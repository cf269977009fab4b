-- The plan of a query, over the clauses that are left of it.
use Rattle.std.proofs.Common.{◌≡◌, ℕ, zero, suc, ◌+◌, ◌<◌, ◌≤◌, List, [], ◌∷◌, length, map, get_or, drop, sym, ap, subst, ◌∙◌, arith}
use Rattle.std.specs.List.{Contains}
use Rattle.std.proofs.lemmas.List.{drop_all}
use Rattle.std.proofs.lemmas.List.Elements.{All-contains}
use Rattle.cy_oneshot_patterns.proofs.SliceReads.{next_of}
use Rattle.cy_trees.specs.declared.clauses.Clause as coded
use Rattle.cy_trees.specs.declared.clauses.Query as coded_query
use Rattle.cy_trees.specs.Trees.{Clause, Query}
use Rattle.cy_trees.specs.TreeModels.{clause_of, query_of}
use Rattle.cy_scope.specs.Checked.{IsViewQuery, single}
use Rattle.cy_planner.specs.internal.QueryPlans.{AreViewQueries}
use Rattle.cy_planner.proofs.GoingOn.{first_there, later_there}

-- what is left begins with the clause at the index
pub left_is : (cs : List coded.Clause) (i : ℕ) (c : coded.Clause) → i < length cs → c ≡ get_or cs i c → map clause_of (drop i cs) ≡ clause_of c ∷ map clause_of (drop (i + 1) cs)
left_is cs i c less is = ap (map clause_of) (next_of cs i c less is)

-- and in the end there is nothing left
pub none_left : (cs : List coded.Clause) (i : ℕ) → length cs ≤ i → map clause_of (drop i cs) ≡ []
none_left cs i end = ap (map clause_of) (drop_all i cs end)

-- ---- so it is of queries

pub queries_left : (qs : List coded_query.Query) (i : ℕ) (q : coded_query.Query) → i < length qs → q ≡ get_or qs i q → map query_of (drop i qs) ≡ query_of q ∷ map query_of (drop (i + 1) qs)
queries_left qs i q less is = ap (map query_of) (next_of qs i q less is)

query_at : (qs : List coded_query.Query) (i : ℕ) (q : coded_query.Query) → i < length qs → q ≡ get_or qs i q → Contains (map query_of qs) (query_of q)
query_at [] i q less is = absurd (let none : ⊥ = omega (arith, less) in none)
query_at (r ∷ qs) zero q less is = subst (λ (p : coded_query.Query). Contains (query_of r ∷ map query_of qs) (query_of p)) (sym is) (first_there (query_of r) (map query_of qs))
query_at (r ∷ qs) (suc i) q less is = later_there (query_of q) (query_of r) (map query_of qs) (query_at qs i q (let fewer : i < length qs = omega (arith, less) in fewer) is)

module _ (all later : List coded_query.Query) (first : coded_query.Query) (splits : all ≡ first ∷ later) where
  pub first_among : Contains (map query_of all) (query_of first)
  first_among = subst (λ (qs : List coded_query.Query). Contains (map query_of qs) (query_of first)) (sym splits) (first_there (query_of first) (map query_of later))

  pub later_among : (i : ℕ) (q : coded_query.Query) → i < length later → q ≡ get_or later i q → Contains (map query_of all) (query_of q)
  later_among i q less is =
      subst (λ (qs : List coded_query.Query). Contains (map query_of qs) (query_of q)) (sym splits)
      (later_there (query_of q) (query_of first) (map query_of later) (query_at later i q less is))

pub is_view : (qs : List Query) (q : Query) → AreViewQueries qs → Contains qs q → IsViewQuery (single q)
is_view qs q are there = All-contains (λ (r : Query). IsViewQuery (single r)) qs q are.each there
