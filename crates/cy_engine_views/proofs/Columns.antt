-- The columns of a view's query.
use Rattle.std.proofs.Common.{◌≡◌, ℕ, zero, suc, ◌-◌, List, [], ◌∷◌, Bool, true, false, cond, not, map, length, Option, Some, None, refl, sym, ap, ◌∙◌, arith}
use Rattle.std.specs.Prelude.{option_map, slice_get}
use Rattle.std.specs.List.{list_all, list_any}
use Rattle.std.specs.Option.{option_map_or}
use Rattle.std.proofs.lemmas.Bool.{and_parts}
use Rattle.std.proofs.lemmas.List.{length-map}
use Rattle.std.proofs.lemmas.Option.{slice_get-map}
use Rattle.cy_trees.specs.declared.clauses.Clause as coded
use Rattle.cy_trees.specs.declared.clauses.Clause.TheVariants as coded_clause
use Rattle.cy_trees.specs.declared.clauses.Projection as coded_projection
use Rattle.cy_trees.specs.declared.clauses.Query as coded_query
use Rattle.cy_trees.specs.declared.clauses.Statement as coded_statement
use Rattle.cy_trees.specs.Trees.{Clause, Name, Item, Projection, «return»}
use Rattle.cy_trees.specs.TreeModels.{clause_of, query_of, statement_of}
use Rattle.cy_scope.specs.Checked.{IsViewQuery}
use Rattle.cy_scope_kinds.specs.declared.faults.ViewFault.{ViewFault}
use Rattle.cy_scope_kinds.specs.declared.faults.ViewFault.TheVariants.{NotAReading}
use Rattle.cy_scope.specs.Views.{are_readings, ends_with_return, is_reading, is_return, is_update}
use Rattle.cy_oneshot_meaning.specs.Queries.{columns_after, columns_after_all, statement_columns}

-- clauses that end with RETURN have the columns of its items
last_columns : (columns : List Name) (cs : List coded.Clause) (n : ℕ) (c : coded.Clause) (p : Projection) → length cs ≡ suc n → slice_get cs n ≡ Some c → clause_of c ≡ «return» p
    → columns_after_all columns (map clause_of cs) ≡ map (λ (i : Item). i.column) p.items
last_columns columns [] n c p len at is = cc
last_columns columns (d ∷ []) zero c p len at is = let same : d ≡ c = cc in ap (columns_after columns) (ap clause_of same ∙ is)
last_columns columns (d ∷ []) (suc n) c p len at is = cc
last_columns columns (d ∷ e ∷ cs) zero c p len at is = absurd (omega (arith, len))
last_columns columns (d ∷ e ∷ cs) (suc n) c p len at is = last_columns (columns_after columns (clause_of d)) (e ∷ cs) n c p (omega (arith, len)) at is

pub returned_columns : (cs : List coded.Clause) (c : coded.Clause) (p : Projection) → slice_get cs (length cs - 1) ≡ Some c → clause_of c ≡ «return» p
    → columns_after_all [] (map clause_of cs) ≡ map (λ (i : Item). i.column) p.items
returned_columns [] c p at is = cc
returned_columns (d ∷ cs) c p at is = last_columns [] (d ∷ cs) (length (d ∷ cs) - 1) c p (omega arith) at is

-- a statement has the columns of its first query
pub first_columns : (s : coded_statement.Statement) (q : coded_query.Query) → slice_get s.queries.items 0 ≡ Some q → statement_columns (statement_of s) ≡ columns_after_all [] (map clause_of q.clauses.items)
first_columns s q at = from s.queries.items at
  where
    from : (qs : List coded_query.Query) → slice_get qs 0 ≡ Some q → statement_columns (record { queries = map query_of qs; all = s.all }) ≡ columns_after_all [] (map clause_of q.clauses.items)
    from [] at = cc
    from (p ∷ qs) at = let same : p ≡ q = cc in ap (λ (r : coded_query.Query). columns_after_all [] (map clause_of r.clauses.items)) same

-- the first of the reasons against a query of a view is none
past : (holds : Bool) (why : ViewFault) (others : Option ViewFault) → cond (not holds) (Some why) others ≡ None → holds ≡ true
past true why others none = refl
past false why others none = cc

-- the first query of a view's statement ends with RETURN
pub first_returns : (s : coded_statement.Statement) (q : coded_query.Query) → IsViewQuery (statement_of s) → slice_get s.queries.items 0 ≡ Some q → ends_with_return (map clause_of q.clauses.items) ≡ true
first_returns s q view at = from s.queries.items at (past (are_readings (statement_of s).queries) NotAReading _ view.1)
  where
    from : (qs : List coded_query.Query) → slice_get qs 0 ≡ Some q → are_readings (map query_of qs) ≡ true → ends_with_return (map clause_of q.clauses.items) ≡ true
    from [] at readings = cc
    from (p ∷ qs) at readings =
        let same : p ≡ q = cc in
        let reads = and_parts (is_reading (query_of p).clauses) (list_all (λ q. is_reading q.clauses) (map query_of qs)) readings in
        ap (λ (r : coded_query.Query). ends_with_return (map clause_of r.clauses.items)) (sym same)
        ∙ (and_parts (ends_with_return (query_of p).clauses) (not (list_any is_update (query_of p).clauses)) reads.0).0

-- so a clause that is no RETURN isn't the last one
pub last_returns : (cs : List coded.Clause) (c : coded.Clause) → ends_with_return (map clause_of cs) ≡ true → slice_get cs (length cs - 1) ≡ Some c → ((p : coded_projection.Projection) → c ≡ coded_clause.Return p → ⊥) → ⊥
last_returns cs c ends at other =
    let found = ap (λ n. slice_get (map clause_of cs) (n - 1)) (length-map cs clause_of) ∙ slice_get-map clause_of cs (length cs - 1) ∙ ap (option_map clause_of) at in
    from c other (sym (ap (λ (o : Option Clause). option_map_or is_return o false) found) ∙ ends)
  where
    from : (c : coded.Clause) → ((p : coded_projection.Projection) → c ≡ coded_clause.Return p → ⊥) → is_return (clause_of c) ≡ true → ⊥
    from (coded_clause.Match m) other ends = cc
    from (coded_clause.Unwind u) other ends = cc
    from (coded_clause.With w) other ends = cc
    from (coded_clause.Return p) other ends = other p refl
    from (coded_clause.Create ps) other ends = cc
    from (coded_clause.Set is) other ends = cc
    from (coded_clause.Remove is) other ends = cc
    from (coded_clause.Delete d) other ends = cc
