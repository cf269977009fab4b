-- What an edit of the relationships does to those at a node.
use Rattle.std.proofs.Common.{◌≡◌, ℕ, ◌+◌, ◌<◌, Bool, true, false, cond, not, eqb, filter, List, [], ◌∷◌, ◌++◌, refl, sym, ap, ◌∙◌, arith}
use Rattle.std.specs.List.{AllByRecursion}
use Rattle.std.specs.Ordering.{nat_cmp, eq_by_cmp}
use Rattle.std.specs.FinMap.Entries as entries
use Rattle.cy_values.specs.declared.numbers.RelId.{RelId}
use Rattle.cy_graph.specs.declared.nodes.Rel.{Rel}
use Rattle.cy_graph.specs.internal.Contents.{ids_by}
use Rattle.cy_graph.specs.internal.Slots.{RiseFrom}

-- the relationships without one
abbrev pub without : ℕ → List (ℕ × Rel) → List (ℕ × Rel)
without k es = entries.where_key nat_cmp (λ q. not (eq_by_cmp nat_cmp k q)) es

-- another number
abbrev pub is_other : ℕ → RelId → Bool
is_other k id = not (eq_by_cmp nat_cmp k id.0)

-- a number of a relationship
abbrev pub id_of : ℕ → RelId
id_of n = record { 0 = n }

module _ (end : Rel → ℕ) (node : ℕ) where
  -- each number is at least the first
  pub ids_from : (low high : ℕ) (es : List (ℕ × Rel)) (k : ℕ) → k < low → RiseFrom low high es → AllByRecursion (λ (y : RelId). k < y.0) (ids_by end node es)
  ids_from low high [] k lt r = tt
  ids_from low high (e ∷ es) k lt r =
      let rest = ids_from (e.0 + 1) high es k (omega (arith, r.0)) r.2 in
      elim (eqb node (end e.1)) as (λ b. AllByRecursion (λ (y : RelId). k < y.0) (cond b (id_of e.0 ∷ ids_by end node es) (ids_by end node es))) [ true ↦ (omega (arith, r.0), rest) | false ↦ rest ]

  -- a relationship that goes last is the last at its end
  pub ids_push : (next : ℕ) (es : List (ℕ × Rel)) (rel : Rel) → ids_by end node (es ++ (next, rel) ∷ []) ≡ ids_by end node es ++ cond (eqb node (end rel)) (id_of next ∷ []) []
  ids_push next [] rel = refl
  ids_push next (e ∷ es) rel =
      let rest = ids_push next es rel in
      elim (eqb node (end e.1)) as (λ b. cond b (id_of e.0 ∷ ids_by end node (es ++ (next, rel) ∷ [])) (ids_by end node (es ++ (next, rel) ∷ []))
      ≡ cond b (id_of e.0 ∷ ids_by end node es) (ids_by end node es) ++ cond (eqb node (end rel)) (id_of next ∷ []) []) [ true ↦ ap (λ l. id_of e.0 ∷ l) rest | false ↦ rest ]

  -- a relationship that is removed is none of them
  pub ids_without : (k : ℕ) (es : List (ℕ × Rel)) → filter (is_other k) (ids_by end node es) ≡ ids_by end node (without k es)
  ids_without k [] = refl
  ids_without k (e ∷ es) =
      let rest = ids_without k es in
      let first = id_of e.0 in
      elim (eqb node (end e.1)) as (λ c. eqb node (end e.1) ≡ c → filter (is_other k) (cond c (first ∷ ids_by end node es) (ids_by end node es)) ≡ ids_by end node (without k (e ∷ es))) [
        | true ↦ λ at.
            elim (eq_by_cmp nat_cmp k e.0) as (λ b. cond (not b) (first ∷ filter (is_other k) (ids_by end node es)) (filter (is_other k) (ids_by end node es)) ≡ ids_by end node (cond (not b) (e ∷ without k es) (without k es))) [
              | true ↦ rest
              | false ↦ ap (λ l. first ∷ l) rest ∙ sym (ap (λ c. cond c (first ∷ ids_by end node (without k es)) (ids_by end node (without k es))) at)
            ]
        | false ↦ λ at.
            elim (eq_by_cmp nat_cmp k e.0) as (λ b. filter (is_other k) (ids_by end node es) ≡ ids_by end node (cond (not b) (e ∷ without k es) (without k es))) [
              | true ↦ rest
              | false ↦ rest ∙ sym (ap (λ c. cond c (first ∷ ids_by end node (without k es)) (ids_by end node (without k es))) at)
            ]
      ] refl
