-- What each call of the series of relationships does to the content of the graph.
use Rattle.std.proofs.Common.{◌≡◌, ℕ, ◌+◌, ◌<◌, ◌≤◌, true, false, cond, not, List, [], ◌∷◌, ◌++◌, Option, Some, None, IsTrue, refl, sym, ap, ◌∙◌, arith}
use Rattle.std.specs.List.{AllByRecursion}
use Rattle.std.specs.Option.{option_map}
use Rattle.std.specs.Ordering.{nat_cmp, is_eq, eq_by_cmp}
use Rattle.std.specs.declared.cmp.Ordering.TheVariants.{Less, Equal, Greater}
use Rattle.std.specs.FinMap.Entries as entries
use Rattle.std.proofs.lemmas.Bool.{and_from, and_parts}
use Rattle.cy_values.specs.declared.numbers.RelId.{RelId}
use Rattle.cy_graph.specs.declared.nodes.Rel.{Rel}
use Rattle.cy_graph.specs.Graph.{rel_order, replaced_rel}
use Rattle.cy_graph.specs.internal.Contents.{IsRel}
use Rattle.cy_graph.specs.Model.{rels_of}
use Rattle.cy_graph.specs.internal.Slots.{RiseFrom, value_under}
use Rattle.cy_graph.specs.internal.Versions.{put_under}

-- a look-up
pub find_rel : (id : RelId) (es : List (ℕ × Rel)) → entries.find rel_order id (rels_of es) ≡ value_under id.0 es
find_rel id [] = refl
find_rel id (e ∷ es) = ap (cond (is_eq (nat_cmp id.0 e.0)) (Some e.1)) (find_rel id es)

-- one more relationship
pub rels_push : (es : List (ℕ × Rel)) (number : ℕ) (rel : Rel) → rels_of (es ++ (number, rel) ∷ []) ≡ rels_of es ++ (record { 0 = number }, rel) ∷ []
rels_push [] number rel = refl
rels_push (e ∷ es) number rel = ap (λ l. (record { 0 = e.0 }, e.1) ∷ l) (rels_push es number rel)

-- another relationship under a number
rels_put : (id : RelId) (rel : Rel) (es : List (ℕ × Rel)) → rels_of (entries.put nat_cmp id.0 rel es) ≡ entries.put rel_order id rel (rels_of es)
rels_put id rel [] = refl
rels_put id rel (e ∷ es) =
    let rest = rels_put id rel es in
    elim (nat_cmp id.0 e.0) as (λ o. rels_of (entries.by_order o ((id.0, rel) ∷ e ∷ es) ((e.0, rel) ∷ es) (e ∷ entries.put nat_cmp id.0 rel es))
    ≡ entries.by_order o ((id, rel) ∷ rels_of (e ∷ es)) ((record { 0 = e.0 }, rel) ∷ rels_of es) ((record { 0 = e.0 }, e.1) ∷ entries.put rel_order id rel (rels_of es))) [
      | Less ↦ refl
      | Equal ↦ refl
      | Greater ↦ ap (λ l. (record { 0 = e.0 }, e.1) ∷ l) rest
    ]

rels_put_under : (id : RelId) (value : Option Rel) (es : List (ℕ × Rel)) → rels_of (put_under id.0 value es) ≡ replaced_rel id value (rels_of es)
rels_put_under id None es = refl
rels_put_under id (Some rel) es = rels_put id rel es

pub rels_edited : (edited : Rel → Rel) (id : RelId) (es : List (ℕ × Rel))
    → rels_of (put_under id.0 (option_map edited (value_under id.0 es)) es) ≡ replaced_rel id (option_map edited (entries.find rel_order id (rels_of es))) (rels_of es)
rels_edited edited id es = rels_put_under id (option_map edited (value_under id.0 es)) es ∙ ap (λ o. replaced_rel id (option_map edited o) (rels_of es)) (sym (find_rel id es))

-- the relationships without one
pub rels_where : (id : RelId) (es : List (ℕ × Rel)) → rels_of (entries.where_key nat_cmp (λ k. not (eq_by_cmp nat_cmp id.0 k)) es) ≡ entries.where_key rel_order (λ k. not (eq_by_cmp rel_order id k)) (rels_of es)
rels_where id [] = refl
rels_where id (e ∷ es) =
    let rest = rels_where id es in
    elim (is_eq (nat_cmp id.0 e.0)) as (λ b. rels_of (cond (not b) (e ∷ entries.where_key nat_cmp (λ k. not (eq_by_cmp nat_cmp id.0 k)) es) (entries.where_key nat_cmp (λ k. not (eq_by_cmp nat_cmp id.0 k)) es))
    ≡ cond (not b) ((record { 0 = e.0 }, e.1) ∷ entries.where_key rel_order (λ k. not (eq_by_cmp rel_order id k)) (rels_of es)) (entries.where_key rel_order (λ k. not (eq_by_cmp rel_order id k)) (rels_of es))) [
      | true ↦ rest
      | false ↦ ap (λ l. (record { 0 = e.0 }, e.1) ∷ l) rest
    ]

-- the numbers rise as those of the series do
rels_below : (k : RelId) (es : List (ℕ × Rel)) → entries.below_all nat_cmp k.0 es ≡ true → entries.below_all rel_order k (rels_of es) ≡ true
rels_below k [] below = refl
rels_below k (e ∷ es) below = and_from _ _ (and_parts _ _ below).0 (rels_below k es (and_parts _ _ below).1)

pub rels_sorted : (es : List (ℕ × Rel)) → IsTrue (entries.is_sorted nat_cmp es) → IsTrue (entries.is_sorted rel_order (rels_of es))
rels_sorted [] up = refl
rels_sorted (e ∷ es) up = and_from _ _ (rels_below (record { 0 = e.0 }) es (and_parts _ _ up).0) (rels_sorted es (and_parts _ _ up).1)

pub rels_numbers : (low high : ℕ) (es : List (ℕ × Rel)) → 1 ≤ low → RiseFrom low high es → AllByRecursion (λ (e : RelId × Rel). (1 ≤ e.0.0) × (e.0.0 < high)) (rels_of es)
rels_numbers low high [] le r = tt
rels_numbers low high (e ∷ es) le r = ((omega (arith, r.0), r.1), rels_numbers (e.0 + 1) high es (omega arith) r.2)

pub rels_all : (P : Rel → Type 0) (es : List (ℕ × Rel)) → ((rel : Rel) → IsRel rel → P rel) → AllByRecursion (λ (e : ℕ × Rel). IsRel e.1) es → AllByRecursion (λ (e : RelId × Rel). P e.1) (rels_of es)
rels_all P [] each all = tt
rels_all P (e ∷ es) each all = (each e.1 all.0, rels_all P es each all.1)
