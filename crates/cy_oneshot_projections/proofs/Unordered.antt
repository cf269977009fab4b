-- The rows of a projection in whatever order: without keys, and where none is cut, and what WHERE makes of them.
use Rattle.std.proofs.Common.{◌≡◌, List, [], ◌∷◌, map, take, refl, sym, ap, subst}
use Rattle.std.specs.Prelude.{ℕ, None, Result, Ok, Err, IfOk}
use Rattle.std.specs.List.{AllByRecursion}
use Rattle.std.proofs.lemmas.Simd.{map-map}
use Rattle.cy_values.specs.declared.rows.Cell.{Cell}
use Rattle.cy_trees.specs.Trees.{Key, Projection}
use Rattle.cy_graph.specs.Graph.{Content}
use Rattle.cy_expr.specs.declared.faults.EvalFault.{EvalFault}
use Rattle.cy_expr.specs.Faults.{on_one}
use Rattle.cy_oneshot_meaning.specs.Order.{Keyed, in_order, keyed_order}
use Rattle.cy_oneshot_meaning.specs.internal.Answers.{IsAnswer}
use Rattle.cy_oneshot_meaning.specs.internal.Permuted.{Alike, IsAlikeAnswer, Permuted, and_then}
use Rattle.cy_oneshot_patterns.specs.Outcomes.{IsSameOutcome, gathered, joined, together}
use Rattle.cy_oneshot_meaning.specs.Projection.{Projected, cut, item_of_key, key_cell, keyed, limited, projected, projection_rows, skipped}
use Rattle.cy_oneshot_meaning.specs.internal.Seen.{projected_of}
use Rattle.cy_oneshot_meaning.proofs.BagLemmas.{same_outcome}
use Rattle.cy_oneshot_meaning.proofs.Joined.{alike_itself, joined_each}
use Rattle.cy_oneshot_meaning.proofs.OnceCounts.{permuted_in_order}
use Rattle.cy_oneshot_meaning.proofs.Permuted.{permuted_map, turned}
use Rattle.cy_oneshot_meaning.proofs.SeenRows.{each_permuted}

-- what is answered in order is answered in some order
pub as_alike : {A B : Type 0} (view : A → List B) (r : Result A EvalFault) (meant : Result (List B) EvalFault) → IsAnswer r view meant → IsAlikeAnswer r view meant
as_alike view (Ok x) meant is = subst (λ o. Alike (Ok (view x)) o) (sym is) (alike_itself (Ok (view x)))
as_alike view (Err fault) meant is = is

pub each_alike : {A : Type 0} (P : A → Type 0) (made : List A) (o : Result (List A) EvalFault) → Alike (Ok made) o → IfOk o (AllByRecursion P) → AllByRecursion P made
each_alike P made (Ok others) q each = each_permuted P q each
each_alike P made (Err fault) q each = absurd q

-- what a function makes of each of them, as a bag
pub after_alike : (f : List Cell → Result (List (List Cell)) EvalFault) (made : List (List Cell)) (o : Result (List (List Cell)) EvalFault) → Alike (Ok made) o
    → IsSameOutcome (joined (map f made)) (on_one (λ rows. joined (map f rows)) o)
after_alike f made (Ok others) q = same_outcome (joined (map f made)) (joined (map f others)) (joined_each f q)
after_alike f made (Err fault) q = absurd q

then_alike : {A : Type 0} (xs ys : List A) → Permuted xs ys → (o : Result (List A) EvalFault) → Alike (Ok ys) o → Alike (Ok xs) o
then_alike xs ys q (Ok zs) r = and_then q r
then_alike xs ys q (Err fault) r = absurd r

module _ (graph : Content) (p : Projection) (no_keys : p.order ≡ []) (none_skipped : p.skip ≡ None) (none_left : p.limit ≡ None) where
  abbrev with_keys : Projected → List Cell → Keyed
  with_keys r keys = record { row = r.row; keys = keys }

  keyed_plain : (r : Projected) → keyed graph p r ≡ Ok (with_keys r [])
  keyed_plain r = ap (λ (ks : List Key). on_one (λ keys. Ok (with_keys r keys)) (gathered (map (λ key. key_cell graph r (item_of_key p.items key) key.expression) ks))) no_keys

  all_keyed : (rs : List Projected) → gathered (map (keyed graph p) rs) ≡ Ok (map (λ r. with_keys r []) rs)
  all_keyed [] = refl
  all_keyed (r ∷ rs) = λ i. together (on_one (λ (k : Keyed). Ok (k ∷ [])) (keyed_plain r i)) (all_keyed rs i)

  cut_plain : (ks : List Keyed) → cut p ks ≡ map (λ k. k.row) (in_order (keyed_order (map (λ key. key.descending) p.order)) ks)
  cut_plain ks = λ i. limited (none_left i) (skipped (none_skipped i) (map (λ (k : Keyed). k.row) (in_order (keyed_order (map (λ (key : Key). key.descending) p.order)) ks)))

  plain_rows : (rs : List Projected) → Alike (Ok (map (λ r. r.row) rs)) (on_one (λ ks. Ok (cut p ks)) (gathered (map (keyed graph p) rs)))
  plain_rows rs =
      let flags = map (λ (key : Key). key.descending) p.order in
      subst (λ (o : Result (List Keyed) EvalFault). Alike (Ok (map (λ (r : Projected). r.row) rs)) (on_one (λ ks. Ok (cut p ks)) o)) (sym (all_keyed rs))
      (subst (λ l. Permuted (map (λ (r : Projected). r.row) rs) l) (sym (cut_plain (map (λ r. with_keys r []) rs)))
      (subst (λ l. Permuted l (map (λ (k : Keyed). k.row) (in_order (keyed_order flags) (map (λ r. with_keys r []) rs)))) (map-map (λ (k : Keyed). k.row) (λ r. with_keys r []) rs)
      (permuted_map (λ (k : Keyed). k.row) (turned (permuted_in_order (keyed_order flags) (map (λ r. with_keys r []) rs))))))

  plain_from : (width : ℕ) (seen : List (List Cell)) (o : Result (List Projected) EvalFault) → Alike (Ok (map (projected_of width) seen)) o
      → Alike (Ok (map (take width) seen)) (on_one (λ rows. on_one (λ ks. Ok (cut p ks)) (gathered (map (keyed graph p) rows))) o)
  plain_from width seen (Ok rs) q =
      then_alike (map (take width) seen) (map (λ (r : Projected). r.row) rs)
      (subst (λ l. Permuted l (map (λ (r : Projected). r.row) rs)) (map-map (λ (r : Projected). r.row) (projected_of width) seen) (permuted_map (λ (r : Projected). r.row) q))
      (on_one (λ ks. Ok (cut p ks)) (gathered (map (keyed graph p) rs))) (plain_rows rs)
  plain_from width seen (Err fault) q = absurd q

  pub plain_meant : (width : ℕ) (rows seen : List (List Cell)) → Alike (Ok (map (projected_of width) seen)) (projected graph p rows)
      → Alike (Ok (map (take width) seen)) (projection_rows graph p rows)
  plain_meant width rows seen q = plain_from width seen (projected graph p rows) q
