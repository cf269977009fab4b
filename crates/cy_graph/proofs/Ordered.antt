-- An ordered map from texts has the entries of a finite map, and is changed as one.
use Rattle.std.proofs.Common.{◌≡◌, true, cond, not, List, [], ◌∷◌, ℕ, IsTrue, refl, sym, ap, subst}
use Rattle.std.specs.BTreeMap.{insert_entry, is_at}
use Rattle.std.specs.List.{AllByRecursion}
use Rattle.std.specs.List.Sorted.{IsStrictlySortedBy}
use Rattle.std.specs.Map.{keys_of, remove_entry}
use Rattle.std.specs.Ordering.{is_eq, is_lt, match_ordering}
use Rattle.std.specs.declared.cmp.Ordering.TheVariants.{Less, Equal, Greater}
use Rattle.std.specs.FinMap.Entries.{below_all, by_order}
use Rattle.std.proofs.lemmas.Bool.{and_from, and_parts}
use Rattle.std.proofs.lemmas.Map.Lookups.{exact_bytes}
use Rattle.cy_graph.specs.Maps.{text_order, rises, with_value, without}
use Rattle.cy_graph.proofs.Places.{without-below}

module _ {V : Type 0} where
  -- a key that is below each of some keys is below all entries with these
  below_keys : (key : List ℕ) (es : List (List ℕ × V)) → AllByRecursion (λ k. text_order key k ≡ Less) (keys_of es) → below_all text_order key es ≡ true
  below_keys key [] below = refl
  below_keys key (e ∷ es) below = and_from _ _ (ap is_lt below.0) (below_keys key es below.1)

  -- keys in order rise
  pub rises_in_order : (es : List (List ℕ × V)) → IsStrictlySortedBy text_order (keys_of es) → IsTrue (rises es)
  unfolding IsStrictlySortedBy
  rises_in_order [] ordered = refl
  rises_in_order (e ∷ es) ordered = and_from _ _ (below_keys e.0 es ordered.0) (rises_in_order es ordered.1)

  -- an entry comes in at its key
  pub entry_added : (key : List ℕ) (value : V) (es : List (List ℕ × V)) → insert_entry text_order es key value ≡ with_value key value es
  entry_added key value [] = refl
  entry_added key value (e ∷ es) =
      elim (text_order key e.0) as (λ o. match_ordering o ((key, value) ∷ e ∷ es) ((e.0, value) ∷ es) (e ∷ insert_entry text_order es key value) ≡ by_order o ((key, value) ∷ e ∷ es) ((e.0, value) ∷ es) (e ∷ with_value key value es)) [
        | Less ↦ refl
        | Equal ↦ refl
        | Greater ↦ ap (λ l. e ∷ l) (entry_added key value es)
      ]

  -- and goes from its key, which stands there once
  pub entry_removed : (key : List ℕ) (es : List (List ℕ × V)) → IsTrue (rises es) → remove_entry (is_at (text_order key)) es ≡ without key es
  entry_removed key [] up = refl
  entry_removed key (e ∷ es) up =
      let rest = ap (λ l. e ∷ l) (entry_removed key es (and_parts _ _ up).1) in
      elim (text_order key e.0) as (λ o. text_order key e.0 ≡ o → cond (is_eq o) es (e ∷ remove_entry (is_at (text_order key)) es) ≡ cond (not (is_eq o)) (e ∷ without key es) (without key es)) [
        | Less ↦ λ order. rest
        | Equal ↦ λ order. sym (without-below key es (subst (λ k. below_all text_order k es ≡ true) (sym (exact_bytes key e.0 order)) (and_parts _ _ up).0))
        | Greater ↦ λ order. rest
      ] refl
