-- What a search for a key finds among entries whose keys rise, and what an edit at that place does.
use Rattle.std.proofs.Common.{◌≡◌, ℕ, zero, suc, ◌+◌, ◌<◌, ◌≤◌, Bool, true, false, cond, not, List, [], ◌∷◌, length, get_or, set, Some, None, Result, Ok, Err, IfOk, IfErr, IsTrue, refl, sym, ap, subst, ◌∙◌, arith}
use Rattle.std.specs.Prelude.{T}
use Rattle.std.specs.List.{insert, remove}
use Rattle.std.specs.List.Sorted.{IsSearchInRange, IsBinarySearchResult, IsNonDecreasingBy}
use Rattle.std.specs.Ordering.{is_eq, is_lt, ordering_reverse, ordering_index, eq_by_cmp}
use Rattle.std.specs.declared.cmp.Ordering.{Ordering}
use Rattle.std.specs.declared.cmp.Ordering.TheVariants.{Less, Equal, Greater}
use Rattle.std.specs.Cmp.{tied_itself}
use Rattle.std.specs.Cmp.Lexicographic.{nat_list_cmp_total}
use Rattle.std.specs.FinMap.Entries.{by_order, below_all, is_sorted-put, is_sorted-where_key}
use Rattle.std.proofs.lemmas.Bool.{and_from, and_parts}
use Rattle.std.proofs.lemmas.Map.Lookups.{exact_bytes}
use Rattle.std.proofs.lemmas.List.Sorted.{searchable_from_sorted}
use Rattle.cy_graph.specs.Maps.{text_order, rises, value_at, with_value, without}
use Rattle.cy_graph.specs.internal.Place.{IsAt, IsGapFor}

-- what a test of an answer says
less : (o : Ordering) → is_lt o ≡ true → o ≡ Less
less Less p = refl
less Equal p = cc
less Greater p = cc

-- the two sides the other way round
turn : (x y : List ℕ) → text_order x y ≡ Less → text_order y x ≡ Greater
turn x y e = nat_list_cmp_total.antisymm y x ∙ ap ordering_reverse e

turn_back : (x y : List ℕ) → text_order x y ≡ Greater → text_order y x ≡ Less
turn_back x y e = nat_list_cmp_total.antisymm y x ∙ ap ordering_reverse e

-- equal keys tie
same : (x y : List ℕ) → x ≡ y → text_order y x ≡ Equal
same x y e = subst (λ k. text_order y k ≡ Equal) (sym e) (tied_itself nat_list_cmp_total y)

-- a test in its two forms
pub held : (b : Bool) → b ≡ true → T b
held b e = subst T (sym e) tt

pub holds : (b : Bool) → T b → b ≡ true
holds true t = refl
holds false t = absurd t

module _ {V : Type 0} where
  -- a key below all is below the one at each place
  below_at : (key : List ℕ) (es : List (List ℕ × V)) → below_all text_order key es ≡ true → (i : ℕ) (d : List ℕ × V) → i < length es → text_order key (get_or es i d).0 ≡ Less
  below_at key [] below i d lt = absurd (omega arith)
  below_at key (e ∷ es) below zero d lt = less _ (and_parts _ _ below).0
  below_at key (e ∷ es) below (suc i) d lt = below_at key es (and_parts _ _ below).1 i d (omega arith)

  -- where the keys rise, neighbours stand in order
  neighbours : (es : List (List ℕ × V)) → IsTrue (rises es) → (i : ℕ) (d : List ℕ × V) → i + 1 < length es → is_lt (text_order (get_or es (suc i) d).0 (get_or es i d).0) ≡ false
  neighbours [] up i d lt = absurd (omega arith)
  neighbours (e ∷ es) up zero d lt = ap is_lt (turn e.0 (get_or es 0 d).0 (below_at e.0 es (and_parts _ _ up).0 0 d (omega arith)))
  neighbours (e ∷ es) up (suc i) d lt = neighbours es (and_parts _ _ up).1 i d (omega arith)

  -- so comparisons with a key rise along the list, as a binary search asks
  comparisons_rise : (key : List ℕ) (es : List (List ℕ × V)) → IsTrue (rises es) → IsNonDecreasingBy (λ e. ordering_index (text_order e.0 key)) es
  comparisons_rise key es up = searchable_from_sorted nat_list_cmp_total (λ e. e.0) es key (λ i d le lt. subst (λ k. is_lt (text_order (get_or es k d).0 (get_or es i d).0) ≡ false) {x = suc i} (omega arith) (neighbours es up i d lt))

  -- an entry with the key is at its place
  at_place : (key : List ℕ) (es : List (List ℕ × V)) → IsTrue (rises es) → (at : ℕ) → at < length es → ((d : List ℕ × V) → text_order (get_or es at d).0 key ≡ Equal) → IsAt key es at
  at_place key [] up at lt tied = absurd (omega arith)
  at_place key (e ∷ es) up zero lt tied = exact_bytes e.0 key (tied e)
  at_place key (e ∷ es) up (suc at) lt tied = (
    turn e.0 key (subst (λ k. text_order e.0 k ≡ Less) (exact_bytes (get_or es at e).0 key (tied e)) (below_at e.0 es (and_parts _ _ up).0 at e (omega arith))),
    at_place key es (and_parts _ _ up).1 at (omega arith) tied,
  )

  -- a key below each one is below all
  below_each : (key : List ℕ) (es : List (List ℕ × V)) → ((i : ℕ) (d : List ℕ × V) → i < length es → text_order (get_or es i d).0 key ≡ Greater) → below_all text_order key es ≡ true
  below_each key [] each = refl
  below_each key (e ∷ es) each = and_from _ _ (ap is_lt (turn_back e.0 key (each 0 e (omega arith)))) (below_each key es (λ i d lt. each (suc i) d (omega arith)))

  -- the place between the smaller and the greater keys is the gap
  in_gap : (key : List ℕ) (es : List (List ℕ × V)) (at : ℕ) → at ≤ length es → ((i : ℕ) (d : List ℕ × V) → i < at → text_order (get_or es i d).0 key ≡ Less) → ((i : ℕ) (d : List ℕ × V) → at ≤ i → i < length es → text_order (get_or es i d).0 key ≡ Greater) → IsGapFor key es at
  in_gap key [] zero le smaller greater = refl
  in_gap key [] (suc at) le smaller greater = absurd (omega arith)
  in_gap key (e ∷ es) zero le smaller greater = below_each key (e ∷ es) (λ i d lt. greater i d (omega arith) lt)
  in_gap key (e ∷ es) (suc at) le smaller greater = (
    turn e.0 key (smaller 0 e (omega arith)),
    in_gap key es at (omega arith) (λ i d lt. smaller (suc i) d (omega arith)) (λ i d le lt. greater (suc i) d (omega arith) (omega arith)),
  )

  -- a binary search by key ends at the key, or at the gap for it
  pub searched : (key : List ℕ) (es : List (List ℕ × V)) → IsTrue (rises es) → (r : Result ℕ ℕ) → IsSearchInRange r (length es) → IsBinarySearchResult (λ e. text_order e.0 key) es r → record { found : IfOk r (IsAt key es); absent : IfErr r (IsGapFor key es) }
  searched key es up (Ok at) bound result = record { found = at_place key es up at bound result; absent = tt }
  searched key es up (Err at) bound result =
      let parted = result (comparisons_rise key es up) in
      record { found = tt; absent = in_gap key es at bound (λ i d lt. parted.0 i d (omega arith) lt) (λ i d le lt. parted.1 i d le lt) }

  -- the place of a key is within the list
  pub at_within : (key : List ℕ) (es : List (List ℕ × V)) (at : ℕ) → IsAt key es at → at < length es
  at_within key [] at here = absurd here
  at_within key (e ∷ es) zero here = omega arith
  at_within key (e ∷ es) (suc at) here = omega (arith, at_within key es at here.1)

  -- a gap is within the list, or at its end
  pub gap_within : (key : List ℕ) (es : List (List ℕ × V)) (at : ℕ) → IsGapFor key es at → at ≤ length es
  gap_within key es zero gap = omega arith
  gap_within key [] (suc at) gap = absurd gap
  gap_within key (e ∷ es) (suc at) gap = omega (arith, gap_within key es at gap.1)

  -- the value at a key is that of its place
  pub value_at-place : (key : List ℕ) (es : List (List ℕ × V)) (at : ℕ) (d : List ℕ × V) → IsAt key es at → value_at key es ≡ Some (get_or es at d).1
  value_at-place key [] at d here = absurd here
  value_at-place key (e ∷ es) zero d here = ap (λ o. cond (is_eq o) (Some e.1) (value_at key es)) (same e.0 key here)
  value_at-place key (e ∷ es) (suc at) d here = ap (λ o. cond (is_eq o) (Some e.1) (value_at key es)) here.0 ∙ value_at-place key es at d here.1

  -- a key below all has no value
  value_at-below : (key : List ℕ) (es : List (List ℕ × V)) → below_all text_order key es ≡ true → value_at key es ≡ None
  value_at-below key [] below = refl
  value_at-below key (e ∷ es) below = ap (λ o. cond (is_eq o) (Some e.1) (value_at key es)) (less _ (and_parts _ _ below).0) ∙ value_at-below key es (and_parts _ _ below).1

  -- and so has a key with a gap
  pub value_at-gap : (key : List ℕ) (es : List (List ℕ × V)) (at : ℕ) → IsGapFor key es at → value_at key es ≡ None
  value_at-gap key es zero gap = value_at-below key es gap
  value_at-gap key [] (suc at) gap = absurd gap
  value_at-gap key (e ∷ es) (suc at) gap = ap (λ o. cond (is_eq o) (Some e.1) (value_at key es)) gap.0 ∙ value_at-gap key es at gap.1

  -- to set the value at a key is to write over its place
  pub with_value-place : (key : List ℕ) (v : V) (es : List (List ℕ × V)) (at : ℕ) → IsAt key es at → with_value key v es ≡ set es at (key, v)
  with_value-place key v [] at here = absurd here
  with_value-place key v (e ∷ es) zero here = ap (λ o. by_order o ((key, v) ∷ e ∷ es) ((e.0, v) ∷ es) (e ∷ with_value key v es)) (same e.0 key here) ∙ ap (λ k. (k, v) ∷ es) here
  with_value-place key v (e ∷ es) (suc at) here = ap (λ o. by_order o ((key, v) ∷ e ∷ es) ((e.0, v) ∷ es) (e ∷ with_value key v es)) here.0 ∙ ap (λ l. e ∷ l) (with_value-place key v es at here.1)

  -- a key below all goes first
  with_value-below : (key : List ℕ) (v : V) (es : List (List ℕ × V)) → below_all text_order key es ≡ true → with_value key v es ≡ (key, v) ∷ es
  with_value-below key v [] below = refl
  with_value-below key v (e ∷ es) below = ap (λ o. by_order o ((key, v) ∷ e ∷ es) ((e.0, v) ∷ es) (e ∷ with_value key v es)) (less _ (and_parts _ _ below).0)

  -- to set the value at a new key is to insert it in its gap
  pub with_value-gap : (key : List ℕ) (v : V) (es : List (List ℕ × V)) (at : ℕ) → IsGapFor key es at → with_value key v es ≡ insert es at (key, v)
  with_value-gap key v es zero gap = with_value-below key v es gap
  with_value-gap key v [] (suc at) gap = absurd gap
  with_value-gap key v (e ∷ es) (suc at) gap = ap (λ o. by_order o ((key, v) ∷ e ∷ es) ((e.0, v) ∷ es) (e ∷ with_value key v es)) gap.0 ∙ ap (λ l. e ∷ l) (with_value-gap key v es at gap.1)

  -- nothing goes where a key is below all
  pub without-below : (key : List ℕ) (es : List (List ℕ × V)) → below_all text_order key es ≡ true → without key es ≡ es
  without-below key [] below = refl
  without-below key (e ∷ es) below = ap (λ o. cond (not (is_eq o)) (e ∷ without key es) (without key es)) (less _ (and_parts _ _ below).0) ∙ ap (λ l. e ∷ l) (without-below key es (and_parts _ _ below).1)

  -- to remove a key is to remove the entry at its place
  pub without-place : (key : List ℕ) (es : List (List ℕ × V)) → IsTrue (rises es) → (at : ℕ) → IsAt key es at → without key es ≡ remove es at
  without-place key [] up at here = absurd here
  without-place key (e ∷ es) up zero here = ap (λ o. cond (not (is_eq o)) (e ∷ without key es) (without key es)) (same e.0 key here) ∙ without-below key es (subst (λ k. below_all text_order k es ≡ true) here (and_parts _ _ up).0)
  without-place key (e ∷ es) up (suc at) here = ap (λ o. cond (not (is_eq o)) (e ∷ without key es) (without key es)) here.0 ∙ ap (λ l. e ∷ l) (without-place key es (and_parts _ _ up).1 at here.1)

  -- a key with a gap has nothing to remove
  pub without-gap : (key : List ℕ) (es : List (List ℕ × V)) (at : ℕ) → IsGapFor key es at → without key es ≡ es
  without-gap key es zero gap = without-below key es gap
  without-gap key [] (suc at) gap = absurd gap
  without-gap key (e ∷ es) (suc at) gap = ap (λ o. cond (not (is_eq o)) (e ∷ without key es) (without key es)) gap.0 ∙ ap (λ l. e ∷ l) (without-gap key es at gap.1)

  -- the keys still rise with a value set
  pub rises-with_value : (key : List ℕ) (v : V) (es : List (List ℕ × V)) → IsTrue (rises es) → IsTrue (rises (with_value key v es))
  rises-with_value key v es up = holds _ (is_sorted-put text_order nat_list_cmp_total key v es (held _ up))

  -- and with a key removed
  pub rises-without : (key : List ℕ) (es : List (List ℕ × V)) → IsTrue (rises es) → IsTrue (rises (without key es))
  rises-without key es up = holds _ (is_sorted-where_key text_order (λ k. not (eq_by_cmp text_order key k)) es (held _ up))
