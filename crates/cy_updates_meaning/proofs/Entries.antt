-- Entries under numbers: one more at the end, one that changes, and those that are left.
use Rattle.std.specs.FinMap.Entries as entries
use Rattle.std.proofs.Common.{◌≡◌, ℕ, ◌<◌, Bool, true, false, cond, ◌&&◌, List, [], ◌∷◌, ◌++◌, map, filter, Option, Some, None, IsSome, IsTrue, refl, sym, ap, subst, ◌∙◌, arith}
use Rattle.std.specs.List.{AllByRecursion}
use Rattle.std.specs.Option.{option_map}
use Rattle.std.specs.declared.cmp.Ordering.{Ordering}
use Rattle.std.specs.declared.cmp.Ordering.TheVariants.{Less, Equal, Greater}
use Rattle.std.specs.Ordering.{nat_cmp, eq_by_cmp, is_eq, is_lt}
use Rattle.std.proofs.lemmas.Bool.{and_parts, and_from}
use Rattle.std.proofs.lemmas.Bool.Decides.{nat_tests}

-- ---- what holds of each

module _ {K : Type 0} (num : K → ℕ) where
  abbrev pub order : K → K → Ordering
  order x y = nat_cmp (num x) (num y)

  pub itself : (id : K) → eq_by_cmp order id id ≡ true
  itself id = grind (arith, nat_tests)

  less_from : (x y : K) → num x < num y → is_lt (order x y) ≡ true
  less_from x y lt = grind (arith, nat_tests)

  pub not_less : (x y : K) → is_lt (order x y) ≡ true → eq_by_cmp order x y ≡ false
  not_less x y h = grind (arith, nat_tests)

  less_still : (x y z : K) → order x y ≡ Less → is_lt (order y z) ≡ true → is_lt (order x z) ≡ true
  less_still x y z p q = grind (arith, nat_tests)

  less_tied : (x y z : K) → order x y ≡ Equal → is_lt (order y z) ≡ true → is_lt (order x z) ≡ true
  less_tied x y z p q = grind (arith, nat_tests)

  module _ {V : Type 0} where
    abbrev pub found : K → List (K × V) → Option V
    found id es = entries.find order id es

    abbrev pub Sorted : List (K × V) → Type 0
    Sorted es = IsTrue (entries.is_sorted order es)

    abbrev pub Below : K → List (K × V) → Type 0
    Below id es = IsTrue (entries.below_all order id es)

    -- ---- one more at the end

    below_push : (low : K) (es : List (K × V)) (e : K × V) → Below low es → num low < num e.0 → Below low (es ++ e ∷ [])
    below_push low [] e below lt = and_from _ _ (less_from low e.0 lt) refl
    below_push low (f ∷ es) e below lt =
        let parts = and_parts (is_lt (order low f.0)) (entries.below_all order low es) below in and_from _ _ parts.0 (below_push low es e parts.1 lt)

    pub sorted_push : (es : List (K × V)) (e : K × V) → Sorted es → AllByRecursion (λ (f : K × V). num f.0 < num e.0) es → Sorted (es ++ e ∷ [])
    sorted_push [] e sorted all = refl
    sorted_push (f ∷ es) e sorted all =
        let parts = and_parts (entries.below_all order f.0 es) (entries.is_sorted order es) sorted in
        and_from _ _ (below_push f.0 es e parts.0 all.0) (sorted_push es e parts.1 all.1)

    pub found_before : (id : K) (es fs : List (K × V)) → IsSome (found id es) → IsSome (found id (es ++ fs))
    found_before id [] fs there = cc
    found_before id (e ∷ es) fs there =
        elim (eq_by_cmp order id e.0) as (λ b. IsSome (cond b (Some e.1) (found id es)) → IsSome (cond b (Some e.1) (found id (es ++ fs)))) [
          | true ↦ λ h. refl
          | false ↦ λ h. found_before id es fs h
        ] there

    pub found_last : (es : List (K × V)) (e : K × V) → IsSome (found e.0 (es ++ e ∷ []))
    found_last [] e = subst (λ b. IsSome (cond b (Some e.1) None)) (sym (itself e.0)) refl
    found_last (f ∷ es) e =
        elim (eq_by_cmp order e.0 f.0) as (λ b. IsSome (cond b (Some f.1) (found e.0 (es ++ e ∷ [])))) [
          | true ↦ refl
          | false ↦ found_last es e
        ]

    -- ---- other values under the same keys

    abbrev pub revalued : (K × V → V) → List (K × V) → List (K × V)
    revalued g es = map (λ (e : K × V). (e.0, g e)) es

    module _ (g : K × V → V) where
      below_revalued : (low : K) (es : List (K × V)) → entries.below_all order low (revalued g es) ≡ entries.below_all order low es
      below_revalued low [] = refl
      below_revalued low (e ∷ es) = ap (λ b. is_lt (order low e.0) && b) (below_revalued low es)

      pub sorted_revalued : (es : List (K × V)) → entries.is_sorted order (revalued g es) ≡ entries.is_sorted order es
      sorted_revalued [] = refl
      sorted_revalued (e ∷ es) = λ i. below_revalued e.0 es i && sorted_revalued es i

      pub keys_revalued : (es : List (K × V)) → map (λ (e : K × V). e.0) (revalued g es) ≡ map (λ (e : K × V). e.0) es
      keys_revalued [] = refl
      keys_revalued (e ∷ es) = ap (λ ks. e.0 ∷ ks) (keys_revalued es)

      pub all_revalued : (P Q : K × V → Type 0) → ((e : K × V) → P e → Q (e.0, g e)) → (es : List (K × V)) → AllByRecursion P es → AllByRecursion Q (revalued g es)
      all_revalued P Q step [] all = tt
      all_revalued P Q step (e ∷ es) all = (step e all.0, all_revalued P Q step es all.1)

    -- one value changes, if it is there
    abbrev pub put_if : K → Option V → List (K × V) → List (K × V)
    put_if id None es = es
    put_if id (Some v) es = entries.put order id v es

    module _ (id : K) (f : V → V) where
      abbrev pub change : K × V → V
      change e = cond (eq_by_cmp order id e.0) (f e.1) e.1

      unchanged : (es : List (K × V)) → Below id es → revalued change es ≡ es
      unchanged [] below = refl
      unchanged (e ∷ es) below =
          let parts = and_parts (is_lt (order id e.0)) (entries.below_all order id es) below in
          λ i. (e.0, cond (not_less id e.0 parts.0 i) (f e.1) e.1) ∷ unchanged es parts.1 i

      not_found : (es : List (K × V)) → Below id es → found id es ≡ None
      not_found [] below = refl
      not_found (e ∷ es) below =
          let parts = and_parts (is_lt (order id e.0)) (entries.below_all order id es) below in
          ap (λ b. cond b (Some e.1) (found id es)) (not_less id e.0 parts.0) ∙ not_found es parts.1

      below_less : (y : K) (es : List (K × V)) → order id y ≡ Less → Below y es → Below id es
      below_less y [] h below = refl
      below_less y (e ∷ es) h below =
          let parts = and_parts (is_lt (order y e.0)) (entries.below_all order y es) below in and_from _ _ (less_still id y e.0 h parts.0) (below_less y es h parts.1)

      below_tied : (y : K) (es : List (K × V)) → order id y ≡ Equal → Below y es → Below id es
      below_tied y [] h below = refl
      below_tied y (e ∷ es) h below =
          let parts = and_parts (is_lt (order y e.0)) (entries.below_all order y es) below in and_from _ _ (less_tied id y e.0 h parts.0) (below_tied y es h parts.1)

      past : (e : K × V) (es : List (K × V)) → order id e.0 ≡ Greater → (o : Option V) → put_if id (option_map f o) es ≡ revalued change es
          → put_if id (option_map f o) (e ∷ es) ≡ e ∷ revalued change es
      past e es h None rest = ap (λ fs. e ∷ fs) rest
      past e es h (Some v) rest =
          ap (λ o. entries.by_order o ((id, f v) ∷ e ∷ es) ((e.0, f v) ∷ es) (e ∷ entries.put order id (f v) es)) h ∙ ap (λ fs. e ∷ fs) rest

      -- a change under a number is a change of the value there, and of no other
      pub put_changed : (es : List (K × V)) → Sorted es → put_if id (option_map f (found id es)) es ≡ revalued change es
      put_changed [] sorted = refl
      put_changed (e ∷ es) sorted =
          let parts = and_parts (entries.below_all order e.0 es) (entries.is_sorted order es) sorted in
          elim (order id e.0) as (λ o. order id e.0 ≡ o → put_if id (option_map f (found id (e ∷ es))) (e ∷ es) ≡ revalued change (e ∷ es)) [
            | Less ↦ λ h.
                let below : Below id (e ∷ es) = and_from _ _ (ap is_lt h) (below_less e.0 es h parts.0) in
                ap (λ o. put_if id (option_map f o) (e ∷ es)) (not_found (e ∷ es) below) ∙ sym (unchanged (e ∷ es) below)
            | Equal ↦ λ h.
                ap (λ o. put_if id (option_map f (cond (is_eq o) (Some e.1) (found id es))) (e ∷ es)) h
                ∙ ap (λ o. entries.by_order o ((id, f e.1) ∷ e ∷ es) ((e.0, f e.1) ∷ es) (e ∷ entries.put order id (f e.1) es)) h
                ∙ sym (λ i. (e.0, cond (is_eq (h i)) (f e.1) e.1) ∷ unchanged es (below_tied e.0 es h parts.0) i)
            | Greater ↦ λ h.
                ap (λ o. put_if id (option_map f (cond (is_eq o) (Some e.1) (found id es))) (e ∷ es)) h
                ∙ past e es h (found id es) (put_changed es parts.1)
                ∙ sym (λ i. (e.0, cond (is_eq (h i)) (f e.1) e.1) ∷ revalued change es)
          ] refl

    -- ---- those that are left

    pub below_filter : (test : K × V → Bool) (low : K) (es : List (K × V)) → Below low es → Below low (filter test es)
    below_filter test low [] below = refl
    below_filter test low (e ∷ es) below =
        let parts = and_parts (is_lt (order low e.0)) (entries.below_all order low es) below in
        let rest = below_filter test low es parts.1 in
        elim (test e) as (λ b. Below low (cond b (e ∷ filter test es) (filter test es))) [ true ↦ and_from _ _ parts.0 rest | false ↦ rest ]

    pub sorted_filter : (test : K × V → Bool) (es : List (K × V)) → Sorted es → Sorted (filter test es)
    sorted_filter test [] sorted = refl
    sorted_filter test (e ∷ es) sorted =
        let parts = and_parts (entries.below_all order e.0 es) (entries.is_sorted order es) sorted in
        let rest = sorted_filter test es parts.1 in
        elim (test e) as (λ b. Sorted (cond b (e ∷ filter test es) (filter test es))) [ true ↦ and_from _ _ (below_filter test e.0 es parts.0) rest | false ↦ rest ]
