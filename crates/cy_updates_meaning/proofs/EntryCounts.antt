-- How many entries of one list aren't in another one, where one came of the other.
use Rattle.std.specs.FinMap.Entries as entries
use Rattle.std.proofs.Common.{◌≡◌, ℕ, ◌+◌, ◌<◌, ◌≤◌, Bool, true, false, cond, not, List, [], ◌∷◌, ◌++◌, map, filter, length, Option, Some, None, is_some, IsSome, refl, sym, ap, subst, ◌∙◌, arith}
use Rattle.std.specs.Prelude.{is_none}
use Rattle.std.specs.List.{AllByRecursion, list_any}
use Rattle.std.specs.Ordering.{eq_by_cmp, is_lt}
use Rattle.std.proofs.lemmas.Bool.{and_parts}
use Rattle.std.proofs.lemmas.Bool.Decides.{nat_tests}
use Rattle.std.proofs.lemmas.List.{length-append, length-map}
use Rattle.std.proofs.lemmas.List.Elements.{filter-append}
use Rattle.std.proofs.lemmas.List.Filters.{length-filter_both}
use Rattle.cy_values.proofs.Lists.{all_passing, each_filter, each_then}
use Rattle.cy_updates_meaning.proofs.Entries.{order, found, Sorted, Below, itself, below_filter, found_before, not_less}

some_not_none : {A : Type 0} (o : Option A) → is_some o ≡ true → is_none o ≡ false
some_not_none None h = cc
some_not_none (Some x) h = refl

none_filtered : {A : Type 0} (test : A → Bool) (xs : List A) → AllByRecursion (λ x. test x ≡ false) xs → length (filter test xs) ≡ 0
none_filtered test [] all = refl
none_filtered test (x ∷ xs) all = ap (λ b. length (cond b (x ∷ filter test xs) (filter test xs))) all.0 ∙ none_filtered test xs all.1

pub same_filtered : {A : Type 0} (test other : A → Bool) (xs : List A) → AllByRecursion (λ x. test x ≡ other x) xs → filter test xs ≡ filter other xs
same_filtered test other [] all = refl
same_filtered test other (x ∷ xs) all = λ i. cond (all.0 i) (x ∷ same_filtered test other xs all.1 i) (same_filtered test other xs all.1 i)

module _ {K V : Type 0} (num : K → ℕ) where
  -- the entry isn't there
  abbrev pub absent : List (K × V) → K × V → Bool
  absent es e = is_none (found num e.0 es)

  -- the numbers and the counts of one series agree
  pub record Agrees (old new : List (K × V)) (next after : ℕ) : Type 0 where
    pub numbers : next + length (filter (absent old) new) ≡ after
    pub entries : length old + length (filter (absent old) new) ≡ length new + length (filter (absent new) old)

  found_later : (id : K) (e : K × V) (es : List (K × V)) → IsSome (found num id es) → IsSome (found num id (e ∷ es))
  found_later id e es there = elim (eq_by_cmp (order num) id e.0) as (λ b. IsSome (cond b (Some e.1) (found num id es))) [ true ↦ refl | false ↦ there ]

  -- each is there itself
  all_found : (es : List (K × V)) → AllByRecursion (λ (e : K × V). IsSome (found num e.0 es)) es
  all_found [] = tt
  all_found (e ∷ es) = (
    subst (λ b. IsSome (cond b (Some e.1) (found num e.0 es))) (sym (itself num e.0)) refl,
    each_then (λ (f : K × V). IsSome (found num f.0 es)) (λ (f : K × V). IsSome (found num f.0 (e ∷ es))) (λ f there. found_later f.0 e es there) es (all_found es),
  )

  none_absent : (es fs : List (K × V)) → AllByRecursion (λ (e : K × V). IsSome (found num e.0 fs)) es → length (filter (absent fs) es) ≡ 0
  none_absent es fs there =
      none_filtered (absent fs) es (each_then (λ (e : K × V). IsSome (found num e.0 fs)) (λ (e : K × V). absent fs e ≡ false) (λ e here. some_not_none (found num e.0 fs) here) es there)

  -- ---- entries under higher numbers at the end

  not_found_above : (id : K) (next : ℕ) (es : List (K × V)) → AllByRecursion (λ (e : K × V). num e.0 < next) es → next ≤ num id → found num id es ≡ None
  not_found_above id next [] below above = refl
  not_found_above id next (e ∷ es) below above =
      let lt : num e.0 < next = below.0 in
      let other : eq_by_cmp (order num) id e.0 ≡ false = grind (arith, nat_tests) in
      ap (λ b. cond b (Some e.1) (found num id es)) other ∙ not_found_above id next es below.1 above

  pub agrees_grown : (old news : List (K × V)) (next : ℕ) → AllByRecursion (λ (e : K × V). num e.0 < next) old → AllByRecursion (λ (e : K × V). next ≤ num e.0) news
      → Agrees old (old ++ news) next (next + length news)
  agrees_grown old news next below above =
      let made : length (filter (absent old) (old ++ news)) ≡ length (filter (absent old) old) + length (filter (absent old) news) =
      ap length (filter-append (absent old) old news) ∙ length-append (filter (absent old) old) (filter (absent old) news) in
      let none : length (filter (absent old) old) ≡ 0 = none_absent old old (all_found old) in
      let all : length (filter (absent old) news) ≡ length news =
      ap length (all_passing (absent old) news (each_then (λ (e : K × V). next ≤ num e.0) (λ (e : K × V). absent old e ≡ true) (λ e up. ap is_none (not_found_above e.0 next old below up)) news above)) in
      let gone : length (filter (absent (old ++ news)) old) ≡ 0 =
      none_absent old (old ++ news) (each_then (λ (e : K × V). IsSome (found num e.0 old)) (λ (e : K × V). IsSome (found num e.0 (old ++ news))) (λ e there. found_before num e.0 old news there) old (all_found old)) in
      let longer : length (old ++ news) ≡ length old + length news = length-append old news in
      record {
        numbers = omega (arith, made, none, all);
        entries = omega (arith, made, none, all, gone, longer);
      }

  -- ---- other values under the same keys

  abbrev keys : List (K × V) → List K
  keys es = map (λ (e : K × V). e.0) es

  found_by_keys : (es fs : List (K × V)) → keys es ≡ keys fs → (id : K) → IsSome (found num id es) → IsSome (found num id fs)
  found_by_keys es fs same id there =
      entries.is_some-find (order num) id fs ∙ ap (list_any (eq_by_cmp (order num) id)) (sym same) ∙ sym (entries.is_some-find (order num) id es) ∙ there

  pub agrees_same : (old new : List (K × V)) (next : ℕ) → keys new ≡ keys old → Agrees old new next next
  agrees_same old new next same =
      let made : length (filter (absent old) new) ≡ 0 =
      none_absent new old (each_then (λ (e : K × V). IsSome (found num e.0 new)) (λ (e : K × V). IsSome (found num e.0 old)) (λ e there. found_by_keys new old same e.0 there) new (all_found new)) in
      let gone : length (filter (absent new) old) ≡ 0 =
      none_absent old new (each_then (λ (e : K × V). IsSome (found num e.0 old)) (λ (e : K × V). IsSome (found num e.0 new)) (λ e there. found_by_keys old new (sym same) e.0 there) old (all_found old)) in
      let as_long : length new ≡ length old = sym (length-map new (λ (e : K × V). e.0)) ∙ ap length same ∙ length-map old (λ (e : K × V). e.0) in
      record { numbers = omega (arith, made); entries = omega (arith, made, gone, as_long) }

  -- ---- some that are left

  not_found_below : (id : K) (es : List (K × V)) → Below num id es → found num id es ≡ None
  not_found_below id [] below = refl
  not_found_below id (e ∷ es) below =
      let parts = and_parts (is_lt (order num id e.0)) (entries.below_all (order num) id es) below in
      ap (λ b. cond b (Some e.1) (found num id es)) (not_less num id e.0 parts.0) ∙ not_found_below id es parts.1

  module _ (kept : K × V → Bool) where
    later_alike : (e : K × V) (es fs : List (K × V)) → Below num e.0 fs → AllByRecursion (λ (f : K × V). absent (filter kept es) f ≡ not (kept f)) fs
        → AllByRecursion (λ (f : K × V). absent (filter kept (e ∷ es)) f ≡ not (kept f)) fs
    later_alike e es [] below all = tt
    later_alike e es (f ∷ fs) below all =
        let parts = and_parts (is_lt (order num e.0 f.0)) (entries.below_all (order num) e.0 fs) below in
        let up : is_lt (order num e.0 f.0) ≡ true = parts.0 in
        let other : eq_by_cmp (order num) f.0 e.0 ≡ false = grind (arith, nat_tests) in (
          elim (kept e) as (λ b. absent (cond b (e ∷ filter kept es) (filter kept es)) f ≡ not (kept f)) [
            | true ↦ ap (λ b. is_none (cond b (Some e.1) (found num f.0 (filter kept es)))) other ∙ all.0
            | false ↦ all.0
          ],
          later_alike e es fs parts.1 all.1,
        )

    -- an entry isn't among those that are left just where it isn't kept
    absent_alike : (es : List (K × V)) → Sorted num es → AllByRecursion (λ (e : K × V). absent (filter kept es) e ≡ not (kept e)) es
    absent_alike [] sorted = tt
    absent_alike (e ∷ es) sorted =
        let parts = and_parts (entries.below_all (order num) e.0 es) (entries.is_sorted (order num) es) sorted in (
          elim (kept e) as (λ b. absent (cond b (e ∷ filter kept es) (filter kept es)) e ≡ not b) [
            | true ↦ ap (λ b. is_none (cond b (Some e.1) (found num e.0 (filter kept es)))) (itself num e.0)
            | false ↦ ap is_none (not_found_below e.0 (filter kept es) (below_filter num kept e.0 es parts.0))
          ],
          later_alike e es es parts.0 (absent_alike es parts.1),
        )

    pub agrees_left : (old : List (K × V)) (next : ℕ) → Sorted num old → Agrees old (filter kept old) next next
    agrees_left old next sorted =
        let made : length (filter (absent old) (filter kept old)) ≡ 0 =
        none_absent (filter kept old) old (each_filter (λ (e : K × V). IsSome (found num e.0 old)) kept old (all_found old)) in
        let gone : length (filter (absent (filter kept old)) old) ≡ length (filter (λ (e : K × V). not (kept e)) old) =
        ap length (same_filtered (absent (filter kept old)) (λ (e : K × V). not (kept e)) old (absent_alike old sorted)) in
        let parts : length (filter kept old) + length (filter (λ (e : K × V). not (kept e)) old) ≡ length old = length-filter_both kept (λ (e : K × V). not (kept e)) (λ e. refl) old in
        record { numbers = omega (arith, made); entries = omega (arith, made, gone, parts) }

  -- there are no more entries than numbers
  pub few : (n low : ℕ) (es : List (K × V)) → Sorted num es → AllByRecursion (λ (e : K × V). (low ≤ num e.0) × (num e.0 < n)) es → low ≤ n → length es + low ≤ n
  few n low [] sorted within le = omega (arith, le)
  few n low (e ∷ es) sorted within le =
      let parts = and_parts (entries.below_all (order num) e.0 es) (entries.is_sorted (order num) es) sorted in
      let lt : num e.0 < n = within.0.1 in
      let at_least : low ≤ num e.0 = within.0.0 in
      let rest : length es + (num e.0 + 1) ≤ n = few n (num e.0 + 1) es parts.1 (raised e.0 es parts.0 within.1) (omega (arith, lt)) in
      omega (arith, rest, at_least)
    where
      raised : (k : K) (fs : List (K × V)) → Below num k fs → AllByRecursion (λ (f : K × V). (low ≤ num f.0) × (num f.0 < n)) fs → AllByRecursion (λ (f : K × V). ((num k + 1) ≤ num f.0) × (num f.0 < n)) fs
      raised k [] below all = tt
      raised k (f ∷ fs) below all =
          let parts = and_parts (is_lt (order num k f.0)) (entries.below_all (order num) k fs) below in
          let up : is_lt (order num k f.0) ≡ true = parts.0 in
          let lt : num k < num f.0 = grind (arith, nat_tests) in
          ((omega (arith, lt), all.0.1), raised k fs parts.1 all.1)
