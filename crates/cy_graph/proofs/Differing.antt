-- The values that are gathered are those that differ.
use Rattle.std.proofs.Common.{◌≡◌, ◌≢◌, ℕ, zero, suc, ◌+◌, ◌≤◌, Bool, true, false, cond, not, eqb, List, [], ◌∷◌, ◌++◌, take, drop, map, filter, is_some, Option, Some, None, IsSome, inl, inr, refl, sym, ap, subst, ◌∙◌, arith}
use Rattle.std.specs.Prelude.{nat_eq}
use Rattle.std.specs.List.{AllByRecursion, IsDistinct}
use Rattle.std.specs.Map.{keys_of}
use Rattle.std.specs.Option.{option_flatten, option_map, option_map_or}
use Rattle.std.specs.Ordering.{nat_cmp, is_eq, eq_by_cmp}
use Rattle.std.proofs.lemmas.Bool.Decides.{nat_tests}
use Rattle.cy_graph.specs.declared.series.Start.{Start}
use Rattle.cy_graph.specs.internal.Differences.{IsIn, IsDifference, AreNumbersApart, AreDifferences, has_still, was_value, changed_of, was_none, added_of}
use Rattle.cy_graph.specs.internal.Series.{numbered_of, numbered_before, IsKeptBefore}
use Rattle.cy_graph.specs.internal.Slots.{RiseFrom, live, value_under, slot_at, as_it_was, restored}
use Rattle.cy_graph.specs.Model.{Numbered}
use Rattle.cy_graph.proofs.Elements.{in_parts, in_left, in_right, all_in, all_of, source, in_filtered, origin, in_mapped}
use Rattle.cy_graph.proofs.Slots.{same_number, tied, above, weaker, find_smaller, find_live, live_rises, restored_rises}

module _ {V : Type 0} where
  -- an element of a list by rising number is found
  least : (low high : ℕ) (es : List (ℕ × V)) (e : ℕ × V) → RiseFrom low high es → IsIn e es → low ≤ e.0
  least low high [] e r i = absurd i
  least low high (d ∷ es) e r (inl same) = subst (λ (x : ℕ × V). low ≤ x.0) same r.0
  least low high (d ∷ es) e r (inr i) = omega (arith, least (d.0 + 1) high es e r.2 i, r.0)

  found_rising : (low high : ℕ) (es : List (ℕ × V)) (e : ℕ × V) → RiseFrom low high es → IsIn e es → value_under e.0 es ≡ Some e.1
  found_rising low high [] e r i = absurd i
  found_rising low high (d ∷ es) e r (inl same) =
      ap (λ o. cond (is_eq o) (Some d.1) (value_under e.0 es)) (tied e.0 d.0 (ap (λ (x : ℕ × V). x.0) (sym same))) ∙ ap (λ (x : ℕ × V). let o : Option V = Some x.1 in o) same
  found_rising low high (d ∷ es) e r (inr i) =
      ap (λ o. cond (is_eq o) (Some d.1) (value_under e.0 es)) (above e.0 d.0 (omega (arith, least (d.0 + 1) high es e r.2 i))) ∙ found_rising (d.0 + 1) high es e r.2 i

  -- and one among different numbers
  other_number : (id : ℕ) (es : List (ℕ × V)) (e : ℕ × V) → AllByRecursion (λ (k : ℕ). eqb id k ≡ false) (keys_of es) → IsIn e es → eqb id e.0 ≡ false
  other_number id [] e all i = absurd i
  other_number id (d ∷ es) e all (inl same) = subst (λ (x : ℕ × V). eqb id x.0 ≡ false) same all.0
  other_number id (d ∷ es) e all (inr i) = other_number id es e all.1 i

  found_distinct : (es : List (ℕ × V)) (e : ℕ × V) → IsDistinct nat_eq (keys_of es) → IsIn e es → value_under e.0 es ≡ Some e.1
  unfolding IsDistinct
  found_distinct [] e distinct i = absurd i
  found_distinct (d ∷ es) e distinct (inl same) =
      ap (λ o. cond (is_eq o) (Some d.1) (value_under e.0 es)) (tied e.0 d.0 (ap (λ (x : ℕ × V). x.0) (sym same))) ∙ ap (λ (x : ℕ × V). let o : Option V = Some x.1 in o) same
  found_distinct (d ∷ es) e distinct (inr i) =
      let other = other_number d.0 es e distinct.0 i in
      let apart : is_eq (nat_cmp e.0 d.0) ≡ false = grind (arith, nat_tests) in
      ap (λ b. cond b (Some d.1) (value_under e.0 es)) apart ∙ found_distinct es e distinct.1 i

  -- what is found is an element
  in_found : (id : ℕ) (es : List (ℕ × V)) (n : V) → value_under id es ≡ Some n → IsIn (id, n) es
  in_found id [] n is = cc
  in_found id (e ∷ es) n is =
      elim (eq_by_cmp nat_cmp id e.0) as (λ b. eq_by_cmp nat_cmp id e.0 ≡ b → cond b (Some e.1) (value_under id es) ≡ Some n → IsIn (id, n) (e ∷ es)) [
        | true ↦ λ t found. let key = same_number id e.0 t in let value : e.1 ≡ n = cc in inl (λ i. (sym key i, value i))
        | false ↦ λ t later. inr (in_found id es n later)
      ] refl is

  -- a look-up among the restored slots
  find_restored : (id : ℕ) (kept : List (ℕ × V)) (es : List (ℕ × Option V)) → slot_at id (restored kept es) ≡ option_map (as_it_was (value_under id kept)) (slot_at id es)
  find_restored id kept [] = refl
  find_restored id kept (e ∷ es) =
      let rest = find_restored id kept es in
      elim (eq_by_cmp nat_cmp id e.0) as (λ b. eq_by_cmp nat_cmp id e.0 ≡ b → cond b (Some (as_it_was (value_under e.0 kept) e.1)) (slot_at id (restored kept es)) ≡ option_map (as_it_was (value_under id kept)) (cond b (Some e.1) (slot_at id es))) [
        | true ↦ λ t. ap (λ k. Some (as_it_was (value_under k kept) e.1)) (sym (same_number id e.0 t))
        | false ↦ λ t. rest
      ] refl

  -- and among the first ones, and those that follow
  find_first : (k : ℕ) (id : ℕ) (es : List (ℕ × Option V)) (s : Option V) → slot_at id (take k es) ≡ Some s → slot_at id es ≡ Some s
  find_first zero id es s is = cc
  find_first (suc k) id [] s is = is
  find_first (suc k) id (e ∷ es) s is =
      elim (eq_by_cmp nat_cmp id e.0) as (λ b. cond b (Some e.1) (slot_at id (take k es)) ≡ Some s → cond b (Some e.1) (slot_at id es) ≡ Some s) [ true ↦ λ found. found | false ↦ λ later. find_first k id es s later ] is

  find_rest : (k : ℕ) (id : ℕ) (es : List (ℕ × Option V)) → slot_at id (take k es) ≡ None → slot_at id es ≡ slot_at id (drop k es)
  find_rest zero id es none = refl
  find_rest (suc k) id [] none = refl
  find_rest (suc k) id (e ∷ es) none =
      elim (eq_by_cmp nat_cmp id e.0) as (λ b. cond b (Some e.1) (slot_at id (take k es)) ≡ None → cond b (Some e.1) (slot_at id es) ≡ slot_at id (drop k es)) [ true ↦ λ found. cc | false ↦ λ later. find_rest k id es later ] none

  drop_rises : (low high k : ℕ) (es : List (ℕ × Option V)) → RiseFrom low high es → RiseFrom low high (drop k es)
  drop_rises low high zero es r = r
  drop_rises low high (suc k) [] r = tt
  drop_rises low high (suc k) (e ∷ es) r = weaker (e.0 + 1) low high (drop k es) (omega (arith, r.0)) (drop_rises (e.0 + 1) high k es r.2)

  -- no number is in both
  not_in_both : (low high k : ℕ) (id : ℕ) (es : List (ℕ × Option V)) → RiseFrom low high es → IsSome (slot_at id (drop k es)) → slot_at id (take k es) ≡ None
  not_in_both low high zero id es r later = refl
  not_in_both low high (suc k) id [] r later = refl
  not_in_both low high (suc k) id (e ∷ es) r later =
      let rest = not_in_both (e.0 + 1) high k id es r.2 later in
      elim (eq_by_cmp nat_cmp id e.0) as (λ b. eq_by_cmp nat_cmp id e.0 ≡ b → cond b (Some e.1) (slot_at id (take k es)) ≡ None) [
        | true ↦ λ t.
            let same : id ≡ e.0 = same_number id e.0 t in
            let none = find_smaller id (e.0 + 1) high (drop k es) (omega arith) (drop_rises (e.0 + 1) high k es r.2) in
            let no : false ≡ true = sym (ap is_some none) ∙ later in
            cc
        | false ↦ λ t. rest
      ] refl

  flat_some : (o : Option (Option V)) (n : V) → option_flatten o ≡ Some n → IsSome o
  flat_some None n is = cc
  flat_some (Some s) n is = refl

  -- numbers are apart in two lists where no number is in both
  apart_append : (xs ys : List (ℕ × Option V)) → AreNumbersApart xs → AreNumbersApart ys → ((x y : ℕ × Option V) → IsIn x xs → IsIn y ys → x.0 ≢ y.0) → AreNumbersApart (xs ++ ys)
  apart_append [] ys ax ay cross = ay
  apart_append (x ∷ xs) ys ax ay cross = (
    all_in (λ (f : ℕ × Option V). x.0 ≢ f.0) (xs ++ ys) (λ f i. elim (in_parts f xs ys i) as (λ _. x.0 ≢ f.0) [ inl a ↦ all_of (λ (g : ℕ × Option V). x.0 ≢ g.0) xs f ax.0 a | inr b ↦ cross x f (inl refl) b ]),
    apart_append xs ys ax.1 ay (λ a b i j. cross a b (inr i) j),
  )

  apart_kept : (test : ℕ × V → Bool) (es : List (ℕ × V)) → IsDistinct nat_eq (keys_of es) → AreNumbersApart (map was_value (filter test es))
  unfolding IsDistinct
  apart_kept test [] distinct = tt
  apart_kept test (e ∷ es) distinct =
      let rest = apart_kept test es distinct.1 in
      elim (test e) as (λ b. AreNumbersApart (map was_value (cond b (e ∷ filter test es) (filter test es)))) [
        | true ↦ (
          all_in (λ (f : ℕ × Option V). e.0 ≢ f.0) (map was_value (filter test es)) (λ f i same.
              let s = source was_value test es f i in
              let other = other_number e.0 es s.from distinct.0 s.there in
              let equal : e.0 ≡ s.from.0 = same ∙ sym (ap (λ (x : ℕ × Option V). x.0) s.gives) in
              grind (arith, nat_tests)),
          rest,
        )
        | false ↦ rest
      ]

  apart_added : (low high : ℕ) (es : List (ℕ × V)) → RiseFrom low high es → AreNumbersApart (map was_none es)
  apart_added low high [] r = tt
  apart_added low high (e ∷ es) r = (
    all_in (λ (f : ℕ × Option V). e.0 ≢ f.0) (map was_none es) (λ f i same.
        let s = origin was_none (λ _. true) es f i in
        let equal : e.0 ≡ s.from.0 = same ∙ sym (ap (λ (x : ℕ × Option V). x.0) s.gives) in
        let more = least (e.0 + 1) high es s.from r.2 s.there in
        absurd (omega arith)),
    apart_added (e.0 + 1) high es r.2,
  )

  module _ (slots : List (ℕ × Option V)) (start : Start V) (next : ℕ) (eq : V → V → Bool) (decides : (x y : V) → eq x y ≡ true → x ≡ y) (itself : (x : V) → eq x x ≡ true) (up : RiseFrom 1 next slots) (all : IsKeptBefore slots start) (distinct : IsDistinct nat_eq (keys_of start.before.entries)) where
    abbrev before : Numbered V
    before = numbered_before slots start

    abbrev now : Numbered V
    now = numbered_of slots next

    abbrev first : List (ℕ × Option V)
    first = take start.slots slots

    abbrev added : List (ℕ × Option V)
    added = drop start.slots slots

    -- what stood under a number
    stood : (id : ℕ) → value_under id before.entries ≡ option_flatten (option_map (as_it_was (value_under id start.before.entries)) (slot_at id first))
    stood id =
        find_live 1 start.next id (restored start.before.entries first) (restored_rises start.before.entries 1 start.next first all.rising)
        ∙ ap option_flatten (find_restored id start.before.entries first)

    stood_kept : (id : ℕ) (old : V) → value_under id start.before.entries ≡ Some old → value_under id before.entries ≡ Some old
    stood_kept id old is =
        let there = all.held id (ap is_some is) in
        stood id ∙ elim (slot_at id first) as (λ o. IsSome o → option_flatten (option_map (as_it_was (value_under id start.before.entries)) o) ≡ Some old) [
          | None ↦ λ t. cc
          | Some s ↦ λ t. ap (λ kept. as_it_was kept s) is
        ] there

    stood_alike : (id : ℕ) (s : Option V) → value_under id start.before.entries ≡ None → slot_at id first ≡ Some s → value_under id before.entries ≡ value_under id now.entries
    stood_alike id s none is =
        stood id
        ∙ ap (λ kept. option_flatten (option_map (as_it_was kept) (slot_at id first))) none
        ∙ ap (λ o. option_flatten (option_map (as_it_was None) o)) is
        ∙ sym (find_live 1 next id slots up ∙ ap option_flatten (find_first start.slots id slots s is))

    stood_nowhere : (id : ℕ) → slot_at id first ≡ None → value_under id before.entries ≡ None
    stood_nowhere id none = stood id ∙ ap (λ o. option_flatten (option_map (as_it_was (value_under id start.before.entries)) o)) none

    stands_added : (id : ℕ) → slot_at id first ≡ None → value_under id now.entries ≡ value_under id (live added)
    stands_added id none =
        find_live 1 next id slots up ∙ ap option_flatten (find_rest start.slots id slots none)
        ∙ sym (find_live 1 next id added (drop_rises 1 next start.slots slots up))

    -- a value that stands in an added slot was not there
    is_added : (e : ℕ × V) → IsIn e (live added) → (slot_at e.0 first ≡ None) × (value_under e.0 now.entries ≡ Some e.1)
    is_added e i =
        let rising = drop_rises 1 next start.slots slots up in
        let found = found_rising 1 next (live added) e (live_rises 1 next added rising) i in
        let some = flat_some (slot_at e.0 added) e.1 (sym (find_live 1 next e.0 added rising) ∙ found) in
        let none = not_in_both 1 next start.slots e.0 slots up some in
        (none, stands_added e.0 none ∙ found)

    differ_kept : (e : ℕ × V) → IsIn e start.before.entries → not (has_still eq now e) ≡ true → IsDifference before now (was_value e)
    differ_kept e i test =
        let old = stood_kept e.0 e.1 (found_distinct start.before.entries e distinct i) in (
          sym old,
          λ same.
              let stands : has_still eq now e ≡ true = ap (λ o. option_map_or (λ n. eq n e.1) o false) (sym same ∙ old) ∙ itself e.1 in
              let no : false ≡ true = sym (ap not stands) ∙ test in
              cc,
        )

    differ_added : (e : ℕ × V) → IsIn e (live added) → IsDifference before now (was_none e)
    differ_added e i =
        let fresh = is_added e i in
        let old = stood_nowhere e.0 fresh.0 in
        (sym old, λ same. let no : None ≡ Some e.1 = sym old ∙ same ∙ fresh.1 in cc)

    differ : (e : ℕ × Option V) → IsIn e (changed_of eq now start.before.entries ++ added_of added) → IsDifference before now e
    differ e i =
        elim (in_parts e (changed_of eq now start.before.entries) (added_of added) i) as (λ _. IsDifference before now e) [
          | inl a ↦ let s = source was_value (λ x. not (has_still eq now x)) start.before.entries e a in subst (IsDifference before now) s.gives (differ_kept s.from s.there s.passes)
          | inr b ↦ let s = origin was_none (λ _. true) (live added) e b in subst (IsDifference before now) s.gives (differ_added s.from s.there)
        ]

    -- a value that differs from what was kept is found so
    passes : (id : ℕ) (old : V) → value_under id before.entries ≡ Some old → value_under id before.entries ≢ value_under id now.entries → not (has_still eq now (id, old)) ≡ true
    passes id old was other =
        elim (value_under id now.entries) as (λ o. value_under id now.entries ≡ o → not (option_map_or (λ n. eq n old) o false) ≡ true) [
          | None ↦ λ is. refl
          | Some n ↦ λ is. elim (eq n old) as (λ b. eq n old ≡ b → not b ≡ true) [
            | true ↦ λ t. let same = decides n old t in absurd (other (was ∙ ap (λ x. Some x) (sym same) ∙ sym is))
            | false ↦ λ t. refl
          ] refl
        ] refl

    listed : (id : ℕ) → value_under id before.entries ≢ value_under id now.entries → IsIn (id, value_under id before.entries) (changed_of eq now start.before.entries ++ added_of added)
    listed id other =
        elim (value_under id start.before.entries) as (λ o. value_under id start.before.entries ≡ o → IsIn (id, value_under id before.entries) (changed_of eq now start.before.entries ++ added_of added)) [
          | Some old ↦ λ is.
              let was = stood_kept id old is in
              let there = in_found id start.before.entries old is in
              let entry = in_filtered was_value (λ x. not (has_still eq now x)) start.before.entries (id, old) there (passes id old was other) in
              in_left (id, value_under id before.entries) (changed_of eq now start.before.entries) (added_of added) (subst (λ o. IsIn (id, o) (changed_of eq now start.before.entries)) (sym was) entry)
          | None ↦ λ none. elim (slot_at id first) as (λ o. slot_at id first ≡ o → IsIn (id, value_under id before.entries) (changed_of eq now start.before.entries ++ added_of added)) [
            | Some s ↦ λ is. absurd (other (stood_alike id s none is))
            | None ↦ λ is.
                let was = stood_nowhere id is in
                elim (value_under id (live added)) as (λ o. value_under id (live added) ≡ o → IsIn (id, value_under id before.entries) (changed_of eq now start.before.entries ++ added_of added)) [
                  | None ↦ λ gone. absurd (other (was ∙ sym (stands_added id is ∙ gone)))
                  | Some n ↦ λ found.
                      let entry = in_mapped was_none (λ _. true) (live added) (id, n) (in_found id (live added) n found) in
                      in_right (id, value_under id before.entries) (changed_of eq now start.before.entries) (added_of added) (subst (λ o. IsIn (id, o) (added_of added)) (sym was) entry)
                ] refl
          ] refl
        ] refl

    once : AreNumbersApart (changed_of eq now start.before.entries ++ added_of added)
    once =
        apart_append (changed_of eq now start.before.entries) (added_of added)
        (apart_kept (λ x. not (has_still eq now x)) start.before.entries distinct)
        (apart_added 1 next (live added) (live_rises 1 next added (drop_rises 1 next start.slots slots up)))
        (λ x y i j same.
        let s = source was_value (λ z. not (has_still eq now z)) start.before.entries x i in
        let t = origin was_none (λ _. true) (live added) y j in
        let number = ap (λ (z : ℕ × Option V). z.0) s.gives ∙ same ∙ sym (ap (λ (z : ℕ × Option V). z.0) t.gives) in
        let there = all.held s.from.0 (ap is_some (found_distinct start.before.entries s.from distinct s.there)) in
        let none = ap (λ k. slot_at k first) number ∙ (is_added t.from t.there).0 in
        let no : false ≡ true = sym (ap is_some none) ∙ there in
        cc)

    -- the values that are gathered are those that differ
    pub are_differences : (found : List (ℕ × Option V)) → found ≡ changed_of eq now start.before.entries ++ added_of added → AreDifferences before now found
    are_differences found is = subst (AreDifferences before now) (sym is) (record { once = once; differ = differ; all = listed })
