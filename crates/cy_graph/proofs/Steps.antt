-- What each step of a change does to the two versions that a series stands for.
use Rattle.std.proofs.Common.{◌≡◌, ℕ, ◌+◌, ◌<◌, ◌≤◌, true, false, cond, List, [], ◌∷◌, ◌++◌, length, length-append, take, filter, is_some, Option, Some, None, Result, Ok, Err, OnOk, OnErr, IsSome, inl, inr, refl, sym, ap, subst, ◌∙◌, arith}
use Rattle.std.specs.Prelude.{slice_get, ◌⊎◌, nat_eq, if◌then◌else◌}
use Rattle.std.specs.Option.{ForSome, option_map}
use Rattle.std.specs.Ordering.{nat_cmp, is_eq}
use Rattle.indexmap.specs.Layout.{length-set_value_at}
use Rattle.std.proofs.lemmas.List.{take-append-le, take_all}
use Rattle.indexmap.specs.IndexMap.{set_value_at, insert_entry}
use Rattle.cy_graph.specs.declared.series.Start.{Start}
use Rattle.cy_graph.specs.Graph.{number_end}
use Rattle.cy_graph.specs.internal.Series.{numbered_of, slots_before, numbered_before, series_versions, IsKept, IsKeptBefore, Keeps, KeepsNothing, Changes, ChangesNothing}
use Rattle.cy_graph.specs.internal.Slots.{RiseFrom, live, value_under, slot_at, restored}
use Rattle.cy_graph.specs.internal.Versions.{with_last, with_edited, without_number, put_under}
use Rattle.cy_graph.specs.Model.{Numbered, SeriesVersions}
use Rattle.cy_graph.proofs.Slots.{same_tests, set_rises, filter_rises, restored_rises, rises_push, take_set, set_back, live_push, live_set, live_clear, find_at, restored_nothing, keeps, kept_last, restored_set, kept_push, slot_within, slot_set}

-- what holds of the one value holds of the value
pub only : {X : Type 0} (P : X → Type 0) (x : X) → P x → ForSome (Some x) P
only P x here = λ y is. let same : x ≡ y = cc in subst P same here

-- what follows from either answer
pub either : {T E A B C : Type 0} → (answer : Result T E) → OnOk answer A → OnErr answer B → (A → C) → (B → C) → C
either (Ok x) ok err a b = a ok
either (Err e) ok err a b = b err

module _ {V : Type 0} where
  -- a version as it is, with the other
  abbrev with_was : Numbered V → Numbered V → SeriesVersions V
  with_was now before = record { now = now; was = Some before }

  -- the series before a change that has just begun is the series
  begun : (slots : List (ℕ × Option V)) (start : Start V) → start.before.entries ≡ [] → start.slots ≡ length slots → numbered_before slots start ≡ numbered_of slots start.next
  begun slots start none all =
      let same : slots_before slots start ≡ slots = ap (λ kept. restored kept (take start.slots slots)) none ∙ restored_nothing (take start.slots slots) ∙ take_all start.slots slots (omega (arith, all)) in
      ap (λ es. numbered_of es start.next) same

  pub is_kept_begun : (slots : List (ℕ × Option V)) (start : Start V) (change : Option (Start V)) → IsKept slots start.next change → start.before.entries ≡ [] → start.slots ≡ length slots → IsKept slots start.next (Some start)
  is_kept_begun slots start change kept none all =
      record {
        rising = kept.rising;
        range = kept.range;
        was = only (IsKeptBefore slots) start (record {
          within = omega (arith, all);
          rising = subst (RiseFrom 1 start.next) (sym (take_all start.slots slots (omega (arith, all)))) kept.rising;
          held = λ number there. let no : false ≡ true = sym (ap (λ es. is_some (value_under number es)) none) ∙ there in cc;
          range = kept.range;
        });
      }

  pub begun_line : (slots : List (ℕ × Option V)) (start : Start V) → start.before.entries ≡ [] → start.slots ≡ length slots
      → series_versions slots start.next (Some start) ≡ with_was (numbered_of slots start.next) (numbered_of slots start.next)
  begun_line slots start none all = ap (with_was (numbered_of slots start.next)) (begun slots start none all)

  -- one more slot at the end leaves those of the change's beginning
  pushed_before : (slots : List (ℕ × Option V)) (e : ℕ × Option V) (start : Start V) → start.slots ≤ length slots → take start.slots (slots ++ e ∷ []) ≡ take start.slots slots
  pushed_before slots e start within = take-append-le start.slots slots (e ∷ []) within

  -- the series with one more value
  pub added_line : (slots : List (ℕ × Option V)) (next : ℕ) (change : Option (Start V)) (value : V) → IsKept slots next change
      → series_versions (slots ++ (next, Some value) ∷ []) (next + 1) change ≡ record { now = with_last value (numbered_of slots next); was = (series_versions slots next change).was }
  added_line slots next None value kept =
      ap (λ es. let l : SeriesVersions V = record { now = record { entries = es; next = next + 1 }; was = None } in l) (live_push slots next value)
  added_line slots next (Some start) value kept =
      λ i. record {
        now = record { entries = live_push slots next value i; next = next + 1 };
        was = Some (numbered_of (restored start.before.entries (pushed_before slots (next, Some value) start (kept.was start refl).within i)) start.next);
      }

  pub is_kept_added : (slots : List (ℕ × Option V)) (next : ℕ) (change : Option (Start V)) (value : V) → IsKept slots next change → next < number_end → IsKept (slots ++ (next, Some value) ∷ []) (next + 1) change
  is_kept_added slots next change value kept left =
      let e : ℕ × Option V = (next, Some value) in
      record {
        rising = rises_push 1 next slots (Some value) kept.range.0 kept.rising;
        range = (omega arith, omega arith);
        was = λ start is.
            let before = kept.was start is in
            let same = sym (pushed_before slots e start before.within) in
            record {
              within = omega (arith, length-append slots (e ∷ []), before.within);
              rising = subst (RiseFrom 1 start.next) same before.rising;
              held = λ number there. subst (λ es. IsSome (slot_at number es)) same (before.held number there);
              range = before.range;
            };
      }

  -- without its empty slots the series is the same
  pub is_kept_compacted : (slots : List (ℕ × Option V)) (next : ℕ) (change : Option (Start V)) → IsKept slots next change → IsKept (filter (λ e. is_some e.1) slots) next None
  is_kept_compacted slots next change kept = record {
    rising = filter_rises (λ e. is_some e.1) 1 next slots kept.rising;
    range = kept.range;
    was = λ start is. cc;
  }

  -- the end of a change that is taken back
  pub is_kept_rolled_back : (slots : List (ℕ × Option V)) (start : Start V) → IsKeptBefore slots start → IsKept (slots_before slots start) start.next None
  is_kept_rolled_back slots start before = record {
    rising = restored_rises start.before.entries 1 start.next (take start.slots slots) before.rising;
    range = before.range;
    was = λ other is. cc;
  }

  -- a new number goes last
  pub inserted_last : (es : List (ℕ × V)) (number : ℕ) (value : V) → value_under number es ≡ None → insert_entry nat_eq es number value ≡ es ++ (number, value) ∷ []
  inserted_last [] number value none = refl
  inserted_last (e ∷ es) number value none =
      elim (nat_eq number e.0) as (λ b. nat_eq number e.0 ≡ b → (if b then (e.0, value) ∷ es else e ∷ insert_entry nat_eq es number value) ≡ e ∷ (es ++ (number, value) ∷ [])) [
        | true ↦ λ t.
            let tie : is_eq (nat_cmp number e.0) ≡ true = sym (same_tests number e.0) ∙ t in
            let found : Some e.1 ≡ None = sym (ap (λ b. cond b (Some e.1) (value_under number es)) tie) ∙ none in
            cc
        | false ↦ λ t.
            let other : is_eq (nat_cmp number e.0) ≡ false = sym (same_tests number e.0) ∙ t in
            ap (λ l. e ∷ l) (inserted_last es number value (sym (ap (λ b. cond b (Some e.1) (value_under number es)) other) ∙ none))
      ] refl

  -- a value that is kept for the first time goes last among those that are
  pub kept_first : (slot number : ℕ) (value : V) (old new : Start V) → new ≡ record old { before = new.before } → (slot < old.slots) × (value_under number old.before.entries ≡ None)
      → new.before.entries ≡ old.before.entries ++ (number, value) ∷ [] → Keeps slot number value old new
  kept_first slot number value old new same first entries =
      record {
        same = same;
        entries = inr (first.0, entries);
        known = λ lt. subst (λ kept. IsSome (value_under number kept)) (sym entries) (kept_last number value old.before.entries);
      }

  module _ (slots : List (ℕ × Option V)) (next i number : ℕ) (value : V) (w : Option V) (old new : Start V) where
    -- a write into a slot leaves the slots of the change's beginning, since the value there is kept
    written_slots : RiseFrom 1 next slots → slice_get slots i ≡ Some (number, Some value) → Keeps i number value old new → restored new.before.entries (take old.slots (set_value_at slots i w)) ≡ slots_before slots old
    written_slots up is kept =
        restored_set new.before.entries old.slots i slots number (Some value) w is kept.known
        ∙ elim kept.entries as (λ _. restored new.before.entries (take old.slots slots) ≡ slots_before slots old) [
          | inl same ↦ ap (λ all. restored all (take old.slots slots)) same
          | inr last ↦ ap (λ all. restored all (take old.slots slots)) last.1 ∙ keeps number value old.before.entries 1 next old.slots i slots up is
        ]

    written_before : RiseFrom 1 next slots → slice_get slots i ≡ Some (number, Some value) → Keeps i number value old new → numbered_before (set_value_at slots i w) new ≡ numbered_before slots old
    written_before up is kept =
        let same = kept.same in
        let first : numbered_before (set_value_at slots i w) new ≡ numbered_of (restored new.before.entries (take old.slots (set_value_at slots i w))) old.next =
        λ j. numbered_of (restored new.before.entries (take (same j).slots (set_value_at slots i w))) (same j).next in
        first ∙ ap (λ es. numbered_of es old.next) (written_slots up is kept)

    -- what is kept is still of the first slots
    written_held : IsKeptBefore slots old → slice_get slots i ≡ Some (number, Some value) → Keeps i number value old new
        → (q : ℕ) → IsSome (value_under q new.before.entries) → IsSome (slot_at q (take old.slots (set_value_at slots i w)))
    written_held before is kept q there =
        let moved = ap (λ es. is_some (slot_at q es)) (take_set old.slots i slots w) ∙ slot_set (take old.slots slots) i w q in
        moved ∙ elim kept.entries as (λ _. IsSome (slot_at q (take old.slots slots))) [
          | inl same ↦ before.held q (sym (ap (λ es. is_some (value_under q es)) same) ∙ there)
          | inr last ↦ elim (kept_push q number value old.before.entries (sym (ap (λ es. is_some (value_under q es)) last.1) ∙ there)) as (λ _. IsSome (slot_at q (take old.slots slots))) [
            | inl earlier ↦ before.held q earlier
            | inr here ↦ subst (λ k. IsSome (slot_at k (take old.slots slots))) (sym here) (slot_within old.slots i slots number (Some value) is last.0)
          ]
        ]

    -- the numbers rise in both versions after a write into a slot
    is_kept_written : IsKept slots next (Some old) → slice_get slots i ≡ Some (number, Some value) → Keeps i number value old new → IsKept (set_value_at slots i w) next (Some new)
    is_kept_written all is kept =
        let before = all.was old refl in
        let same = kept.same in
        record {
          rising = set_rises 1 next slots i w all.rising;
          range = all.range;
          was = only (IsKeptBefore (set_value_at slots i w)) new (record {
            within = omega (arith, ap (λ (s : Start V). s.slots) same, before.within, length-set_value_at slots i w);
            rising = subst (λ (s : Start V). RiseFrom 1 s.next (take s.slots (set_value_at slots i w))) (sym same)
                (subst (RiseFrom 1 old.next) (sym (take_set old.slots i slots w)) (set_rises 1 old.next (take old.slots slots) i w before.rising));
            held = λ q there. subst (λ (s : Start V). IsSome (slot_at q (take s.slots (set_value_at slots i w)))) (sym same) (written_held before is kept q there);
            range = subst (λ (s : Start V). (1 ≤ s.next) × (s.next ≤ number_end)) (sym same) before.range;
          });
        }

    written_line : (after : Numbered V) → IsKept slots next (Some old) → slice_get slots i ≡ Some (number, Some value) → Keeps i number value old new → numbered_of (set_value_at slots i w) next ≡ after
        → series_versions (set_value_at slots i w) next (Some new) ≡ with_was after (numbered_before slots old)
    written_line after all is kept now =
        let before = written_before all.rising is kept in
        λ j. with_was (now j) (before j)

  -- nothing is written, and nothing more is kept
  nothing_before : (slots : List (ℕ × Option V)) (old new : Start V) → KeepsNothing old new → numbered_before slots new ≡ numbered_before slots old
  nothing_before slots old new kept =
      let same = kept.same in
      let first : numbered_before slots new ≡ numbered_of (restored new.before.entries (take old.slots slots)) old.next =
      λ j. numbered_of (restored new.before.entries (take (same j).slots slots)) (same j).next in
      first ∙ ap (λ all. numbered_of (restored all (take old.slots slots)) old.next) kept.entries

  is_kept_nothing : (slots : List (ℕ × Option V)) (next : ℕ) (old new : Start V) → IsKept slots next (Some old) → KeepsNothing old new → IsKept slots next (Some new)
  is_kept_nothing slots next old new all kept =
      let before = all.was old refl in
      record {
        rising = all.rising;
        range = all.range;
        was = only (IsKeptBefore slots) new (record {
          within = omega (arith, ap (λ (s : Start V). s.slots) kept.same, before.within);
          rising = subst (λ (s : Start V). RiseFrom 1 s.next (take s.slots slots)) (sym kept.same) before.rising;
          held = λ q there. subst (λ (s : Start V). IsSome (slot_at q (take s.slots slots))) (sym kept.same) (before.held q (sym (ap (λ es. is_some (value_under q es)) kept.entries) ∙ there));
          range = subst (λ (s : Start V). (1 ≤ s.next) × (s.next ≤ number_end)) (sym kept.same) before.range;
        });
      }

  nothing_line : (slots : List (ℕ × Option V)) (next : ℕ) (old new : Start V) → KeepsNothing old new → series_versions slots next (Some new) ≡ series_versions slots next (Some old)
  nothing_line slots next old new kept = ap (with_was (numbered_of slots next)) (nothing_before slots old new kept)

  -- what is kept does not depend on the room for more
  pub keeps_since : (slot number : ℕ) (value : V) (old made new : Start V) → KeepsNothing old made → Keeps slot number value made new → Keeps slot number value old new
  keeps_since slot number value old made new nothing kept = record {
    same = kept.same ∙ ap (λ (s : Start V). let t : Start V = record s { before = new.before } in t) nothing.same;
    entries = elim kept.entries as (λ _. (new.before.entries ≡ old.before.entries) ⊎ ((slot < old.slots) × (new.before.entries ≡ old.before.entries ++ (number, value) ∷ []))) [
      | inl e ↦ inl (e ∙ nothing.entries)
      | inr e ↦ inr (omega (arith, ap (λ (s : Start V). s.slots) nothing.same, e.0), e.1 ∙ ap (λ es. es ++ (number, value) ∷ []) nothing.entries)
    ];
    known = λ lt. kept.known (omega (arith, ap (λ (s : Start V). s.slots) nothing.same, lt));
  }

  module _ (slots after : List (ℕ × Option V)) (next number : ℕ) (old new : Start V) (all : IsKept slots next (Some old)) where
    -- the series once a value is edited, seen with the open change
    pub edited_kept : (edited : V → V) → Changes number (λ value. Some (edited value)) slots after old new → IsKept after next (Some new)
    edited_kept edited c = subst (λ es. IsKept es next (Some new)) (sym c.written) (is_kept_written slots next c.slot number c.value (Some (edited c.value)) old new all c.there c.kept)

    pub edited_line : (edited : V → V) → Changes number (λ value. Some (edited value)) slots after old new
        → series_versions after next (Some new) ≡ with_was (with_edited edited number (numbered_of slots next)) (numbered_before slots old)
    edited_line edited c =
        let now : live (set_value_at slots c.slot (Some (edited c.value))) ≡ put_under number (option_map edited (value_under number (live slots))) (live slots) =
        live_set 1 next slots c.slot number c.value (edited c.value) all.rising c.there
        ∙ sym (ap (λ found. put_under number (option_map edited found) (live slots)) (find_at 1 next slots c.slot number c.value all.rising c.there)) in
        ap (λ es. series_versions es next (Some new)) c.written
        ∙ written_line slots next c.slot number c.value (Some (edited c.value)) old new (with_edited edited number (numbered_of slots next)) all c.there c.kept (ap (λ es. let n : Numbered V = record { entries = es; next = next } in n) now)

    -- and once one is removed
    pub removed_kept : Changes number (λ _. None) slots after old new → IsKept after next (Some new)
    removed_kept c = subst (λ es. IsKept es next (Some new)) (sym c.written) (is_kept_written slots next c.slot number c.value None old new all c.there c.kept)

    pub removed_line : Changes number (λ _. None) slots after old new → series_versions after next (Some new) ≡ with_was (without_number number (numbered_of slots next)) (numbered_before slots old)
    removed_line c =
        ap (λ es. series_versions es next (Some new)) c.written
        ∙ written_line slots next c.slot number c.value None old new (without_number number (numbered_of slots next)) all c.there c.kept
        (ap (λ es. let n : Numbered V = record { entries = es; next = next } in n) (live_clear 1 next slots c.slot number c.value all.rising c.there))

    -- and where nothing is changed
    pub unchanged_kept : ChangesNothing number slots after old new → IsKept after next (Some new)
    unchanged_kept (inl nothing) = subst (λ es. IsKept es next (Some new)) (sym nothing.0) (is_kept_nothing slots next old new all nothing.1)
    unchanged_kept (inr c) = subst (λ es. IsKept es next (Some new)) (sym c.written) (is_kept_written slots next c.slot number c.value (Some c.value) old new all c.there c.kept)

    pub unchanged_line : ChangesNothing number slots after old new → series_versions after next (Some new) ≡ series_versions slots next (Some old)
    unchanged_line (inl nothing) = ap (λ es. series_versions es next (Some new)) nothing.0 ∙ nothing_line slots next old new nothing.1
    unchanged_line (inr c) =
        let back = set_back slots c.slot number (Some c.value) c.there in
        ap (λ es. series_versions es next (Some new)) c.written
        ∙ written_line slots next c.slot number c.value (Some c.value) old new (numbered_of slots next) all c.there c.kept (ap (λ es. numbered_of es next) back)
