-- A follower goes on from a right copy to a right copy.
use Rattle.std.proofs.Common.{◌≡◌, ◌≢◌, ℕ, zero, suc, ◌+◌, ◌-◌, ◌<◌, ◌≤◌, ◌==◌, nat_lt, true, false, cond, List, [], ◌∷◌, refl, ap, subst, ◌∙◌, arith}
use Rattle.std.specs.List.{AllByRecursion}
use Rattle.std.proofs.lemmas.Bool.Decides.{nat_tests}
use Rattle.cy_values.specs.declared.rows.Cell.{Cell}
use Rattle.cy_values.specs.Bag.{IsSameBag, count_of, weight_of}
use Rattle.cy_bags.specs.declared.changes.Change.{Change}
use Rattle.cy_bags.specs.Difference.{IsDifference}
use Rattle.cy_bags.specs.declared.changes.Entry.{Entry}
use Rattle.cy_feeds.specs.Feeds.{IsRising, entries_after}
use Rattle.cy_feeds.specs.Following.{CopiesChange, Follows, FollowersGoOn, IsChangedBy, IsCopy, has_tick}

-- ---- one entry

pub copies_change : CopiesChange
copies_change before after copy change is difference row =
    let held : weight_of row copy ≡ count_of row before = is.bag row in
    let gone : weight_of row change.removed ≡ count_of row before - count_of row after = difference.removed.counts row in
    let come : weight_of row change.added ≡ count_of row after - count_of row before = difference.added.counts row in
    (omega (arith, held, gone), omega (arith, held, gone, come))

changed_copy : (before after : List (List Cell)) (copy next : List (List Cell × ℕ)) (change : Change) → IsCopy copy before → IsDifference before after change → IsChangedBy copy change next → IsCopy next after
changed_copy before after copy next change is difference changed = record {
  bag = λ row. changed.counts row ∙ (copies_change before after copy change is difference row).1;
  canonical = changed.canonical;
}

same_copy : (before after : List (List Cell)) (copy : List (List Cell × ℕ)) → IsSameBag before after → IsCopy copy before → IsCopy copy after
same_copy before after copy same is = record { bag = λ row. is.bag row ∙ same row; canonical = is.canonical }

-- ---- ticks without an entry

pub other_tick : (e : Entry) (tick : ℕ) (es : List Entry) → e.tick ≢ tick → has_tick tick es ≡ false → has_tick tick (e ∷ es) ≡ false
other_tick e tick es other none =
    elim (e.tick == tick) as (λ b. (e.tick == tick) ≡ b → cond b true (has_tick tick es) ≡ false) [
      | true ↦ λ h. absurd (other (grind (arith, nat_tests)))
      | false ↦ λ h. none
    ] refl

-- there is none up to the tick that a rising list begins above
pub none_before : (tick from : ℕ) (es : List Entry) → IsRising from es → tick ≤ from → has_tick tick es ≡ false
none_before tick from [] rising le = refl
none_before tick from (e ∷ es) rising le =
    let above : from < e.tick = rising.0 in
    other_tick e tick es (λ is. omega (arith, is, above)) (none_before tick e.tick es rising.1 (omega arith))

module _ (rows : ℕ → List (List Cell)) (now : ℕ) where
  abbrev Quiet : ℕ → Type 0
  Quiet tick = IsSameBag (rows (tick - 1)) (rows tick)

  same_bags : (from steps : ℕ) → ((tick : ℕ) → from < tick → tick ≤ from + steps → Quiet tick) → IsSameBag (rows from) (rows (from + steps))
  same_bags from zero quiet row = ap (λ t. count_of row (rows t)) (omega arith)
  same_bags from (suc steps) quiet row =
      same_bags from steps (λ tick low high. quiet tick low (omega arith)) row
      ∙ ap (λ t. count_of row (rows t)) (omega arith)
      ∙ quiet (from + suc steps) (omega arith) (omega arith) row

  same_until : (from to : ℕ) → from ≤ to → ((tick : ℕ) → from < tick → tick ≤ to → Quiet tick) → IsSameBag (rows from) (rows to)
  same_until from to le quiet row =
      let sum : from + (to - from) ≡ to = omega arith in
      same_bags from (to - from) (λ tick low high. quiet tick low (omega arith)) row ∙ ap (λ t. count_of row (rows t)) sum

  abbrev pub Differ : List Entry → Type 0
  Differ es = AllByRecursion (λ (e : Entry). IsDifference (rows (e.tick - 1)) (rows e.tick) e.change) es

  abbrev pub InTime : List Entry → Type 0
  InTime es = AllByRecursion (λ (e : Entry). e.tick ≤ now) es

  abbrev pub Silent : ℕ → List Entry → Type 0
  Silent from es = (tick : ℕ) → from < tick → tick ≤ now → has_tick tick es ≡ false → Quiet tick

  goes_on : (from : ℕ) (es : List Entry) (copy next : List (List Cell × ℕ)) → IsRising from es → Differ es → Silent from es → InTime es → from ≤ now
      → IsCopy copy (rows from) → Follows copy es next → IsCopy next (rows now)
  goes_on from [] copy next rising differ silent in_time le is follows =
      subst (λ (c : List (List Cell × ℕ)). IsCopy c (rows now)) follows (same_copy (rows from) (rows now) copy (same_until from now le (λ tick low high. silent tick low high refl)) is)
  goes_on from (e ∷ es) copy next rising differ silent in_time le is follows =
      let above : from < e.tick = rising.0 in
      let until : e.tick ≤ now = in_time.0 in
      let before : IsCopy copy (rows (e.tick - 1)) =
      same_copy (rows from) (rows (e.tick - 1)) copy
      (same_until from (e.tick - 1) (omega (arith, above)) (λ tick low high. silent tick low (omega (arith, above, until)) (not_yet tick (omega (arith, above, high))))) is
      in
      goes_on e.tick es follows.0 next rising.1 differ.1 (λ tick low high none. silent tick (omega (arith, above)) high (other_tick e tick es (λ same. omega (arith, same, low)) none)) in_time.1 until
      (changed_copy (rows (e.tick - 1)) (rows e.tick) copy follows.0 e.change before differ.0 follows.1) follows.2
    where
      not_yet : (tick : ℕ) → tick < e.tick → has_tick tick (e ∷ es) ≡ false
      not_yet tick less = other_tick e tick es (λ same. omega (arith, same)) (none_before tick e.tick es rising.1 (omega arith))

  -- ---- the entries above a tick

  all_after : (tick from : ℕ) (es : List Entry) → IsRising from es → tick ≤ from → entries_after tick es ≡ es
  all_after tick from [] rising le = refl
  all_after tick from (e ∷ es) rising le =
      let above : from < e.tick = rising.0 in
      let later : entries_after tick es ≡ es = all_after tick e.tick es rising.1 (omega (arith, above)) in
      elim (nat_lt tick e.tick) as (λ b. nat_lt tick e.tick ≡ b → cond b (e ∷ entries_after tick es) (entries_after tick es) ≡ e ∷ es) [
        | true ↦ λ h. ap (λ (fs : List Entry). e ∷ fs) later
        | false ↦ λ h. absurd (grind (arith, nat_tests, above))
      ] refl

  pub goes_on_after : (tick from : ℕ) (es : List Entry) (copy next : List (List Cell × ℕ)) → from ≤ tick → IsRising from es → Differ es → Silent from es → InTime es → tick ≤ now
      → IsCopy copy (rows tick) → Follows copy (entries_after tick es) next → IsCopy next (rows now)
  goes_on_after tick from [] copy next low rising differ silent in_time le is follows =
      goes_on tick [] copy next tt tt (λ t above high none. silent t (omega arith) high none) tt le is follows
  goes_on_after tick from (e ∷ es) copy next low rising differ silent in_time le is follows =
      elim (nat_lt tick e.tick) as (λ b. nat_lt tick e.tick ≡ b → Follows copy (cond b (e ∷ entries_after tick es) (entries_after tick es)) next → IsCopy next (rows now)) [
        | true ↦ λ h on.
            let less : tick < e.tick = grind (arith, nat_tests) in
            goes_on tick (e ∷ es) copy next (less, rising.1) differ (λ t above high none. silent t (omega arith) high none) in_time le is
            (subst (λ (fs : List Entry). Follows copy (e ∷ fs) next) (all_after tick e.tick es rising.1 (omega (arith, less))) on)
        | false ↦ λ h on.
            let reached : e.tick ≤ tick = grind (arith, nat_tests) in
            let above : from < e.tick = rising.0 in
            goes_on_after tick e.tick es copy next reached rising.1 differ.1 (λ t past high none. silent t (omega (arith, above)) high (other_tick e t es (λ same. omega (arith, same, past)) none)) in_time.1 le is on
      ] refl follows

pub followers_go_on : FollowersGoOn
followers_go_on feed rows now tick copy next tells low high is follows =
    goes_on_after rows now tick feed.base feed.entries copy next low tells.rising tells.differences tells.silent tells.in_time high is follows
