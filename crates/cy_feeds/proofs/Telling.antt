-- What a feed says as it grows.
use Rattle.std.proofs.Common.{◌≡◌, ◌≢◌, ℕ, zero, suc, ◌+◌, ◌-◌, ◌<◌, ◌≤◌, ◌==◌, true, false, cond, List, [], ◌∷◌, ◌++◌, length, take, drop, refl, sym, subst, arith}
use Rattle.std.specs.List.{AllByRecursion}
use Rattle.cy_values.specs.declared.rows.Cell.{Cell}
use Rattle.cy_values.specs.Bag.{IsSameBag}
use Rattle.cy_bags.specs.Difference.{IsDifference}
use Rattle.cy_bags.specs.declared.changes.Entry.{Entry}
use Rattle.cy_feeds.specs.Feeds.{History, IsRising, latest}
use Rattle.cy_feeds.specs.Following.{NewFeedsTell, PushedFeedsTell, QuietFeedsTell, Tells, has_tick}
use Rattle.cy_feeds.proofs.GoingOn.{other_tick}
use Rattle.cy_feeds.proofs.Pushes.{rising_drop, rising_more}

pub new_feeds_tell : NewFeedsTell
new_feeds_tell history made rows = record { rising = tt; differences = tt; silent = λ tick low high none. absurd (omega arith); in_time = tt }

-- ---- with one more entry

more : (P : Entry → Type 0) (es : List Entry) (e : Entry) → AllByRecursion P es → P e → AllByRecursion P (es ++ e ∷ [])
more P [] e all is = (is, tt)
more P (x ∷ es) e all is = (all.0, more P es e all.1 is)

later : (now : ℕ) (es : List Entry) → AllByRecursion (λ (e : Entry). e.tick ≤ now) es → AllByRecursion (λ (e : Entry). e.tick ≤ now + 1) es
later now [] all = tt
later now (e ∷ es) all = (omega (arith, all.0), later now es all.1)

less_entries : (tick : ℕ) (es : List Entry) (e : Entry) → has_tick tick (es ++ e ∷ []) ≡ false → has_tick tick es ≡ false
less_entries tick [] e none = refl
less_entries tick (x ∷ es) e none =
    elim (x.tick == tick) as (λ b. cond b true (has_tick tick (es ++ e ∷ [])) ≡ false → cond b true (has_tick tick es) ≡ false) [
      | true ↦ λ h. h
      | false ↦ λ h. less_entries tick es e h
    ] none

last_there : (es : List Entry) (e : Entry) → has_tick e.tick (es ++ e ∷ []) ≡ true
last_there [] e = grind arith
last_there (x ∷ es) e =
    elim (x.tick == e.tick) as (λ b. cond b true (has_tick e.tick (es ++ e ∷ [])) ≡ true) [
      | true ↦ refl
      | false ↦ last_there es e
    ]

pub latest_in_time : (base now : ℕ) (es : List Entry) → base ≤ now → AllByRecursion (λ (e : Entry). e.tick ≤ now) es → latest base es ≤ now
latest_in_time base now [] le all = le
latest_in_time base now (e ∷ es) le all = latest_in_time e.tick now es all.0 all.1

-- ---- without the oldest ones

all_drop : (P : Entry → Type 0) (k : ℕ) (es : List Entry) → AllByRecursion P es → AllByRecursion P (drop k es)
all_drop P zero es all = all
all_drop P (suc k) [] all = tt
all_drop P (suc k) (e ∷ es) all = all_drop P k es all.1

pub latest_above : (base k : ℕ) (es : List Entry) → IsRising base es → base ≤ latest base (take k es)
latest_above base zero es rising = omega arith
latest_above base (suc k) [] rising = omega arith
latest_above base (suc k) (e ∷ es) rising = omega (arith, rising.0, latest_above e.tick k es rising.1)

-- above the tick of the last one that went, a tick without an entry had none before
none_gone : (base k tick : ℕ) (es : List Entry) → IsRising base es → latest base (take k es) < tick → has_tick tick (drop k es) ≡ false → has_tick tick es ≡ false
none_gone base zero tick es rising above none = none
none_gone base (suc k) tick [] rising above none = refl
none_gone base (suc k) tick (e ∷ es) rising above none =
    let low : e.tick ≤ latest e.tick (take k es) = latest_above e.tick k es rising.1 in
    other_tick e tick es (λ same. omega (arith, same, low, above)) (none_gone e.tick k tick es rising.1 above none)

pub dropped_tell : (limit base k : ℕ) (es : List Entry) (rows : ℕ → List (List Cell)) (now : ℕ) → Tells (record { limit = limit; base = base; entries = es }) rows now
    → Tells (record { limit = limit; base = latest base (take k es); entries = drop k es }) rows now
dropped_tell limit base k es rows now tells = record {
  rising = rising_drop base k es tells.rising;
  differences = all_drop _ k es tells.differences;
  silent = λ tick low high none. tells.silent tick (omega (arith, low, latest_above base k es tells.rising)) high (none_gone base k tick es tells.rising low none);
  in_time = all_drop _ k es tells.in_time;
}

-- ---- a tick more

longer_tell : (feed : History) (rows : ℕ → List (List Cell)) (now : ℕ) (entry : Entry) → Tells feed rows now → feed.base ≤ now → entry.tick ≡ now + 1 → IsDifference (rows now) (rows (now + 1)) entry.change
    → Tells (record { limit = feed.limit; base = feed.base; entries = feed.entries ++ entry ∷ [] }) rows (now + 1)
longer_tell feed rows now entry tells low is difference =
    let before : entry.tick - 1 ≡ now = omega (arith, is) in
    record {
      rising = rising_more feed.base feed.entries entry tells.rising (omega (arith, is, latest_in_time feed.base now feed.entries low tells.in_time));
      differences =
          more _ feed.entries entry tells.differences (subst (λ (t : ℕ). IsDifference (rows t) (rows entry.tick) entry.change) (sym before) (subst (λ (t : ℕ). IsDifference (rows now) (rows t) entry.change) (sym is) difference));
      silent = λ tick above high none. at_tick tick above high none;
      in_time = more _ feed.entries entry (later now feed.entries tells.in_time) (omega (arith, is));
    }
  where
    at_tick : (tick : ℕ) → feed.base < tick → tick ≤ now + 1 → has_tick tick (feed.entries ++ entry ∷ []) ≡ false → IsSameBag (rows (tick - 1)) (rows tick)
    at_tick tick above high none =
        elim (tick == entry.tick) as (λ b. (tick == entry.tick) ≡ b → IsSameBag (rows (tick - 1)) (rows tick)) [
          | true ↦ λ h.
              let same : tick ≡ entry.tick = grind (arith, h) in
              let there : has_tick tick (feed.entries ++ entry ∷ []) ≡ true = subst (λ (t : ℕ). has_tick t (feed.entries ++ entry ∷ []) ≡ true) (sym same) (last_there feed.entries entry) in
              absurd (cc)
          | false ↦ λ h.
              let other : tick ≢ entry.tick = grind (arith, h) in
              tells.silent tick above (omega (arith, other, is, high)) (less_entries tick feed.entries entry none)
        ] refl

pub pushed_feeds_tell : PushedFeedsTell
pushed_feeds_tell feed rows now entry tells low is difference =
    dropped_tell feed.limit feed.base (length (feed.entries ++ entry ∷ []) - feed.limit) (feed.entries ++ entry ∷ []) rows (now + 1) (longer_tell feed rows now entry tells low is difference)

pub quiet_feeds_tell : QuietFeedsTell
quiet_feeds_tell feed rows now tells same = record {
  rising = tells.rising;
  differences = tells.differences;
  silent = λ tick above high none. at_tick tick above high none;
  in_time = later now feed.entries tells.in_time;
}
  where
    at_tick : (tick : ℕ) → feed.base < tick → tick ≤ now + 1 → has_tick tick feed.entries ≡ false → IsSameBag (rows (tick - 1)) (rows tick)
    at_tick tick above high none =
        elim (tick == now + 1) as (λ b. (tick == now + 1) ≡ b → IsSameBag (rows (tick - 1)) (rows tick)) [
          | true ↦ λ h.
              let last : tick ≡ now + 1 = grind (arith, h) in
              let before : tick - 1 ≡ now = omega (arith, last) in
              subst (λ (t : ℕ). IsSameBag (rows (tick - 1)) (rows t)) (sym last) (subst (λ (t : ℕ). IsSameBag (rows t) (rows (now + 1))) (sym before) same)
          | false ↦ λ h.
              let other : tick ≢ now + 1 = grind (arith, h) in
              tells.silent tick above (omega (arith, other, high)) none
        ] refl
