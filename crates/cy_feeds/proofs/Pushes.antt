-- Feeds that get one more entry.
use Rattle.std.proofs.Common.{◌≡◌, ℕ, zero, suc, ◌+◌, ◌-◌, ◌<◌, List, [], ◌∷◌, ◌++◌, Option, None, Some, length, take, drop, refl, ◌∙◌, arith}
use Rattle.std.specs.Prelude.{MatchOption}
use Rattle.cy_bags.specs.declared.changes.Entry.{Entry}
use Rattle.cy_feeds.specs.Feeds.{History, IsRising, latest, pushed}

pub rising_more : (base : ℕ) (es : List Entry) (e : Entry) → IsRising base es → latest base es < e.tick → IsRising base (es ++ e ∷ [])
rising_more base [] e rising above = (above, tt)
rising_more base (x ∷ es) e rising above = (rising.0, rising_more x.tick es e rising.1 above)

pub rising_drop : (base k : ℕ) (es : List Entry) → IsRising base es → IsRising (latest base (take k es)) (drop k es)
rising_drop base zero es rising = rising
rising_drop base (suc k) [] rising = tt
rising_drop base (suc k) (e ∷ es) rising = rising_drop e.tick k es rising.1

-- ---- before the entry is put at the end

pub rising_tail : (base : ℕ) (es : List Entry) → IsRising base es → IsRising base (drop 1 es)
rising_tail base [] rising = tt
rising_tail base (e ∷ []) rising = tt
rising_tail base (e ∷ f ∷ es) rising = (omega (arith, rising.0, rising.1.0), rising.1.1)

pub latest_tail : (base tick : ℕ) (es : List Entry) → IsRising base es → latest base es < tick → latest base (drop 1 es) < tick
latest_tail base tick [] rising above = above
latest_tail base tick (e ∷ []) rising above = omega (arith, rising.0, above)
latest_tail base tick (e ∷ f ∷ es) rising above = above

pub fewer : (popped : Option Entry) (before after : ℕ) → MatchOption popped ((before ≡ 0) × (after ≡ 0)) (λ _. after + 1 ≡ before) → 0 < before → after < before
fewer None before after cases some = absurd (omega (arith, cases.0, some))
fewer (Some e) before after cases some = omega (arith, cases)

-- ---- the tick of the last entry is that of the entry which was put there

latest_split : (base k : ℕ) (es : List Entry) → latest (latest base (take k es)) (drop k es) ≡ latest base es
latest_split base zero es = refl
latest_split base (suc k) [] = refl
latest_split base (suc k) (e ∷ es) = latest_split e.tick k es

latest_last : (base : ℕ) (es : List Entry) (e : Entry) → latest base (es ++ e ∷ []) ≡ e.tick
latest_last base [] e = refl
latest_last base (x ∷ es) e = latest_last x.tick es e

pub latest_pushed : (entry : Entry) (feed : History) → latest (pushed entry feed).base (pushed entry feed).entries ≡ entry.tick
latest_pushed entry feed =
    latest_split feed.base (length (feed.entries ++ entry ∷ []) - feed.limit) (feed.entries ++ entry ∷ []) ∙ latest_last feed.base feed.entries entry
