-- How a follower goes on, and what a feed says of the rows of its view (own).
use Rattle.std.specs.Prelude.{◌≡◌, ℕ, ◌+◌, ◌-◌, ◌^◌, ◌<◌, ◌≤◌, ◌==◌, Bool, true, false, List, [], ◌∷◌, if◌then◌else◌}
use Rattle.std.specs.List.{AllByRecursion}
use Rattle.cy_values.specs.declared.rows.Cell.{Cell}
use Rattle.cy_values.specs.Bag.{IsBagOf, IsCanonical, IsSameBag, count_of, weight_of}
use Rattle.cy_bags.specs.declared.changes.Change.{Change}
use Rattle.cy_bags.specs.Difference.{IsDifference}
use Rattle.cy_bags.specs.declared.changes.Entry.{Entry}
use Rattle.cy_feeds.specs.Feeds.{History, IsRising, entries_after, new_history, pushed}

-- ---- one entry

-- the greatest count of a row
abbrev pub last_count : ℕ
last_count = 2 ^ 62 - 1

-- how often a row counts after a change: less what goes, plus what comes
abbrev pub count_after : List Cell → List (List Cell × ℕ) → Change → ℕ
count_after row rows change = weight_of row rows - weight_of row change.removed + weight_of row change.added

-- no row counts more than the greatest count after the change
abbrev pub IsBounded : List (List Cell × ℕ) → Change → Type 0
IsBounded rows change = (row : List Cell) → count_after row rows change ≤ last_count

-- the rows less those that go, plus those that come, in canonical order, each once, none at count 0
pub record IsChangedBy (rows : List (List Cell × ℕ)) (change : Change) (next : List (List Cell × ℕ)) : Type 0 where
  pub counts : (row : List Cell) → weight_of row next ≡ count_after row rows change
  pub canonical : IsCanonical next

-- ---- one entry after the other

abbrev pub Follows : List (List Cell × ℕ) → List Entry → List (List Cell × ℕ) → Type 0
Follows rows [] next = rows ≡ next
Follows rows (e ∷ es) next = (mid : List (List Cell × ℕ)) × IsChangedBy rows e.change mid × Follows mid es next

-- these rows with their counts are a copy of a bag
pub record IsCopy (pairs : List (List Cell × ℕ)) (rows : List (List Cell)) : Type 0 where
  pub bag : IsBagOf rows pairs
  pub canonical : IsCanonical pairs

-- whether there is an entry of this tick
abbrev pub has_tick : ℕ → List Entry → Bool
has_tick tick [] = false
has_tick tick (e ∷ es) = if e.tick == tick then true else has_tick tick es

-- A feed tells what the rows of its view were at each tick from its base to now: an entry is the difference that its tick made, and
-- a tick without an entry left the bag as it was.
pub record Tells (feed : History) (rows : ℕ → List (List Cell)) (now : ℕ) : Type 0 where
  pub rising : IsRising feed.base feed.entries
  pub differences : AllByRecursion (λ (e : Entry). IsDifference (rows (e.tick - 1)) (rows e.tick) e.change) feed.entries
  pub silent : (tick : ℕ) → feed.base < tick → tick ≤ now → has_tick tick feed.entries ≡ false → IsSameBag (rows (tick - 1)) (rows tick)
  pub in_time : AllByRecursion (λ (e : Entry). e.tick ≤ now) feed.entries

-- ---- laws

-- who has a copy of the rows of a tick that isn't below the base, and takes over all entries above it, has a copy of the rows of now
abbrev pub FollowersGoOn : Type 0
FollowersGoOn =
    (feed : History) (rows : ℕ → List (List Cell)) (now tick : ℕ) (copy next : List (List Cell × ℕ))
    → Tells feed rows now → feed.base ≤ tick → tick ≤ now → IsCopy copy (rows tick) → Follows copy (entries_after tick feed.entries) next
    → IsCopy next (rows now)

-- a copy of the rows before a change holds what goes, and counts as the rows after it count
abbrev pub CopiesChange : Type 0
CopiesChange =
    (before after : List (List Cell)) (copy : List (List Cell × ℕ)) (change : Change) → IsCopy copy before → IsDifference before after change
    → (row : List Cell) → (weight_of row change.removed ≤ weight_of row copy) × (count_after row copy change ≡ count_of row after)

-- a feed that is new tells what the rows are at its tick
abbrev pub NewFeedsTell : Type 0
NewFeedsTell = (history made : ℕ) (rows : ℕ → List (List Cell)) → Tells (new_history history made) rows made

-- with the difference that the next tick made it tells what the rows are at that tick
abbrev pub PushedFeedsTell : Type 0
PushedFeedsTell =
    (feed : History) (rows : ℕ → List (List Cell)) (now : ℕ) (entry : Entry)
    → Tells feed rows now → feed.base ≤ now → entry.tick ≡ now + 1 → IsDifference (rows now) (rows (now + 1)) entry.change
    → Tells (pushed entry feed) rows (now + 1)

-- and as it is, where the next tick left the bag as it was
abbrev pub QuietFeedsTell : Type 0
QuietFeedsTell =
    (feed : History) (rows : ℕ → List (List Cell)) (now : ℕ) → Tells feed rows now → IsSameBag (rows now) (rows (now + 1)) → Tells feed rows (now + 1)
