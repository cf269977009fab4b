-- Feeds: the last entries of a view (own).
use Rattle.std.specs.Prelude.{ℕ, ◌+◌, ◌-◌, ◌<◌, ◌≤◌, nat_le, nat_lt, min, List, [], ◌∷◌, ◌++◌, length, take, drop, filter, if◌then◌else◌}
use Rattle.cy_bags.specs.declared.changes.Entry.{Entry}
use Rattle.cy_feeds.specs.declared.feeds.Answer.{Answer}
use Rattle.cy_feeds.specs.declared.feeds.Answer.TheVariants.{Entries, Lagged}

-- what is kept: how many entries at most, the tick above which none is gone, and the entries
pub record History : Type 0 where
  pub limit : ℕ
  pub base : ℕ
  pub entries : List Entry

-- a history, and how many entries there is room for
pub record Kept : Type 0 where
  pub history : History
  pub room : ℕ

-- of a view that is made at a tick
abbrev pub new_history : ℕ → ℕ → History
new_history limit made = record { limit = limit; base = made; entries = [] }

-- the tick of the last entry, and where there is none the tick before
abbrev pub latest : ℕ → List Entry → ℕ
latest tick [] = tick
latest tick (e ∷ es) = latest e.tick es

-- ticks rise from a tick on
abbrev pub IsRising : ℕ → List Entry → Type 0
IsRising tick [] = Unit {0}
IsRising tick (e ∷ es) = (tick < e.tick) × IsRising e.tick es

-- there is room for one more entry, where a full feed needs none
abbrev pub IsReserved : Kept → Type 0
IsReserved kept = min (length kept.history.entries + 1) kept.history.limit ≤ kept.room

-- with one more entry: those above the limit go, the oldest first, and the base is the tick of the last one that went
abbrev pub pushed : Entry → History → History
pushed entry feed =
    let all = feed.entries ++ entry ∷ [] in
    let gone = length all - feed.limit in
    record { limit = feed.limit; base = latest feed.base (take gone all); entries = drop gone all }

-- all entries above a tick
abbrev pub entries_after : ℕ → List Entry → List Entry
entries_after tick entries = filter (λ e. nat_lt tick e.tick) entries

-- All entries above a tick, where none of them can be gone.
abbrev pub answer_since : ℕ → History → Answer
answer_since tick feed = if nat_le feed.base tick then Entries (entries_after tick feed.entries) else Lagged
