-- Followers: whoever polls a view goes on from the copy of its rows that it has (own).
use Rattle.std.specs.Prelude.{◌≡◌, ◌⊎◌, ◌≤◌, ℕ, List, [], ◌∷◌, Option, None, Some, Ok, Err}
use Rattle.cy_values.specs.declared.rows.Cell.{Cell}
use Rattle.cy_values.specs.Bag.{IsCanonical, weight_of}
use Rattle.cy_bags.specs.declared.changes.Change.{Change}
use Rattle.cy_bags.specs.declared.changes.Entry.{Entry}
use Rattle.cy_feeds.specs.Following.{Follows, IsBounded, IsChangedBy}
use Rattle.cy_engine_lines.specs.declared.replies.Reply.TheVariants as reply
use Rattle.cy_engine_lines.specs.Requests.{Asks, RowsOf, SinceOf}
use Rattle.cy_engine.specs.Runs.{Event, Run}
use Rattle.cy_engine_lines.specs.State.{EngineState, empty_engine, view_at}
use Rattle.cy_engine_views.specs.RegisteredViews.{View}
use Rattle.cy_engine_lines.specs.EngineStep.{Answer, AreRows, EngineStep}

-- ---- what a follower has

-- a copy of the rows of a view with their counts, and the tick that the answer named from which it has them
pub record Copy : Type 0 where
  pub rows : List (List Cell × ℕ)
  pub tick : ℕ

-- a follower has no copy at first
abbrev pub no_copy : Option Copy
no_copy = None

-- ---- what it asks

-- the lines that a follower of a name sends: `:rows NAME`, and where it has a copy `:since NAME TICK` with the tick of its copy
abbrev pub IsPoll : List ℕ → Option Copy → List ℕ → Type 0
IsPoll name None line = Asks line (RowsOf name)
IsPoll name (Some copy) line = Asks line (RowsOf name) ⊎ Asks line (SinceOf name copy.tick)

-- ---- what it makes of the answer

-- rows take the place of the copy; entries change it, one after the other; whatever else is answered, it stays as it is
abbrev pub TakesOver : Option Copy → Answer → Option Copy → Type 0
TakesOver held (Ok (reply.Rows rows tick name)) next = next ≡ Some (record { rows = rows; tick = tick })
TakesOver (Some copy) (Ok (reply.Entries entries tick name)) next =
    (rows : List (List Cell × ℕ)) × Follows copy.rows entries rows × (next ≡ Some (record { rows = rows; tick = tick }))
TakesOver held answer next = next ≡ held

-- From one copy to another through the lines of a run: some of them are polls of this follower, and all others are nothing to it,
-- whoever sent them and whatever they ask.
abbrev pub IsLedBy : List ℕ → List Event → Option Copy → Option Copy → Type 0
IsLedBy name [] held last = last ≡ held
IsLedBy name (e ∷ events) held last =
    IsLedBy name events held last
    ⊎ (IsPoll name held e.line × (next : Option Copy) × TakesOver held e.answer next × IsLedBy name events next last)

-- ---- the law

-- the copy is what the view of the name has now: its rows, as `:rows` shows them, and the tick
pub record IsCurrent (name : List ℕ) (state : EngineState) (held : Option Copy) : Type 0 where
  pub view : View
  pub copy : Copy
  pub there : view_at name state ≡ Some view
  pub has : held ≡ Some copy
  pub rows : AreRows state view copy.rows
  pub tick : copy.tick ≡ state.tick

-- a poll was answered, and so the copy is current; or it was refused, and so the copy is what it was
abbrev pub IsServed : List ℕ → EngineState → Answer → Option Copy → Option Copy → Type 0
IsServed name state (Ok reply) held next = IsCurrent name state next
IsServed name state (Err why) held next = next ≡ held

-- Followers agree: in every run from an empty engine, whatever sessions its lines came from, each answered poll leaves a follower
-- with exactly the rows that the view has after it, also where views of the name were dropped and made again, where entries are gone
-- from the feed, and where polls were refused.
abbrev pub FollowersAgree : Type 0
FollowersAgree =
    (history : ℕ) (events : List Event) (before after : EngineState) (poll : Event) (name : List ℕ) (held next : Option Copy)
    → Run (empty_engine history) events before → EngineStep before poll.line poll.answer poll.entries after
    → IsLedBy name events no_copy held → IsPoll name held poll.line → TakesOver held poll.answer next
    → IsServed name after poll.answer held next

-- ---- what a follower can take over

-- a change can be taken over: both its sides are in canonical order, as the rows are, what it removes is there, and no row counts more
-- than 2^62 - 1 after it
pub record CanChange (copy : List (List Cell × ℕ)) (change : Change) : Type 0 where
  pub rows : IsCanonical copy
  pub removed : IsCanonical change.removed
  pub added : IsCanonical change.added
  pub held : (row : List Cell) → weight_of row change.removed ≤ weight_of row copy
  pub bounded : IsBounded copy change

-- and so can entries, one after another
abbrev pub CanFollow : List (List Cell × ℕ) → List Entry → Type 0
CanFollow rows [] = Unit {0}
CanFollow rows (e ∷ es) = CanChange rows e.change × ((next : List (List Cell × ℕ)) → IsChangedBy rows e.change next → CanFollow next es)

-- In every run from an empty engine, a follower whose poll is answered with entries can take them over.
abbrev pub EntriesCanBeTaken : Type 0
EntriesCanBeTaken =
    (history : ℕ) (events : List Event) (before after : EngineState) (poll : Event) (name view : List ℕ) (copy : Copy) (entries : List Entry) (tick : ℕ)
    → Run (empty_engine history) events before → EngineStep before poll.line poll.answer poll.entries after
    → IsLedBy name events no_copy (Some copy) → IsPoll name (Some copy) poll.line → poll.answer ≡ Ok (reply.Entries entries tick view)
    → CanFollow copy.rows entries
