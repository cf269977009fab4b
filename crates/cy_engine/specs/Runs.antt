-- Runs of the engine over lists of lines, and what holds of them (own).
use Rattle.std.specs.Prelude.{◌≡◌, ◌⊎◌, ℕ, Bool, true, false, IsTrue, List, [], ◌∷◌, map, Ok, Err}
use Rattle.std.specs.List.{AllByRecursion}
use Rattle.cy_engine_lines.specs.declared.faults.Fault.TheVariants as fault
use Rattle.cy_engine_lines.specs.Model.{Machine, state_of}
use Rattle.cy_engine_lines.specs.declared.replies.Reply.TheVariants as reply
use Rattle.cy_engine_lines.specs.State.{EngineState}
use Rattle.cy_engine_views.specs.RegisteredViews.{Entries}
use Rattle.cy_engine_lines.specs.EngineStep.{Answer, EngineStep}

-- a line, its answer and the entries that it made
pub record Event : Type 0 where
  pub line : List ℕ
  pub answer : Answer
  pub entries : Entries

-- from old, lines may be answered so, one after another, and lead to new
abbrev pub Run : EngineState → List Event → EngineState → Type 0
Run old [] new = new ≡ old
Run old (e ∷ events) new = (mid : EngineState) × EngineStep old e.line e.answer e.entries mid × Run mid events new

-- the entries of the last line, or those from before where there is none
abbrev pub last_entries : Entries → List Event → Entries
last_entries entries [] = entries
last_entries entries (e ∷ events) = last_entries e.entries events

-- these lines may be answered so, and the machine then has the entries of the last one
pub record Runs (old new : Machine) (lines : List (List ℕ)) (answers : List Answer) : Type 0 where
  pub events : List Event
  pub lines_are : map (λ e. e.line) events ≡ lines
  pub answers_are : map (λ e. e.answer) events ≡ answers
  pub run : Run (state_of old) events (state_of new)
  pub entries_are : new.entries ≡ last_entries old.entries events

-- ---- what is free

-- a refusal that may come whatever a line asks: it is out of memory, or rows are too many for the upkeep of views
abbrev pub is_want : Answer → Bool
is_want (Err fault.NoMemory) = true
is_want (Err fault.TooManyRows) = true
is_want _ = false

-- the parser refused the line; which of its faults it gives, it may choose
abbrev pub is_choice : Answer → Bool
is_choice (Err (fault.Parse why)) = true
is_choice _ = false

-- an answer but for the numbers of steps
abbrev pub seen_answer : Answer → Answer
seen_answer (Ok (reply.Steps steps)) = Ok (reply.Steps (map (λ s. (s.0, 0)) steps))
seen_answer answer = answer

-- This is all that is free in the answer to a line: whether it is out of memory, or has too many rows; where the parser refuses it, with which
-- of its faults; and the numbers of steps. An answer is bound where it is neither; and two answers agree where they differ in a choice or in
-- these numbers alone.
abbrev pub IsBound : Answer → Type 0
IsBound answer = is_want answer ≡ false

abbrev pub Agree : Answer → Answer → Type 0
Agree answer other = (seen_answer answer ≡ seen_answer other) ⊎ (IsTrue (is_choice answer) × IsTrue (is_choice other))

-- ---- what is determined

-- What becomes of a line is determined, but for what is free: its bound answers agree, and it makes the same entries and leads to the same state.
abbrev pub IsDetermined : Type 0
IsDetermined =
    (old new other : EngineState) (line : List ℕ) (answer again : Answer) (entries more : Entries)
    → EngineStep old line answer entries new → EngineStep old line again more other → IsBound answer → IsBound again
    → Agree answer again × (entries ≡ more) × (new ≡ other)

-- ---- refused lines

abbrev pub accepted_before : Answer → Event → List Event → List Event
accepted_before (Ok reply) e events = e ∷ events
accepted_before (Err why) e events = events

-- the lines that were not refused
abbrev pub accepted : List Event → List Event
accepted [] = []
accepted (e ∷ events) = accepted_before e.answer e (accepted events)

-- a line with its answer and entries, but for the numbers of steps
abbrev pub seen_event : Event → Event
seen_event e = record e { answer = seen_answer e.answer }

-- From one state to another some lines may be answered as they were; and they have to be: wherever the same lines are answered from
-- that state, and the answers are bound, the answers, their entries and the state that they lead to are the same, but for the numbers of steps.
pub record OnlySo (old : EngineState) (events : List Event) (new : EngineState) : Type 0 where
  pub run : Run old events new
  pub only : (other : EngineState) (alone : List Event) → Run old alone other → map (λ e. e.line) alone ≡ map (λ e. e.line) events
      → AllByRecursion (λ e. IsBound e.answer) alone → (map seen_event alone ≡ map seen_event events) × (other ≡ new)

-- Refused lines leave no trace: the lines that were not refused are answered as they were without the others, and lead to the
-- same state.
abbrev pub RefusedLinesLeaveNoTrace : Type 0
RefusedLinesLeaveNoTrace = (old new : EngineState) (events : List Event) → Run old events new → OnlySo old (accepted events) new
