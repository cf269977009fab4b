-- A line is answered, and then its entries are printed.
use Rattle.std.specs.Prelude.{◌≡◌, ℕ, ◌≤◌, Bool, true, false, List, ◌++◌, length, Option, Result}
use Rattle.std.specs.Str.{IsUtf8}
use Rattle.cy_engine_lines.specs.KeptStep.{KeptState, KeptStep, kept_state_of}
use Rattle.cy_engine_lines.specs.Model.{Machine}
use Rattle.cy_bags.specs.declared.changes.Entry.{Entry}
use Rattle.cy_engine_lines.specs.declared.faults.Fault.{Fault}
use Rattle.cy_engine_lines.specs.declared.replies.Reply.{Reply}
use Rattle.cy_shell.specs.Lines.{line_limit}
use Rattle.cy_shell.specs.Printed.{IsAnswerText, IsFeedText}
use Rattle.cy_shell.specs.Runs.{Answered}
use Rattle.cy_shell.specs.internal.Serving.{serving}
use Rattle.cy_shell.specs.Streams.{appended}

-- the engine answered a text so, and has the entries that it made
abbrev pub Answers : KeptState → List ℕ → List ℕ → Machine → Type 0
Answers old line text new = (result : Result Reply Fault) × KeptStep old line result new.entries (kept_state_of new) × IsAnswerText result text

-- the engine answered a line, and has the entries that it made, or the line is none for the engine
abbrev pub IsAnswer : KeptState → List ℕ → List ℕ → Bool → Machine → Type 0
IsAnswer old line text true new = (length line ≤ line_limit) × IsUtf8 line × Answers old line text new
IsAnswer old line text false new = (feed : Bool) → Answered (record { engine = old; feed = feed }) line text (serving new feed)

-- the texts of the entries were written
pub record WritesFeed (entries : List (List ℕ × Entry)) (before after : Option (List ℕ)) : Type 0 where
  pub text : List ℕ
  pub entry_texts : IsFeedText entries text
  pub is : after ≡ appended before text

-- a beginning of them was written
pub record BeginsFeed (entries : List (List ℕ × Entry)) (before after : Option (List ℕ)) : Type 0 where
  pub text : List ℕ
  pub unwritten : List ℕ
  pub entry_texts : IsFeedText entries (text ++ unwritten)
  pub is : after ≡ appended before text
