-- What may be written for an input (own).
use Rattle.std.specs.Prelude.{◌≡◌, ℕ, ◌^◌, ◌<◌, ◌≤◌, ◌⊎◌, Bool, true, List, [], ◌∷◌, ◌++◌, length, Option, Some, IfSome, Result}
use Rattle.std.specs.Str.{IsUtf8}
use Rattle.std.specs.Str.Lossy.{utf8_valid_len}
use Rattle.cy_lexer.specs.declared.faults.LexFault.TheVariants as lex
use Rattle.cy_engine.specs.KeptRuns.{KeptRun}
use Rattle.cy_engine_lines.specs.KeptStep.{KeptState, KeptStep, empty_kept_state}
use Rattle.cy_bags.specs.declared.changes.Entry.{Entry}
use Rattle.cy_engine_lines.specs.declared.faults.Fault.{Fault}
use Rattle.cy_engine_lines.specs.declared.replies.Reply.{Reply}
use Rattle.cy_shell.specs.Lines.{line_limit, whole_lines, lines_of, lines_after}
use Rattle.cy_shell.specs.Printed.{IsLexFaultText, IsLineText}
use Rattle.cy_shell.specs.PrintedHeadline.{AnswersLines}
use Rattle.cy_shell.specs.Streams.{Extends, appended}

-- what a run goes on with: the engine with the upkeep of its views, and whether the entries that a line makes are printed after its answer
pub record Serving : Type 0 where
  pub engine : KeptState
  pub feed : Bool

-- what a run begins with
abbrev pub beginning : ℕ → Bool → Serving
beginning history feed = record { engine = empty_kept_state history; feed = feed }

-- From old, the text may be the answer to the line, and the engine goes on to new.
pub data Answered : Serving → List ℕ → List ℕ → Serving → Type 0 where
  -- a line above the limit is not executed: 17, at the limit
  TooLong : {state : Serving} {line text : List ℕ} → line_limit < length line → IsLexFaultText lex.LineTooLong text → Answered state line text state
  -- nor is a line that isn't UTF-8: 18, at the end of its longest valid beginning
  NotUtf8 : {state : Serving} {line text : List ℕ} → length line ≤ line_limit → (IsUtf8 line → ⊥) → IsLexFaultText (lex.NotUtf8 (utf8_valid_len line)) text → Answered state line text state
  -- any other line is a step of the engine, and its answer is printed, with its entries after it where there is a feed
  Executed : {old new : Serving} {line text : List ℕ} (result : Result Reply Fault) (entries : List (List ℕ × Entry))
      → length line ≤ line_limit → IsUtf8 line → KeptStep old.engine line result entries new.engine → new.feed ≡ old.feed
      → IsLineText old.feed result entries text → Answered old line text new

-- A printed run: from old, the text may be the answers to the lines, one after another and nothing else.
abbrev pub PrintedRun : Serving → List (List ℕ) → List ℕ → Serving → Type 0
PrintedRun old [] text new = (text ≡ []) × (new ≡ old)
PrintedRun old (line ∷ lines) text new = (mid : Serving) × (first : List ℕ) × (rest : List ℕ)
    × (text ≡ first ++ rest) × Answered old line first mid × PrintedRun mid lines rest new

-- the headline holds of what is printed, in every printed run from the beginning, and through its lines the views are kept up as is promised
abbrev pub HeadlineIsPrinted : Type 0
HeadlineIsPrinted =
    (history : ℕ) (feed : Bool) (lines : List (List ℕ)) (text : List ℕ) (end : Serving)
    → PrintedRun (beginning history feed) lines text end
    → (answers : AnswersLines history feed lines text) × KeptRun (empty_kept_state history) answers.events end.engine

-- a printed run of the lines was written, where what is written is known
pub record WritesRun (old : Serving) (lines : List (List ℕ)) (new : Serving) (before after : Option (List ℕ)) : Type 0 where
  pub text : List ℕ
  pub run : PrintedRun old lines text new
  pub is : after ≡ appended before text

-- a beginning of a printed run of the lines was written
pub record WritesBeginning (old : Serving) (lines : List (List ℕ)) (before after : Option (List ℕ)) : Type 0 where
  pub text : List ℕ
  pub unwritten : List ℕ
  pub new : Serving
  pub run : PrintedRun old lines (text ++ unwritten) new
  pub is : after ≡ appended before text

-- a printed run of all lines of the input was written, and nothing else
abbrev pub WritesAll : Serving → List ℕ → Option (List ℕ) → Option (List ℕ) → Type 0
WritesAll start input before after = (end : Serving) × WritesRun start (lines_of input) end before after

-- the most bytes of input that are read
abbrev pub input_limit : ℕ
input_limit = 2 ^ 62

-- A front of the input was read, and a printed run of the lines in it that have ended was written. A read has failed,
-- or as many bytes were read as ever are.
pub record StopsReading (start : Serving) (input : List ℕ) (left : Option (List ℕ)) (has_failed : Bool) (before after : Option (List ℕ)) : Type 0 where
  pub front : List ℕ
  pub rest : List ℕ
  pub end : Serving
  pub read : input ≡ front ++ rest
  pub unread : left ≡ Some rest
  pub within : length front ≤ input_limit
  pub cause : (has_failed ≡ true) ⊎ (length front ≡ input_limit)
  pub written : WritesRun start (whole_lines front) end before after

-- A front of the input was read, and then a last piece of it, or its end. A printed run of the lines that had ended before that read was
-- written, and handed on if all before it was, and a beginning of a printed run of the others was written.
pub record StopsWriting (start : Serving) (input : List ℕ) (left taken before after handed_before handed_after : Option (List ℕ)) : Type 0 where
  pub front : List ℕ
  pub last : List ℕ
  pub rest : List ℕ
  pub read : input ≡ front ++ last ++ rest
  pub unread : left ≡ Some rest
  pub taken_last : IfSome taken (λ bytes. bytes ≡ last)
  pub at_end : last ≡ [] → rest ≡ []
  pub within : length (front ++ last) ≤ input_limit
  pub middle : Serving
  pub between : Option (List ℕ)
  pub answered : WritesRun start (whole_lines front) middle before between
  pub handed : handed_before ≡ before → Extends between handed_after
  pub written : WritesBeginning middle (lines_after front last) between after
