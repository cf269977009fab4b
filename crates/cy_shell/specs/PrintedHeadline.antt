-- The headline of what is written: which of the lines the engine was sent, what is printed for each, and what holds of these (own).
use Rattle.std.specs.Prelude.{◌≡◌, ℕ, ◌<◌, ◌≤◌, ◌⊎◌, Bool, List, [], ◌∷◌, ◌++◌, length, Option, Some}
use Rattle.std.specs.Str.{IsUtf8}
use Rattle.std.specs.Str.Lossy.{utf8_valid_len}
use Rattle.cy_lexer.specs.declared.faults.LexFault.TheVariants as lex
use Rattle.cy_engine.specs.Headline.{Headline}
use Rattle.cy_engine.specs.Runs.{Event, Run}
use Rattle.cy_engine_lines.specs.State.{EngineState, empty_engine}
use Rattle.cy_engine_lines.specs.EngineStep.{Answer}
use Rattle.cy_shell.specs.Lines.{line_limit, whole_lines, lines_of, lines_after}
use Rattle.cy_shell.specs.Printed.{IsLexFaultText, IsLineText}
use Rattle.cy_shell.specs.Streams.{appended}
use Rattle.cy_engine_views.specs.RegisteredViews.{Entries}

-- what is printed for a line that the engine isn't sent, since it is above the limit or isn't UTF-8
abbrev pub IsUnsentText : List ℕ → List ℕ → Type 0
IsUnsentText line text =
    ((line_limit < length line) × IsLexFaultText lex.LineTooLong text)
    ⊎ ((length line ≤ line_limit) × (IsUtf8 line → ⊥) × IsLexFaultText (lex.NotUtf8 (utf8_valid_len line)) text)

-- The events are those of the lines that the engine was sent, and the text is what is printed for all lines, one after another and
-- nothing else.
pub data Prints (feed : Bool) : List (List ℕ) → List Event → List ℕ → Type 0 where
  NoLine : Prints feed [] [] []
  -- for a line that the engine isn't sent, its fault
  Unsent : {line first rest text : List ℕ} {lines : List (List ℕ)} {events : List Event} → text ≡ first ++ rest → IsUnsentText line first
      → Prints feed lines events rest → Prints feed (line ∷ lines) events text
  -- for any other line its answer, and with the feed the entries that it made
  Sent : {line first rest text : List ℕ} {lines : List (List ℕ)} {events : List Event} {answer : Answer} {entries : Entries} → text ≡ first ++ rest
      → length line ≤ line_limit → IsUtf8 line → IsLineText feed answer entries first
      → Prints feed lines events rest → Prints feed (line ∷ lines) ((record { line = line; answer = answer; entries = entries }) ∷ events) text

-- The text answers the lines, and the headline holds of these answers: a new engine was sent those lines that it can be sent, and what it
-- answered, and the entries that it made, are what is printed.
pub record AnswersLines (history : ℕ) (feed : Bool) (lines : List (List ℕ)) (text : List ℕ) : Type 0 where
  pub events : List Event
  pub now : EngineState
  pub printed : Prints feed lines events text
  pub run : Run (empty_engine history) events now
  pub headline : Headline history events now

-- such a text was written for all lines of the input, and nothing else
abbrev pub AnswersAll : ℕ → Bool → List ℕ → Option (List ℕ) → Option (List ℕ) → Type 0
AnswersAll history feed input before after = (text : List ℕ) × (after ≡ appended before text) × AnswersLines history feed (lines_of input) text

-- a front of the input was read, and such a text was written for the lines in it that have ended, and nothing else
pub record AnswersRead (history : ℕ) (feed : Bool) (input : List ℕ) (left before after : Option (List ℕ)) : Type 0 where
  pub front : List ℕ
  pub rest : List ℕ
  pub text : List ℕ
  pub read : input ≡ front ++ rest
  pub unread : left ≡ Some rest
  pub written : after ≡ appended before text
  pub answers : AnswersLines history feed (whole_lines front) text

-- A front of the input was read, and then a last piece of it, or its end. Such a text was written for the lines that had ended before
-- that read; and what was written is a beginning of such a text for all lines that have ended now.
pub record AnswersBegun (history : ℕ) (feed : Bool) (input : List ℕ) (left before after : Option (List ℕ)) : Type 0 where
  pub front : List ℕ
  pub last : List ℕ
  pub rest : List ℕ
  pub text : List ℕ
  pub begun : List ℕ
  pub unwritten : List ℕ
  pub read : input ≡ front ++ last ++ rest
  pub unread : left ≡ Some rest
  pub written : after ≡ appended before (text ++ begun)
  pub answers : AnswersLines history feed (whole_lines front) text
  pub goes_on : AnswersLines history feed (whole_lines front ++ lines_after front last) (text ++ begun ++ unwritten)
