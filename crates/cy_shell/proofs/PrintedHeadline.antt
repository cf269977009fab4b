-- A printed run is a run of the engine over the lines that it was sent, and so the headline holds of it.
use Rattle.std.proofs.Common.{◌≡◌, ℕ, Bool, List, [], ◌∷◌, ◌++◌, ◌<◌, length, Option, None, Some, Result, Ok, Err, OnOk, IfSome, sym, ◌∙◌, ap, subst, append_assoc, inl, inr}
use Rattle.cy_engine.specs.Headline.{HeadlineHolds}
use Rattle.cy_engine.specs.KeptRuns.{KeptRun}
use Rattle.cy_engine_lines.specs.KeptStep.{empty_kept_state}
use Rattle.cy_engine.specs.Runs.{Event, Run}
use Rattle.cy_engine_lines.specs.State.{empty_engine}
use Rattle.cy_engine.proofs.Chains.{run_of_kept}
use Rattle.cy_shell.specs.Lines.{whole_lines, lines_of, lines_after}
use Rattle.cy_shell.specs.PrintedHeadline.{AnswersAll, AnswersBegun, AnswersRead, NoLine, Prints, Sent, Unsent}
use Rattle.cy_shell.specs.Runs.{Answered, Executed, HeadlineIsPrinted, NotUtf8, PrintedRun, Serving, StopsReading, StopsWriting, TooLong, WritesAll, beginning, input_limit}
use Rattle.cy_shell.specs.Streams.{appended}
use Rattle.cy_shell.proofs.Appends.{appended-appended}
use Rattle.cy_shell.proofs.Chains.{run_append}

-- the engine was sent the lines of the events, and the text is what is printed for all lines
record Sends (old : Serving) (lines : List (List ℕ)) (text : List ℕ) (new : Serving) : Type 0 where
  events : List Event
  printed : Prints old.feed lines events text
  run : KeptRun old.engine events new.engine

first_sent : (old mid new : Serving) (line first rest text : List ℕ) (lines : List (List ℕ)) → text ≡ first ++ rest → Answered old line first mid
    → Sends mid lines rest new → Sends old (line ∷ lines) text new
first_sent old _ new line first rest text lines is (TooLong long fault) more = record { events = more.events; printed = Unsent is (inl (long, fault)) more.printed; run = more.run }
first_sent old _ new line first rest text lines is (NotUtf8 short broken fault) more =
    record { events = more.events; printed = Unsent is (inr (short, broken, fault)) more.printed; run = more.run }
first_sent old mid new line first rest text lines is (Executed answer entries short utf8 step same printed) more = record {
  events = (record { line = line; answer = answer; entries = entries }) ∷ more.events;
  printed = Sent is short utf8 printed (subst (λ (feed : Bool). Prints feed lines more.events rest) same more.printed);
  run = (mid.engine, step, more.run);
}

all_sent : (old new : Serving) (lines : List (List ℕ)) (text : List ℕ) → PrintedRun old lines text new → Sends old lines text new
all_sent old new [] text (empty, same) = record {
  events = [];
  printed = subst (λ (t : List ℕ). Prints old.feed [] [] t) (sym empty) NoLine;
  run = ap (λ (s : Serving). s.engine) same;
}
all_sent old new (line ∷ lines) text (mid, first, rest, is, answered, run) = first_sent old mid new line first rest text lines is answered (all_sent mid new lines rest run)

pub headline_is_printed : HeadlineHolds → HeadlineIsPrinted
headline_is_printed holds history feed lines text end run =
    let sent = all_sent (beginning history feed) end lines text run in
    let meant : Run (empty_engine history) sent.events end.engine.engine = run_of_kept (empty_kept_state history) end.engine sent.events sent.run in
    (record { events = sent.events; now = end.engine.engine; printed = sent.printed; run = meant; headline = holds history sent.events end.engine.engine meant }, sent.run)

pub answers_all : HeadlineIsPrinted → (history : ℕ) (feed : Bool) (input : List ℕ) (before after : Option (List ℕ)) → WritesAll (beginning history feed) input before after
    → AnswersAll history feed input before after
answers_all law history feed input before after (end, writes) = (writes.text, writes.is, (law history feed (lines_of input) writes.text end writes.run).0)

pub answers_read : HeadlineIsPrinted → (history : ℕ) (feed : Bool) (input : List ℕ) (left : Option (List ℕ)) (has_failed : Bool) (before after : Option (List ℕ))
    → StopsReading (beginning history feed) input left has_failed before after → AnswersRead history feed input left before after
answers_read law history feed input left has_failed before after stops = record {
  front = stops.front;
  rest = stops.rest;
  text = stops.written.text;
  read = stops.read;
  unread = stops.unread;
  written = stops.written.is;
  answers = (law history feed (whole_lines stops.front) stops.written.text stops.end stops.written.run).0;
}

pub answers_begun : HeadlineIsPrinted → (history : ℕ) (feed : Bool) (input : List ℕ) (left taken before after handed_before handed_after : Option (List ℕ))
    → StopsWriting (beginning history feed) input left taken before after handed_before handed_after → AnswersBegun history feed input left before after
answers_begun law history feed input left taken before after handed_before handed_after stops =
    let done = stops.answered in
    let begun = stops.written in
    record {
      front = stops.front;
      last = stops.last;
      rest = stops.rest;
      text = done.text;
      begun = begun.text;
      unwritten = begun.unwritten;
      read = stops.read;
      unread = stops.unread;
      written = begun.is ∙ ap (λ (known : Option (List ℕ)). appended known begun.text) done.is ∙ appended-appended before done.text begun.text;
      answers = (law history feed (whole_lines stops.front) done.text stops.middle done.run).0;
      goes_on = (law history feed (whole_lines stops.front ++ lines_after stops.front stops.last) (done.text ++ begun.text ++ begun.unwritten) begun.new
          (subst (λ (text : List ℕ). PrintedRun (beginning history feed) (whole_lines stops.front ++ lines_after stops.front stops.last) text begun.new) (sym (append_assoc done.text begun.text begun.unwritten))
          (run_append (beginning history feed) stops.middle begun.new (whole_lines stops.front) (lines_after stops.front stops.last) done.text (begun.text ++ begun.unwritten) done.run begun.run))).0;
    }

-- at the end of the input, where it is known
pub all_known : HeadlineIsPrinted → (history : ℕ) (feed : Bool) (start : Serving) → start ≡ beginning history feed
    → {X E : Type 0} (result : Result X E) (known left before after : Option (List ℕ))
    → OnOk result (IfSome known (λ input. (left ≡ Some []) × (length input < input_limit) × WritesAll start input before after))
    → OnOk result (IfSome known (λ input. AnswersAll history feed input before after))
all_known law history feed start begins (Err e) known left before after done = done
all_known law history feed start begins (Ok x) None left before after done = done
all_known law history feed start begins (Ok x) (Some input) left before after done =
    answers_all law history feed input before after (subst (λ (s : Serving). WritesAll s input before after) begins done.2)

-- where a read failed
pub read_known : HeadlineIsPrinted → (history : ℕ) (feed : Bool) (start : Serving) → start ≡ beginning history feed
    → (known left : Option (List ℕ)) (has_failed : Bool) (before after : Option (List ℕ))
    → IfSome known (λ input. StopsReading start input left has_failed before after)
    → IfSome known (λ input. AnswersRead history feed input left before after)
read_known law history feed start begins None left has_failed before after stops = stops
read_known law history feed start begins (Some input) left has_failed before after stops =
    answers_read law history feed input left has_failed before after (subst (λ (s : Serving). StopsReading s input left has_failed before after) begins stops)

-- where a write failed
pub begun_known : HeadlineIsPrinted → (history : ℕ) (feed : Bool) (start : Serving) → start ≡ beginning history feed
    → (known left taken before after handed_before handed_after : Option (List ℕ))
    → IfSome known (λ input. StopsWriting start input left taken before after handed_before handed_after)
    → IfSome known (λ input. AnswersBegun history feed input left before after)
begun_known law history feed start begins None left taken before after handed_before handed_after stops = stops
begun_known law history feed start begins (Some input) left taken before after handed_before handed_after stops =
    answers_begun law history feed input left taken before after handed_before handed_after
    (subst (λ (s : Serving). StopsWriting s input left taken before after handed_before handed_after) begins stops)
