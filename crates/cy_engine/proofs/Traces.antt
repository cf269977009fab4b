-- Refused lines leave no trace.
use Rattle.std.proofs.Common.{◌≡◌, ℕ, true, false, List, [], ◌∷◌, map, Result, Ok, Err, refl, sym, ap, subst, ◌∙◌, inl, inr}
use Rattle.std.specs.List.{AllByRecursion}
use Rattle.cy_lexer.specs.declared.faults.LexFault.{LexFault}
use Rattle.cy_lexer.specs.declared.tokens.Token.{Token}
use Rattle.cy_lexer.specs.Tokens.{tokens_of}
use Rattle.cy_feeds.specs.declared.feeds.Answer as feeds
use Rattle.cy_feeds.specs.declared.feeds.Answer.TheVariants.{Entries as Since, Lagged}
use Rattle.cy_feeds.specs.Feeds.{answer_since}
use Rattle.cy_index.specs.declared.keys.Pair.{Pair}
use Rattle.cy_engine_lines.specs.declared.faults.Fault.{Fault}
use Rattle.cy_engine_lines.specs.declared.replies.Reply.{Reply}
use Rattle.cy_engine_lines.specs.Requests.{Request, StatementOf, ViewOf, RowsOf, SinceOf, ListOfSteps, DropOf, IndexOf, request}
use Rattle.cy_engine.specs.Runs.{Event, Run, Agree, IsBound, IsDetermined, RefusedLinesLeaveNoTrace, accepted, accepted_before, is_choice, is_want, seen_answer, seen_event}
use Rattle.cy_engine_lines.specs.State.{EngineState}
use Rattle.cy_engine_views.specs.RegisteredViews.{Entries, View}
use Rattle.cy_engine_lines.specs.EngineStep.{Answer, Executes, Makes, Drops, Indexes, Shows, ShowsAnswer, AnswersSince, Answers, Lexed, EngineStep}
use Rattle.cy_engine_lines.specs.Verdicts.{Executed, index_verdict, rows_verdict, since_verdict, statement_verdict, view_verdict}

abbrev is_ok : Answer → Type 0
is_ok answer = (reply : Reply) × (answer ≡ Ok reply)

module _ (old : EngineState) (answer : Answer) (entries : Entries) (new : EngineState) (why : Fault) (refused : answer ≡ Err why) where
  no_reply : (reply : Reply) → answer ≡ Ok reply → ⊥
  no_reply reply is = let wrong : Err why ≡ Ok reply = sym refused ∙ is in cc

  executes_left : (v : Result Executed Fault) → Executes v old answer entries new → new ≡ old
  executes_left (Ok executed) a = absurd (no_reply _ a.answered)
  executes_left (Err other) a = a.state

  makes_left : (v : Result View Fault) → Makes v old answer entries new → new ≡ old
  makes_left (Ok view) a = absurd (no_reply _ a.answered)
  makes_left (Err other) a = a.state

  shows_left : (name : List ℕ) (v : Result View Fault) → Shows name v old answer entries new → new ≡ old
  shows_left name (Ok view) (rows, are, a) = a.state
  shows_left name (Err other) a = a.state

  tells_left : (name : List ℕ) (tick : ℕ) (v : Result View Fault) → AnswersSince name tick v old answer entries new → new ≡ old
  tells_left name tick (Err other) a = a.state
  tells_left name tick (Ok view) a = from (answer_since tick view.feed) a
    where
      from : (told : feeds.Answer) → ShowsAnswer name view told old answer entries new → new ≡ old
      from (Since changes) a = a.state
      from Lagged (rows, are, a) = a.state

  drops_left : (v : Result View Fault) → Drops v old answer entries new → new ≡ old
  drops_left (Ok view) a = absurd (no_reply _ a.answered)
  drops_left (Err other) a = a.state

  indexes_left : (v : Result Pair Fault) → Indexes v old answer entries new → new ≡ old
  indexes_left (Ok pair) a = absurd (no_reply _ a.answered)
  indexes_left (Err other) a = a.state

  answers_left : (line : List ℕ) (asked : Request) → Answers line asked old answer entries new → new ≡ old
  answers_left line (StatementOf tokens) (inl (tree, spelt, a)) = executes_left (statement_verdict tree old) a
  answers_left line (StatementOf tokens) (inr (parsed, unspelt, a)) = a.state
  answers_left line (ViewOf name tokens) (inl (tree, spelt, a)) = makes_left (view_verdict tree name old) a
  answers_left line (ViewOf name tokens) (inr (parsed, unspelt, a)) = a.state
  answers_left line (RowsOf name) a = shows_left name (rows_verdict name old) a
  answers_left line (SinceOf name tick) a = tells_left name tick (since_verdict name tick old) a
  answers_left line ListOfSteps a = a.replied.state
  answers_left line (DropOf name) a = drops_left (rows_verdict name old) a
  answers_left line (IndexOf label key) a = indexes_left (index_verdict label key old) a
  answers_left line _ a = a.state

  lexed_left : (line : List ℕ) (lexed : Result (List Token) LexFault) → Lexed line lexed old answer entries new → new ≡ old
  lexed_left line (Err other) a = a.state
  lexed_left line (Ok tokens) a = answers_left line (request line tokens) a

  pub step_left : (line : List ℕ) → EngineStep old line answer entries new → new ≡ old
  step_left line (inl (why, lacks, a)) = a.state
  step_left line (inr a) = lexed_left line (tokens_of line) a

pub run_accepted : (old new : EngineState) (events : List Event) → Run old events new → Run old (accepted events) new
run_accepted old new [] run = run
run_accepted old new (e ∷ events) (mid, step, run) =
    elim e.answer as (λ (r : Answer). e.answer ≡ r → Run old (accepted_before r e (accepted events)) new) [
      | Ok reply ↦ λ is. (mid, step, run_accepted mid new events run)
      | Err why ↦ λ is. subst (λ (s : EngineState). Run s (accepted events) new) (step_left old e.answer e.entries mid why is e.line step) (run_accepted mid new events run)
    ] refl

pub all_accepted : (events : List Event) → AllByRecursion (λ (e : Event). is_ok e.answer) (accepted events)
all_accepted [] = tt
all_accepted (e ∷ events) =
    elim e.answer as (λ (r : Answer). e.answer ≡ r → AllByRecursion (λ (f : Event). is_ok f.answer) (accepted_before r e (accepted events))) [
      | Ok reply ↦ λ is. ((reply, is), all_accepted events)
      | Err why ↦ λ is. all_accepted events
    ] refl

is_bound : (answer : Answer) → is_ok answer → IsBound answer
is_bound answer (reply, is) = ap is_want is

no_parser : (answer other : Answer) → is_ok answer → Agree answer other → seen_answer answer ≡ seen_answer other
no_parser answer other ok (inl same) = same
no_parser answer other (reply, is) (inr both) = let wrong : false ≡ true = sym (ap is_choice is) ∙ both.0 in absurd (cc)

heads : (e f : Event) (es fs : List Event) → map (λ (x : Event). x.line) (f ∷ fs) ≡ map (λ (x : Event). x.line) (e ∷ es) → (f.line ≡ e.line) × (map (λ (x : Event). x.line) fs ≡ map (λ (x : Event). x.line) es)
heads e f es fs is = (cc, cc)

module _ (determined : IsDetermined) where
  runs_one : (old new other : EngineState) (es fs : List Event) → Run old es new → Run old fs other → map (λ (x : Event). x.line) fs ≡ map (λ (x : Event). x.line) es
      → AllByRecursion (λ (x : Event). is_ok x.answer) es → AllByRecursion (λ (x : Event). IsBound x.answer) fs → (map seen_event fs ≡ map seen_event es) × (other ≡ new)
  runs_one old new other [] [] run again lines ok room = (refl, again ∙ sym run)
  runs_one old new other [] (f ∷ fs) run again lines ok room = absurd (cc)
  runs_one old new other (e ∷ es) [] run again lines ok room = absurd (cc)
  runs_one old new other (e ∷ es) (f ∷ fs) (mid, step, run) (mid_2, step_2, again) lines ok room =
      let line = heads e f es fs lines in
      let step_of_e : EngineStep old e.line f.answer f.entries mid_2 = subst (λ (l : List ℕ). EngineStep old l f.answer f.entries mid_2) line.0 step_2 in
      let one = determined old mid mid_2 e.line e.answer f.answer e.entries f.entries step step_of_e (is_bound e.answer ok.0) room.0 in
      let answer : seen_answer e.answer ≡ seen_answer f.answer = no_parser e.answer f.answer ok.0 one.0 in
      let entries : e.entries ≡ f.entries = one.1 in
      let rest = runs_one mid new other es fs run (subst (λ (s : EngineState). Run s fs other) (sym one.2) again) line.1 ok.1 room.1 in
      let event : seen_event f ≡ seen_event e = λ i. record { line = line.0 i; answer = sym answer i; entries = sym entries i } in
      ((λ i. event i ∷ rest.0 i), rest.1)

  pub traces : RefusedLinesLeaveNoTrace
  traces old new events run = record {
    run = run_accepted old new events run;
    only = λ other alone again lines bound. runs_one old new other (accepted events) alone (run_accepted old new events run) again lines (all_accepted events) bound;
  }
