-- Runs, step by step.
use Rattle.std.proofs.Common.{◌≡◌, ℕ, List, [], ◌∷◌, ◌++◌, refl, sym, ap, subst, ◌∙◌}
use Rattle.std.proofs.lemmas.List.{map-append}
use Rattle.cy_engine.specs.KeptRuns.{KeptRun}
use Rattle.cy_engine_lines.specs.KeptStep.{KeptState, KeptStep, kept_state_of}
use Rattle.cy_engine.specs.Runs.{Event, Run, last_entries}
use Rattle.cy_engine_lines.specs.Model.{Machine}
use Rattle.cy_engine.specs.internal.KeptLines.{RunsKept}
use Rattle.cy_engine_views.specs.RegisteredViews.{Entries}
use Rattle.cy_engine_lines.specs.EngineStep.{Answer}

run_append : (old mid new : KeptState) (events : List Event) (e : Event) → KeptRun old events mid → KeptStep mid e.line e.answer e.entries new → KeptRun old (events ++ e ∷ []) new
run_append old mid new [] e run step = (new, subst (λ (s : KeptState). KeptStep s e.line e.answer e.entries new) run step, refl)
run_append old mid new (f ∷ events) e (next, first, run) step = (next, first, run_append next mid new events e run step)

last_of : (entries : Entries) (events : List Event) (e : Event) → last_entries entries (events ++ e ∷ []) ≡ e.entries
last_of entries [] e = refl
last_of entries (d ∷ events) e = last_of d.entries events e

-- a run goes on by one line
pub runs_more : (old mid new : Machine) (lines : List (List ℕ)) (answers : List Answer) (line : List ℕ) (answer : Answer)
    → RunsKept old mid lines answers → KeptStep (kept_state_of mid) line answer new.entries (kept_state_of new) → RunsKept old new (lines ++ line ∷ []) (answers ++ answer ∷ [])
runs_more old mid new lines answers line answer runs step =
    let e : Event = record { line = line; answer = answer; entries = new.entries } in record {
      events = runs.events ++ e ∷ [];
      lines_are = map-append (λ (x : Event). x.line) runs.events (e ∷ []) ∙ ap (λ (xs : List (List ℕ)). xs ++ line ∷ []) runs.lines_are;
      answers_are = map-append (λ (x : Event). x.answer) runs.events (e ∷ []) ∙ ap (λ (xs : List Answer). xs ++ answer ∷ []) runs.answers_are;
      run = run_append (kept_state_of old) (kept_state_of mid) (kept_state_of new) runs.events e runs.run step;
      entries_are = sym (last_of old.entries runs.events e);
    }

-- what the lines of a run mean
pub run_of_kept : (old new : KeptState) (events : List Event) → KeptRun old events new → Run old.engine events new.engine
run_of_kept old new [] same = ap (λ (s : KeptState). s.engine) same
run_of_kept old new (e ∷ events) (mid, step, run) = (mid.engine, step.step, run_of_kept mid new events run)
