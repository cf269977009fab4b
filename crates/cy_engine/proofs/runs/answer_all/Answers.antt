use Rattle.std.proofs.Common.{◌≡◌, ◌+◌, ◌++◌, ◌∷◌, [], ◌<◌, Bool, cond, length, take, map, get_or, is_ok, vec_len, ap, subst, ◌∙◌, arith, List, ℕ, Bor}
use Rattle.std.proofs.lemmas.List.{take_all, take_more, length-map, get_or-map}
use Rattle.cy_engine_lines.specs.EngineStep.{Answer}
use Rattle.cy_engine.specs.Headline.{AnswersWithHeadline, HeadlineHolds}
use Rattle.cy_engine.specs.KeptRuns.{AreKeptThrough}
use Rattle.cy_engine_lines.specs.KeptStep.{kept_state_of}
use Rattle.cy_engine_lines.specs.Model.{Machine, state_of}
use Rattle.cy_engine.specs.Runs.{Run}
use Rattle.cy_engine.specs.internal.KeptLines.{RunsKept}
use Rattle.cy_engine.proofs.Chains.{run_of_kept, runs_more}
use Rattle.cy_engine.proofs.KeptRuns.{kept_accepted}
use Rattle.cy_engine.proofs.runs.answer_all.Goals as goal
use Rattle.cy_engine.proofs.runs.answer_all.Goals.{After-unwrap}

answered : (c : After-unwrap) → c.push.new.self.items ≡ c.loop-line.results.items ++ c.line.result ∷ []
answered c = c.push.ensures.items ∙ ap (λ (ok : Bool). cond ok (c.loop-line.results.items ++ c.line.result ∷ []) c.loop-line.results.items) (ap is_ok c.unwrap.ensures)

pub loop-line-preserved : goal.loop-line-preserved
loop-line-preserved c =
    let i = c.loop-line.line-index in
    let texts = map {A = Bor (List ℕ)} {B = List ℕ} (λ line. line.now) c.args.lines.now in
    let within : i < length texts = omega (arith, length-map c.args.lines.now (λ (line : Bor (List ℕ)). line.now)) in
    let one : take (i + 1) texts ≡ take i texts ++ (get_or c.args.lines.now i (record { ref_ptr = (0, 0); now = [] })).now ∷ [] =
    take_more texts i [] within ∙ ap (λ text. take i texts ++ text ∷ []) (get_or-map (λ (line : Bor (List ℕ)). line.now) c.args.lines.now i (record { ref_ptr = (0, 0); now = [] }) [] c.loop-line-test.true) in
    record {
      run = rw (one, answered c) (runs_more _ _ _ _ _ _ _ c.loop-line.invariant.run c.line.ensures);
      count = c.push.ensures.len ∙ ap (λ (ok : Bool). cond ok (vec_len c.loop-line.results + 1) (vec_len c.loop-line.results)) (ap is_ok c.unwrap.ensures) ∙ ap (λ n. n + 1) c.loop-line.invariant.count;
      room = omega (arith, c.push.ensures.capacity, c.loop-line.invariant.room);
    }

-- lines that are run have the headline, where the engine was new, and the views are kept up through them
served : HeadlineHolds → (old new : Machine) (lines : List (List ℕ)) (answers : List Answer) → RunsKept old new lines answers
    → (run : AnswersWithHeadline old new lines answers) × AreKeptThrough old new run.run.events
served holds old new lines answers runs =
    let run : Run (state_of old) runs.events (state_of new) = run_of_kept (kept_state_of old) (kept_state_of new) runs.events runs.run in (
      record {
        run = record { events = runs.events; lines_are = runs.lines_are; answers_are = runs.answers_are; run = run; entries_are = runs.entries_are };
        headline = λ history is. holds history runs.events (state_of new) (subst (λ (m : Machine). Run (state_of m) runs.events (state_of new)) is run);
      },
      record { run = runs.run; without_refused = kept_accepted (kept_state_of old) (kept_state_of new) runs.events runs.run },
    )

pub returns-clause-run : goal.returns-clause-run
returns-clause-run c =
    let texts = map {A = Bor (List ℕ)} {B = List ℕ} (λ line. line.now) c.args.lines.now in
    let all : take c.loop-line.line-index texts ≡ texts = take_all c.loop-line.line-index texts (omega (arith, length-map c.args.lines.now (λ (line : Bor (List ℕ)). line.now))) in
    served c.headline.ensures.holds c.args.engine.now c.loop-line.engine texts c.loop-line.results.items
    (subst (λ (ls : List (List ℕ)). RunsKept c.args.engine.now c.loop-line.engine ls c.loop-line.results.items) all c.loop-line.invariant.run)
