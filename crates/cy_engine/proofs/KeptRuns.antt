-- Refused lines leave no trace in how views are kept up.
use Rattle.std.proofs.Common.{◌≡◌, [], ◌∷◌, Ok, Err, refl, subst}
use Rattle.cy_engine_lines.specs.declared.faults.Fault.{Fault}
use Rattle.cy_engine_lines.specs.declared.faults.Fault.TheVariants as fault
use Rattle.cy_engine_lines.specs.EngineStep.{Answer}
use Rattle.cy_engine.specs.KeptRuns.{KeptRun, RefusedLinesKeepUpkeep}
use Rattle.cy_engine_lines.specs.KeptStep.{AsksTooMuch, Keeps, KeptState, KeptStep}
use Rattle.cy_engine.specs.Runs.{Event, accepted, accepted_before}
use Rattle.cy_engine.proofs.Traces.{step_left}

-- a refusal leaves the upkeep
upkeep_left : (too_many : Type 0) (why : Fault) (old new : KeptState) → Keeps too_many (Err why) old new → new.upkeep ≡ old.upkeep
upkeep_left too_many fault.TooManyRows old new keeps = keeps.same
upkeep_left too_many _ old new keeps = keeps

-- and the state
kept_left : (e : Event) (why : Fault) (old new : KeptState) → e.answer ≡ Err why → KeptStep old e.line e.answer e.entries new → new ≡ old
kept_left e why old new is step =
    let engine : new.engine ≡ old.engine = step_left old.engine e.answer e.entries new.engine why is e.line step.step in
    let upkeep : new.upkeep ≡ old.upkeep = upkeep_left (AsksTooMuch e.line old) why old new (subst (λ (a : Answer). Keeps (AsksTooMuch e.line old) a old new) is step.upkeep) in
    λ i. record { engine = engine i; upkeep = upkeep i }

pub kept_accepted : RefusedLinesKeepUpkeep
kept_accepted old new [] run = run
kept_accepted old new (e ∷ events) (mid, step, run) =
    elim e.answer as (λ (r : Answer). e.answer ≡ r → KeptRun old (accepted_before r e (accepted events)) new) [
      | Ok reply ↦ λ is. (mid, step, kept_accepted mid new events run)
      | Err why ↦ λ is. subst (λ (s : KeptState). KeptRun s (accepted events) new) (kept_left e why old mid is step) (kept_accepted mid new events run)
    ] refl
