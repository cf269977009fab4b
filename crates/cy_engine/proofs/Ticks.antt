-- What the ticks of a run say of the contents of the graph.
use Rattle.std.proofs.Common.{◌≡◌, ◌⊎◌, ℕ, ◌+◌, ◌≤◌, nat_le, true, false, cond, List, [], ◌∷◌, Ok, refl, sym, ap, subst, ◌∙◌, arith, inl, inr}
use Rattle.std.proofs.lemmas.Bool.Decides.{nat_tests}
use Rattle.cy_graph.specs.Graph.{Content}
use Rattle.cy_engine.specs.Runs.{Event, Run}
use Rattle.cy_engine_lines.specs.State.{EngineState}
use Rattle.cy_engine_views.specs.RegisteredViews.{Entries}
use Rattle.cy_engine_lines.specs.EngineStep.{Answer}
use Rattle.cy_engine_lines.specs.Verdicts.{next_tick, same_content, tick_after}
use Rattle.cy_engine_lines.proofs.Contents.{content_decides}
use Rattle.cy_engine_lines.proofs.Effects.{Effects}
use Rattle.cy_engine_lines.proofs.Queries.{risen, same_ok}

-- a tick more, or the same tick and the same content
abbrev pub Moves : EngineState → EngineState → Type 0
Moves old new = (new.tick ≡ old.tick + 1) ⊎ ((new.tick ≡ old.tick) × (new.graph.content ≡ old.graph.content))

timed : (before after : Content) (tick next : ℕ) → tick_after before after tick ≡ Ok next → (next ≡ tick + 1) ⊎ ((next ≡ tick) × (after ≡ before))
timed before after tick next is =
    elim (same_content before after) as (λ b. same_content before after ≡ b → cond b (Ok tick) (next_tick tick) ≡ Ok next → (next ≡ tick + 1) ⊎ ((next ≡ tick) × (after ≡ before))) [
      | true ↦ λ same stays. inr (sym (same_ok tick next stays), sym ((content_decides before after).0 same))
      | false ↦ λ other rises. inl (risen tick next rises)
    ] refl is

module _ (old : EngineState) (answer : Answer) (entries : Entries) (new : EngineState) where
  pub moves : Effects old answer entries new → Moves old new
  moves (inl (left, none)) = inr (ap (λ (s : EngineState). s.tick) left, ap (λ (s : EngineState). s.graph.content) left)
  moves (inr (inl (executed, is, a))) =
      subst (Moves old) (sym a.state) (timed old.graph.content executed.outcome.graph.content old.tick executed.tick is)
  moves (inr (inr (inl (view, fresh, a)))) = inl (ap (λ (s : EngineState). s.tick) a.state ∙ fresh.made)
  moves (inr (inr (inr (inl (view, at, a))))) = inr (ap (λ (s : EngineState). s.tick) a.state, ap (λ (s : EngineState). s.graph.content) a.state)
  moves (inr (inr (inr (inr (pair, a))))) = inr (ap (λ (s : EngineState). s.tick) a.state, ap (λ (s : EngineState). s.graph.content) a.state)

pub later : (old new : EngineState) → Moves old new → old.tick ≤ new.tick
later old new (inl rises) = omega (arith, rises)
later old new (inr (stays, same)) = omega (arith, stays)

-- the content at a tick of a run, which is that of the last state with this tick
abbrev pub content_at : (old : EngineState) (events : List Event) (new : EngineState) → Run old events new → ℕ → Content
content_at old [] new run tick = old.graph.content
content_at old (e ∷ events) new (mid, step, run) tick = cond (nat_le tick old.tick) old.graph.content (content_at mid events new run tick)

pub content_first : (old : EngineState) (events : List Event) (new : EngineState) (run : Run old events new) → content_at old events new run old.tick ≡ old.graph.content
content_first old [] new run = refl
content_first old (e ∷ events) new (mid, step, run) =
    let here : nat_le old.tick old.tick ≡ true = grind (arith, nat_tests) in
    ap (λ b. cond b old.graph.content (content_at mid events new run old.tick)) here

pub content_next : (old mid new : EngineState) (events : List Event) (run : Run mid events new) → Moves old mid → (tick : ℕ) → mid.tick ≤ tick
    → cond (nat_le tick old.tick) old.graph.content (content_at mid events new run tick) ≡ content_at mid events new run tick
content_next old mid new events run moved tick from =
    elim (nat_le tick old.tick) as (λ b. nat_le tick old.tick ≡ b → cond b old.graph.content (content_at mid events new run tick) ≡ content_at mid events new run tick) [
      | true ↦ λ h. at_once moved (grind (arith, nat_tests))
      | false ↦ λ h. refl
    ] refl
  where
    at_once : Moves old mid → tick ≤ old.tick → old.graph.content ≡ content_at mid events new run tick
    at_once (inl rises) until = absurd (omega (arith, rises, until, from))
    at_once (inr (stays, same)) until =
        let now : tick ≡ mid.tick = omega (arith, stays, until, from) in
        sym same ∙ sym (content_first mid events new run) ∙ ap (λ (t : ℕ). content_at mid events new run t) (sym now)
