use Rattle.std.proofs.Common.{◌≡◌, true, None, Some, map, refl, sym, ap, subst, ◌∙◌}
use Rattle.std.specs.Prelude.{IfSome, IsSome}
use Rattle.std.proofs.lemmas.Result.{err_from_is_err_and}
use Rattle.cy_graph.specs.Graph.{Content, State}
use Rattle.cy_updates_meaning.specs.Statements.{Outcome}
use Rattle.cy_index.specs.Index.{StoreState}
use Rattle.cy_network_sources.specs.Changes.{before_change}
use Rattle.cy_trees.specs.TreeModels.{statement_of}
use Rattle.cy_updates.specs.Answers.{outcome_seen}
use Rattle.cy_engine_views.specs.declared.views.Views.{Views}
use Rattle.cy_engine_views.specs.HeldViews.{view_of}
use Rattle.cy_engine_views.specs.Upkeep.{StandFor, upkeep_in, upkeep_of}
use Rattle.cy_engine_lines.specs.declared.engine.Effect.{Effect}
use Rattle.cy_engine_lines.specs.EngineStep.{changed_by}
use Rattle.cy_engine_lines.specs.KeptStep.{KeptState, kept_state_of}
use Rattle.cy_engine_lines.specs.Verdicts.{same_content}
use Rattle.cy_engine_lines.specs.declared.replies.Reply.TheVariants as reply
use Rattle.cy_engine_lines.specs.Fields.{machine_of}
use Rattle.cy_engine_lines.specs.internal.Representation.{IsAtRest}
use Rattle.cy_engine_lines.specs.internal.Stages.{HasNoEffect, IsEffect}
use Rattle.cy_engine_lines.proofs.Contents.{content_decides}
use Rattle.cy_engine_lines.proofs.StatementEnds.{at_some, changed_done, changed_rest, kept_done, kept_rest, no_effect, opened_before, rolled_rest}
use Rattle.cy_engine_lines.proofs.Steps.{execution_refused, no_statement, statement_refused}
use Rattle.cy_engine_lines.proofs.engine.Engine.answer_statement.Goals as goal
use Rattle.cy_engine_lines.proofs.engine.Engine.answer_statement.Goals.{In_ok-outcome}

-- the change was opened at the graph of the engine
was : (c : In_ok-outcome) → c.execute.new.store.graph.was ≡ Some c.self.inside.store.graph.now
was c = ap (λ (s : StoreState). s.graph.was) c.in_ok-outcome.ensures.open

before : (c : In_ok-outcome) → before_change c.execute.new.store.graph ≡ c.self.inside.store.graph.now
before c = opened_before c.execute.new.store.graph c.self.inside.store.graph.now (was c)

pub effect_of-requires : goal.effect_of-requires
effect_of-requires c =
    let o = (goal.at.effect_of-requires c).In_ok-outcome in
    record {
      «open» = subst IsSome (sym (was o)) refl;
      stand = subst (λ (b : State). StandFor c.self.inside.views b.content c.self.inside.tick) (sym (before o)) c.self.invariant.stand;
      in_time = c.self.invariant.in_time;
    }

pub returns-in_err-checked : goal.returns-in_err-checked
returns-in_err-checked c =
    let p = err_from_is_err_and c.from_residual.result c.from_residual.ensures.1 in
    rw (p.1, p.2) (no_statement c.args.line.now c.args.tokens.now (kept_state_of c.args.self.now) c.args.entries.now (kept_state_of c.args.self.now) c.requires.none refl c.in_err-checked.field-0.0 c.in_err-checked.ensures)

pub returns-in_err-outcome : goal.returns-in_err-outcome
returns-in_err-outcome c =
    let p = err_from_is_err_and c.from_residual-in_err-outcome.result c.from_residual-in_err-outcome.ensures.1 in
    let old = c.self.inside in
    rw (p.1, p.2, ← c.self.view_is) (statement_refused c.args.line.now c.args.tokens.now (kept_state_of (machine_of old.store old.views old.tick old.history old.entries)) c.args.entries.now
    (kept_state_of (machine_of c.execute.new.store old.views old.tick old.history old.entries)) c.requires.none (ap (λ (s : StoreState). kept_state_of (machine_of s old.views old.tick old.history old.entries)) c.in_err-outcome.ensures.rolled_back)
    (statement_of c.in_ok-checked.checked) _ c.in_ok-checked.ensures (execution_refused (statement_of c.in_ok-checked.checked) old.store.graph.now old.tick c.in_err-outcome.field-0.0 c.in_err-outcome.ensures.fault))

pub settle-requires : goal.settle-requires
settle-requires c =
    let o = (goal.at.settle-requires c).In_ok-outcome in
    let does : IsEffect c.self.inside.views c.effect_of.new.views (before_change c.execute.new.store.graph) c.execute.new.store.graph.now c.self.inside.tick c.in-Ok-Some.effect = rw c.in-Ok-Some.field-0-is at c.in-Ok-Some.ensures.effect in
    (before_change c.execute.new.store.graph, (c.execute.new.store.graph.now, (c.in-Ok-Some.effect.entries, does.ready_are)))

-- ---- the content stays

pub returns-in-Ok-None : goal.returns-in-Ok-None
returns-in-Ok-None c =
    let o = (goal.at.returns-in-Ok-None c).In_ok-outcome in
    let old = c.self.inside in
    let mid : StoreState = c.execute.new.store in
    let same : same_content old.store.graph.now.content mid.graph.now.content ≡ true =
    subst (λ (b : State). same_content b.content mid.graph.now.content ≡ true) (before o) (rw c.in-Ok-None.field-0-is at c.in-Ok-None.ensures.effect).0
    in
    let ended : c.commit.new.self ≡ record mid { graph = record mid.graph { was = None } } = c.commit.ensures ∙ ap (λ (s : StoreState). let t : StoreState = record s { graph = record s.graph { was = None } } in t) c.effect_of.ensures.same in
    rw (← c.self.view_is) (kept_done c.args.line.now c.args.tokens.now old.store old.views old.tick old.history old.entries (statement_of c.in_ok-checked.checked) (outcome_seen mid.graph.now c.in_ok-outcome.outcome)
    c.in_ok-checked.ensures c.in_ok-outcome.ensures.meaning c.statement_reply.result (c.statement_reply.ensures mid.graph.now)
    c.commit.new.self (ap (λ (s : StoreState). s.graph.now) ended) (ap (λ (s : StoreState). s.chosen) ended ∙ ap (λ (s : StoreState). s.chosen) c.in_ok-outcome.ensures.open)
    c.args.entries.now c.requires.none same c.effect_of.new.views c.effect_of.ensures.held
    (subst (λ (v : Views). StandFor v mid.graph.now.content old.tick) (sym (rw c.in-Ok-None.field-0-is at c.in-Ok-None.ensures.effect).1)
    (subst (λ (b : Content). StandFor old.views b old.tick) ((content_decides old.store.graph.now.content mid.graph.now.content).0 same) c.self.invariant.stand)))

pub invariant_of-self-in-Ok-None : goal.invariant_of-self-in-Ok-None
invariant_of-self-in-Ok-None c =
    let o = (goal.at.invariant_of-self-in-Ok-None c).In_ok-outcome in
    let old = c.self.inside in
    let mid : StoreState = c.execute.new.store in
    let same : same_content old.store.graph.now.content mid.graph.now.content ≡ true =
    subst (λ (b : State). same_content b.content mid.graph.now.content ≡ true) (before o) (rw c.in-Ok-None.field-0-is at c.in-Ok-None.ensures.effect).0
    in
    let ended : c.commit.new.self ≡ record mid { graph = record mid.graph { was = None } } = c.commit.ensures ∙ ap (λ (s : StoreState). let t : StoreState = record s { graph = record s.graph { was = None } } in t) c.effect_of.ensures.same in
    subst (λ (v : Views). IsAtRest c.commit.new.self.graph v old.tick old.history) (sym (rw c.in-Ok-None.field-0-is at c.in-Ok-None.ensures.effect).1)
    (kept_rest old.store.graph old.views old.tick old.history c.self.invariant c.commit.new.self (ap (λ (s : StoreState). s.graph.was) ended)
    ((content_decides old.store.graph.now.content mid.graph.now.content).0 same ∙ sym (ap (λ (s : StoreState). s.graph.now.content) ended)))

-- ---- the content differs

pub returns-in-Ok-Some : goal.returns-in-Ok-Some
returns-in-Ok-Some c =
    let o = (goal.at.returns-in-Ok-Some c).In_ok-outcome in
    let old = c.self.inside in
    let mid : StoreState = c.execute.new.store in
    let effect : Effect = c.in-Ok-Some.effect in
    let does : IsEffect old.views c.effect_of.new.views old.store.graph.now mid.graph.now old.tick effect =
    subst (λ (b : State). IsEffect old.views c.effect_of.new.views b mid.graph.now old.tick effect) (before o) (rw c.in-Ok-Some.field-0-is at c.in-Ok-Some.ensures.effect)
    in
    let ended : c.commit-in-Ok-Some.new.self ≡ record mid { graph = record mid.graph { was = None } } = c.commit-in-Ok-Some.ensures ∙ ap (λ (s : StoreState). let t : StoreState = record s { graph = record s.graph { was = None } } in t) c.effect_of.ensures.same in
    rw (← c.self.view_is) (changed_done c.args.line.now c.args.tokens.now old.store old.views old.tick old.history old.entries (statement_of c.in_ok-checked.checked) (outcome_seen mid.graph.now c.in_ok-outcome.outcome)
    c.in_ok-checked.ensures c.in_ok-outcome.ensures.meaning c.statement_reply-in-Ok-Some.result (c.statement_reply-in-Ok-Some.ensures mid.graph.now)
    c.commit-in-Ok-Some.new.self (ap (λ (s : StoreState). s.graph.now) ended) (ap (λ (s : StoreState). s.chosen) ended ∙ ap (λ (s : StoreState). s.chosen) c.in_ok-outcome.ensures.open)
    effect c.effect_of.new.views c.settle.new.self does (c.settle.ensures.fed old.store.graph.now mid.graph.now effect.entries does.ready_are) (c.settle.ensures.kept old.store.graph.now mid.graph.now effect.entries does.ready_are)
    (c.settle.ensures.stand old.store.graph.now mid.graph.now effect.entries does.ready_are))

pub invariant_of-self-in-Ok-Some : goal.invariant_of-self-in-Ok-Some
invariant_of-self-in-Ok-Some c =
    let o = (goal.at.invariant_of-self-in-Ok-Some c).In_ok-outcome in
    let old = c.self.inside in
    let mid : StoreState = c.execute.new.store in
    let effect : Effect = c.in-Ok-Some.effect in
    let does : IsEffect old.views c.effect_of.new.views old.store.graph.now mid.graph.now old.tick effect =
    subst (λ (b : State). IsEffect old.views c.effect_of.new.views b mid.graph.now old.tick effect) (before o) (rw c.in-Ok-Some.field-0-is at c.in-Ok-Some.ensures.effect)
    in
    let ended : c.commit-in-Ok-Some.new.self ≡ record mid { graph = record mid.graph { was = None } } = c.commit-in-Ok-Some.ensures ∙ ap (λ (s : StoreState). let t : StoreState = record s { graph = record s.graph { was = None } } in t) c.effect_of.ensures.same in
    changed_rest old.store.graph old.views old.tick old.history c.self.invariant c.commit-in-Ok-Some.new.self (ap (λ (s : StoreState). s.graph.was) ended) c.settle.new.self effect.tick
    (subst (λ (g : State). StandFor c.settle.new.self g.content effect.tick) (sym (ap (λ (s : StoreState). s.graph.now) ended)) (c.settle.ensures.stand old.store.graph.now mid.graph.now effect.entries does.ready_are)) does.in_time

-- ---- the change is refused

-- the store once it is rolled back
rolled : (mid left ended : StoreState) (before : State) → left ≡ mid → mid.graph.was ≡ Some before
    → IfSome left.graph.was (λ b. ended ≡ record left { graph = record { now = b; was = None } }) → ended ≡ record mid { graph = record { now = before; was = None } }
rolled mid left ended before same was back =
    at_some (λ (b : State). ended ≡ record left { graph = record { now = b; was = None } }) left.graph.was before (ap (λ (s : StoreState). s.graph.was) same ∙ was) back
    ∙ ap (λ (s : StoreState). let t : StoreState = record s { graph = record { now = before; was = None } } in t) same

pub returns : goal.returns
returns c =
    let o = (goal.at.returns c).In_ok-outcome in
    let old = c.self.inside in
    let mid : StoreState = c.execute.new.store in
    let outcome : Outcome = outcome_seen mid.graph.now c.in_ok-outcome.outcome in
    let ended = rolled mid c.effect_of.new.store c.rollback.new.self old.store.graph.now c.effect_of.ensures.same (was o) c.rollback.ensures in
    let none : HasNoEffect (upkeep_in old.views) old.store.graph.now mid.graph.now old.tick c.in-Err.fault =
    subst (λ (b : State). HasNoEffect (upkeep_in old.views) b mid.graph.now old.tick c.in-Err.fault) (before o) c.in-Err.ensures.refused
    in
    let left : KeptState = kept_state_of (machine_of c.rollback.new.self c.effect_of.new.views old.tick old.history old.entries) in
    let same : left ≡ kept_state_of (machine_of old.store old.views old.tick old.history old.entries) = λ i. record {
      engine = record {
        graph = ap (λ (s : StoreState). s.graph.now) ended i;
        indexes = (ap (λ (s : StoreState). s.chosen) ended ∙ ap (λ (s : StoreState). s.chosen) c.in_ok-outcome.ensures.open) i;
        views = ap (map view_of) c.effect_of.ensures.held i;
        tick = old.tick;
        history = old.history;
      };
      upkeep = ap (map upkeep_of) c.effect_of.ensures.held i;
    } in
    rw (← c.self.view_is) (no_effect c.args.line.now c.args.tokens.now old.store old.views old.tick old.history old.entries (statement_of c.in_ok-checked.checked) outcome
    c.in_ok-checked.ensures c.in_ok-outcome.ensures.meaning (reply.Statement (changed_by outcome.counts) outcome.columns outcome.rows) refl
    c.args.entries.now c.requires.none left same c.in-Err.fault none)

pub invariant_of-self-in-Err : goal.invariant_of-self-in-Err
invariant_of-self-in-Err c =
    let o = (goal.at.invariant_of-self-in-Err c).In_ok-outcome in
    let old = c.self.inside in
    let mid : StoreState = c.execute.new.store in
    let ended = rolled mid c.effect_of.new.store c.rollback.new.self old.store.graph.now c.effect_of.ensures.same (was o) c.rollback.ensures in
    rolled_rest old.store.graph old.views old.tick old.history c.self.invariant c.rollback.new.self (ap (λ (s : StoreState). s.graph.was) ended) c.effect_of.new.views
    (subst (λ (b : State). StandFor c.effect_of.new.views b.content old.tick) (before o) c.in-Err.ensures.back) (ap (λ (s : StoreState). s.graph.now) ended)
