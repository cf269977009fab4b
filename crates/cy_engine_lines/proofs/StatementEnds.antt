-- How the change of a statement ends, for the store and the views.
use Rattle.std.proofs.Common.{◌≡◌, ◌≤◌, ℕ, true, List, [], ◌∷◌, map, Option, None, Some, IfSome, Ok, Err, refl, sym, ap, subst, ◌∙◌, inl, inr}
use Rattle.cy_graph.specs.Graph.{Content, State, Versions}
use Rattle.cy_index.specs.Index.{StoreState}
use Rattle.cy_lexer.specs.declared.tokens.Token.{Token}
use Rattle.cy_trees.specs.Trees.{Statement}
use Rattle.cy_updates_meaning.specs.Statements.{Outcome, statement_outcome}
use Rattle.cy_network_sources.specs.Changes.{before_change}
use Rattle.cy_engine_views.specs.declared.views.Views.{Views}
use Rattle.cy_engine_views.specs.HeldViews.{Held, view_of}
use Rattle.cy_engine_views.specs.Upkeep.{AreKeptUp, StandFor, Upkeep, held_in, upkeep_in, upkeep_of, views_in}
use Rattle.cy_engine_views.specs.RegisteredViews.{AreEntries, Entries, View, fed}
use Rattle.cy_engine_lines.specs.declared.engine.Effect.{Effect}
use Rattle.cy_engine_lines.specs.declared.faults.Fault.{Fault}
use Rattle.cy_engine_lines.specs.declared.replies.Reply.{Reply}
use Rattle.cy_engine_lines.specs.declared.replies.Reply.TheVariants as reply
use Rattle.cy_engine_lines.specs.Requests.{StatementOf}
use Rattle.cy_engine_lines.specs.State.{last_tick}
use Rattle.cy_engine_lines.specs.EngineStep.{WouldExecute, changed_by}
use Rattle.cy_engine_lines.specs.KeptStep.{HasTooMany, IsKeptUp, KeepsUp, KeptState, kept_state_of}
use Rattle.cy_engine_lines.specs.Verdicts.{same_content, scope_verdict, tick_after}
use Rattle.cy_engine_lines.specs.Fields.{machine_of}
use Rattle.cy_engine_lines.specs.internal.Representation.{IsAtRest}
use Rattle.cy_engine_lines.specs.internal.Stages.{AnswersKept, HasNoEffect, HasTree, IsEffect}
use Rattle.cy_engine_lines.proofs.Contents.{nothing_changed}
use Rattle.cy_engine_lines.proofs.Contents.{content_decides}
use Rattle.cy_engine_lines.proofs.Keeping.{keeps_refused, keeps_said}
use Rattle.cy_engine_lines.proofs.Limits.{stand_bounded, stand_within}
use Rattle.cy_engine_lines.proofs.Steps.{carry_late, executed, statement_executed, statement_refused}

-- what holds of what is there
pub at_some : {A : Type 0} (P : A → Type 0) (o : Option A) (x : A) → o ≡ Some x → IfSome o P → P x
at_some {A = A} P o x is holds = subst (λ (p : Option A). IfSome p P) is holds

-- the graph before a change that was opened at it
pub opened_before : (graph : Versions) (before : State) → graph.was ≡ Some before → before_change graph ≡ before
opened_before graph before is = ap (λ (o : Option State). before_change (record { now = graph.now; was = o })) is

-- the views with no entry
pub none_fed : (views : List View) → map (fed []) views ≡ views
none_fed [] = refl
none_fed (v ∷ views) = ap (λ vs. v ∷ vs) (none_fed views)

tick_stays : (before after : State) (tick : ℕ) → same_content before.content after.content ≡ true → tick_after before.content after.content tick ≡ Ok tick
tick_stays before after tick same = rw same refl

-- ---- a statement that is executed

module _ (line : List ℕ) (tokens : List Token) (store : StoreState) (views : Views) (tick history : ℕ) (last : Entries) (resolved : Statement) (outcome : Outcome)
    (tree : HasTree line tokens (λ tree. scope_verdict tree ≡ Ok resolved)) (means : statement_outcome store.graph.now resolved ≡ Ok outcome)
    (answer : Reply) (answered : answer ≡ reply.Statement (changed_by outcome.counts) outcome.columns outcome.rows) where
  abbrev start : KeptState
  start = kept_state_of (machine_of store views tick history last)

  abbrev before : State
  before = store.graph.now

  -- the store once the change is committed
  module _ (ended : StoreState) (graph : ended.graph.now ≡ outcome.graph) (indexes : ended.chosen ≡ store.chosen) where
    abbrev ended_with : Views → ℕ → KeptState
    ended_with left next = kept_state_of (machine_of ended left next history last)

    -- the statement is executed, and leaves views that stand for its graph
    kept_up : (left : Views) (next : ℕ) (entries : Entries) → StandFor left outcome.graph.content next → tick_after before.content outcome.graph.content tick ≡ Ok next
        → AreEntries (views_in views) before.content outcome.graph.content next entries → views_in left ≡ map (fed entries) (views_in views)
        → KeepsUp (same_content before.content outcome.graph.content) before outcome.graph (upkeep_in views) (upkeep_in left)
        → AnswersKept line (StatementOf tokens) start (Ok answer) entries (ended_with left next)
    kept_up left next entries stand ticks entries_are fed_so keeps =
        let stand_so : StandFor left ended.graph.now.content next = subst (λ (g : State). StandFor left g.content next) (sym graph) stand in
        let is : IsKeptUp start (ended_with left next) = record {
          upkeep = subst (λ (g : State). KeepsUp (same_content before.content g.content) before g (upkeep_in views) (upkeep_in left)) (sym graph) keeps;
          within = stand_within left ended.graph.now.content next stand_so;
        } in
        record {
          answers = statement_executed line tokens start.engine (Ok answer) entries (ended_with left next).engine resolved (record { outcome = outcome; tick = next }) tree
              (executed resolved before tick outcome next means ticks)
              (record {
                answered = ap Ok answered;
                entries_are = entries_are;
                bounded = stand_bounded left ended.graph.now.content next stand_so;
                state = λ i. record { graph = graph i; indexes = indexes i; views = fed_so i; tick = next; history = history };
              });
          upkeep = keeps_said (HasTooMany line (StatementOf tokens) start) answer (reply.Statement (changed_by outcome.counts) outcome.columns outcome.rows) start (ended_with left next) answered is;
        }

    -- nothing changes in the content
    pub kept_done : (entries : Entries) → entries ≡ [] → same_content before.content outcome.graph.content ≡ true → (left : Views) → held_in left ≡ held_in views → StandFor left outcome.graph.content tick
        → AnswersKept line (StatementOf tokens) start (Ok answer) entries (ended_with left tick)
    kept_done entries none same left held stand =
        kept_up left tick entries stand (tick_stays before outcome.graph tick same)
        (rw (none, sym ((content_decides before.content outcome.graph.content).0 same)) (nothing_changed (views_in views) before.content tick))
        (ap (map view_of) held ∙ sym (ap (λ (es : Entries). map (fed es) (views_in views)) none ∙ none_fed (views_in views)))
        (rw same (ap (map upkeep_of) held))

    -- the content differs
    pub changed_done : (effect : Effect) (ready left : Views) → IsEffect views ready before outcome.graph tick effect → views_in left ≡ map (fed effect.entries) (views_in ready)
        → AreKeptUp before outcome.graph (upkeep_in ready) (upkeep_in left) → StandFor left outcome.graph.content effect.tick
        → AnswersKept line (StatementOf tokens) start (Ok answer) effect.entries (ended_with left effect.tick)
    changed_done effect ready left does fed_so kept stand =
        kept_up left effect.tick effect.entries stand (rw does.differs does.ticks) does.entries_are
        (fed_so ∙ ap (λ (hs : List Held). map (fed effect.entries) (map view_of hs)) does.held)
        (rw does.differs (subst (λ (us : List Upkeep). AreKeptUp before outcome.graph us (upkeep_in left)) (ap (map upkeep_of) does.held) kept))

  -- ---- a statement that isn't executed, since its change has no effect

  pub no_effect : (entries : Entries) → entries ≡ [] → (new : KeptState) → new ≡ start → (why : Fault) → HasNoEffect (upkeep_in views) before outcome.graph tick why
      → AnswersKept line (StatementOf tokens) start (Err why) entries new
  no_effect entries none new same why (inl wants) = statement_refused line tokens start entries new none same resolved why tree (inl wants)
  no_effect entries none new same why (inr (inl late)) = statement_refused line tokens start entries new none same resolved why tree (inr (carry_late resolved before tick outcome why means late))
  no_effect entries none new same why (inr (inr (is, (next, rises, many)))) =
      let would : WouldExecute line tokens start.engine = record {
        tree = tree.tree;
        executed = record { outcome = outcome; tick = next };
        spelt = tree.spelt;
        verdict = rw tree.that (executed resolved before tick outcome next means rises);
      } in
      record {
        answers = inr (inl (would, record { answered = ap Err is; no_entries = none; state = ap (λ (s : KeptState). s.engine) same }));
        upkeep = keeps_refused (HasTooMany line (StatementOf tokens) start) why start new (ap (λ (s : KeptState). s.upkeep) same) (λ _. record { would = would; many = many });
      }

-- ---- what holds between lines holds again

module _ (graph : Versions) (views : Views) (tick history : ℕ) (rest : IsAtRest graph views tick history) (ended : StoreState) (closed : ended.graph.was ≡ None) where
  -- where the content stayed
  pub kept_rest : graph.now.content ≡ ended.graph.now.content → IsAtRest ended.graph views tick history
  kept_rest same = record { closed = closed; stand = subst (λ (c : Content). StandFor views c tick) same rest.stand; in_time = rest.in_time; some = rest.some; most = rest.most }

  -- where it differs
  pub changed_rest : (left : Views) (next : ℕ) → StandFor left ended.graph.now.content next → next ≤ last_tick → IsAtRest ended.graph left next history
  changed_rest left next stand in_time = record { closed = closed; stand = stand; in_time = in_time; some = rest.some; most = rest.most }

  -- where the change is rolled back
  pub rolled_rest : (left : Views) → StandFor left graph.now.content tick → ended.graph.now ≡ graph.now → IsAtRest ended.graph left tick history
  rolled_rest left stand same = record { closed = closed; stand = subst (λ (g : State). StandFor left g.content tick) (sym same) stand; in_time = rest.in_time; some = rest.some; most = rest.most }
