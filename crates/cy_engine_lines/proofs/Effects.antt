-- What a step does to the views and the graph.
use Rattle.std.proofs.Common.{◌≡◌, ◌⊎◌, ℕ, true, false, cond, List, [], ◌∷◌, find, Option, None, Some, Result, Ok, Err, refl, sym, ap, subst, ◌∙◌, inl, inr}
use Rattle.std.specs.Str.{bytes_eq}
use Rattle.std.proofs.lemmas.Slice.Eq.{bytes_eq-Decides}
use Rattle.cy_lexer.specs.declared.faults.LexFault.{LexFault}
use Rattle.cy_lexer.specs.declared.tokens.Token.{Token}
use Rattle.cy_lexer.specs.Tokens.{tokens_of}
use Rattle.cy_trees.specs.Trees.{Statement}
use Rattle.cy_feeds.specs.declared.feeds.Answer as feeds
use Rattle.cy_feeds.specs.declared.feeds.Answer.TheVariants.{Entries as Since, Lagged}
use Rattle.cy_feeds.specs.Feeds.{answer_since}
use Rattle.cy_updates_meaning.specs.Faults.{◌>>=◌}
use Rattle.cy_updates_meaning.specs.Statements.{statement_outcome}
use Rattle.cy_index.specs.declared.keys.Pair.{Pair}
use Rattle.cy_engine_lines.specs.Faults.{of_update}
use Rattle.cy_engine_lines.specs.declared.faults.Fault.{Fault}
use Rattle.cy_engine_lines.specs.declared.faults.Fault.TheVariants.{NoSuchView}
use Rattle.cy_engine_lines.specs.Requests.{Request, StatementOf, ViewOf, RowsOf, SinceOf, ListOfSteps, DropOf, IndexOf, request}
use Rattle.cy_engine_lines.specs.State.{EngineState, view_at}
use Rattle.cy_engine_views.specs.RegisteredViews.{AreEntries, Entries, View}
use Rattle.cy_engine_lines.specs.EngineStep.{Answer, IsExecuted, IsMade, IsDropped, IsIndexed, Executes, Makes, Drops, Indexes, Shows, ShowsAnswer, AnswersSince, Answers, Lexed, EngineStep}
use Rattle.cy_engine_lines.specs.Verdicts.{Executed, execution_verdict, index_verdict, or_fault, rows_verdict, scope_verdict, since_verdict, statement_verdict, there, tick_after, view_verdict}
use Rattle.cy_engine_lines.proofs.Contents.{nothing_changed}
use Rattle.cy_engine_lines.proofs.Queries.{IsFresh, bind_ok, same_ok, view_made}

-- a statement may be executed: the tick after it is the one of its content
abbrev pub IsTimed : EngineState → Executed → Type 0
IsTimed old executed = tick_after old.graph.content executed.outcome.graph.content old.tick ≡ Ok executed.tick

-- the tick of a statement that is executed
pub statement_timed : (tree : Statement) (old : EngineState) (executed : Executed) → statement_verdict tree old ≡ Ok executed → IsTimed old executed
statement_timed tree old executed is =
    let scoped = bind_ok (scope_verdict tree) (λ resolved. execution_verdict resolved old.graph old.tick) executed is in
    let meant =
    bind_ok (or_fault of_update (statement_outcome old.graph scoped.0)) (λ outcome. tick_after old.graph.content outcome.graph.content old.tick >>= λ after. let c : Executed = record { outcome = outcome; tick = after } in Ok c)
    executed scoped.2
    in
    let timed = bind_ok (tick_after old.graph.content meant.0.graph.content old.tick) (λ after. let c : Executed = record { outcome = meant.0; tick = after } in Ok c) executed meant.2 in
    let same : (let c : Executed = record { outcome = meant.0; tick = timed.0 } in c) ≡ executed = same_ok _ executed timed.2 in
    subst (IsTimed old) same timed.1

-- a view that is found by a name has it
pub name_of : (name : List ℕ) (views : List View) (view : View) → find (λ v. bytes_eq name v.name) views ≡ Some view → name ≡ view.name
name_of name [] view is = cc
name_of name (v ∷ views) view is =
    elim (bytes_eq name v.name) as (λ b. bytes_eq name v.name ≡ b → cond b (Some v) (find (λ w. bytes_eq name w.name) views) ≡ Some view → name ≡ view.name) [
      | true ↦ λ same here. let one : v ≡ view = cc in (bytes_eq-Decides name v.name).0 same ∙ ap (λ (w : View). w.name) one
      | false ↦ λ other later. name_of name views view later
    ] refl is

module _ (old : EngineState) (answer : Answer) (entries : Entries) (new : EngineState) where
  abbrev pub Effects : Type 0
  Effects =
      ((new ≡ old) × (entries ≡ []))
      ⊎ ((executed : Executed) × IsTimed old executed × IsExecuted executed old answer entries new)
      ⊎ ((view : View) × IsFresh old view × IsMade view old answer entries new)
      ⊎ ((view : View) × (view_at view.name old ≡ Some view) × IsDropped view old answer entries new)
      ⊎ ((pair : Pair) × IsIndexed pair old answer entries new)

  executes_effects : (v : Result Executed Fault) → ((executed : Executed) → v ≡ Ok executed → IsTimed old executed) → Executes v old answer entries new → Effects
  executes_effects (Ok executed) timed a = inr (inl (executed, timed executed refl, a))
  executes_effects (Err why) timed a = inl (a.state, a.no_entries)

  makes_effects : (v : Result View Fault) → ((view : View) → v ≡ Ok view → IsFresh old view) → Makes v old answer entries new → Effects
  makes_effects (Ok view) free a = inr (inr (inl (view, free view refl, a)))
  makes_effects (Err why) free a = inl (a.state, a.no_entries)

  shows_effects : (name : List ℕ) (v : Result View Fault) → Shows name v old answer entries new → Effects
  shows_effects name (Ok view) (rows, are, a) = inl (a.state, a.no_entries)
  shows_effects name (Err why) a = inl (a.state, a.no_entries)

  tells_effects : (name : List ℕ) (tick : ℕ) (v : Result View Fault) → AnswersSince name tick v old answer entries new → Effects
  tells_effects name tick (Err why) a = inl (a.state, a.no_entries)
  tells_effects name tick (Ok view) a = from (answer_since tick view.feed) a
    where
      from : (told : feeds.Answer) → ShowsAnswer name view told old answer entries new → Effects
      from (Since changes) a = inl (a.state, a.no_entries)
      from Lagged a = shows_effects name (Ok view) a

  drops_effects : (name : List ℕ) → Drops (rows_verdict name old) old answer entries new → Effects
  drops_effects name a = from (view_at name old) refl a
    where
      from : (o : Option View) → view_at name old ≡ o → Drops (there NoSuchView o) old answer entries new → Effects
      from None is a = inl (a.state, a.no_entries)
      from (Some view) is a = inr (inr (inr (inl (view, subst (λ (n : List ℕ). view_at n old ≡ Some view) (name_of name old.views view is) is, a))))

  indexes_effects : (v : Result Pair Fault) → Indexes v old answer entries new → Effects
  indexes_effects (Ok pair) a = inr (inr (inr (inr (pair, a))))
  indexes_effects (Err why) a = inl (a.state, a.no_entries)

  answers_effects : (line : List ℕ) (asked : Request) → Answers line asked old answer entries new → Effects
  answers_effects line (StatementOf tokens) (inl (tree, spelt, a)) = executes_effects (statement_verdict tree old) (statement_timed tree old) a
  answers_effects line (StatementOf tokens) (inr (why, unspelt, a)) = inl (a.state, a.no_entries)
  answers_effects line (ViewOf name tokens) (inl (tree, spelt, a)) =
      makes_effects (view_verdict tree name old) (view_made tree name old) a
  answers_effects line (ViewOf name tokens) (inr (why, unspelt, a)) = inl (a.state, a.no_entries)
  answers_effects line (RowsOf name) a = shows_effects name (rows_verdict name old) a
  answers_effects line (SinceOf name tick) a = tells_effects name tick (since_verdict name tick old) a
  answers_effects line ListOfSteps a = inl (a.replied.state, a.replied.no_entries)
  answers_effects line (DropOf name) a = drops_effects name a
  answers_effects line (IndexOf label key) a = indexes_effects (index_verdict label key old) a
  answers_effects line _ a = inl (a.state, a.no_entries)

  lexed_effects : (line : List ℕ) (lexed : Result (List Token) LexFault) → Lexed line lexed old answer entries new → Effects
  lexed_effects line (Err why) a = inl (a.state, a.no_entries)
  lexed_effects line (Ok tokens) a = answers_effects line (request line tokens) a

  pub effects : (line : List ℕ) → EngineStep old line answer entries new → Effects
  effects line (inl (why, lacks, a)) = inl (a.state, a.no_entries)
  effects line (inr a) = lexed_effects line (tokens_of line) a

  abbrev pub AreExact : Type 0
  AreExact = AreEntries old.views old.graph.content new.graph.content new.tick entries

  no_entries : entries ≡ [] → new.graph ≡ old.graph → AreExact
  no_entries none same = rw (none, same) (nothing_changed old.views old.graph.content new.tick)

  -- the entries of a step are the differences that it makes
  pub exact : Effects → AreExact
  exact (inl (left, none)) = no_entries none (ap (λ (s : EngineState). s.graph) left)
  exact (inr (inl (executed, timed, a))) = subst (λ (s : EngineState). AreEntries old.views old.graph.content s.graph.content s.tick entries) (sym a.state) a.entries_are
  exact (inr (inr (inl (view, free, a)))) = no_entries a.no_entries (ap (λ (s : EngineState). s.graph) a.state)
  exact (inr (inr (inr (inl (view, at, a))))) = no_entries a.no_entries (ap (λ (s : EngineState). s.graph) a.state)
  exact (inr (inr (inr (inr (pair, a))))) = no_entries a.no_entries (ap (λ (s : EngineState). s.graph) a.state)
