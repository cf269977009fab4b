-- The graph of a run is the one that its statements make, and its tick rises with them and with each view that is made.
use Rattle.std.proofs.Common.{◌≡◌, ℕ, List, [], ◌∷◌, Option, None, Some, Result, Ok, Err, refl, sym, ap, subst, ◌∙◌, inl, inr}
use Rattle.cy_lexer.specs.declared.faults.LexFault.{LexFault}
use Rattle.cy_lexer.specs.declared.tokens.Token.{Token}
use Rattle.cy_lexer.specs.Tokens.{tokens_of}
use Rattle.cy_parser_grammar.specs.SpellsClauses.{SpellsStatement}
use Rattle.cy_trees.specs.Trees.{Statement}
use Rattle.cy_scope.specs.ClauseFaults.{statement_fault}
use Rattle.cy_scope.specs.Resolved.{resolved_statement}
use Rattle.cy_scope_kinds.specs.declared.faults.ScopeFault.{ScopeFault}
use Rattle.cy_index.specs.declared.keys.Pair.{Pair}
use Rattle.cy_feeds.specs.declared.feeds.Answer as feeds
use Rattle.cy_feeds.specs.declared.feeds.Answer.TheVariants.{Entries as Since, Lagged}
use Rattle.cy_feeds.specs.Feeds.{answer_since}
use Rattle.cy_updates_meaning.specs.Faults.{◌>>=◌}
use Rattle.cy_updates_meaning.specs.declared.faults.UpdateFault.{UpdateFault}
use Rattle.cy_updates_meaning.specs.Statements.{Outcome, statement_outcome}
use Rattle.cy_engine_lines.specs.Faults.{of_update}
use Rattle.cy_engine_lines.specs.declared.faults.Fault.{Fault}
use Rattle.cy_engine_lines.specs.declared.faults.Fault.TheVariants as fault
use Rattle.cy_engine.specs.Headline.{Builds, Leads, Moment, moment_of}
use Rattle.cy_engine_lines.specs.Requests.{Asks, Request, StatementOf, ViewOf, RowsOf, SinceOf, ListOfSteps, DropOf, IndexOf, Refused, request}
use Rattle.cy_engine.specs.Runs.{Event, Run}
use Rattle.cy_engine_lines.specs.State.{EngineState}
use Rattle.cy_engine_views.specs.RegisteredViews.{Entries, View}
use Rattle.cy_engine_lines.specs.EngineStep.{Answer, Answers, Executes, Drops, ShowsAnswer, Indexes, Lexed, Makes, Shows, EngineStep, AnswersSince}
use Rattle.cy_engine_lines.specs.Verdicts.{Executed, execution_verdict, index_verdict, or_fault, rows_verdict, scope_verdict, since_verdict, statement_verdict, tick_after, passes, view_verdict}
use Rattle.cy_engine_lines.proofs.Effects.{statement_timed}
use Rattle.cy_engine_lines.proofs.Queries.{bind_ok, same_ok, view_made}

-- what a statement that is executed means
pub scoped : (tree resolved : Statement) → scope_verdict tree ≡ Ok resolved → resolved ≡ resolved_statement tree
scoped tree resolved is = from (statement_fault tree) is
  where
    from : (o : Option ScopeFault) → (passes fault.Scope o >>= λ _. Ok (resolved_statement tree)) ≡ Ok resolved → resolved ≡ resolved_statement tree
    from None is = sym (same_ok (resolved_statement tree) resolved is)
    from (Some why) is = cc

meant : (r : Result Outcome UpdateFault) (outcome : Outcome) → or_fault of_update r ≡ Ok outcome → r ≡ Ok outcome
meant (Ok o) outcome is = let same : o ≡ outcome = same_ok o outcome is in ap (λ (x : Outcome). let r : Result Outcome UpdateFault = Ok x in r) same
meant (Err why) outcome is = cc

executed_means : (tree : Statement) (old : EngineState) (executed : Executed) → statement_verdict tree old ≡ Ok executed → statement_outcome old.graph (resolved_statement tree) ≡ Ok executed.outcome
executed_means tree old executed is =
    let resolved = bind_ok (scope_verdict tree) (λ resolved. execution_verdict resolved old.graph old.tick) executed is in
    let outcome =
    bind_ok (or_fault of_update (statement_outcome old.graph resolved.0)) (λ outcome. tick_after old.graph.content outcome.graph.content old.tick >>= λ after. let c : Executed = record { outcome = outcome; tick = after } in Ok c)
    executed resolved.2
    in
    let timed = bind_ok (tick_after old.graph.content outcome.0.graph.content old.tick) (λ after. let c : Executed = record { outcome = outcome.0; tick = after } in Ok c) executed outcome.2 in
    let same : outcome.0 ≡ executed.outcome = ap (λ (c : Executed). c.outcome) (same_ok _ executed timed.2) in
    ap (λ (s : Statement). statement_outcome old.graph s) (sym (scoped tree resolved.0 resolved.1))
    ∙ meant (statement_outcome old.graph resolved.0) outcome.0 outcome.1
    ∙ ap (λ (o : Outcome). let r : Result Outcome UpdateFault = Ok o in r) same

module _ (line : List ℕ) (old : EngineState) (answer : Answer) (entries : Entries) (new : EngineState) where
  abbrev LeadsOn : Type 0
  LeadsOn = Leads line answer (moment_of old) (moment_of new)

  -- an answer that leaves graph and tick
  as_answered : (given : Answer) → answer ≡ given → moment_of new ≡ moment_of old → (moment_of new ≡ moment_of old → Leads line given (moment_of old) (moment_of new)) → LeadsOn
  as_answered given is same leads = subst (λ (a : Answer). Leads line a (moment_of old) (moment_of new)) (sym is) (leads same)

  moment_left : new ≡ old → moment_of new ≡ moment_of old
  moment_left left = ap moment_of left

  refused_leads : (why : Fault) → answer ≡ Err why → new ≡ old → LeadsOn
  refused_leads why is left = as_answered (Err why) is (moment_left left) (λ same. same)

  executes_leads : (tokens : List Token) (tree : Statement) → Asks line (StatementOf tokens) → SpellsStatement line tree tokens → (v : Result Executed Fault) → statement_verdict tree old ≡ v → Executes v old answer entries new → LeadsOn
  executes_leads tokens tree asked spelt (Err why) is a = refused_leads why a.answered a.state
  executes_leads tokens tree asked spelt (Ok executed) is a =
      subst (λ (given : Answer). Leads line given (moment_of old) (moment_of new)) (sym a.answered)
      (record {
        tokens = tokens;
        tree = tree;
        outcome = executed.outcome;
        asked = asked;
        spelt = spelt;
        means = executed_means tree old executed is;
        answered = refl;
        graph = ap (λ (s : EngineState). s.graph) a.state;
        tick = subst (λ (m : Moment). tick_after old.graph.content m.graph.content old.tick ≡ Ok m.tick) (sym (ap moment_of a.state)) (statement_timed tree old executed is);
      })

  makes_leads : (tree : Statement) (name : List ℕ) (v : Result View Fault) → view_verdict tree name old ≡ v → Makes v old answer entries new → LeadsOn
  makes_leads tree name (Err why) is a = refused_leads why a.answered a.state
  makes_leads tree name (Ok view) is a =
      subst (λ (given : Answer). Leads line given (moment_of old) (moment_of new)) (sym a.answered)
      (ap moment_of a.state ∙ ap (λ (tick : ℕ). let m : Moment = record { graph = old.graph; tick = tick } in m) (view_made tree name old view is).made)

  shows_leads : (name : List ℕ) (v : Result View Fault) → Shows name v old answer entries new → LeadsOn
  shows_leads name (Err why) a = refused_leads why a.answered a.state
  shows_leads name (Ok view) (rows, are, a) = as_answered _ a.answered (moment_left a.state) (λ same. same)

  tells_leads : (name : List ℕ) (tick : ℕ) (v : Result View Fault) → AnswersSince name tick v old answer entries new → LeadsOn
  tells_leads name tick (Err why) a = refused_leads why a.answered a.state
  tells_leads name tick (Ok view) a = from (answer_since tick view.feed) a
    where
      from : (told : feeds.Answer) → ShowsAnswer name view told old answer entries new → LeadsOn
      from (Since changes) a = as_answered _ a.answered (moment_left a.state) (λ same. same)
      from Lagged a = shows_leads name (Ok view) a

  drops_leads : (v : Result View Fault) → Drops v old answer entries new → LeadsOn
  drops_leads (Err why) a = refused_leads why a.answered a.state
  drops_leads (Ok view) a = as_answered _ a.answered (ap moment_of a.state) (λ same. same)

  indexes_leads : (v : Result Pair Fault) → Indexes v old answer entries new → LeadsOn
  indexes_leads (Err why) a = refused_leads why a.answered a.state
  indexes_leads (Ok pair) a = as_answered _ a.answered (ap moment_of a.state) (λ same. same)

  answers_leads : (tokens : List Token) → tokens_of line ≡ Ok tokens → (asked : Request) → request line tokens ≡ asked → Answers line asked old answer entries new → LeadsOn
  answers_leads tokens made (StatementOf ts) of (inl (tree, spelt, a)) = executes_leads ts tree (record { tokens = tokens; lexed = made; is = of }) spelt (statement_verdict tree old) refl a
  answers_leads tokens made (StatementOf ts) of (inr (why, unspelt, a)) = refused_leads (fault.Parse why) a.answered a.state
  answers_leads tokens made (ViewOf name ts) of (inl (tree, spelt, a)) = makes_leads tree name (view_verdict tree name old) refl a
  answers_leads tokens made (ViewOf name ts) of (inr (why, unspelt, a)) = refused_leads (fault.Parse why) a.answered a.state
  answers_leads tokens made (RowsOf name) of a = shows_leads name (rows_verdict name old) a
  answers_leads tokens made (SinceOf name tick) of a = tells_leads name tick (since_verdict name tick old) a
  answers_leads tokens made ListOfSteps of a = as_answered _ a.replied.answered (moment_left a.replied.state) (λ same. same)
  answers_leads tokens made (DropOf name) of a = drops_leads (rows_verdict name old) a
  answers_leads tokens made (IndexOf label key) of a = indexes_leads (index_verdict label key old) a
  answers_leads tokens made (Refused why) of a = refused_leads why a.answered a.state
  answers_leads tokens made _ of a = as_answered _ a.answered (moment_left a.state) (λ same. same)

  lexed_leads : (lexed : Result (List Token) LexFault) → tokens_of line ≡ lexed → Lexed line lexed old answer entries new → LeadsOn
  lexed_leads (Err why) made a = refused_leads (fault.Lex why) a.answered a.state
  lexed_leads (Ok tokens) made a = answers_leads tokens made (request line tokens) refl a

  pub step_leads : EngineStep old line answer entries new → LeadsOn
  step_leads (inl (why, lacks, a)) = refused_leads why a.answered a.state
  step_leads (inr a) = lexed_leads (tokens_of line) refl a

pub run_builds : (old new : EngineState) (events : List Event) → Run old events new → Builds (moment_of old) events (moment_of new)
run_builds old new [] run = ap moment_of run
run_builds old new (e ∷ events) (mid, step, run) = (moment_of mid, step_leads e.line old e.answer e.entries mid step, run_builds mid new events run)
