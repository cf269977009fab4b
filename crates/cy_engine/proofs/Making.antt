-- The line that makes a view asked for it.
use Rattle.std.proofs.Common.{◌≡◌, ℕ, List, [], ◌∷◌, ◌++◌, Option, None, Some, Result, Ok, Err, refl, sym, ap, subst, ◌∙◌, inl, inr}
use Rattle.cy_lexer.specs.declared.faults.LexFault.{LexFault}
use Rattle.cy_lexer.specs.declared.tokens.Token.{Token}
use Rattle.cy_lexer.specs.Tokens.{tokens_of}
use Rattle.cy_parser_grammar.specs.SpellsClauses.{SpellsStatement}
use Rattle.cy_trees.specs.Trees.{Statement}
use Rattle.cy_scope_kinds.specs.declared.faults.ViewFault.{ViewFault}
use Rattle.cy_scope.specs.Resolved.{resolved_statement}
use Rattle.cy_scope.specs.Views.{view_fault}
use Rattle.cy_index.specs.declared.keys.Pair.{Pair}
use Rattle.cy_oneshot_meaning.specs.Queries.{statement_columns}
use Rattle.cy_feeds.specs.declared.feeds.Answer as feeds
use Rattle.cy_feeds.specs.declared.feeds.Answer.TheVariants.{Entries as Since, Lagged}
use Rattle.cy_feeds.specs.Feeds.{answer_since}
use Rattle.cy_updates_meaning.specs.Faults.{◌>>=◌}
use Rattle.cy_engine_lines.specs.declared.faults.Fault.{Fault}
use Rattle.cy_engine_lines.specs.declared.faults.Fault.TheVariants as fault
use Rattle.cy_engine_lines.specs.declared.replies.Reply.TheVariants as reply
use Rattle.cy_engine.specs.Headline.{AsksForView}
use Rattle.cy_engine_lines.specs.Requests.{Asks, Request, StatementOf, ViewOf, RowsOf, SinceOf, ListOfSteps, DropOf, IndexOf, Refused, request}
use Rattle.cy_engine_lines.specs.State.{EngineState}
use Rattle.cy_engine_views.specs.RegisteredViews.{Entries, View}
use Rattle.cy_engine_lines.specs.EngineStep.{Answer, Answers, Executes, Drops, ShowsAnswer, Indexes, IsMade, Lexed, Makes, Shows, EngineStep, AnswersSince}
use Rattle.cy_engine_lines.specs.Verdicts.{Executed, index_verdict, query_verdict, rows_verdict, scope_verdict, since_verdict, statement_verdict, passes, view_verdict}
use Rattle.cy_engine.proofs.Building.{scoped}
use Rattle.cy_engine_lines.proofs.Queries.{bind_ok, same_ok, view_parts}

-- the query of a view is the statement that is spelt, with the columns of its variables
spelt_query : (tree query : Statement) → query_verdict tree ≡ Ok query → query ≡ resolved_statement tree
spelt_query tree query is =
    let scope = bind_ok (scope_verdict tree) (λ resolved. passes fault.View (view_fault resolved) >>= λ _. Ok resolved) query is in
    from scope.0 (view_fault scope.0) scope.2 ∙ scoped tree scope.0 scope.1
  where
    from : (resolved : Statement) (o : Option ViewFault) → (passes fault.View o >>= λ _. Ok resolved) ≡ Ok query → query ≡ resolved
    from resolved None is = sym (same_ok resolved query is)
    from resolved (Some why) is = cc

asked_for : (tree : Statement) (name : List ℕ) (old : EngineState) (view : View) → view_verdict tree name old ≡ Ok view → (view.name ≡ name) × (view.query ≡ resolved_statement tree)
asked_for tree name old view is =
    let parts = view_parts tree name old view is in
    (sym (ap (λ (v : View). v.name) parts.same), sym (ap (λ (v : View). v.query) parts.same) ∙ spelt_query tree parts.query parts.asked)

same_last : (views : List View) (one other : View) → views ++ one ∷ [] ≡ views ++ other ∷ [] → one ≡ other
same_last [] one other is = cc
same_last (v ∷ views) one other is = let rest : views ++ one ∷ [] ≡ views ++ other ∷ [] = cc in same_last views one other rest

module _ (line : List ℕ) (old : EngineState) (answer : Answer) (entries : Entries) (new : EngineState) (view : View) (made : IsMade view old answer entries new) where
  abbrev IsAsked : Type 0
  IsAsked = AsksForView line view.name view.query

  abbrev made_answer : Answer
  made_answer = Ok (reply.Made (statement_columns view.query) view.made view.name)

  -- whatever is answered otherwise makes no view
  otherwise : (given : Answer) → answer ≡ given → (made_answer ≡ given → ⊥) → IsAsked
  otherwise given is not_made = absurd (not_made (sym made.answered ∙ is))

  refused_asked : (why : Fault) → answer ≡ Err why → IsAsked
  refused_asked why is = otherwise (Err why) is (λ same. cc)

  makes_asked : (tokens : List Token) (tree : Statement) (name : List ℕ) → Asks line (ViewOf name tokens) → SpellsStatement line tree tokens → (v : Result View Fault) → view_verdict tree name old ≡ v → Makes v old answer entries new → IsAsked
  makes_asked tokens tree name asked spelt (Err why) is a = refused_asked why a.answered
  makes_asked tokens tree name asked spelt (Ok other) is a =
      let same : other ≡ view = same_last old.views other view (ap (λ (s : EngineState). s.views) (sym a.state ∙ made.state)) in
      let parts = asked_for tree name old other is in
      subst (λ (v : View). AsksForView line v.name v.query) same
      (record {
        tokens = tokens;
        tree = tree;
        asked = subst (λ (n : List ℕ). Asks line (ViewOf n tokens)) (sym parts.0) asked;
        spelt = spelt;
        is = parts.1;
      })

  executes_asked : (v : Result Executed Fault) → Executes v old answer entries new → IsAsked
  executes_asked (Err why) a = refused_asked why a.answered
  executes_asked (Ok executed) a = otherwise _ a.answered (λ same. cc)

  shows_asked : (name : List ℕ) (v : Result View Fault) → Shows name v old answer entries new → IsAsked
  shows_asked name (Err why) a = refused_asked why a.answered
  shows_asked name (Ok shown) (rows, are, a) = otherwise _ a.answered (λ same. cc)

  tells_asked : (name : List ℕ) (tick : ℕ) (v : Result View Fault) → AnswersSince name tick v old answer entries new → IsAsked
  tells_asked name tick (Err why) a = refused_asked why a.answered
  tells_asked name tick (Ok shown) a = from (answer_since tick shown.feed) a
    where
      from : (told : feeds.Answer) → ShowsAnswer name shown told old answer entries new → IsAsked
      from (Since changes) a = otherwise _ a.answered (λ same. cc)
      from Lagged a = shows_asked name (Ok shown) a

  drops_asked : (v : Result View Fault) → Drops v old answer entries new → IsAsked
  drops_asked (Err why) a = refused_asked why a.answered
  drops_asked (Ok gone) a = otherwise _ a.answered (λ same. cc)

  indexes_asked : (v : Result Pair Fault) → Indexes v old answer entries new → IsAsked
  indexes_asked (Err why) a = refused_asked why a.answered
  indexes_asked (Ok pair) a = otherwise _ a.answered (λ same. cc)

  answers_asked : (tokens : List Token) → tokens_of line ≡ Ok tokens → (asked : Request) → request line tokens ≡ asked → Answers line asked old answer entries new → IsAsked
  answers_asked tokens lexed (StatementOf ts) is (inl (tree, spelt, a)) = executes_asked (statement_verdict tree old) a
  answers_asked tokens lexed (StatementOf ts) is (inr (why, unspelt, a)) = refused_asked (fault.Parse why) a.answered
  answers_asked tokens lexed (ViewOf name ts) is (inl (tree, spelt, a)) =
      makes_asked ts tree name (record { tokens = tokens; lexed = lexed; is = is }) spelt (view_verdict tree name old) refl a
  answers_asked tokens lexed (ViewOf name ts) is (inr (why, unspelt, a)) = refused_asked (fault.Parse why) a.answered
  answers_asked tokens lexed (RowsOf name) is a = shows_asked name (rows_verdict name old) a
  answers_asked tokens lexed (SinceOf name tick) is a = tells_asked name tick (since_verdict name tick old) a
  answers_asked tokens lexed ListOfSteps is a = otherwise _ a.replied.answered (λ same. cc)
  answers_asked tokens lexed (DropOf name) is a = drops_asked (rows_verdict name old) a
  answers_asked tokens lexed (IndexOf label key) is a = indexes_asked (index_verdict label key old) a
  answers_asked tokens lexed (Refused why) is a = refused_asked why a.answered
  answers_asked tokens lexed _ is a = otherwise _ a.answered (λ same. cc)

  lexed_asked : (lexed : Result (List Token) LexFault) → tokens_of line ≡ lexed → Lexed line lexed old answer entries new → IsAsked
  lexed_asked (Err why) is a = refused_asked (fault.Lex why) a.answered
  lexed_asked (Ok tokens) is a = answers_asked tokens is (request line tokens) refl a

  pub step_asked : EngineStep old line answer entries new → IsAsked
  step_asked (inl (why, lacks, a)) = refused_asked why a.answered
  step_asked (inr a) = lexed_asked (tokens_of line) refl a
