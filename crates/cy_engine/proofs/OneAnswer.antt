-- What becomes of a line is determined.
use Rattle.std.proofs.Common.{◌≡◌, ℕ, true, false, List, [], ◌∷◌, map, Result, Ok, Err, refl, sym, ap, subst, ◌∙◌, inl, inr}
use Rattle.std.specs.Prelude.{IsTrue}
use Rattle.std.specs.Cmp.{IsTotalOrder}
use Rattle.cy_lexer.specs.declared.faults.LexFault.{LexFault}
use Rattle.cy_lexer.specs.declared.tokens.Token.{Token}
use Rattle.cy_lexer.specs.Tokens.{tokens_of}
use Rattle.cy_parser_grammar.specs.SpellsClauses.{SpellsStatement}
use Rattle.cy_trees.specs.Trees.{Statement}
use Rattle.cy_values.specs.declared.rows.Cell.{Cell}
use Rattle.cy_values.specs.Bag.{IsSurplus}
use Rattle.cy_values.specs.Order.{row_cmp}
use Rattle.cy_values.proofs.Identity.{same_rows}
use Rattle.cy_graph.specs.Graph.{Content}
use Rattle.cy_parser.specs.declared.faults.ParseFault.{ParseFault}
use Rattle.cy_index.specs.declared.keys.Pair.{Pair}
use Rattle.cy_bags.specs.declared.changes.Change.{Change}
use Rattle.cy_bags.specs.declared.changes.Entry.{Entry}
use Rattle.cy_feeds.specs.declared.feeds.Answer as feeds
use Rattle.cy_feeds.specs.declared.feeds.Answer.TheVariants.{Entries as Since, Lagged}
use Rattle.cy_feeds.specs.Feeds.{answer_since}
use Rattle.cy_engine_lines.specs.declared.faults.Fault.{Fault}
use Rattle.cy_engine_lines.specs.declared.faults.Fault.TheVariants as fault
use Rattle.cy_engine_lines.specs.declared.replies.Reply.{Reply}
use Rattle.cy_engine_lines.specs.declared.replies.Reply.TheVariants as reply
use Rattle.cy_bags.specs.Difference.{IsDifference}
use Rattle.cy_engine_lines.specs.Requests.{Request, Nothing, StatementOf, ViewOf, RowsOf, SinceOf, ListOfViews, ListOfSteps, DropOf, IndexOf, Refused, request}
use Rattle.cy_engine.specs.Runs.{Agree, IsBound, IsDetermined, is_choice, is_want, seen_answer}
use Rattle.cy_engine_lines.specs.State.{EngineState}
use Rattle.cy_engine_views.specs.RegisteredViews.{AreEntries, Entries, IsEntry, View, fed, listed, rows_of}
use Rattle.cy_engine_lines.specs.EngineStep.{Answer, AreRows, IsListOfSteps, IsRefused, IsReplied, Executes, Lacks, Makes, Drops, Indexes, Shows, ShowsAnswer, AnswersSince, Answers, Lexed}
use Rattle.cy_engine_lines.specs.Verdicts.{Executed, index_verdict, rows_verdict, since_verdict, statement_verdict, view_verdict}
use Rattle.cy_bags.proofs.Surpluses.{same_pairs}

abbrev IsOne : Type 0
IsOne = (line : List ℕ) (tokens : List Token) (statement other : Statement) → SpellsStatement line statement tokens → SpellsStatement line other tokens → statement ≡ other

-- ---- the numbers of steps

-- a view's name with no number of steps
abbrev unnumbered : List ℕ × ℕ → List ℕ × ℕ
unnumbered s = (s.0, 0)

abbrev only_named : List ℕ → List ℕ × ℕ
only_named name = (name, 0)

steps_seen : (steps : List (List ℕ × ℕ)) → map unnumbered steps ≡ map only_named (map (λ s. s.0) steps)
steps_seen [] = refl
steps_seen (s ∷ steps) = ap (λ (xs : List (List ℕ × ℕ)). only_named s.0 ∷ xs) (steps_seen steps)

-- ---- from one state

module _ (total : IsTotalOrder row_cmp) where
  surplus_one : (more less : List (List Cell)) (ps qs : List (List Cell × ℕ)) → IsSurplus more less ps → IsSurplus more less qs → ps ≡ qs
  surplus_one more less ps qs a b = same_pairs total same_rows ps qs a.canonical b.canonical (λ row. a.counts row ∙ sym (b.counts row))

  change_one : (before after : List (List Cell)) (c d : Change) → IsDifference before after c → IsDifference before after d → c ≡ d
  change_one before after c d a b =
      let removed : c.removed ≡ d.removed = surplus_one before after c.removed d.removed a.removed b.removed in
      let added : c.added ≡ d.added = surplus_one after before c.added d.added a.added b.added in
      λ i. record { removed = removed i; added = added i }

  entry_one : (query : Statement) (before after : Content) (tick : ℕ) (e f : Entry) → IsEntry query before after tick e → IsEntry query before after tick f → e ≡ f
  entry_one query before after tick e f a b =
      let ticks : e.tick ≡ f.tick = a.tick_is ∙ sym b.tick_is in
      let changes : e.change ≡ f.change = change_one (rows_of query before) (rows_of query after) e.change f.change a.difference b.difference in
      λ i. record { tick = ticks i; change = changes i }

  entries_one : (views : List View) (before after : Content) (tick : ℕ) (es fs : Entries) → AreEntries views before after tick es → AreEntries views before after tick fs → es ≡ fs
  entries_one [] before after tick es fs a b = a ∙ sym b
  entries_one (view ∷ views) before after tick es fs (inl a) (inl b) = entries_one views before after tick es fs a.1 b.1
  entries_one (view ∷ views) before after tick es fs (inl a) (inr (entry, others, is, is_entry, rest)) = absurd (is_entry.differs a.0)
  entries_one (view ∷ views) before after tick es fs (inr (entry, others, is, is_entry, rest)) (inl b) = absurd (is_entry.differs b.0)
  entries_one (view ∷ views) before after tick es fs (inr (entry, others, is, is_entry, rest)) (inr (entry_2, others_2, is_2, is_entry_2, rest_2)) =
      let one : entry ≡ entry_2 = entry_one view.query before after tick entry entry_2 is_entry is_entry_2 in
      let more : others ≡ others_2 = entries_one views before after tick others others_2 rest rest_2 in
      is ∙ (λ i. (view.name, one i) ∷ more i) ∙ sym is_2

  rows_one : (state : EngineState) (view : View) (rows more : List (List Cell × ℕ)) → AreRows state view rows → AreRows state view more → rows ≡ more
  rows_one state view rows more a b = same_pairs total same_rows rows more a.canonical b.canonical (λ row. a.bag row ∙ sym (b.bag row))

  module _ (one : IsOne) (old : EngineState) (answer again : Answer) (entries more : Entries) (new other : EngineState) where
    abbrev Same : Type 0
    Same = Agree answer again × (entries ≡ more) × (new ≡ other)

    refused_one : (why : Fault) → IsRefused why old answer entries new → IsRefused why old again more other → Same
    refused_one why a b = (inl (ap seen_answer (a.answered ∙ sym b.answered)), a.no_entries ∙ sym b.no_entries, a.state ∙ sym b.state)

    replied_one : (r s : Reply) → seen_answer (Ok r) ≡ seen_answer (Ok s) → IsReplied r old answer entries new → IsReplied s old again more other → Same
    replied_one r s same a b = (inl (ap seen_answer a.answered ∙ same ∙ sym (ap seen_answer b.answered)), a.no_entries ∙ sym b.no_entries, a.state ∙ sym b.state)

    executes_one : (v : Result Executed Fault) → Executes v old answer entries new → Executes v old again more other → Same
    executes_one (Err why) a b = refused_one why a b
    executes_one (Ok executed) a b =
        let same : entries ≡ more = entries_one old.views old.graph.content executed.outcome.graph.content executed.tick entries more a.entries_are b.entries_are in (
          inl (ap seen_answer (a.answered ∙ sym b.answered)),
          same,
          a.state ∙ (λ i. record old { graph = executed.outcome.graph; views = map (fed (same i)) old.views; tick = executed.tick }) ∙ sym b.state,
        )

    makes_one : (v : Result View Fault) → Makes v old answer entries new → Makes v old again more other → Same
    makes_one (Err why) a b = refused_one why a b
    makes_one (Ok view) a b = (inl (ap seen_answer (a.answered ∙ sym b.answered)), a.no_entries ∙ sym b.no_entries, a.state ∙ sym b.state)

    drops_one : (v : Result View Fault) → Drops v old answer entries new → Drops v old again more other → Same
    drops_one (Err why) a b = refused_one why a b
    drops_one (Ok view) a b = (inl (ap seen_answer (a.answered ∙ sym b.answered)), a.no_entries ∙ sym b.no_entries, a.state ∙ sym b.state)

    indexes_one : (v : Result Pair Fault) → Indexes v old answer entries new → Indexes v old again more other → Same
    indexes_one (Err why) a b = refused_one why a b
    indexes_one (Ok pair) a b = (inl (ap seen_answer (a.answered ∙ sym b.answered)), a.no_entries ∙ sym b.no_entries, a.state ∙ sym b.state)

    shows_one : (name : List ℕ) (v : Result View Fault) → Shows name v old answer entries new → Shows name v old again more other → Same
    shows_one name (Err why) a b = refused_one why a b
    shows_one name (Ok view) (rows, are, a) (rows_2, are_2, b) =
        replied_one (reply.Rows rows old.tick name) (reply.Rows rows_2 old.tick name) (ap (λ (r : List (List Cell × ℕ)). let x : Answer = Ok (reply.Rows r old.tick name) in x) (rows_one old view rows rows_2 are are_2)) a b

    tells_one : (name : List ℕ) (tick : ℕ) (v : Result View Fault) → AnswersSince name tick v old answer entries new → AnswersSince name tick v old again more other → Same
    tells_one name tick (Err why) a b = refused_one why a b
    tells_one name tick (Ok view) a b = from (answer_since tick view.feed) a b
      where
        from : (told : feeds.Answer) → ShowsAnswer name view told old answer entries new → ShowsAnswer name view told old again more other → Same
        from (Since changes) a b = replied_one (reply.Entries changes old.tick name) (reply.Entries changes old.tick name) refl a b
        from Lagged a b = shows_one name (Ok view) a b

    -- numbers of steps are listed for the same names
    steps_one : IsListOfSteps old answer entries new → IsListOfSteps old again more other → Same
    steps_one a b =
        replied_one (reply.Steps a.steps) (reply.Steps b.steps)
        (ap (λ (xs : List (List ℕ × ℕ)). let x : Answer = Ok (reply.Steps xs) in x) (steps_seen a.steps ∙ ap (map only_named) (a.named ∙ sym b.named) ∙ sym (steps_seen b.steps)))
        a.replied b.replied

    parsers : (a : Answer) (why : Fault) → a ≡ Err why → is_choice (Err why) ≡ true → IsTrue (is_choice a)
    parsers a why is known = ap is_choice is ∙ known

    unspelt_one : (why why_2 : ParseFault) → IsRefused (fault.Parse why) old answer entries new → IsRefused (fault.Parse why_2) old again more other → Same
    unspelt_one why why_2 a b = (
      inr (parsers answer (fault.Parse why) a.answered refl, parsers again (fault.Parse why_2) b.answered refl),
      a.no_entries ∙ sym b.no_entries,
      a.state ∙ sym b.state,
    )

    answers_one : (line : List ℕ) (asked : Request) → Answers line asked old answer entries new → Answers line asked old again more other → Same
    answers_one line Nothing a b = replied_one reply.Nothing reply.Nothing refl a b
    answers_one line (StatementOf tokens) (inl (tree, spelt, a)) (inl (tree_2, spelt_2, b)) =
        executes_one (statement_verdict tree old) a (subst (λ (t : Statement). Executes (statement_verdict t old) old again more other) (one line tokens tree_2 tree spelt_2 spelt) b)
    answers_one line (StatementOf tokens) (inl (tree, spelt, a)) (inr (why, unspelt, b)) = absurd (unspelt.unspelt tree spelt)
    answers_one line (StatementOf tokens) (inr (why, unspelt, a)) (inl (tree, spelt, b)) = absurd (unspelt.unspelt tree spelt)
    answers_one line (StatementOf tokens) (inr (why, unspelt, a)) (inr (why_2, unspelt_2, b)) = unspelt_one why why_2 a b
    answers_one line (ViewOf name tokens) (inl (tree, spelt, a)) (inl (tree_2, spelt_2, b)) =
        makes_one (view_verdict tree name old) a (subst (λ (t : Statement). Makes (view_verdict t name old) old again more other) (one line tokens tree_2 tree spelt_2 spelt) b)
    answers_one line (ViewOf name tokens) (inl (tree, spelt, a)) (inr (why, unspelt, b)) = absurd (unspelt.unspelt tree spelt)
    answers_one line (ViewOf name tokens) (inr (why, unspelt, a)) (inl (tree, spelt, b)) = absurd (unspelt.unspelt tree spelt)
    answers_one line (ViewOf name tokens) (inr (why, unspelt, a)) (inr (why_2, unspelt_2, b)) = unspelt_one why why_2 a b
    answers_one line (RowsOf name) a b = shows_one name (rows_verdict name old) a b
    answers_one line (SinceOf name tick) a b = tells_one name tick (since_verdict name tick old) a b
    answers_one line ListOfViews a b = replied_one (reply.Views (map listed old.views)) (reply.Views (map listed old.views)) refl a b
    answers_one line ListOfSteps a b = steps_one a b
    answers_one line (DropOf name) a b = drops_one (rows_verdict name old) a b
    answers_one line (IndexOf label key) a b = indexes_one (index_verdict label key old) a b
    answers_one line (Refused why) a b = refused_one why a b

    lexed_one : (line : List ℕ) (lexed : Result (List Token) LexFault) → Lexed line lexed old answer entries new → Lexed line lexed old again more other → Same
    lexed_one line (Err why) a b = refused_one (fault.Lex why) a b
    lexed_one line (Ok tokens) a b = answers_one line (request line tokens) a b

  no_lack : (line : List ℕ) (state : EngineState) (answer : Answer) (why : Fault) → Lacks line state why → answer ≡ Err why → IsBound answer → ⊥
  no_lack line state answer why (inl (is, short, some)) answered bound = let wrong : true ≡ false = sym (ap is_want (answered ∙ ap Err is)) ∙ bound in cc
  no_lack line state answer why (inr (is, many)) answered bound = let wrong : true ≡ false = sym (ap is_want (answered ∙ ap Err is)) ∙ bound in cc

  pub step_one : IsOne → IsDetermined
  step_one one old new other line answer again entries more (inl (why, lacks, a)) b bound bound_2 = absurd (no_lack line old answer why lacks a.answered bound)
  step_one one old new other line answer again entries more (inr a) (inl (why, lacks, b)) bound bound_2 = absurd (no_lack line old again why lacks b.answered bound_2)
  step_one one old new other line answer again entries more (inr a) (inr b) bound bound_2 = lexed_one one old answer again entries more new other line (tokens_of line) a b
