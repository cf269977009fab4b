-- A line, from its tokens to its step.
use Rattle.std.proofs.Common.{◌≡◌, ◌≢◌, ◌⊎◌, ◌<◌, ◌≤◌, ℕ, nat_lt, true, false, List, [], ◌∷◌, length, map, Result, Ok, Err, refl, sym, ap, subst, ◌∙◌, inl, inr, arith}
use Rattle.std.proofs.lemmas.Bool.Decides.{nat_tests}
use Rattle.cy_lexer.specs.declared.faults.LexFault.{LexFault}
use Rattle.cy_lexer.specs.declared.faults.LexFault.TheVariants as lex
use Rattle.cy_lexer.specs.declared.tokens.Token.{Token}
use Rattle.cy_lexer.specs.Line.{longest_line}
use Rattle.cy_lexer.specs.Tokens.{tokens_of}
use Rattle.cy_engine_lines.specs.declared.faults.Fault.{Fault}
use Rattle.cy_engine_lines.specs.declared.faults.Fault.TheVariants as fault
use Rattle.cy_engine_lines.specs.declared.replies.Reply.{Reply}
use Rattle.cy_engine_lines.specs.declared.replies.Reply.TheVariants as reply
use Rattle.cy_feeds.specs.declared.feeds.Answer as feeds
use Rattle.cy_feeds.specs.Feeds.{answer_since}
use Rattle.cy_engine_lines.specs.Faults.{of_lexer}
use Rattle.cy_engine_lines.specs.internal.Stages.{AnswersKept, AnswersOrWants, ListsSteps, ListsViews, ShowsChanges, ShowsRows, ShowsSince}
use Rattle.cy_engine_lines.specs.Requests.{Request, Nothing, RowsOf, SinceOf, ListOfViews, ListOfSteps, Refused, request}
use Rattle.cy_engine_lines.specs.Model.{Machine}
use Rattle.cy_engine_lines.specs.State.{EngineState}
use Rattle.cy_engine_views.specs.HeldViews.{Held, view_of}
use Rattle.cy_engine_views.specs.Upkeep.{Upkeep, upkeep_of}
use Rattle.cy_engine_views.specs.RegisteredViews.{Entries, View, listed}
use Rattle.cy_engine_lines.specs.EngineStep.{Answer, Answers, ShowsAnswer, IsRefused, IsReplied, Lexed, Shows, EngineStep, AnswersSince}
use Rattle.cy_engine_lines.specs.KeptStep.{AsksTooMuch, HasTooMany, Keeps, KeptState, KeptStep, kept_state_of}
use Rattle.cy_engine_lines.proofs.FromTokens.{lexed}
use Rattle.cy_engine_lines.proofs.Keeping.{keeps_more, keeps_refused, keeps_said}
use Rattle.cy_engine_lines.proofs.Refusals.{is_against, request_other, rows_other, since_other, wants_memory}

short_or_long : (n m : ℕ) → (n ≤ m) ⊎ (m < n)
short_or_long n m =
    elim (nat_lt m n) as (λ b. nat_lt m n ≡ b → (n ≤ m) ⊎ (m < n)) [
      | true ↦ λ h. inr (grind (arith, nat_tests))
      | false ↦ λ h. inl (grind (arith, nat_tests))
    ] refl

-- a line that asks for something has tokens
pub asks_some : (line : List ℕ) (tokens : List Token) (asked : Request) → request line tokens ≡ asked → (Nothing ≡ asked → ⊥) → tokens ≡ [] → ⊥
asks_some line tokens asked asks real none = real (sym (ap (request line) none) ∙ asks)

-- a line that isn't made of tokens
pub lex_refused : (line : List ℕ) (old : KeptState) (entries : Entries) (why : LexFault) → entries ≡ [] → (why ≢ lex.NoMemory → tokens_of line ≡ Err why) → (longest_line < length line → why ≡ lex.LineTooLong)
    → (why ≡ lex.NoMemory → tokens_of line ≢ Ok []) → KeptStep old line (Err (of_lexer why)) entries old
lex_refused line old entries why none said long memory = from (lexed why)
  where
    no_want : of_lexer why ≡ fault.NoMemory → (length line ≤ longest_line) ⊎ (longest_line < length line) → length line ≤ longest_line
    no_want is (inl short) = short
    no_want is (inr past) = let wrong : of_lexer lex.LineTooLong ≡ fault.NoMemory = ap of_lexer (sym (long past)) ∙ is in absurd (cc)

    kept : (of_lexer why ≢ fault.TooManyRows) → EngineStep old.engine line (Err (of_lexer why)) entries old.engine → KeptStep old line (Err (of_lexer why)) entries old
    kept others step = record { step = step; upkeep = keeps_refused (AsksTooMuch line old) (of_lexer why) old old refl (λ many. absurd (others many)) }

    from : (((why ≡ lex.NoMemory) × (of_lexer why ≡ fault.NoMemory)) ⊎ ((why ≢ lex.NoMemory) × (of_lexer why ≡ fault.Lex why))) → KeptStep old line (Err (of_lexer why)) entries old
    from (inl (wants, is)) =
        kept (λ many. cc) (inl (fault.NoMemory, inl (refl, no_want is (short_or_long (length line) longest_line), memory wants), record { answered = ap Err is; no_entries = none; state = refl }))
    from (inr (is_other, is)) =
        kept (λ many. cc) (inr (subst (λ (r : Result (List Token) LexFault). Lexed line r old.engine (Err (of_lexer why)) entries old.engine) (sym (said is_other))
        (let refused : IsRefused (fault.Lex why) old.engine (Err (of_lexer why)) entries old.engine = record { answered = ap Err is; no_entries = none; state = refl } in refused)))

-- a line of tokens, which ask for this
module _ (line : List ℕ) (tokens : List Token) (asked : Request) (made : tokens_of line ≡ Ok tokens) (asks : request line tokens ≡ asked) where
  -- is answered as it asks, where nothing is lacking
  pub answered_step : (old : EngineState) (answer : Answer) (entries : Entries) (new : EngineState) → Answers line asked old answer entries new → EngineStep old line answer entries new
  answered_step old answer entries new answers =
      inr (subst (λ (r : Result (List Token) LexFault). Lexed line r old answer entries new) (sym made)
      (subst (λ (q : Request). Answers line q old answer entries new) (sym asks) answers))

  module _ (short : longest_line < length line → ⊥) (some : tokens ≡ [] → ⊥) where
    -- and where something may be
    line_step : (old : EngineState) (answer : Answer) (entries : Entries) (new : EngineState) → AnswersOrWants line asked old answer entries new → EngineStep old line answer entries new
    line_step old answer entries new (inl wants) = inl (fault.NoMemory, inl (refl, from (short_or_long (length line) longest_line), λ none. some (same_tokens none)), wants)
      where
        same_tokens : tokens_of line ≡ Ok [] → tokens ≡ []
        same_tokens none = let same : (let r : Result (List Token) LexFault = Ok tokens in r) ≡ Ok [] = sym made ∙ none in cc

        from : (length line ≤ longest_line) ⊎ (longest_line < length line) → length line ≤ longest_line
        from (inl h) = h
        from (inr h) = absurd (short h)
    line_step old answer entries new (inr (inl (many, refused))) = inl (fault.TooManyRows, inr (refl, (asked, record { tokens = tokens; lexed = made; is = asks }, many)), refused)
    line_step old answer entries new (inr (inr answers)) = answered_step old answer entries new answers

    -- with the upkeep of views
    pub kept_step : (old : KeptState) (answer : Answer) (entries : Entries) (new : KeptState) → AnswersKept line asked old answer entries new → KeptStep old line answer entries new
    kept_step old answer entries new kept = record {
      step = line_step old.engine answer entries new.engine kept.answers;
      upkeep = keeps_more (HasTooMany line asked old) (AsksTooMuch line old) (λ many. (asked, record { tokens = tokens; lexed = made; is = asks }, many)) answer old new kept.upkeep;
    }

-- a command that is refused
pub request_refused : (line : List ℕ) (tokens : List Token) (old : KeptState) (entries : Entries) (why : Fault) → entries ≡ [] → tokens_of line ≡ Ok tokens → (longest_line < length line → ⊥) → (tokens ≡ [] → ⊥)
    → (why ≡ fault.NoMemory) ⊎ (request line tokens ≡ Refused why) → KeptStep old line (Err why) entries old
request_refused line tokens old entries why none made short some (inl wants) =
    kept_step line tokens (request line tokens) made refl short some old (Err why) entries old (wants_memory line (request line tokens) old entries old none refl why wants)
request_refused line tokens old entries why none made short some (inr asks) =
    kept_step line tokens (Refused why) made asks short some old (Err why) entries old
    (is_against line (Refused why) old entries old none refl why (request_other line tokens why asks) (record { answered = refl; no_entries = none; state = refl }))

-- ---- what is answered to commands, which leave all as it was

module _ (line : List ℕ) (state : KeptState) (entries : Entries) (none : entries ≡ []) where
  -- `:rows`
  pub rows_answered : (name : List ℕ) (answer : Answer) → ShowsRows state.engine name answer → AnswersKept line (RowsOf name) state answer entries state
  rows_answered name (Ok reply.Nothing) shows = absurd shows
  rows_answered name (Ok (reply.Statement changed columns rows)) shows = absurd shows
  rows_answered name (Ok (reply.Made columns tick view)) shows = absurd shows
  rows_answered name (Ok (reply.Rows rows tick view)) (found, is, are, ticks, named) = record {
    answers = inr (inr (subst (λ (v : Result View Fault). Shows name v state.engine (Ok (reply.Rows rows tick view)) entries state.engine) (sym is)
        (rows, are, record { answered = λ i. Ok (reply.Rows rows (ticks i) (named i)); no_entries = none; state = refl })));
    upkeep = refl;
  }
  rows_answered name (Ok (reply.Entries changes tick view)) shows = absurd shows
  rows_answered name (Ok (reply.Dropped view)) shows = absurd shows
  rows_answered name (Ok (reply.Views views)) shows = absurd shows
  rows_answered name (Ok (reply.Steps steps)) shows = absurd shows
  rows_answered name (Ok (reply.Index label key)) shows = absurd shows
  rows_answered name (Err why) (inl wants) = wants_memory line (RowsOf name) state entries state none refl why wants
  rows_answered name (Err why) (inr is) =
      is_against line (RowsOf name) state entries state none refl why (rows_other name state.engine why is)
      (subst (λ (v : Result View Fault). Shows name v state.engine (Err why) entries state.engine) (sym is)
      (let refused : IsRefused why state.engine (Err why) entries state.engine = record { answered = refl; no_entries = none; state = refl } in refused))

  -- `:since`
  pub since_answered : (name : List ℕ) (since : ℕ) (answer : Answer) → ShowsSince state.engine name since answer → AnswersKept line (SinceOf name since) state answer entries state
  since_answered name since (Err why) (inl wants) = wants_memory line (SinceOf name since) state entries state none refl why wants
  since_answered name since (Err why) (inr is) =
      is_against line (SinceOf name since) state entries state none refl why (since_other name state.engine why since is)
      (subst (λ (v : Result View Fault). AnswersSince name since v state.engine (Err why) entries state.engine) (sym is)
      (let refused : IsRefused why state.engine (Err why) entries state.engine = record { answered = refl; no_entries = none; state = refl } in refused))
  since_answered name since (Ok given) (found, is, shows) =
      let tells = told given shows in
      record { answers = inr (inr (subst (λ (v : Result View Fault). AnswersSince name since v state.engine (Ok given) entries state.engine) (sym is) tells.0)); upkeep = tells.1 }
    where
      told : (given : Reply) → ShowsChanges state.engine name since found given → ShowsAnswer name found (answer_since since found.feed) state.engine (Ok given) entries state.engine × Keeps ⊥ (Ok given) state state
      told reply.Nothing shows = absurd shows
      told (reply.Statement changed columns rows) shows = absurd shows
      told (reply.Made columns tick view) shows = absurd shows
      told (reply.Rows rows tick view) (lagged, are, ticks, named) = (
        subst (λ (a : feeds.Answer). ShowsAnswer name found a state.engine (Ok (reply.Rows rows tick view)) entries state.engine) (sym lagged)
            (rows, are, record { answered = λ i. Ok (reply.Rows rows (ticks i) (named i)); no_entries = none; state = refl }),
        refl,
      )
      told (reply.Entries changes tick view) (says, ticks, named) = (
        subst (λ (a : feeds.Answer). ShowsAnswer name found a state.engine (Ok (reply.Entries changes tick view)) entries state.engine) (sym says)
            (let replied : IsReplied (reply.Entries changes state.engine.tick name) state.engine (Ok (reply.Entries changes tick view)) entries state.engine =
            record { answered = λ i. Ok (reply.Entries changes (ticks i) (named i)); no_entries = none; state = refl } in replied),
        refl,
      )
      told (reply.Dropped view) shows = absurd shows
      told (reply.Views views) shows = absurd shows
      told (reply.Steps steps) shows = absurd shows
      told (reply.Index label key) shows = absurd shows

  -- `:views`
  pub views_answered : (answer : Answer) → ListsViews state.engine answer → AnswersKept line ListOfViews state answer entries state
  views_answered (Err why) wants = wants_memory line ListOfViews state entries state none refl why wants
  views_answered (Ok given) is = record {
    answers = inr (inr (record { answered = ap Ok is; no_entries = none; state = refl }));
    upkeep = keeps_said ⊥ given (reply.Views (map listed state.engine.views)) state state is refl;
  }

-- `:steps`: the views are kept up by their names
named_alike : (views : List Held) → map (λ (s : List ℕ × ℕ). s.0) (map (λ (u : Upkeep). (u.name, u.steps)) (map upkeep_of views)) ≡ map (λ (v : View). v.name) (map view_of views)
named_alike [] = refl
named_alike (v ∷ views) = ap (λ names. v.name ∷ names) (named_alike views)

pub steps_answered : (line : List ℕ) (engine : Machine) (entries : Entries) (answer : Answer) → entries ≡ [] → ListsSteps (kept_state_of engine) answer
    → AnswersKept line ListOfSteps (kept_state_of engine) answer entries (kept_state_of engine)
steps_answered line engine entries (Err why) none wants = wants_memory line ListOfSteps (kept_state_of engine) entries (kept_state_of engine) none refl why wants
steps_answered line engine entries (Ok given) none is =
    let state : KeptState = kept_state_of engine in
    let steps : List (List ℕ × ℕ) = map (λ u. (u.name, u.steps)) state.upkeep in
    record {
      answers = inr (inr (record { steps = steps; named = named_alike engine.views; replied = record { answered = ap Ok is; no_entries = none; state = refl } }));
      upkeep = keeps_said ⊥ given (reply.Steps steps) state state is (record { are = refl; same = refl });
    }

pub no_error : {A : Type 0} (x : A) (why : LexFault) → (let r : Result A LexFault = Ok x in r) ≡ Err why → ⊥
no_error x why is = cc

pub same_error : {A : Type 0} (why other : LexFault) → (let r : Result A LexFault = Err why in r) ≡ Err other → why ≡ other
same_error why other is = cc
