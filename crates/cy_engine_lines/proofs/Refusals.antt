-- Why a line is refused: that rows are too many is no verdict's reason against what it asks for, nor one against its command.
use Rattle.std.proofs.Common.{◌≡◌, ◌≢◌, ℕ, Bool, true, false, cond, List, [], ◌∷◌, Option, None, Some, Err, ap, ◌∙◌, arith, inl, inr}
use Rattle.cy_lexer.specs.declared.tokens.Token.{Token}
use Rattle.cy_trees.specs.Trees.{Statement}
use Rattle.cy_graph.specs.Graph.{State}
use Rattle.cy_engine_views.specs.RegisteredViews.{Entries}
use Rattle.cy_engine_lines.specs.declared.faults.Fault.{Fault}
use Rattle.cy_engine_lines.specs.declared.faults.Fault.TheVariants as fault
use Rattle.cy_engine_lines.specs.internal.Stages.{AnswersKept}
use Rattle.cy_engine_lines.specs.EngineStep.{Answers}
use Rattle.cy_engine_lines.specs.KeptStep.{HasTooMany, KeptState}
use Rattle.cy_engine_lines.specs.Requests.{Request, Refused, command_request, drop_request, index_request, request, rows_request, since_from, since_request, steps_request, view_request, views_request, without_end}
use Rattle.cy_engine_lines.specs.State.{EngineState}
use Rattle.cy_engine_lines.specs.Verdicts.{execution_verdict, making_verdict, query_verdict, rows_verdict, scope_verdict, since_verdict}
use Rattle.cy_engine_lines.proofs.Keeping.{keeps_refused}

-- ---- verdicts

pub scope_other : (tree : Statement) (why : Fault) → scope_verdict tree ≡ Err why → why ≢ fault.TooManyRows
scope_other tree why is many = grind arith

pub query_other : (tree : Statement) (why : Fault) → query_verdict tree ≡ Err why → why ≢ fault.TooManyRows
query_other tree why is many = grind arith

pub execution_other : (resolved : Statement) (graph : State) (tick : ℕ) (why : Fault) → execution_verdict resolved graph tick ≡ Err why → why ≢ fault.TooManyRows
execution_other resolved graph tick why is many = grind arith

module _ (name : List ℕ) (state : EngineState) (why : Fault) where
  pub making_other : making_verdict name state ≡ Err why → why ≢ fault.TooManyRows
  making_other is many = grind arith

  pub rows_other : rows_verdict name state ≡ Err why → why ≢ fault.TooManyRows
  rows_other is many = grind arith

  pub since_other : (tick : ℕ) → since_verdict name tick state ≡ Err why → why ≢ fault.TooManyRows
  since_other tick is many = grind arith

-- ---- commands

-- what is asked for is no command that is refused since rows are too many
abbrev IsOther : Request → Type 0
IsOther asked = asked ≢ Refused fault.TooManyRows

asks_view : (line : List ℕ) (tokens : List Token) → IsOther (view_request line tokens)
asks_view line [] is = cc
asks_view line (name ∷ query) is = grind arith

asks_rows : (line : List ℕ) (tokens : List Token) → IsOther (rows_request line tokens)
asks_rows line [] is = cc
asks_rows line (name ∷ []) is = grind arith
asks_rows line (name ∷ more ∷ tokens) is = cc

asks_from : (name : List ℕ) (o : Option ℕ) → IsOther (since_from name o)
asks_from name None is = cc
asks_from name (Some tick) is = cc

asks_since : (line : List ℕ) (tokens : List Token) → IsOther (since_request line tokens)
asks_since line [] is = cc
asks_since line (name ∷ []) is = cc
asks_since line (name ∷ tick ∷ []) is = grind (arith, asks_from)
asks_since line (name ∷ tick ∷ more ∷ tokens) is = cc

asks_views : (tokens : List Token) → IsOther (views_request tokens)
asks_views [] is = cc
asks_views (t ∷ ts) is = cc

asks_steps : (tokens : List Token) → IsOther (steps_request tokens)
asks_steps [] is = cc
asks_steps (t ∷ ts) is = cc

asks_drop : (line : List ℕ) (tokens : List Token) → IsOther (drop_request line tokens)
asks_drop line [] is = cc
asks_drop line (name ∷ []) is = grind arith
asks_drop line (name ∷ more ∷ tokens) is = cc

asks_index : (line : List ℕ) (tokens : List Token) → IsOther (index_request line tokens)
asks_index line [] is = cc
asks_index line (label ∷ []) is = cc
asks_index line (label ∷ key ∷ []) is = grind arith
asks_index line (label ∷ key ∷ more ∷ tokens) is = cc

either : (b : Bool) (asked others : Request) → IsOther asked → IsOther others → IsOther (cond b asked others)
either true asked others is are = is
either false asked others is are = are

asks_command : (line : List ℕ) (tokens : List Token) → IsOther (command_request line tokens)
asks_command line [] = λ is. cc
asks_command line (word ∷ arguments) =
    let ended : List Token = without_end arguments in
    let unknown : IsOther (Refused fault.UnknownCommand) = λ is. cc in
    either _ _ _ (asks_view line arguments)
    (either _ _ _ (asks_rows line ended)
    (either _ _ _ (asks_since line ended)
    (either _ _ _ (asks_views ended)
    (either _ _ _ (asks_drop line ended)
    (either _ _ _ (asks_steps ended)
    (either _ _ _ (asks_index line ended) unknown))))))

asks_other : (line : List ℕ) (tokens : List Token) → IsOther (request line tokens)
asks_other line [] is = cc
asks_other line (t ∷ ts) is = grind (arith, asks_command)

pub request_other : (line : List ℕ) (tokens : List Token) (why : Fault) → request line tokens ≡ Refused why → why ≢ fault.TooManyRows
request_other line tokens why is many = asks_other line tokens (is ∙ ap Refused many)

-- ---- what is refused, while the views are kept up as before

module _ (line : List ℕ) (asked : Request) (old : KeptState) (entries : Entries) (new : KeptState) (none : entries ≡ []) (same : new ≡ old) (why : Fault) where
  -- when out of memory
  pub wants_memory : why ≡ fault.NoMemory → AnswersKept line asked old (Err why) entries new
  wants_memory is = record {
    answers = inl (record { answered = ap Err is; no_entries = none; state = ap (λ (s : KeptState). s.engine) same });
    upkeep = keeps_refused (HasTooMany line asked old) why old new (ap (λ (s : KeptState). s.upkeep) same) (λ many. absurd (cc));
  }

  -- for what is against it
  pub is_against : why ≢ fault.TooManyRows → Answers line asked old.engine (Err why) entries new.engine → AnswersKept line asked old (Err why) entries new
  is_against others answers = record {
    answers = inr (inr answers);
    upkeep = keeps_refused (HasTooMany line asked old) why old new (ap (λ (s : KeptState). s.upkeep) same) (λ many. absurd (others many));
  }
