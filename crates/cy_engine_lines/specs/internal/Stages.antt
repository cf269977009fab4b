-- What the stages of the engine's work on a line promise one another.
use Rattle.std.specs.Prelude.{◌≡◌, ℕ, ◌⊎◌, ◌≤◌, true, false, List, map, Option, None, Some, Result, Ok, Err}
use Rattle.cy_lexer.specs.declared.tokens.Token.{Token}
use Rattle.cy_parser_grammar.specs.SpellsClauses.{SpellsStatement}
use Rattle.cy_parser.specs.declared.faults.ParseFault.{ParseFault}
use Rattle.cy_trees.specs.Trees.{Statement}
use Rattle.cy_graph.specs.Graph.{State}
use Rattle.cy_engine_lines.specs.declared.engine.Effect.{Effect}
use Rattle.cy_engine_lines.specs.declared.faults.Fault.{Fault}
use Rattle.cy_engine_lines.specs.declared.faults.Fault.TheVariants as fault
use Rattle.cy_engine_lines.specs.declared.replies.Reply.{Reply}
use Rattle.cy_engine_lines.specs.declared.replies.Reply.TheVariants as reply
use Rattle.cy_engine_lines.specs.declared.requests.Request.{Request as Code}
use Rattle.cy_engine_lines.specs.declared.requests.Request.TheVariants as code
use Rattle.cy_feeds.specs.declared.feeds.Answer.TheVariants.{Entries as Since, Lagged}
use Rattle.cy_feeds.specs.Feeds.{answer_since}
use Rattle.cy_engine_lines.specs.Requests.{Request, Nothing, StatementOf, ViewOf, RowsOf, SinceOf, ListOfViews, ListOfSteps, DropOf, IndexOf}
use Rattle.cy_engine_lines.specs.State.{EngineState, last_tick}
use Rattle.cy_engine_views.specs.RegisteredViews.{AreEntries, Entries, View, listed}
use Rattle.cy_engine_views.specs.declared.views.Views.{Views}
use Rattle.cy_engine_views.specs.Upkeep.{AreReady, SomeHasTooManyRows, Upkeep, held_in, views_in}
use Rattle.cy_engine_lines.specs.EngineStep.{Answer, Answers, AreRows, IsRefused, IsUnspelt, MayNeedRows}
use Rattle.cy_engine_lines.specs.KeptStep.{HasTooMany, KeptState, Keeps}
use Rattle.cy_engine_lines.specs.Verdicts.{next_tick, rows_verdict, same_content, since_verdict, tick_after}

-- the request that the code has
abbrev pub shown : Code → Request
shown code.Nothing = Nothing
shown (code.Statement tokens) = StatementOf tokens.now
shown (code.View name query) = ViewOf name query.now
shown (code.Rows name) = RowsOf name
shown (code.Since name tick) = SinceOf name tick
shown code.ListOfViews = ListOfViews
shown code.ListOfSteps = ListOfSteps
shown (code.Drop name) = DropOf name
shown (code.Index label key) = IndexOf label key

-- a tree that the tokens spell
pub record HasTree (line : List ℕ) (tokens : List Token) (P : Statement → Type 0) : Type 0 where
  pub tree : Statement
  pub spelt : SpellsStatement line tree tokens
  pub that : P tree

-- why no tree is given, where a verdict on it says this
abbrev pub Fails : {A : Type 0} → (Statement → Result A Fault) → List ℕ → List Token → Fault → Type 0
Fails verdict line tokens why =
    (why ≡ fault.NoMemory) ⊎ ((refused : ParseFault) × IsUnspelt line tokens refused × (why ≡ fault.Parse refused)) ⊎ HasTree line tokens (λ tree. verdict tree ≡ Err why)

-- a function gives what the verdict on the tree that the tokens spell says
abbrev pub Gives : {X A : Type 0} → (X → A) → (Statement → Result A Fault) → List ℕ → List Token → Result X Fault → Type 0
Gives see verdict line tokens (Ok x) = HasTree line tokens (λ tree. verdict tree ≡ Ok (see x))
Gives see verdict line tokens (Err why) = Fails verdict line tokens why

-- a line that asks for this is answered, or refused when out of memory or for too many rows
abbrev pub AnswersOrWants : List ℕ → Request → EngineState → Answer → Entries → EngineState → Type 0
AnswersOrWants line asked old answer entries new =
    IsRefused fault.NoMemory old answer entries new
    ⊎ ((MayNeedRows line asked old × IsRefused fault.TooManyRows old answer entries new) ⊎ Answers line asked old answer entries new)

-- it is so, and the views are kept up as is promised
pub record AnswersKept (line : List ℕ) (asked : Request) (old : KeptState) (answer : Answer) (entries : Entries) (new : KeptState) : Type 0 where
  pub answers : AnswersOrWants line asked old.engine answer entries new.engine
  pub upkeep : Keeps (HasTooMany line asked old) answer old new

-- a change for which the content of the graph differs: the tick that follows, and the views ready for its end with their entries
pub record IsEffect (views ready : Views) (before after : State) (tick : ℕ) (effect : Effect) : Type 0 where
  pub differs : same_content before.content after.content ≡ false
  pub ticks : next_tick tick ≡ Ok effect.tick
  pub in_time : effect.tick ≤ last_tick
  pub entries_are : AreEntries (views_in views) before.content after.content effect.tick effect.entries
  pub ready_are : AreReady ready before after effect.tick effect.entries
  pub held : held_in ready ≡ held_in views

-- what a change from one graph to another does, at most: nothing where the content stays; else the tick rises, and the views are ready for the end
-- of the change, with their entries
abbrev pub HasEffect : Views → Views → State → State → ℕ → Option Effect → Type 0
HasEffect views ready before after tick None = (same_content before.content after.content ≡ true) × (ready ≡ views)
HasEffect views ready before after tick (Some effect) = IsEffect views ready before after tick effect

-- why it is refused: it is out of memory, the tick is the last, or the views have too many rows
abbrev pub HasNoEffect : List Upkeep → State → State → ℕ → Fault → Type 0
HasNoEffect upkeep before after tick why =
    (why ≡ fault.NoMemory)
    ⊎ ((tick_after before.content after.content tick ≡ Err why)
    ⊎ ((why ≡ fault.TooManyRows) × ((next : ℕ) × (tick_after before.content after.content tick ≡ Ok next) × SomeHasTooManyRows after.content upkeep)))

-- what is answered to `:steps`
abbrev pub ListsSteps : KeptState → Result Reply Fault → Type 0
ListsSteps state (Ok given) = given ≡ reply.Steps (map (λ u. (u.name, u.steps)) state.upkeep)
ListsSteps state (Err why) = why ≡ fault.NoMemory

-- what is answered to `:rows`
abbrev pub ShowsRows : EngineState → List ℕ → Result Reply Fault → Type 0
ShowsRows state name (Ok (reply.Rows rows tick view)) = (found : View) × (rows_verdict name state ≡ Ok found) × AreRows state found rows × (tick ≡ state.tick) × (view ≡ name)
ShowsRows state name (Ok _) = ⊥
ShowsRows state name (Err why) = (why ≡ fault.NoMemory) ⊎ (rows_verdict name state ≡ Err why)

-- what is answered to `:since`, where there is such a view and such a tick: the entries above it where none is gone, else the rows
abbrev pub ShowsChanges : EngineState → List ℕ → ℕ → View → Reply → Type 0
ShowsChanges state name since found (reply.Entries entries tick view) = (answer_since since found.feed ≡ Since entries) × (tick ≡ state.tick) × (view ≡ name)
ShowsChanges state name since found (reply.Rows rows tick view) = (answer_since since found.feed ≡ Lagged) × AreRows state found rows × (tick ≡ state.tick) × (view ≡ name)
ShowsChanges state name since found _ = ⊥

-- what is answered to `:since`
abbrev pub ShowsSince : EngineState → List ℕ → ℕ → Result Reply Fault → Type 0
ShowsSince state name since (Ok given) = (found : View) × (since_verdict name since state ≡ Ok found) × ShowsChanges state name since found given
ShowsSince state name since (Err why) = (why ≡ fault.NoMemory) ⊎ (since_verdict name since state ≡ Err why)

-- what is answered to `:views`
abbrev pub ListsViews : EngineState → Result Reply Fault → Type 0
ListsViews state (Ok given) = given ≡ reply.Views (map listed state.views)
ListsViews state (Err why) = why ≡ fault.NoMemory
