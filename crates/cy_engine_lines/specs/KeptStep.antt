-- What is promised of the upkeep of views, beside what a line means: by which plans they are kept up, with how many steps, and when rows are too
-- many for a plan (own).
use Rattle.std.specs.Prelude.{◌≡◌, ℕ, Bool, true, false, not, List, [], ◌∷◌, ◌++◌, filter, map, Ok, Err}
use Rattle.std.specs.Str.{bytes_eq}
use Rattle.cy_lexer.specs.declared.tokens.Token.{Token}
use Rattle.cy_graph.specs.Graph.{State}
use Rattle.cy_planner_algebra.specs.Plans.{Plan}
use Rattle.cy_planner.specs.Serves.{Serves}
use Rattle.cy_network.specs.Networks.{HasTooManyRows}
use Rattle.cy_engine_views.specs.RegisteredViews.{Entries, View}
use Rattle.cy_engine_views.specs.Upkeep.{AreKeptUp, SomeHasTooManyRows, Upkeep, upkeep_of}
use Rattle.cy_engine_lines.specs.declared.faults.Fault.TheVariants as fault
use Rattle.cy_engine_lines.specs.declared.replies.Reply.TheVariants as reply
use Rattle.cy_engine_lines.specs.EngineStep.{Answer, EngineStep, WouldExecute, WouldMake}
use Rattle.cy_engine_lines.specs.Model.{Machine, state_of}
use Rattle.cy_engine_lines.specs.Requests.{Asks, Request, StatementOf, ViewOf}
use Rattle.cy_engine_lines.specs.State.{EngineState, empty_engine}
use Rattle.cy_engine_lines.specs.Verdicts.{same_content}

-- the state of the engine, and how each of its views is kept up, in their order
pub record KeptState : Type 0 where
  pub engine : EngineState
  pub upkeep : List Upkeep

abbrev pub kept_state_of : Machine → KeptState
kept_state_of m = record { engine = state_of m; upkeep = map upkeep_of m.views }

abbrev pub empty_kept_state : ℕ → KeptState
empty_kept_state history = record { engine = empty_engine history; upkeep = [] }

-- ---- too many rows

-- a statement that nothing is against leaves too many rows: on its graph a part of the plan of some view has a row that counts more than 2^62 - 1
pub record StatementHasTooMany (line : List ℕ) (tokens : List Token) (old : KeptState) : Type 0 where
  pub would : WouldExecute line tokens old.engine
  pub many : SomeHasTooManyRows would.executed.outcome.graph.content old.upkeep

-- a view that nothing is against has too many rows: a part of a plan that serves its query has a row that counts more than 2^62 - 1
pub record ViewHasTooMany (line name : List ℕ) (tokens : List Token) (old : KeptState) : Type 0 where
  pub would : WouldMake line name tokens old.engine
  pub plan : Plan
  pub serves : Serves plan would.view.query
  pub many : HasTooManyRows old.engine.graph.content plan

-- what is asked for has too many rows
abbrev pub HasTooMany : List ℕ → Request → KeptState → Type 0
HasTooMany line (StatementOf tokens) old = StatementHasTooMany line tokens old
HasTooMany line (ViewOf name tokens) old = ViewHasTooMany line name tokens old
HasTooMany line asked old = ⊥

-- ---- upkeep

-- how views are kept up after a line: as before where the content of the graph stays, else with numbers of steps within the bound
abbrev pub KeepsUp : Bool → State → State → List Upkeep → List Upkeep → Type 0
KeepsUp true before after upkeep next = next ≡ upkeep
KeepsUp false before after upkeep next = AreKeptUp before after upkeep next

-- after a statement that was executed; and no row of a part of a plan counts more than 2^62 - 1 then
pub record IsKeptUp (old new : KeptState) : Type 0 where
  pub upkeep : KeepsUp (same_content old.engine.graph.content new.engine.graph.content) old.engine.graph new.engine.graph old.upkeep new.upkeep
  pub within : SomeHasTooManyRows new.engine.graph.content new.upkeep → ⊥

-- a view was made, which is kept up by a plan that serves its query; which one, the engine may choose. It has taken no step, and no row of a part
-- of a plan counts more than 2^62 - 1
pub record IsPlanned (name : List ℕ) (old new : KeptState) : Type 0 where
  pub view : View
  pub plan : Plan
  pub views : new.engine.views ≡ old.engine.views ++ view ∷ []
  pub serves : Serves plan view.query
  pub upkeep : new.upkeep ≡ old.upkeep ++ (record { name = name; plan = plan; steps = 0 }) ∷ []
  pub within : SomeHasTooManyRows new.engine.graph.content new.upkeep → ⊥

-- the numbers of steps are those of the views, and the upkeep is as before
pub record AreSteps (steps : List (List ℕ × ℕ)) (old new : KeptState) : Type 0 where
  pub are : steps ≡ map (λ u. (u.name, u.steps)) old.upkeep
  pub same : new.upkeep ≡ old.upkeep

-- there were too many rows, as this says, and the upkeep is as before
pub record HadTooMany (too_many : Type 0) (old new : KeptState) : Type 0 where
  pub many : too_many
  pub same : new.upkeep ≡ old.upkeep

-- the upkeep of the views without the one of a name
abbrev pub unkept : List ℕ → List Upkeep → List Upkeep
unkept name upkeep = filter (λ u. not (bytes_eq name u.name)) upkeep

-- what becomes of the upkeep where a line is answered so; where it is refused for too many rows, they are too many as this says
abbrev pub Keeps : Type 0 → Answer → KeptState → KeptState → Type 0
Keeps too_many (Ok (reply.Statement changed columns rows)) old new = IsKeptUp old new
Keeps too_many (Ok (reply.Made columns tick name)) old new = IsPlanned name old new
Keeps too_many (Ok (reply.Steps steps)) old new = AreSteps steps old new
Keeps too_many (Ok (reply.Dropped name)) old new = new.upkeep ≡ unkept name old.upkeep
Keeps too_many (Err fault.TooManyRows) old new = HadTooMany too_many old new
Keeps too_many answer old new = new.upkeep ≡ old.upkeep

-- ---- the step, and runs of it

-- a line asks for what has too many rows
abbrev pub AsksTooMuch : List ℕ → KeptState → Type 0
AsksTooMuch line old = (asked : Request) × Asks line asked × HasTooMany line asked old

-- From old, the machine may answer the line so, make these entries and go on to new, and keeps its views up as is promised.
pub record KeptStep (old : KeptState) (line : List ℕ) (answer : Answer) (entries : Entries) (new : KeptState) : Type 0 where
  pub step : EngineStep old.engine line answer entries new.engine
  pub upkeep : Keeps (AsksTooMuch line old) answer old new
