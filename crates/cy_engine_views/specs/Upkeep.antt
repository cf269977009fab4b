-- How views are kept up: the rows of each query by a network, which follows the graph by a plan that serves the query (own).
use Rattle.std.specs.Prelude.{◌≡◌, ◌⊎◌, ℕ, ◌*◌, ◌<◌, ◌≤◌, ⊤, true, false, List, [], ◌∷◌, ◌++◌, filter, length, map, not, Option, None, Some, IfSome, string_bytes}
use Rattle.std.specs.List.{AllByRecursion}
use Rattle.std.specs.Str.{bytes_eq}
use Rattle.std.specs.declared.alloc.Global.{Global}
use Rattle.std.specs.declared.string.String.{String}
use Rattle.cy_trees.specs.Trees.{Statement}
use Rattle.cy_trees.specs.TreeModels.{statement_of}
use Rattle.cy_values.specs.declared.rows.Cell.{Cell}
use Rattle.cy_values.specs.Bag.{IsSameBag}
use Rattle.cy_graph.specs.Graph.{Content, State, IsGraph}
use Rattle.cy_bags.specs.declared.changes.Change.{Change}
use Rattle.cy_bags.specs.Difference.{IsDifference}
use Rattle.cy_feeds.specs.Feeds.{Kept, IsReserved, latest}
use Rattle.cy_network_memory.specs.contracts.keyed.KeyedMemoryMemory.TheImpl.{ghosts}
use Rattle.cy_planner_algebra.specs.Plans.{Plan}
use Rattle.cy_planner_algebra.specs.PlanModels.{plan_of}
use Rattle.cy_network_sources.specs.Changes.{Touches, IsChange}
use Rattle.cy_network_sources.specs.Costs.{cost}
use Rattle.cy_network_relevance.specs.Masks.{Covers}
use Rattle.cy_network.specs.Networks as networks
use Rattle.cy_network.specs.Networks.{HasTooManyRows, NetworkState, operator_of, state_of}
use Rattle.cy_planner.specs.Serves.{Serves}
use Rattle.cy_planner.specs.Weight.{greatest_weight, weight}
use Rattle.cy_engine_views.specs.declared.faults.UpkeepFault.{UpkeepFault}
use Rattle.cy_engine_views.specs.declared.faults.UpkeepFault.TheVariants.{PlanTooLarge, TooManyRows, NoMemory}
use Rattle.cy_engine_views.specs.declared.rows.QueryRows.{QueryRows}
use Rattle.cy_engine_views.specs.declared.registered.Registered.{Registered}
use Rattle.cy_engine_views.specs.declared.views.Views.{Views}
use Rattle.cy_engine_views.specs.HeldViews.{Held, view_of}
use Rattle.cy_engine_views.specs.RegisteredViews.{Entries, View, rows_of, view_limit}

-- ---- what is seen

-- how a view is kept up: by which plan, and with how many steps of its network for the last line that changed the graph while the view stood, 0
-- where there was none
pub record Upkeep : Type 0 where
  pub name : List ℕ
  pub plan : Plan
  pub steps : ℕ

abbrev pub upkeep_of : Held → Upkeep
upkeep_of h = record { name = h.name; plan = plan_of h.plan; steps = h.steps }

-- what is registered, by name
abbrev pub Registry : Type 0
Registry = List (String Global × Registered)

abbrev pub held : String Global × Registered → Held
held e = record {
  name = string_bytes e.0;
  query = e.1.rows.query;
  plan = operator_of e.1.rows.network;
  made = e.1.made;
  feed = e.1.feed.history;
  steps = e.1.steps;
}

-- the views, in the order in which they were made
abbrev pub held_in : Views → List Held
held_in views = map held views.registered.entries

abbrev pub views_in : Views → List View
views_in views = map view_of (held_in views)

abbrev pub upkeep_in : Views → List Upkeep
upkeep_in views = map upkeep_of (held_in views)

-- ---- what upkeep may cost, and why it may be refused

-- this many steps are at most 16 times what the upkeep of a plan's rows costs from one graph to another
pub record IsWithinCost (before after : State) (plan : Plan) (steps : ℕ) : Type 0 where
  pub touches : Touches
  pub change : IsChange before after touches
  pub within : steps ≤ 16 * cost touches before.content after.content plan

-- each view is kept up by the plan that it had, with a number of steps within the bound
abbrev pub AreKeptUp : State → State → List Upkeep → List Upkeep → Type 0
AreKeptUp before after [] next = next ≡ []
AreKeptUp before after (u ∷ upkeep) next =
    (steps : ℕ) × (others : List Upkeep) × (next ≡ (record u { steps = steps }) ∷ others) × IsWithinCost before after u.plan steps × AreKeptUp before after upkeep others

-- some part of the plan of some view has a row that counts more than 2^62 - 1
abbrev pub SomeHasTooManyRows : Content → List Upkeep → Type 0
SomeHasTooManyRows graph [] = ⊥
SomeHasTooManyRows graph (u ∷ upkeep) = HasTooManyRows graph u.plan ⊎ SomeHasTooManyRows graph upkeep

-- a query has no rows that are kept: it weighs too much; or a plan that serves it has a part with too many rows; or it is out of memory
abbrev pub IsUnkept : Statement → Content → UpkeepFault → Type 0
IsUnkept query graph PlanTooLarge = greatest_weight < weight query
IsUnkept query graph TooManyRows = (weight query ≤ greatest_weight) × ((plan : Plan) × Serves plan query × HasTooManyRows graph plan)
IsUnkept query graph NoMemory = ⊤

-- a view can't follow to a graph by its plan: this has too many rows there, or it is out of memory
abbrev pub CannotFollowBy : Plan → Content → UpkeepFault → Type 0
CannotFollowBy plan graph PlanTooLarge = ⊥
CannotFollowBy plan graph TooManyRows = HasTooManyRows graph plan
CannotFollowBy plan graph NoMemory = ⊤

-- views can't follow to a graph: some plan has too many rows there, or it is out of memory
abbrev pub CannotFollow : List Upkeep → Content → UpkeepFault → Type 0
CannotFollow upkeep graph PlanTooLarge = ⊥
CannotFollow upkeep graph TooManyRows = SomeHasTooManyRows graph upkeep
CannotFollow upkeep graph NoMemory = ⊤

-- ---- the rows of one query

abbrev pub network_of : QueryRows → NetworkState
network_of rows = state_of ghosts.key_columns ghosts.was ghosts.staged ghosts.step_count rows.network

-- a graph holds this, whatever its next numbers are
abbrev pub IsHeldByGraph : Content → Type 0
IsHeldByGraph content = (graph : State) × IsGraph graph × (graph.content ≡ content)

-- the rows of a query stand for a graph: so does their network, whose plan serves the query, and reads no more than it is held to read
pub record StandsFor (rows : QueryRows) (graph : Content) : Type 0 where
  pub is_graph : IsHeldByGraph graph
  pub serves : Serves (network_of rows).plan (statement_of rows.query)
  pub reads : Covers rows.reads (network_of rows).plan
  pub network : networks.StandsFor graph (network_of rows)

-- they are prepared from one graph to another, with a number of steps within the bound
pub record IsPrepared (rows : QueryRows) (before after : State) : Type 0 where
  pub from_graph : IsHeldByGraph before.content
  pub to_graph : IsHeldByGraph after.content
  pub serves : Serves (network_of rows).plan (statement_of rows.query)
  pub reads : Covers rows.reads (network_of rows).plan
  pub network : networks.IsPrepared before.content after.content (network_of rows)
  pub steps : IsWithinCost before after (network_of rows).plan (network_of rows).steps

-- ---- one view

-- no entry of a feed is above a tick
abbrev pub IsUntil : ℕ → Kept → Type 0
IsUntil tick feed = latest feed.history.base feed.history.entries ≤ tick

-- between changes: the rows stand for the graph, nothing is to go into the feed, and no entry is above the tick
pub record Rests (view : Registered) (graph : Content) (tick : ℕ) : Type 0 where
  pub rows : StandsFor view.rows graph
  pub unprepared : view.prepared ≡ false
  pub idle : view.change ≡ None
  pub in_time : IsUntil tick view.feed

-- what is to go into the feed of a view whose rows change so: nothing where they are the same bag, else the difference
abbrev pub IsItsChange : Option Change → List (List Cell) → List (List Cell) → Type 0
IsItsChange None before after = IsSameBag before after
IsItsChange (Some change) before after = (¬ (IsSameBag before after)) × IsDifference before after change

-- a change from one graph to another doesn't concern a view: its rows stand for both, and take no step
pub record IsUnconcerned (view : Registered) (before after : State) : Type 0 where
  pub unprepared : view.prepared ≡ false
  pub idle : view.change ≡ None
  pub stands : StandsFor view.rows before.content
  pub still : StandsFor view.rows after.content
  pub steps : IsWithinCost before after (network_of view.rows).plan 0

-- ready for the end of a change from one graph to another, at this tick: its rows are prepared for it, or it doesn't concern them
pub record IsReady (view : Registered) (before after : State) (tick : ℕ) : Type 0 where
  pub rows : ((view.prepared ≡ true) × IsPrepared view.rows before after) ⊎ IsUnconcerned view before after
  pub change : IsItsChange view.change (rows_of (statement_of view.rows.query) before.content) (rows_of (statement_of view.rows.query) after.content)
  pub reserved : IfSome view.change (λ _. IsReserved view.feed)
  pub later : latest view.feed.history.base view.feed.history.entries < tick

-- ---- all views

-- a name that none of these views has
abbrev pub IsNew : List ℕ → List View → Type 0
IsNew name [] = ⊤
IsNew name (v ∷ vs) = (bytes_eq v.name name ≡ false) × IsNew name vs

-- no two of these views have one name
abbrev pub AreNamed : List View → Type 0
AreNamed [] = ⊤
AreNamed (v ∷ vs) = IsNew v.name vs × AreNamed vs

-- between changes: each view rests, no two have one name, and there aren't too many
pub record StandFor (views : Views) (graph : Content) (tick : ℕ) : Type 0 where
  pub rest : AllByRecursion (λ (e : String Global × Registered). Rests e.1 graph tick) views.registered.entries
  pub named : AreNamed (views_in views)
  pub few : length (held_in views) ≤ view_limit

-- the view of a name is gone, and nothing else differs
pub record IsGoneFrom (name : List ℕ) (old new : Views) : Type 0 where
  pub held : held_in new ≡ filter (λ h. not (bytes_eq name h.name)) (held_in old)

-- the entry of a view, where something is to go into its feed
abbrev pub entry_if : List ℕ → ℕ → Option Change → Entries
entry_if name tick None = []
entry_if name tick (Some change) = (name, record { tick = tick; change = change }) ∷ []

-- those of all views, in their order
abbrev pub entries_in : ℕ → Registry → Entries
entries_in tick [] = []
entries_in tick (e ∷ es) = entry_if (string_bytes e.0) tick e.1.change ++ entries_in tick es

-- ready for the end of a change from one graph to another, which makes these entries at this tick
pub record AreReady (views : Views) (before after : State) (tick : ℕ) (entries : Entries) : Type 0 where
  pub ready : AllByRecursion (λ (e : String Global × Registered). IsReady e.1 before after tick) views.registered.entries
  pub named : AreNamed (views_in views)
  pub few : length (held_in views) ≤ view_limit
  pub are : entries ≡ entries_in tick views.registered.entries
