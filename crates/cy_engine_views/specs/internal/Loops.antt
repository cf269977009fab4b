-- What holds of all views, and of one before and after each step of a change.
use Rattle.std.specs.Prelude.{◌≡◌, ◌⊎◌, true, false, ℕ, ◌<◌, [], ◌∷◌, Option, None, Some, IfSome}
use Rattle.std.specs.List.{AllByRecursion}
use Rattle.std.specs.declared.alloc.Global.{Global}
use Rattle.std.specs.declared.string.String.{String}
use Rattle.cy_graph.specs.Graph.{Content, State}
use Rattle.cy_bags.specs.declared.changes.Change.{Change}
use Rattle.cy_feeds.specs.Feeds.{History, IsReserved, latest, pushed}
use Rattle.cy_network.specs.Networks.{operator_of}
use Rattle.cy_engine_views.specs.declared.registered.Registered.{Registered}
use Rattle.cy_engine_views.specs.declared.rows.QueryRows.{QueryRows}
use Rattle.cy_engine_views.specs.Upkeep.{IsPrepared, IsReady, IsUntil, Registry, Rests, StandsFor, network_of}

-- ---- one view

-- two values are of one view: only what follows the graph may differ
pub record IsOne (view next : Registered) : Type 0 where
  pub query : next.rows.query ≡ view.rows.query
  pub plan : operator_of next.rows.network ≡ operator_of view.rows.network
  pub made : next.made ≡ view.made
  pub feed : next.feed.history ≡ view.feed.history
  pub steps : next.steps ≡ view.steps

-- the rows are prepared from a graph to some other one
pub record IsPreparedAt (graph : Content) (rows : QueryRows) : Type 0 where
  pub before : State
  pub after : State
  pub from_graph : before.content ≡ graph
  pub prepared : IsPrepared rows before after

-- once it is abandoned it rests: its rows stand for the graph, or are prepared from it to another one
pub record CanRest (view : Registered) (graph : Content) (tick : ℕ) : Type 0 where
  pub rows : ((view.prepared ≡ false) × (view.change ≡ None) × StandsFor view.rows graph) ⊎ ((view.prepared ≡ true) × IsPreparedAt graph view.rows)
  pub in_time : IsUntil tick view.feed

-- it is prepared, or nothing is to go into its feed; and where something is, there is room for it, and all entries there are below the tick
pub record Takes (tick : ℕ) (view : Registered) : Type 0 where
  pub rows : view.prepared ≡ true → (before : State) × ((after : State) × IsPrepared view.rows before after)
  pub idle : view.prepared ≡ false → view.change ≡ None
  pub room : IfSome view.change (λ _. IsReserved view.feed × (latest view.feed.history.base view.feed.history.entries < tick))

-- with an entry of this tick, where something is to go into the feed
abbrev pub with_change : ℕ → Option Change → History → History
with_change tick None feed = feed
with_change tick (Some change) feed = pushed (record { tick = tick; change = change }) feed

-- what settling makes of a view: of one that isn't prepared the rows are the same, and took no step
pub record IsSettledFrom (tick : ℕ) (view next : Registered) : Type 0 where
  pub rows : view.prepared ≡ true → (before after : State) → IsPrepared view.rows before after → StandsFor next.rows after.content
  pub same : view.prepared ≡ false → next.rows ≡ view.rows
  pub unprepared : next.prepared ≡ false
  pub idle : next.change ≡ None
  pub query : next.rows.query ≡ view.rows.query
  pub plan : operator_of next.rows.network ≡ operator_of view.rows.network
  pub made : next.made ≡ view.made
  pub feed : next.feed.history ≡ with_change tick view.change view.feed.history
  pub steps : view.prepared ≡ true → next.steps ≡ (network_of view.rows).steps
  pub none : view.prepared ≡ false → next.steps ≡ 0

-- ---- all of them

abbrev pub AllRest : Content → ℕ → Registry → Type 0
AllRest graph tick entries = AllByRecursion (λ (e : String Global × Registered). Rests e.1 graph tick) entries

abbrev pub AllCanRest : Content → ℕ → Registry → Type 0
AllCanRest graph tick entries = AllByRecursion (λ (e : String Global × Registered). CanRest e.1 graph tick) entries

abbrev pub AllReady : State → State → ℕ → Registry → Type 0
AllReady before after tick entries = AllByRecursion (λ (e : String Global × Registered). IsReady e.1 before after tick) entries

abbrev pub AllTake : ℕ → Registry → Type 0
AllTake tick entries = AllByRecursion (λ (e : String Global × Registered). Takes tick e.1) entries

-- each stands where it stood, under its name, and is related to what it was
abbrev pub AreRelated : (Registered → Registered → Type 0) → Registry → Registry → Type 0
AreRelated R [] next = next ≡ []
AreRelated R (e ∷ entries) next = (view : Registered) × (others : Registry) × (next ≡ (e.0, view) ∷ others) × R e.1 view × AreRelated R entries others

abbrev pub AllAreSettled : ℕ → Registry → Registry → Type 0
AllAreSettled tick = AreRelated (IsSettledFrom tick)
