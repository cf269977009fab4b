-- No row of a view that stands for a graph counts above the limit, nor one of a part of its plan.
use Rattle.std.proofs.Common.{◌≤◌, ℕ, List, [], ◌∷◌, map, Some, subst, arith, inl, inr}
use Rattle.std.specs.List.{AllByRecursion}
use Rattle.std.specs.declared.alloc.Global.{Global}
use Rattle.std.specs.declared.string.String.{String}
use Rattle.cy_trees.specs.TreeModels.{statement_of}
use Rattle.cy_values.specs.declared.rows.Cell.{Cell}
use Rattle.cy_values.specs.Bag.{count_of}
use Rattle.cy_graph.specs.Graph.{Content}
use Rattle.cy_feeds.specs.Following.{last_count}
use Rattle.cy_planner_algebra.specs.Meaning as plans
use Rattle.cy_planner_algebra.specs.Plans.{Plan}
use Rattle.cy_network_parts.specs.Memories.{AreWithin}
use Rattle.cy_network.specs.Networks.{HasTooManyRows}
use Rattle.cy_network_parts.proofs.Steps.{own_within}
use Rattle.cy_engine_views.specs.declared.registered.Registered.{Registered}
use Rattle.cy_engine_views.specs.declared.views.Views.{Views}
use Rattle.cy_engine_views.specs.HeldViews.{view_of}
use Rattle.cy_engine_views.specs.Upkeep.{Registry, Rests, SomeHasTooManyRows, StandFor, StandsFor, held, network_of, upkeep_in, upkeep_of, views_in}
use Rattle.cy_engine_views.specs.RegisteredViews.{rows_of}
use Rattle.cy_engine_views.proofs.Served.{same_rows}
use Rattle.cy_engine_lines.specs.EngineStep.{AreBounded}

-- a part that counts too much is a part, and so it doesn't
within_plan : (graph : Content) (p : Plan) → AreWithin (Some graph) p → HasTooManyRows graph p → ⊥
within_plan graph p within (k, part, less, at, (row, many)) =
    let bound : count_of row (plans.rows_of graph part) ≤ last_count = subst (λ (q : Plan). count_of row (plans.rows_of graph q) ≤ last_count) at (within k part less row) in
    omega (arith, bound, many)

-- the rows of a query that a network keeps count as those of its plan do
within_query : (view : Registered) (graph : Content) → StandsFor view.rows graph → (row : List Cell) → count_of row (rows_of (statement_of view.rows.query) graph) ≤ last_count
within_query view graph stands row =
    let bound : count_of row (plans.rows_of graph (network_of view.rows).plan) ≤ last_count = own_within (Some graph) (network_of view.rows).plan stands.network.held.within row in
    omega (arith, bound, same_rows (network_of view.rows).plan (statement_of view.rows.query) graph stands.serves stands.is_graph row)

module _ (graph : Content) (tick : ℕ) where
  abbrev AllRest : Registry → Type 0
  AllRest es = AllByRecursion (λ (e : String Global × Registered). Rests e.1 graph tick) es

  within_all : (es : Registry) → AllRest es → SomeHasTooManyRows graph (map upkeep_of (map held es)) → ⊥
  within_all [] rest many = absurd many
  within_all (e ∷ es) rest (inl many) = within_plan graph (network_of e.1.rows).plan rest.0.rows.network.held.within many
  within_all (e ∷ es) rest (inr many) = within_all es rest.1 many

  bounded_all : (es : Registry) → AllRest es → AreBounded graph (map view_of (map held es))
  bounded_all [] rest = tt
  bounded_all (e ∷ es) rest = (within_query e.1 graph rest.0.rows, bounded_all es rest.1)

pub stand_within : (views : Views) (graph : Content) (tick : ℕ) → StandFor views graph tick → SomeHasTooManyRows graph (upkeep_in views) → ⊥
stand_within views graph tick stand = within_all graph tick views.registered.entries stand.rest

pub stand_bounded : (views : Views) (graph : Content) (tick : ℕ) → StandFor views graph tick → AreBounded graph (views_in views)
stand_bounded views graph tick stand = bounded_all graph tick views.registered.entries stand.rest
