-- A change that doesn't concern a view leaves its rows as they are.
use Rattle.std.proofs.Common.{◌≡◌, ℕ, true, List, [], Some, refl, sym, ap, ◌∙◌}
use Rattle.cy_trees.specs.TreeModels.{statement_of}
use Rattle.cy_values.specs.declared.rows.Cell.{Cell}
use Rattle.cy_values.specs.Bag.{IsSameBag}
use Rattle.cy_graph.specs.Graph.{State}
use Rattle.cy_bags.specs.declared.changes.Change.{Change}
use Rattle.cy_network_sources.specs.Changes.{IsChange, Touches}
use Rattle.cy_network_relevance.specs.Relevance.{IsUntouched}
use Rattle.cy_network_parts.specs.Counted.{counted}
use Rattle.cy_network_relevance.specs.Masks.{AreApart, mask_of}
use Rattle.cy_network.specs.Networks as networks
use Rattle.cy_network.specs.Networks.{NetworkState}
use Rattle.cy_network.specs.Places.{rows_by}
use Rattle.cy_network.proofs.Irrelevant.{irrelevant_prepared}
use Rattle.cy_engine_views.specs.declared.rows.QueryRows.{QueryRows}
use Rattle.cy_engine_views.specs.Upkeep.{StandsFor, network_of}
use Rattle.cy_engine_views.specs.RegisteredViews.{rows_of}
use Rattle.cy_engine_views.proofs.Served.{same_rows}

-- a network stands for the graph after it as well
still_stands : (before now : State) (touches : Touches) (n : NetworkState) → IsChange before now touches → networks.StandsFor before.content n → IsUntouched before.content now.content n.plan
    → networks.StandsFor now.content n
still_stands before now touches n change stands untouched =
    let nothing : Change = record { removed = []; added = [] } in
    let m : NetworkState = record n { next = []; unmoved = true; pending = Some nothing; steps = n.steps } in
    let prepared : networks.IsPrepared before.content now.content m = irrelevant_prepared before now touches n.plan n m nothing refl change stands untouched refl refl refl in
    let same : n.was ≡ n.staged = stands.held.held ∙ sym stands.held.settled in
    record {
      sure = stands.sure;
      held = record { keyed = stands.held.keyed; held = same ∙ prepared.staged.held; settled = prepared.staged.held; within = prepared.staged.within };
      placed = stands.placed;
      rows = ap (rows_by n.place (counted n.rows)) same ∙ prepared.next;
      positive = stands.positive;
      idle = stands.idle;
    }

module _ (rows : QueryRows) (before now : State) where
  -- so do the rows of a query
  pub still_rows : (touches : Touches) → IsChange before now touches → AreApart rows.reads (mask_of now touches) → StandsFor rows before.content → StandsFor rows now.content
  still_rows touches change apart stands = record {
    is_graph = (now, change.graph_now, refl);
    serves = stands.serves;
    reads = stands.reads;
    network = still_stands before now touches (network_of rows) change stands.network (stands.reads before now touches change apart);
  }

  -- rows that stand for two graphs are the same bag there
  pub same_bags : StandsFor rows before.content → StandsFor rows now.content → IsSameBag (rows_of (statement_of rows.query) before.content) (rows_of (statement_of rows.query) now.content)
  same_bags first second row =
      sym (same_rows (network_of rows).plan (statement_of rows.query) before.content first.serves first.is_graph row)
      ∙ ap (λ (f : List Cell → ℕ). f row) (sym first.network.rows ∙ second.network.rows)
      ∙ same_rows (network_of rows).plan (statement_of rows.query) now.content second.serves second.is_graph row
