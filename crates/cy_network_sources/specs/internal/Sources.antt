-- The touched entities of a change, by where they are found.
use Rattle.std.specs.Prelude.{ℕ, List, Option, None, map}
use Rattle.std.specs.Option.{option_copied}
use Rattle.cy_values.specs.declared.numbers.NodeId.{NodeId}
use Rattle.cy_values.specs.declared.numbers.RelId.{RelId}
use Rattle.cy_graph.specs.declared.nodes.Node.{Node}
use Rattle.cy_graph.specs.declared.nodes.Rel.{Rel}
use Rattle.cy_network_sources.specs.Changes.{Touches}
use Rattle.cy_network_sources.specs.declared.changes.Source.{Source}
use Rattle.cy_network_sources.specs.declared.changes.Source.TheVariants as source
use Rattle.cy_network_sources.specs.declared.touched.NodesLeft.{NodesLeft}
use Rattle.cy_network_sources.specs.declared.touched.NodesLeft.TheVariants as nodes
use Rattle.cy_network_sources.specs.declared.touched.RelsLeft.{RelsLeft}
use Rattle.cy_network_sources.specs.declared.touched.RelsLeft.TheVariants as rels

-- entities, each under its number, of which none was there
abbrev pub none_was : {K V W : Type 0} → (K → ℕ) → List (K × V) → List (ℕ × Option W)
none_was number_of = map (λ e. (number_of e.0, None))

abbrev pub touches_in : Source → Touches
touches_in (source.Noted touches) = touches
touches_in (source.All store) = record {
  nodes = none_was (λ (id : NodeId). id.0) store.now.graph.now.content.nodes;
  rels = none_was (λ (id : RelId). id.0) store.now.graph.now.content.rels;
}

-- those that an iterator still gives
abbrev pub nodes_left : NodesLeft → List (ℕ × Option Node)
nodes_left (nodes.Noted entries) = map (λ e. (e.0, option_copied e.1)) entries
nodes_left (nodes.All left) = none_was (λ (id : NodeId). id.0) left

abbrev pub rels_left : RelsLeft → List (ℕ × Option Rel)
rels_left (rels.Noted entries) = map (λ e. (e.0, option_copied e.1)) entries
rels_left (rels.All left) = none_was (λ (id : RelId). id.0) left
