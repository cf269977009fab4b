-- What a change of a graph touched, by number. (own)
use Rattle.std.specs.Prelude.{◌≡◌, ◌≢◌, ℕ, List, Option, None, Some, unwrap_or, nat_eq}
use Rattle.std.specs.List.{IsDistinct}
use Rattle.std.specs.Map.{lookup, keys_of}
use Rattle.cy_values.specs.declared.numbers.NodeId.{NodeId}
use Rattle.cy_values.specs.declared.numbers.RelId.{RelId}
use Rattle.cy_graph.specs.declared.nodes.Node.{Node}
use Rattle.cy_graph.specs.declared.nodes.Rel.{Rel}
use Rattle.cy_graph.specs.Graph.{State, Versions, IsGraph, node_at, rel_at}

-- the touched nodes and the touched relationships, each under its number with the value that it had, if it was there
pub record Touches : Type 0 where
  pub nodes : List (ℕ × Option Node)
  pub rels : List (ℕ × Option Rel)

-- what stands under a number: for an entity that was touched the value that it had, if it was there
abbrev pub image_at : {V : Type 0} → ℕ → List (ℕ × Option V) → Option (Option V)
image_at number = lookup (nat_eq number)

-- an entity is touched, and had this value, exactly where its value is another one now
abbrev pub IsImage : {V : Type 0} → Option V → Option V → Option (Option V) → Type 0
IsImage before now None = before ≡ now
IsImage before now (Some was) = (was ≡ before) × (before ≢ now)

-- what leads from one graph to another: exactly the entities that differ, each once, with their values in the first
pub record IsChange (before now : State) (touches : Touches) : Type 0 where
  pub graph_before : IsGraph before
  pub graph_now : IsGraph now
  pub nodes_once : IsDistinct nat_eq (keys_of touches.nodes)
  pub rels_once : IsDistinct nat_eq (keys_of touches.rels)
  pub nodes : (id : NodeId) → IsImage (node_at id before) (node_at id now) (image_at id.0 touches.nodes)
  pub rels : (id : RelId) → IsImage (rel_at id before) (rel_at id now) (image_at id.0 touches.rels)

-- the graph as it was when the open change began; where none is open, as it is
abbrev pub before_change : Versions → State
before_change graph = unwrap_or graph.was graph.now
