-- What expressions look up in the content of a graph. (Francis et al., property graphs)
use Rattle.std.specs.Prelude.{◌==◌, Bool, true, not, ◌&&◌, List, [], ◌∷◌, map}
use Rattle.std.specs.List.{list_any}
use Rattle.std.specs.Option.{option_map_or}
use Rattle.std.specs.Str.{bytes_eq}
use Rattle.cy_values.specs.declared.numbers.Entity.{Entity}
use Rattle.cy_values.specs.declared.numbers.Entity.TheVariants as entity
use Rattle.cy_values.specs.declared.numbers.RelId.{RelId}
use Rattle.cy_values.specs.declared.scalars.Value.{Value}
use Rattle.cy_trees.specs.Trees.{Name}
use Rattle.cy_graph.specs.Graph.{Content, node_in, relationship_in}
use Rattle.cy_graph.specs.Maps.{value_at}
use Rattle.cy_graph.specs.declared.nodes.Rel.{Rel}
use Rattle.cy_expr.specs.Lookups.{Lookups}

-- the properties of an entity; one that isn't there has none
abbrev pub properties_in : Content → Entity → List (Name × Value)
properties_in graph (entity.Node id) = option_map_or (λ n. n.props) (node_in graph id) []
properties_in graph (entity.Rel id) = option_map_or (λ r. r.props) (relationship_in graph id) []

-- what expressions look up
abbrev pub lookups : Content → Lookups
lookups graph = record {
  property_of = λ e key. value_at key (properties_in graph e);
  labels_of = λ id. option_map_or (λ n. map (λ l. l.0) n.labels) (node_in graph id) [];
  type_of = λ id. option_map_or (λ r. r.kind) (relationship_in graph id) [];
}

-- a relationship is of one of the types; where none is named, each is
abbrev pub has_type : List Name → Rel → Bool
has_type [] rel = true
has_type (t ∷ ts) rel = list_any (λ u. bytes_eq u rel.kind) (t ∷ ts)

-- no relationship stands twice
abbrev pub are_different : List RelId → Bool
are_different [] = true
are_different (rel ∷ rels) = not (list_any (λ other. other.0 == rel.0) rels) && are_different rels
