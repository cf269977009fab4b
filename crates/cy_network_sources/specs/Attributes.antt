-- The attributes of entities. (own)
use Rattle.std.specs.Prelude.{List, [], Option, map, unwrap_or}
use Rattle.std.specs.Option.{option_map_or}
use Rattle.cy_values.specs.declared.scalars.Scalar.TheVariants as scalar
use Rattle.cy_values.specs.declared.scalars.Value.{Value}
use Rattle.cy_values.specs.declared.scalars.Value.TheVariants as value
use Rattle.cy_trees.specs.Trees.{Name}
use Rattle.cy_graph.specs.declared.nodes.Node.{Node}
use Rattle.cy_graph.specs.declared.nodes.Rel.{Rel}
use Rattle.cy_graph.specs.Maps.{value_at}
use Rattle.cy_planner_algebra.specs.declared.operators.Attribute.{Attribute}
use Rattle.cy_planner_algebra.specs.declared.operators.Attribute.TheVariants.{Property, RelType, Labels}

-- the names of a node's labels, as a list
abbrev pub label_list : List (Name × Unit {0}) → Value
label_list labels = value.List (map (λ l. scalar.Text l) (map (λ l. l.0) labels))

-- an attribute of a node, if it is there
abbrev pub node_attribute : Attribute → Option Node → Value
node_attribute (Property key) found = unwrap_or (value_at key (option_map_or (λ n. n.props) found [])) value.Null
node_attribute RelType found = value.Null
node_attribute Labels found = value.List (map (λ l. scalar.Text l) (option_map_or (λ n. map (λ l. l.0) n.labels) found []))

-- an attribute of a relationship, if it is there
abbrev pub rel_attribute : Attribute → Option Rel → Value
rel_attribute (Property key) rel = unwrap_or (value_at key (option_map_or (λ r. r.props) rel [])) value.Null
rel_attribute RelType rel = value.Text (option_map_or (λ r. r.kind) rel [])
rel_attribute Labels rel = value.Null
