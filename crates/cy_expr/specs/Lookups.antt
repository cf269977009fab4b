-- What an expression reads of a graph, by the entities that its row names: their properties, the labels of nodes and the
-- types of relationships. (Francis et al., property graphs) An expression has the same value on two graphs that answer these alike.
use Rattle.std.specs.Prelude.{◌≤◌, ◌^◌, ⊤, Bool, true, ◌&&◌, List, [], ◌∷◌, Option, unwrap_or, Result, Ok, Err, is_some, pos, map}
use Rattle.std.specs.List.{list_all, list_any}
use Rattle.std.specs.Ordering.{is_lt, nat_cmp}
use Rattle.std.specs.Cmp.Lexicographic.{slice_cmp}
use Rattle.std.specs.Str.{bytes_eq}
use Rattle.cy_values.specs.declared.numbers.NodeId.{NodeId}
use Rattle.cy_values.specs.declared.numbers.RelId.{RelId}
use Rattle.cy_values.specs.declared.numbers.Entity.{Entity}
use Rattle.cy_values.specs.declared.numbers.Entity.TheVariants as entity
use Rattle.cy_values.specs.declared.scalars.Scalar.TheVariants as scalar
use Rattle.cy_values.specs.declared.scalars.Value.{Value}
use Rattle.cy_values.specs.declared.scalars.Value.TheVariants as value
use Rattle.cy_values.specs.declared.rows.Cell.{Cell}
use Rattle.cy_values.specs.declared.rows.Cell.TheVariants as cell
use Rattle.cy_trees.specs.Trees.{Name}
use Rattle.cy_expr.specs.declared.faults.EvalFault.{EvalFault}
use Rattle.cy_expr.specs.declared.faults.EvalFault.TheVariants.{WrongType}

pub record Lookups : Type 0 where
  pub property_of : Entity → Name → Option Value
  -- by rising bytes, each once, as the trait of the code asks of each graph
  pub labels_of : NodeId → List Name
  pub type_of : RelId → Name

-- whether names rise by their bytes, so that each is there once
abbrev pub names_rise : List Name → Bool
names_rise [] = true
names_rise (l ∷ ls) = list_all (λ m. is_lt (slice_cmp nat_cmp l m)) ls && names_rise ls

-- a cell that names no entity, where an entity is asked: null gives null
abbrev pub no_entity : Value → Result Value EvalFault
no_entity value.Null = Ok value.Null
no_entity v = Err WrongType

-- what a function of entities gives for the entity in a cell
abbrev pub on_entity : (Entity → Value) → Cell → Result Value EvalFault
on_entity f (cell.Node n) = Ok (f (entity.Node n))
on_entity f (cell.Rel r) = Ok (f (entity.Rel r))
on_entity f (cell.Rels rs) = Err WrongType
on_entity f (cell.Value v) = no_entity v

abbrev pub on_node : (NodeId → Value) → Cell → Result Value EvalFault
on_node f (cell.Node n) = Ok (f n)
on_node f (cell.Rel r) = Err WrongType
on_node f (cell.Rels rs) = Err WrongType
on_node f (cell.Value v) = no_entity v

abbrev pub on_relationship : (RelId → Value) → Cell → Result Value EvalFault
on_relationship f (cell.Node n) = Err WrongType
on_relationship f (cell.Rel r) = Ok (f r)
on_relationship f (cell.Rels rs) = Err WrongType
on_relationship f (cell.Value v) = no_entity v

-- `x.k`: null where the property isn't there
abbrev pub property_value : Lookups → Name → Cell → Result Value EvalFault
property_value graph key = on_entity (λ e. unwrap_or (graph.property_of e key) value.Null)

-- exists(x.k): whether the property is there (null for a null entity: own)
abbrev pub existence : Lookups → Name → Cell → Result Value EvalFault
existence graph key = on_entity (λ e. value.Bool (is_some (graph.property_of e key)))

-- `x:L:M`: whether the node has each of the labels
abbrev pub labels_test : Lookups → List Name → Cell → Result Value EvalFault
labels_test graph labels = on_node (λ n. value.Bool (list_all (λ l. list_any (bytes_eq l) (graph.labels_of n)) labels))

-- labels(n)
abbrev pub labels_value : Lookups → Cell → Result Value EvalFault
labels_value graph = on_node (λ n. value.List (map (λ l. scalar.Text l) (graph.labels_of n)))

-- type(r)
abbrev pub type_value : Lookups → Cell → Result Value EvalFault
type_value graph = on_relationship (λ r. value.Text (graph.type_of r))

-- id(x)
abbrev pub number_of : Entity → Value
number_of (entity.Node n) = value.Int (pos n.0)
number_of (entity.Rel r) = value.Int (pos r.0)

abbrev pub id_value : Cell → Result Value EvalFault
id_value = on_entity number_of

-- A number of a node or a relationship that a cell names is at most 2^40, the last one that a graph gives out; so id is an
-- integer of 64 bits. (own)
abbrev pub IsNumbered : Cell → Type 0
IsNumbered (cell.Node n) = n.0 ≤ 2 ^ 40
IsNumbered (cell.Rel r) = r.0 ≤ 2 ^ 40
IsNumbered (cell.Rels rs) = ⊤
IsNumbered (cell.Value v) = ⊤
