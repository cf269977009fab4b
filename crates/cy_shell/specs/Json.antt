-- The JSON of what a reply has in it (own).
use Rattle.std.specs.Prelude.{ℕ, List, map, codes}
use Rattle.serde_json.specs.Data.{Data, null, boolean, number, unsigned, string, array, object, item, no_items, member, no_members}
use Rattle.serde_json.specs.Find.{of_integer}
use Rattle.serde_json.specs.View.{items_of}
use Rattle.cy_values.specs.declared.numbers.NodeId.{NodeId}
use Rattle.cy_values.specs.declared.numbers.RelId.{RelId}
use Rattle.cy_values.specs.declared.scalars.Scalar.{Scalar}
use Rattle.cy_values.specs.declared.scalars.Scalar.TheVariants as scalar
use Rattle.cy_values.specs.declared.scalars.Value.{Value}
use Rattle.cy_values.specs.declared.scalars.Value.TheVariants as value
use Rattle.cy_values.specs.declared.rows.Cell.{Cell}
use Rattle.cy_values.specs.declared.rows.Cell.TheVariants as cell

-- a list of what each element is
abbrev pub list_json : {A : Type 0} → (A → Data) → List A → Data
list_json json elements = array (items_of (map json elements))

-- an object with one key
abbrev pub keyed : List ℕ → Data → Data
keyed key held = object (member key held no_members)

abbrev pub scalar_json : Scalar → Data
scalar_json (scalar.Text text) = string text
scalar_json (scalar.Bool truth) = boolean truth
scalar_json (scalar.Int whole) = number (of_integer whole)
scalar_json scalar.Null = null

abbrev pub value_json : Value → Data
value_json (value.List scalars) = list_json scalar_json scalars
value_json (value.Text text) = string text
value_json (value.Bool truth) = boolean truth
value_json (value.Int whole) = number (of_integer whole)
value_json value.Null = null

-- {"node":1}
abbrev pub node_json : NodeId → Data
node_json node = keyed (codes "node") (number (unsigned node.0))

-- {"rel":1}
abbrev pub rel_json : RelId → Data
rel_json rel = keyed (codes "rel") (number (unsigned rel.0))

abbrev pub cell_json : Cell → Data
cell_json (cell.Node node) = node_json node
cell_json (cell.Rel rel) = rel_json rel
cell_json (cell.Rels rels) = list_json rel_json rels
cell_json (cell.Value v) = value_json v

abbrev pub row_json : List Cell → Data
row_json cells = list_json cell_json cells

-- [row,count]
abbrev pub counted_json : List Cell × ℕ → Data
counted_json counted = array (item (row_json counted.0) (item (number (unsigned counted.1)) no_items))
