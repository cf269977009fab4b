-- The rows of a plan on the content of a graph, as a bag: one equation for each operator. (Francis et al., bags of records; the operators: own)
use Rattle.std.specs.Prelude.{ℕ, ◌==◌, Bool, true, not, ◌&&◌, List, [], ◌∷◌, ◌++◌, map, flat_map, replicate, Result, Ok, Err, if◌then◌else◌}
use Rattle.std.specs.Prelude as std
use Rattle.std.specs.List.{list_any}
use Rattle.std.specs.Ordering.{eq_by_cmp}
use Rattle.cy_values.specs.declared.numbers.RelId.{RelId}
use Rattle.cy_values.specs.declared.scalars.Value.{Value}
use Rattle.cy_values.specs.declared.scalars.Value.TheVariants as value
use Rattle.cy_values.specs.declared.rows.Cell.{Cell}
use Rattle.cy_values.specs.declared.rows.Cell.TheVariants as cell
use Rattle.cy_values.specs.Order.{row_cmp}
use Rattle.cy_trees.specs.Trees.{Name, Expression}
use Rattle.cy_graph.specs.Graph.{Content}
use Rattle.cy_graph.specs.declared.nodes.Rel.{Rel}
use Rattle.cy_expr.specs.declared.faults.EvalFault.{EvalFault}
use Rattle.cy_expr.specs.Graphs.{are_different, has_type, lookups}
use Rattle.cy_expr.specs.Lookups.{property_value, type_value, labels_value}
use Rattle.cy_planner_algebra.specs.declared.operators.Attribute.{Attribute}
use Rattle.cy_planner_algebra.specs.declared.operators.Attribute.TheVariants.{Property, RelType, Labels}
use Rattle.cy_planner_algebra.specs.declared.operators.Keeping.{Keeping}
use Rattle.cy_planner_algebra.specs.declared.operators.Keeping.TheVariants.{Matched, Unmatched}
use Rattle.cy_planner_algebra.specs.declared.operators.KeyColumns.{KeyColumns}
use Rattle.cy_planner_algebra.specs.declared.operators.Orientation.{Orientation}
use Rattle.cy_planner_algebra.specs.declared.operators.Orientation.TheVariants.{Directed, Either}
use Rattle.cy_planner_algebra.specs.Plans as plan
use Rattle.cy_planner_algebra.specs.Plans.{Plan, width}
use Rattle.cy_planner_algebra.specs.Expressions.{null, cell_at, holds, relationships_at, projected}
use Rattle.cy_planner_algebra.specs.Keys.{meet}

-- a relationship, its source, its target and its type
abbrev pub forwards : RelId × Rel → List Cell
forwards r = cell.Rel r.0 ∷ cell.Node r.1.source ∷ cell.Node r.1.target ∷ cell.Value (value.Text r.1.kind) ∷ []

-- a relationship, its ends exchanged, and its type
abbrev pub backwards : RelId × Rel → List Cell
backwards r = cell.Rel r.0 ∷ cell.Node r.1.target ∷ cell.Node r.1.source ∷ cell.Value (value.Text r.1.kind) ∷ []

abbrev pub is_loop : Rel → Bool
is_loop rel = rel.source.0 == rel.target.0

-- the rows of a relationship: from source to target, and for either direction from target to source too, a loop once
abbrev pub ways : Orientation → RelId × Rel → List (List Cell)
ways Directed r = forwards r ∷ []
ways Either r = if is_loop r.1 then forwards r ∷ [] else forwards r ∷ backwards r ∷ []

abbrev pub rows_of_rel : List Name → Orientation → RelId × Rel → List (List Cell)
rows_of_rel types orientation r = if has_type types r.1 then ways orientation r else []

-- a value, null in place of a fault
abbrev pub value_or_null : Result Value EvalFault → Value
value_or_null (Ok v) = v
value_or_null (Err fault) = value.Null

-- an attribute of the entity in a cell: a property, the type or the list of labels; null where it isn't there, of null, and of a cell
-- that names no entity which has it (own)
abbrev pub attribute_of : Content → Attribute → Cell → Value
attribute_of graph (Property key) c = value_or_null (property_value (lookups graph) key c)
attribute_of graph RelType c = value_or_null (type_value (lookups graph) c)
attribute_of graph Labels c = value_or_null (labels_value (lookups graph) c)

abbrev pub with_attribute : Content → ℕ → Attribute → List Cell → List Cell
with_attribute graph column attribute row = row ++ cell.Value (attribute_of graph attribute (cell_at row column)) ∷ []

-- a row of the right input that a row of the left input meets, and with which the predicate is true
abbrev pub is_partner : List KeyColumns → Expression → List Cell → List Cell → Bool
is_partner keys test left right = meet keys left right && holds test (left ++ right)

-- a row with each of several others after it
abbrev pub paired : List Cell → List (List Cell) → List (List Cell)
paired left rights = map (λ right. left ++ right) rights

-- the rows of the one operator with those of the other that they meet
abbrev pub joined : List KeyColumns → List (List Cell) → List (List Cell) → List (List Cell)
joined keys lefts rights = flat_map (λ left. paired left (std.filter (meet keys left) rights)) lefts

abbrev pub nulls : ℕ → List Cell
nulls count = replicate count null

-- the partners of a row, or nulls where there is none
abbrev pub or_nulls : ℕ → List (List Cell) → List (List Cell)
or_nulls count [] = nulls count ∷ []
or_nulls count (found ∷ others) = found ∷ others

abbrev pub outer_joined : List KeyColumns → Expression → ℕ → List (List Cell) → List (List Cell) → List (List Cell)
outer_joined keys test count lefts rights = flat_map (λ left. paired left (or_nulls count (std.filter (is_partner keys test left) rights))) lefts

-- a row of the left input meets some row of the right one
abbrev pub has_partner : List KeyColumns → List (List Cell) → List Cell → Bool
has_partner keys rights left = list_any (meet keys left) rights

-- whether a semi join keeps a row, by whether that has a partner
abbrev pub stays : Keeping → Bool → Bool
stays Matched found = found
stays Unmatched found = not found

-- the rows of the left input that have a partner, or that have none
abbrev pub semi_joined : List KeyColumns → Keeping → List (List Cell) → List (List Cell) → List (List Cell)
semi_joined keys keeping lefts rights = std.filter (λ left. stays keeping (has_partner keys rights left)) lefts

-- a row is among others
abbrev pub is_among : List Cell → List (List Cell) → Bool
is_among row rows = list_any (eq_by_cmp row_cmp row) rows

-- each row once
abbrev pub each_once : List (List Cell) → List (List Cell)
each_once [] = []
each_once (row ∷ rows) = if is_among row rows then each_once rows else row ∷ each_once rows

-- the rows of a plan
abbrev pub rows_of : Content → Plan → List (List Cell)
rows_of graph plan.unit = [] ∷ []
rows_of graph plan.nodes = map (λ n. cell.Node n.0 ∷ []) graph.nodes
rows_of graph (plan.rels types orientation) = flat_map (rows_of_rel types orientation) graph.rels
rows_of graph (plan.join left right keys) = joined keys (rows_of graph left) (rows_of graph right)
rows_of graph (plan.outer left right keys test) = outer_joined keys test (width right) (rows_of graph left) (rows_of graph right)
rows_of graph (plan.semi left right keys keeping) = semi_joined keys keeping (rows_of graph left) (rows_of graph right)
rows_of graph (plan.lookup p column attribute) = map (with_attribute graph column attribute) (rows_of graph p)
rows_of graph (plan.filter p test) = std.filter (holds test) (rows_of graph p)
rows_of graph (plan.all_different p columns) = std.filter (λ row. are_different (relationships_at columns row)) (rows_of graph p)
rows_of graph (plan.project p outputs) = map (projected outputs) (rows_of graph p)
rows_of graph (plan.distinct p) = each_once (rows_of graph p)
rows_of graph (plan.union left right) = rows_of graph left ++ rows_of graph right
