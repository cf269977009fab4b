-- What expressions give properties, and what properties keep of it. (openCypher 9, Setting properties: null removes; what can be
-- stored, and faults: own)
use Rattle.std.specs.Prelude.{⊤, ◌||◌, if◌then◌else◌, List, [], ◌∷◌, fold, Option, None, Some, Result, Ok, Err}
use Rattle.cy_values.specs.declared.numbers.Entity.{Entity}
use Rattle.cy_values.specs.declared.numbers.Entity.TheVariants as entity
use Rattle.cy_values.specs.declared.scalars.Value.{Value}
use Rattle.cy_values.specs.declared.scalars.Value.TheVariants as value
use Rattle.cy_values.specs.declared.rows.Cell.{Cell}
use Rattle.cy_values.specs.declared.rows.Cell.TheVariants as cell
use Rattle.cy_values.specs.Compare.{is_null}
use Rattle.cy_trees.specs.declared.expressions.Variable.{Variable}
use Rattle.cy_trees.specs.Trees.{Name, Expression, MapEntry}
use Rattle.cy_graph.specs.Graph.{State, set_or_removed}
use Rattle.cy_graph.specs.Maps.{with_value}
use Rattle.cy_graph.specs.Stored.{is_storable}
use Rattle.cy_expr.specs.Evaluation.{cell_of, column_value}
use Rattle.cy_expr.specs.Faults.{on_one}
use Rattle.cy_expr.specs.Operators.{value_in_cell}
use Rattle.cy_oneshot_patterns.specs.Places.{entries_if}
use Rattle.cy_expr.specs.Graphs.{lookups}
use Rattle.cy_updates_meaning.specs.declared.faults.UpdateFault.{UpdateFault}
use Rattle.cy_updates_meaning.specs.declared.faults.UpdateFault.TheVariants.{NotStorable}
use Rattle.cy_updates_meaning.specs.Faults.{◌>>=◌, evaluated}

-- What a cell names: a node or a relationship. Null names none, and neither does a list of relationships: scope refuses the variable
-- of a length wherever one entity is to be named.
abbrev pub entity_in : Cell → Option Entity
entity_in (cell.Node id) = Some (entity.Node id)
entity_in (cell.Rel id) = Some (entity.Rel id)
entity_in c = None

-- what a variable names on a row
abbrev pub named_by : Variable → List Cell → Option Entity
named_by v row = entity_in (column_value v.column row)

-- the value of an expression on a row and the graph as it stands
abbrev pub value_on : State → List Cell → Expression → Result Value UpdateFault
value_on graph row e = evaluated (on_one value_in_cell (cell_of (lookups graph.content) row e))

-- a property may be set to null, which removes it, and to what can be stored
abbrev pub settable : Value → Result Value UpdateFault
settable v = if is_null v || is_storable v then Ok v else Err NotStorable

-- null stands for no value
abbrev pub unless_null : Value → Option Value
unless_null value.Null = None
unless_null (value.List elements) = Some (value.List elements)
unless_null (value.Text text) = Some (value.Text text)
unless_null (value.Bool truth) = Some (value.Bool truth)
unless_null (value.Int number) = Some (value.Int number)

-- a property set to a value, null removing it
abbrev pub with_entry : Name → Value → List (Name × Value) → List (Name × Value)
with_entry key v props = set_or_removed key (unless_null v) props

-- the properties after the entries are set from the left: of two with one key the later counts
abbrev pub set_all : List (Name × Value) → List (Name × Value) → List (Name × Value)
set_all props [] = props
set_all props (e ∷ es) = set_all (with_entry e.0 e.1 props) es

-- the values of a map's entries from the left. Each entry answers with its value's fault, or as one that can't be stored, before
-- the next one, also where a later entry has its key.
abbrev pub entry_values : State → List Cell → List MapEntry → Result (List (Name × Value)) UpdateFault
entry_values graph row [] = Ok []
entry_values graph row (e ∷ es) =
    value_on graph row e.value >>= λ v.
    settable v >>= λ w.
    entry_values graph row es >>= λ others.
    Ok ((e.key, w) ∷ others)

-- the properties that a map makes; null isn't stored
abbrev pub map_properties : State → List Cell → Option (List MapEntry) → Result (List (Name × Value)) UpdateFault
map_properties graph row entries = entry_values graph row (entries_if entries) >>= λ values. Ok (set_all [] values)

-- the set of these labels
abbrev pub label_set : List Name → List (Name × ⊤)
label_set labels = fold (λ set label. with_value label tt set) [] labels
