-- SET and REMOVE: what an item does on one row. (openCypher 9, SET and REMOVE; null as a target, and faults: own)
use Rattle.std.specs.Prelude.{List, fold, Option, None, Some, Result, Ok}
use Rattle.cy_values.specs.declared.numbers.Entity.{Entity}
use Rattle.cy_values.specs.declared.numbers.Entity.TheVariants as entity
use Rattle.cy_values.specs.declared.scalars.Value.{Value}
use Rattle.cy_values.specs.declared.rows.Cell.{Cell}
use Rattle.cy_trees.specs.Trees.{Name, SetItem, set_property, set_labels, RemoveItem, remove_property, remove_labels}
use Rattle.cy_graph.specs.Graph.{State, with_label, with_node_changed, with_prop, without_label}
use Rattle.cy_graph.specs.declared.nodes.Node.{Node}
use Rattle.cy_updates_meaning.specs.declared.faults.UpdateFault.{UpdateFault}
use Rattle.cy_updates_meaning.specs.Faults.{◌>>=◌}
use Rattle.cy_updates_meaning.specs.Values.{named_by, settable, unless_null, value_on}

-- The property of what is named is set; null removes it. Where nothing is named, nothing is stored, and what can't be stored is no
-- fault.
abbrev pub with_property : Option Entity → Name → Value → State → Result State UpdateFault
with_property None key v graph = Ok graph
with_property (Some x) key v graph = settable v >>= λ w. Ok (with_prop x key (unless_null w) graph)

-- the property of what is named is removed
abbrev pub without_property : Option Entity → Name → State → State
without_property None key graph = graph
without_property (Some x) key graph = with_prop x key None graph

-- each of the labels is put on, or taken off, the node that is named; a relationship has no labels
abbrev pub with_labels_changed : (Name → Node → Node) → List Name → Option Entity → State → State
with_labels_changed change labels (Some (entity.Node id)) graph = fold (λ so_far label. with_node_changed id (change label) so_far) graph labels
with_labels_changed change labels x graph = graph

-- SET: the expression is evaluated, on the graph as it stands, also where its target is null
abbrev pub set_item : List Cell → SetItem → State → Result State UpdateFault
set_item row (set_property v key e) graph = value_on graph row e >>= λ value. with_property (named_by v row) key value graph
set_item row (set_labels v labels) graph = Ok (with_labels_changed with_label labels (named_by v row) graph)

-- REMOVE
abbrev pub removed_item : List Cell → State → RemoveItem → State
removed_item row graph (remove_property v key) = without_property (named_by v row) key graph
removed_item row graph (remove_labels v labels) = with_labels_changed without_label labels (named_by v row) graph
