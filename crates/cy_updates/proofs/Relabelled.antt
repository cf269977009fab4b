-- A label that is added to a node or dropped leaves a graph with the same numbers.
use Rattle.cy_values.specs.declared.numbers.NodeId.{NodeId}
use Rattle.cy_trees.specs.Trees.{Name}
use Rattle.cy_graph.specs.Graph.{State, IsGraph, with_node_changed}
use Rattle.cy_updates.specs.declared.writes.entities.LabelChange.{LabelChange}
use Rattle.cy_updates.specs.declared.writes.entities.LabelChange.TheVariants.{Add, Drop}
use Rattle.cy_updates.specs.internal.Entities.{relabelled}
use Rattle.cy_updates_meaning.proofs.Graphs.{Kept, label_kept, no_label_kept}

pub relabelled_kept : (change : LabelChange) (id : NodeId) (label : Name) (graph : State) → IsGraph graph → Kept graph (with_node_changed id (relabelled change label) graph)
relabelled_kept Add id label graph is = label_kept graph is id label
relabelled_kept Drop id label graph is = no_label_kept graph is id label
