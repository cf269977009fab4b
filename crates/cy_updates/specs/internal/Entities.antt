-- What the code does with labels.
use Rattle.cy_trees.specs.Trees.{Name}
use Rattle.cy_graph.specs.Graph.{with_label, without_label}
use Rattle.cy_graph.specs.declared.nodes.Node.{Node}
use Rattle.cy_updates.specs.declared.writes.entities.LabelChange.{LabelChange}
use Rattle.cy_updates.specs.declared.writes.entities.LabelChange.TheVariants.{Add, Drop}

-- a node with the label added, or dropped
abbrev pub relabelled : LabelChange → Name → Node → Node
relabelled Add = with_label
relabelled Drop = without_label
