-- How many nodes and relationships went.
use Rattle.std.specs.Prelude.{◌≡◌, ℕ, ◌+◌, ◌≤◌, length}
use Rattle.cy_graph.specs.Graph.{State}

-- as many nodes, and relationships, went as were there or took a number and aren't there; and numbers only rise
pub record AreGone (first graph : State) (nodes rels : ℕ) : Type 0 where
  pub nodes_gone : nodes + length graph.content.nodes + first.next_node ≡ length first.content.nodes + graph.next_node
  pub rels_gone : rels + length graph.content.rels + first.next_rel ≡ length first.content.rels + graph.next_rel
  pub nodes_up : first.next_node ≤ graph.next_node
  pub rels_up : first.next_rel ≤ graph.next_rel
