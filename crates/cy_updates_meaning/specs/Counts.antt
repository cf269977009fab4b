-- How many nodes and relationships a statement makes and removes. (own; what is made and removed again counts in both)
use Rattle.std.specs.Prelude.{◌≡◌, ℕ, ◌+◌, List, length, filter, is_none}
use Rattle.cy_values.specs.declared.numbers.NodeId.{NodeId}
use Rattle.cy_values.specs.declared.numbers.RelId.{RelId}
use Rattle.cy_graph.specs.declared.nodes.Node.{Node}
use Rattle.cy_graph.specs.declared.nodes.Rel.{Rel}
use Rattle.cy_graph.specs.Graph.{Content, State, node_in, relationship_in}

pub record Counts : Type 0 where
  pub made_nodes : ℕ
  pub gone_nodes : ℕ
  pub made_rels : ℕ
  pub gone_rels : ℕ

abbrev pub no_counts : Counts
no_counts = record { made_nodes = 0; gone_nodes = 0; made_rels = 0; gone_rels = 0 }

-- the nodes, and the relationships, of the one graph that aren't in the other
abbrev pub new_nodes : Content → Content → List (NodeId × Node)
new_nodes graph other = filter (λ e. is_none (node_in other e.0)) graph.nodes

abbrev pub new_relationships : Content → Content → List (RelId × Rel)
new_relationships graph other = filter (λ e. is_none (relationship_in other e.0)) graph.rels

-- what a clause makes and removes, by the graphs before and after it
abbrev pub counts_between : Content → Content → Counts
counts_between before after = record {
  made_nodes = length (new_nodes after before);
  gone_nodes = length (new_nodes before after);
  made_rels = length (new_relationships after before);
  gone_rels = length (new_relationships before after);
}

abbrev pub plus : Counts → Counts → Counts
plus some others = record {
  made_nodes = some.made_nodes + others.made_nodes;
  gone_nodes = some.gone_nodes + others.gone_nodes;
  made_rels = some.made_rels + others.made_rels;
  gone_rels = some.gone_rels + others.gone_rels;
}

-- The counts agree with the graphs before and after: each thing that is made takes a number of its series, and what was there or is
-- made is there or gone.
pub record AgreeWith (before after : State) (counts : Counts) : Type 0 where
  pub node_numbers : before.next_node + counts.made_nodes ≡ after.next_node
  pub rel_numbers : before.next_rel + counts.made_rels ≡ after.next_rel
  pub nodes : length before.content.nodes + counts.made_nodes ≡ length after.content.nodes + counts.gone_nodes
  pub rels : length before.content.rels + counts.made_rels ≡ length after.content.rels + counts.gone_rels
