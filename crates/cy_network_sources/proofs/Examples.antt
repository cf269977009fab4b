-- Costs computed by hand.
use Rattle.std.proofs.Common.{◌≡◌, ℕ, ◌+◌, [], ◌∷◌, None, refl}
use Rattle.std.specs.Prelude.{Some, codes, pos}
use Rattle.cy_values.specs.declared.numbers.NodeId.{NodeId}
use Rattle.cy_values.specs.declared.numbers.RelId.{RelId}
use Rattle.cy_values.specs.declared.scalars.Value.TheVariants as value
use Rattle.cy_trees.specs.declared.expressions.Comparator.TheVariants.{NotEqual}
use Rattle.cy_trees.specs.Trees.{Expression, variable, comparison, link, no_links}
use Rattle.cy_graph.specs.declared.nodes.Node.{Node}
use Rattle.cy_graph.specs.declared.nodes.Rel.{Rel}
use Rattle.cy_graph.specs.Graph.{Content}
use Rattle.cy_planner_algebra.specs.declared.operators.Attribute.TheVariants.{Property}
use Rattle.cy_planner_algebra.specs.declared.operators.KeyColumns.{KeyColumns}
use Rattle.cy_planner_algebra.specs.declared.operators.Orientation.TheVariants.{Directed, Either}
use Rattle.cy_planner_algebra.specs.Plans.{Plan, unit, nodes, rels, join, outer, lookup, project, distinct, union, computed}
use Rattle.cy_network_sources.specs.Changes.{Touches}
use Rattle.cy_network_sources.specs.Costs.{cost, part_cost}

abbrev n : ℕ → NodeId
n number = record { 0 = number }

-- a node with a number at `k`, and one without
abbrev keyed : ℕ → Node
keyed k = record { labels = []; props = (codes "k", value.Int (pos k)) ∷ [] }

abbrev bare : Node
bare = record { labels = []; props = [] }

-- a relationship from one node to another
abbrev rel : ℕ → ℕ → Rel
rel source target = record { source = n source; target = n target; kind = codes "T"; props = [] }

abbrev r : ℕ → RelId
r number = record { 0 = number }

abbrev key : ℕ → ℕ → KeyColumns
key left right = record { left = left; right = right }

abbrev column : ℕ → Expression
column c = variable (record { name = []; column = Some c })

-- three nodes, and a relationship from the first to the second; then also one from the second to the third
abbrev one_step : Content
one_step = record { nodes = (n 1, keyed 7) ∷ (n 2, keyed 7) ∷ (n 3, bare) ∷ []; rels = (r 1, rel 1 2) ∷ [] }

abbrev two_steps : Content
two_steps = record { nodes = (n 1, keyed 7) ∷ (n 2, keyed 7) ∷ (n 3, bare) ∷ []; rels = (r 1, rel 1 2) ∷ (r 2, rel 2 3) ∷ [] }

abbrev second_made : Touches
second_made = record { nodes = []; rels = (2, None) ∷ [] }

-- `(a)-[r]->(b)-[s]->(c)`
abbrev path : Plan
path = join (rels [] Directed) (rels [] Directed) (key 2 1 ∷ [])

-- each side reads the relationship that was made, and has one changed row; one pair is joined; one row comes
path_grows : cost second_made one_step two_steps path ≡ (1 + 1) + (1 + 1 + 1) + 1
path_grows = refl

-- read in both directions, two rows of each side change, of two and then four; the four pairs are the old way to 2 with the new one from 2, the new
-- one to 3 with its way back, and this way back, to 2, with the old one from 2 and with the new one
abbrev undirected : Plan
undirected = join (rels [] Either) (rels [] Either) (key 2 1 ∷ [])

undirected_grows : part_cost second_made one_step two_steps undirected ≡ 2 + 2 + 4
undirected_grows = refl

-- `MATCH (a) OPTIONAL MATCH (a)-[r]->(b) WHERE a <> b`: both leaves have a touched entity; one right row changes, and it meets one left row; the row
-- of the second node with nulls goes, and one with its partner comes
abbrev to_another : Plan
to_another = outer nodes (rels [] Directed) (key 0 1 ∷ []) (comparison (column 0) (link NotEqual (column 3) no_links))

partner_comes : cost second_made one_step two_steps to_another ≡ (1 + 1) + (0 + 1 + 1) + 2
partner_comes = refl

-- a part whose rows stay pays for what was touched
nodes_stay : cost second_made one_step two_steps nodes ≡ 1
nodes_stay = refl

nothing_read : cost second_made one_step two_steps unit ≡ 0
nothing_read = refl

-- the second node's `k` becomes 8
abbrev valued : Content
valued = record { nodes = (n 1, keyed 7) ∷ (n 2, keyed 8) ∷ (n 3, bare) ∷ []; rels = (r 1, rel 1 2) ∷ [] }

abbrev second_valued : Touches
second_valued = record { nodes = (2, Some (keyed 7)) ∷ []; rels = [] }

-- the look-up has a touched entity, no changed row and one row that names the entity; one row goes and one comes
abbrev with_k : Plan
with_k = lookup nodes 0 (Property (codes "k"))

value_changes : cost second_valued one_step valued with_k ≡ 1 + (1 + 0 + 1) + 2
value_changes = refl

-- of the values 7 counts once less and 8 once more
abbrev values : Plan
values = project with_k (computed (column 1) ∷ [])

values_change : cost second_valued one_step valued values ≡ 1 + (1 + 0 + 1) + 2 + 2
values_change = refl

-- of the different values 7 stays
different_values : cost second_valued one_step valued (distinct values) ≡ 1 + (1 + 0 + 1) + 2 + 2 + 1
different_values = refl

-- a fourth node is made: both sides of a union have its row, which counts twice
abbrev four_nodes : Content
four_nodes = record { nodes = (n 1, keyed 7) ∷ (n 2, keyed 7) ∷ (n 3, bare) ∷ (n 4, bare) ∷ []; rels = (r 1, rel 1 2) ∷ [] }

abbrev fourth_made : Touches
fourth_made = record { nodes = (4, None) ∷ []; rels = [] }

both_sides : cost fourth_made one_step four_nodes (union nodes nodes) ≡ (1 + 1) + (1 + 1) + 1
both_sides = refl

-- a null meets nothing: the nodes without `k` are in no pair
null_key : cost fourth_made one_step four_nodes (join with_k with_k (key 1 1 ∷ [])) ≡ (1 + (1 + 1 + 1)) + (1 + (1 + 1 + 1)) + (1 + 1 + 0) + 0
null_key = refl
