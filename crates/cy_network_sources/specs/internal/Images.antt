-- The images of touched entities, as they are gathered.
use Rattle.std.specs.Prelude.{ℕ, List, [], ◌∷◌, Option, None, Some, if◌then◌else◌, nat_eq}
use Rattle.std.proofs.Common.{inl, inr}
use Rattle.cy_values.specs.declared.numbers.Entity.TheVariants as entity
use Rattle.cy_graph.specs.declared.nodes.Node.{Node}
use Rattle.cy_graph.specs.declared.nodes.Rel.{Rel}
use Rattle.cy_graph.specs.Touched.{Old, BeforeImage}

-- the node that was there, and the relationship
abbrev pub node_of_old : Option Old → Option Node
node_of_old None = None
node_of_old (Some (inl node)) = Some node
node_of_old (Some (inr rel)) = None

abbrev pub rel_of_old : Option Old → Option Rel
rel_of_old None = None
rel_of_old (Some (inl node)) = None
rel_of_old (Some (inr rel)) = Some rel

-- what stands under the number of a node once a touched entity was added, and under that of a relationship
abbrev pub node_noted : ℕ → BeforeImage → Option (Option Node) → Option (Option Node)
node_noted number (entity.Node id, was) found = if nat_eq id.0 number then Some (node_of_old was) else found
node_noted number (entity.Rel id, was) found = found

abbrev pub rel_noted : ℕ → BeforeImage → Option (Option Rel) → Option (Option Rel)
rel_noted number (entity.Node id, was) found = found
rel_noted number (entity.Rel id, was) found = if nat_eq id.0 number then Some (rel_of_old was) else found

-- what stands there once all were
abbrev pub nodes_noted : ℕ → List BeforeImage → Option (Option Node) → Option (Option Node)
nodes_noted number [] found = found
nodes_noted number (e ∷ es) found = nodes_noted number es (node_noted number e found)

abbrev pub rels_noted : ℕ → List BeforeImage → Option (Option Rel) → Option (Option Rel)
rels_noted number [] found = found
rels_noted number (e ∷ es) found = rels_noted number es (rel_noted number e found)
