-- Masks: the bits of labels and of types. That of a plan has the labels and the types that its operators ask for, that of a change those of the entities that it
-- touched; where the two are apart, the plan reads nothing that the change touched. (own)
use Rattle.std.specs.Prelude.{ℕ, List, [], ◌∷◌, Option}
use Rattle.cy_graph.specs.declared.nodes.Node.{Node}
use Rattle.cy_graph.specs.declared.nodes.Rel.{Rel}
use Rattle.cy_graph.specs.Graph.{State, node_at, rel_at}
use Rattle.cy_planner_algebra.specs.Plans.{Plan}
use Rattle.cy_network_sources.specs.Changes.{IsChange, Touches}
use Rattle.cy_network_relevance.specs.Relevance.{IsUntouched}
use Rattle.cy_network_relevance.specs.NameBits.{AreBitsApart, joined_bits, no_bits, node_bits, rel_bits}
use Rattle.cy_network_relevance.specs.declared.masks.bits.Bits.{Bits}
use Rattle.cy_network_relevance.specs.declared.masks.Mask.{Mask}

-- some bits, and those of touched entities, with the values that they had and with those in a graph
abbrev pub with_nodes : State → Bits → List (ℕ × Option Node) → Bits
with_nodes now bits [] = bits
with_nodes now bits (e ∷ es) = with_nodes now (joined_bits (joined_bits bits (node_bits e.1)) (node_bits (node_at (record { 0 = e.0 }) now))) es

abbrev pub with_rels : State → Bits → List (ℕ × Option Rel) → Bits
with_rels now bits [] = bits
with_rels now bits (e ∷ es) = with_rels now (joined_bits (joined_bits bits (rel_bits e.1)) (rel_bits (rel_at (record { 0 = e.0 }) now))) es

-- the mask of a change that led to a graph
abbrev pub mask_of : State → Touches → Mask
mask_of now touches = record { nodes = with_nodes now no_bits touches.nodes; rels = with_rels now no_bits touches.rels }

-- the bits of both
abbrev pub joined : Mask → Mask → Mask
joined a b = record { nodes = joined_bits a.nodes b.nodes; rels = joined_bits a.rels b.rels }

-- the bits that they have for nodes are apart, and those that they have for relationships
pub record AreApart (a b : Mask) : Type 0 where
  pub nodes : AreBitsApart a.nodes b.nodes
  pub rels : AreBitsApart a.rels b.rels

-- a mask has all that a plan reads: a change whose mask is apart from it leaves the rows of the plan's operators as they are
abbrev pub Covers : Mask → Plan → Type 0
Covers mask p = (before now : State) (touches : Touches) → IsChange before now touches → AreApart mask (mask_of now touches) → IsUntouched before.content now.content p
