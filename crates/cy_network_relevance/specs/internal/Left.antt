-- What a change leaves as it is, entity by entity, where an entity's bits are apart from those of a mask.
use Rattle.std.specs.Prelude.{◌≡◌, List, [], ◌∷◌, Option, Some}
use Rattle.cy_trees.specs.Trees.{Name}
use Rattle.cy_graph.specs.declared.nodes.Node.{Node}
use Rattle.cy_graph.specs.declared.nodes.Rel.{Rel}
use Rattle.cy_planner_algebra.specs.declared.operators.Attribute.{Attribute}
use Rattle.cy_planner_algebra.specs.Plans.{Plan}
use Rattle.cy_network_sources.specs.Scans.{scan_column}
use Rattle.cy_network_relevance.specs.internal.Kept.{IsNodeUnchanged, IsRelUnchanged, NodeAbsent, NodeKeeps, RelAbsent, RelKeeps}
use Rattle.cy_network_relevance.specs.NameBits.{AreBitsApart, lowest_bits, name_bits, no_bits, node_bits, rel_bits, with_names}
use Rattle.cy_network_relevance.specs.declared.masks.bits.Bits.{Bits}
use Rattle.cy_network_relevance.specs.declared.masks.Mask.{Mask}

-- an entity's bits are apart from those of a mask, with one value and with another
abbrev pub MissesNode : Mask → Option Node → Option Node → Type 0
MissesNode mask old new = (AreBitsApart mask.nodes (node_bits old)) × (AreBitsApart mask.nodes (node_bits new))

abbrev pub MissesRel : Mask → Option Rel → Option Rel → Type 0
MissesRel mask old new = (AreBitsApart mask.rels (rel_bits old)) × (AreBitsApart mask.rels (rel_bits new))

-- such an entity leaves the operators of a plan as they are
pub record LeavesUnread (mask : Mask) (p : Plan) : Type 0 where
  pub nodes : (old new : Option Node) → MissesNode mask old new → IsNodeUnchanged old new p
  pub rels : (old new : Option Rel) → MissesRel mask old new → IsRelUnchanged old new p

-- it has no row in an operator, which is a scan that names its entities in the first column
pub record IsLimited (mask : Mask) (p : Plan) : Type 0 where
  pub column : scan_column p ≡ Some 0
  pub nodes : (old new : Option Node) → MissesNode mask old new → NodeAbsent old new p
  pub rels : (old new : Option Rel) → MissesRel mask old new → RelAbsent old new p

-- an attribute of it is the same
pub record IsReadOf (mask : Mask) (attribute : Attribute) : Type 0 where
  pub nodes : (old new : Option Node) → MissesNode mask old new → NodeKeeps old new attribute
  pub rels : (old new : Option Rel) → MissesRel mask old new → RelKeeps old new attribute

-- a mask has no bit that another lacks, so that what is apart from the other is apart from it
pub record IsWithin (mask other : Mask) : Type 0 where
  pub nodes : (bits : Bits) → AreBitsApart other.nodes bits → AreBitsApart mask.nodes bits
  pub rels : (bits : Bits) → AreBitsApart other.rels bits → AreBitsApart mask.rels bits

-- the mask of a label, and that of types: where none is named, each relationship is of them
abbrev pub label_mask : Name → Mask
label_mask label = record { nodes = name_bits label; rels = no_bits }

abbrev pub rels_mask : List Name → Mask
rels_mask [] = record { nodes = no_bits; rels = lowest_bits }
rels_mask (t ∷ ts) = record { nodes = no_bits; rels = with_names no_bits (t ∷ ts) }
