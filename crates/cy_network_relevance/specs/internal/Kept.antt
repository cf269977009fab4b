-- What becomes of the rows of a plan's operators, as far as they come from one entity, where it has another value.
use Rattle.std.specs.Prelude.{◌≡◌, ◌⊎◌, ⊤, ℕ, true, List, [], Option, Some, is_some}
use Rattle.std.specs.Option.{option_copied}
use Rattle.cy_trees.specs.Trees.{Name}
use Rattle.cy_graph.specs.declared.nodes.Node.{Node}
use Rattle.cy_graph.specs.declared.nodes.Rel.{Rel}
use Rattle.cy_planner_algebra.specs.declared.operators.Attribute.{Attribute}
use Rattle.cy_planner_algebra.specs.declared.operators.Orientation.{Orientation}
use Rattle.cy_planner_algebra.specs.Plans as plan
use Rattle.cy_planner_algebra.specs.Plans.{Plan}
use Rattle.cy_network_sources.specs.Scans.{scan_column, scan_parts}
use Rattle.cy_network_sources.specs.Attributes.{node_attribute, rel_attribute}
use Rattle.cy_network_sources.specs.internal.Through.{leaf_of, node_made, rel_made}
use Rattle.cy_network_relevance.specs.declared.entities.Entity.{Entity}
use Rattle.cy_network_relevance.specs.declared.entities.Entity.TheVariants as entity

-- a node makes the same rows of a scan of nodes with either value, and none with either one; an attribute of it is the same
abbrev pub NodeKept : Option Node → Option Node → Plan → Type 0
NodeKept old new p = leaf_of p ≡ plan.nodes → (number : ℕ) → node_made (scan_parts p) number old ≡ node_made (scan_parts p) number new

abbrev pub NodeAbsent : Option Node → Option Node → Plan → Type 0
NodeAbsent old new p = leaf_of p ≡ plan.nodes → (number : ℕ) → (node_made (scan_parts p) number old ≡ []) × (node_made (scan_parts p) number new ≡ [])

abbrev pub NodeKeeps : Option Node → Option Node → Attribute → Type 0
NodeKeeps old new attribute = node_attribute attribute old ≡ node_attribute attribute new

-- a relationship makes the same rows of a scan with either value, and none with either one; an attribute of it is the same
abbrev pub RelKept : Option Rel → Option Rel → Plan → Type 0
RelKept old new p = (types : List Name) (orientation : Orientation) → leaf_of p ≡ plan.rels types orientation
    → (number : ℕ) → rel_made types orientation (scan_parts p) number old ≡ rel_made types orientation (scan_parts p) number new

abbrev pub RelAbsent : Option Rel → Option Rel → Plan → Type 0
RelAbsent old new p = (types : List Name) (orientation : Orientation) → leaf_of p ≡ plan.rels types orientation
    → (number : ℕ) → (rel_made types orientation (scan_parts p) number old ≡ []) × (rel_made types orientation (scan_parts p) number new ≡ [])

abbrev pub RelKeeps : Option Rel → Option Rel → Attribute → Type 0
RelKeeps old new attribute = rel_attribute attribute old ≡ rel_attribute attribute new

-- an entity makes the same rows of a scan with either value, and none with either one; an attribute of it is the same
abbrev pub KeepsRows : Entity → Plan → Type 0
KeepsRows (entity.Node old new) = NodeKept (option_copied old) (option_copied new)
KeepsRows (entity.Rel old new) = RelKept (option_copied old) (option_copied new)

abbrev pub NoRows : Entity → Plan → Type 0
NoRows (entity.Node old new) = NodeAbsent (option_copied old) (option_copied new)
NoRows (entity.Rel old new) = RelAbsent (option_copied old) (option_copied new)

abbrev pub KeepsValue : Entity → Attribute → Type 0
KeepsValue (entity.Node old new) = NodeKeeps (option_copied old) (option_copied new)
KeepsValue (entity.Rel old new) = RelKeeps (option_copied old) (option_copied new)

-- no row of an operator comes from an entity; the operator is a scan that names its entities in the first column
abbrev pub IsAbsent : Entity → Plan → Type 0
IsAbsent e p = (scan_column p ≡ Some 0) × NoRows e p

-- The operators of a plan make the same rows where this is known of scans and of attributes: each leaf, and each operator that looks something up or leaves rows
-- out, unless it is a scan that as a whole makes the same rows.
abbrev pub AreKept : (Plan → Type 0) → (Attribute → Type 0) → Plan → Type 0
AreKept Rows Value plan.unit = ⊤
AreKept Rows Value plan.nodes = Rows plan.nodes
AreKept Rows Value (plan.rels types orientation) = Rows (plan.rels types orientation)
AreKept Rows Value (plan.join left right keys) = AreKept Rows Value left × AreKept Rows Value right
AreKept Rows Value (plan.outer left right keys test) = AreKept Rows Value left × AreKept Rows Value right
AreKept Rows Value (plan.semi left right keys keeping) = AreKept Rows Value left × AreKept Rows Value right
AreKept Rows Value (plan.lookup p column attribute) =
    ((is_some (scan_column (plan.lookup p column attribute)) ≡ true) × Rows (plan.lookup p column attribute)) ⊎ (AreKept Rows Value p × Value attribute)
AreKept Rows Value (plan.filter p test) = ((is_some (scan_column (plan.filter p test)) ≡ true) × Rows (plan.filter p test)) ⊎ AreKept Rows Value p
AreKept Rows Value (plan.all_different p columns) = AreKept Rows Value p
AreKept Rows Value (plan.project p outputs) = AreKept Rows Value p
AreKept Rows Value (plan.distinct p) = AreKept Rows Value p
AreKept Rows Value (plan.union left right) = AreKept Rows Value left × AreKept Rows Value right

-- so it is with a node, with a relationship, and with an entity
abbrev pub IsNodeUnchanged : Option Node → Option Node → Plan → Type 0
IsNodeUnchanged old new = AreKept (NodeKept old new) (NodeKeeps old new)

abbrev pub IsRelUnchanged : Option Rel → Option Rel → Plan → Type 0
IsRelUnchanged old new = AreKept (RelKept old new) (RelKeeps old new)

abbrev pub IsUnchanged : Entity → Plan → Type 0
IsUnchanged e = AreKept (KeepsRows e) (KeepsValue e)
