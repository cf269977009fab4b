-- DELETE: one set of all that goes, and one test of it. (openCypher 9, DELETE; which relationship is reported: own)
use Rattle.std.specs.Prelude.{Bool, false, not, ◌&&◌, ◌||◌, ◌==◌, List, [], ◌∷◌, filter, flat_map, option_to_list, Result, Ok, Err}
use Rattle.std.specs.List.{list_any}
use Rattle.cy_values.specs.declared.numbers.NodeId.{NodeId}
use Rattle.cy_values.specs.declared.numbers.RelId.{RelId}
use Rattle.cy_values.specs.declared.numbers.Entity.{Entity}
use Rattle.cy_values.specs.declared.numbers.Entity.TheVariants as entity
use Rattle.cy_values.specs.declared.rows.Cell.{Cell}
use Rattle.cy_trees.specs.declared.expressions.Variable.{Variable}
use Rattle.cy_graph.specs.Graph.{State, with_nodes, with_rels}
use Rattle.cy_graph.specs.declared.nodes.Rel.{Rel}
use Rattle.cy_updates_meaning.specs.declared.faults.UpdateFault.{UpdateFault}
use Rattle.cy_updates_meaning.specs.declared.faults.UpdateFault.TheVariants.{StillConnected}
use Rattle.cy_updates_meaning.specs.Values.{named_by}

-- all that the variables name on all rows; null names none
abbrev pub named : List Variable → List (List Cell) → List Entity
named variables rows = flat_map (λ row. flat_map (λ v. option_to_list (named_by v row)) variables) rows

abbrev pub same_entity : Entity → Entity → Bool
same_entity (entity.Node m) (entity.Node n) = m.0 == n.0
same_entity (entity.Rel m) (entity.Rel n) = m.0 == n.0
same_entity x y = false

-- a node, or a relationship, is one of them
abbrev pub is_node_of : List Entity → NodeId → Bool
is_node_of set id = list_any (same_entity (entity.Node id)) set

abbrev pub is_relationship_of : List Entity → RelId → Bool
is_relationship_of set id = list_any (same_entity (entity.Rel id)) set

-- a relationship lies at a node of the set
abbrev pub lies_at : List Entity → RelId × Rel → Bool
lies_at set e = is_node_of set e.1.source || is_node_of set e.1.target

-- it goes: it is of the set, or, with DETACH, lies at a node of it
abbrev pub is_going : Bool → List Entity → RelId × Rel → Bool
is_going detach set e = is_relationship_of set e.0 || (detach && lies_at set e)

-- it remains at a node that goes
abbrev pub is_left_over : Bool → List Entity → RelId × Rel → Bool
is_left_over detach set e = lies_at set e && not (is_going detach set e)

-- the graph without the set, and without the relationships that go; their numbers stay given out
abbrev pub without_set : Bool → List Entity → State → State
without_set detach set graph =
    with_rels (filter (λ e. not (is_going detach set e)) graph.content.rels)
    (with_nodes (filter (λ e. not (is_node_of set e.0)) graph.content.nodes) graph)

-- by the relationships that are left over: the first, which is that with the least number, is reported
abbrev pub unless_left_over : List (RelId × Rel) → State → Result State UpdateFault
unless_left_over [] graph = Ok graph
unless_left_over (e ∷ es) graph = Err (StillConnected e.0)

-- DELETE of what the rows name, all at once
abbrev pub deleted : State → Bool → List Variable → List (List Cell) → Result State UpdateFault
deleted graph detach variables rows =
    unless_left_over (filter (is_left_over detach (named variables rows)) graph.content.rels) (without_set detach (named variables rows) graph)
