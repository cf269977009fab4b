-- What a graph keeps stands for its content.
use Rattle.std.specs.Prelude.{◌≡◌, ℕ, ◌<◌, eqb, cond, filter, is_some, reverse, List, [], ◌∷◌, IsSome, IsNone, IsTrue}
use Rattle.std.specs.List.{AllByRecursion}
use Rattle.std.specs.Option.{ForSome}
use Rattle.cy_values.specs.declared.numbers.RelId.{RelId}
use Rattle.cy_graph.specs.declared.adjacency.Adjacency.{Adjacency}
use Rattle.cy_graph.specs.declared.nodes.Node.{Node}
use Rattle.cy_graph.specs.declared.nodes.Rel.{Rel}
use Rattle.cy_graph.specs.Maps.{rises}
use Rattle.cy_graph.specs.Stored.{IsStorable}
use Rattle.cy_graph.specs.internal.Adjacency.{ids_at, is_live, undone}
use Rattle.cy_graph.specs.internal.Slots.{value_under}
use Rattle.cy_graph.specs.Model.{Numbered, SeriesVersions}

-- a node that may stand in a graph: its labels and its keys rise, and its values can be stored
pub record IsNode (node : Node) : Type 0 where
  pub labels : IsTrue (rises node.labels)
  pub props : IsTrue (rises node.props)
  pub stored : IsStorable node.props

-- and a relationship
pub record IsRel (rel : Rel) : Type 0 where
  pub props : IsTrue (rises rel.props)
  pub stored : IsStorable rel.props

-- nodes and relationships that make a graph: the ends of each relationship are nodes
pub record AreValues (nodes : Numbered Node) (rels : Numbered Rel) : Type 0 where
  pub nodes_are : AllByRecursion (λ (e : ℕ × Node). IsNode e.1) nodes.entries
  pub rels_are : AllByRecursion (λ (e : ℕ × Rel). IsRel e.1) rels.entries
  pub ends : AllByRecursion (λ (e : ℕ × Rel). IsSome (value_under e.1.source.0 nodes.entries) × IsSome (value_under e.1.target.0 nodes.entries)) rels.entries

-- the numbers of the relationships that have the node as this end
abbrev pub ids_by : (Rel → ℕ) → ℕ → List (ℕ × Rel) → List RelId
ids_by end node [] = []
ids_by end node (e ∷ es) = cond (eqb node (end e.1)) (record { 0 = e.0 } ∷ ids_by end node es) (ids_by end node es)

-- a list has the relationships of which the node is this end, and besides them numbers of some that were removed
pub record IsListOf (end : Rel → ℕ) (node : ℕ) (rels : Numbered Rel) (ids : List RelId) : Type 0 where
  pub given : AllByRecursion (λ (id : RelId). id.0 < rels.next) ids
  pub live : filter (is_live rels.entries) ids ≡ ids_by end node rels.entries

-- the lists have the relationships of which each node is this end, as they are and, once their steps are undone, as they
-- were when the change began
pub record IsJoined (end : Rel → ℕ) (rels : SeriesVersions Rel) (adjacency : Adjacency) : Type 0 where
  pub now : (node : ℕ) → IsListOf end node rels.now (ids_at node adjacency.lists)
  pub closed : IsNone rels.was → adjacency.steps.items ≡ []
  pub was : ForSome rels.was (λ before. (node : ℕ) → IsListOf end node before (undone (reverse adjacency.steps.items) (λ m. ids_at m adjacency.lists) node))

pub record AreVersions (nodes : SeriesVersions Node) (rels : SeriesVersions Rel) (outgoing incoming : Adjacency) : Type 0 where
  pub now : AreValues nodes.now rels.now
  pub both : is_some nodes.was ≡ is_some rels.was
  pub was : ForSome nodes.was (λ before. ForSome rels.was (AreValues before))
  pub out_joined : IsJoined (λ rel. rel.source.0) rels outgoing
  pub in_joined : IsJoined (λ rel. rel.target.0) rels incoming
