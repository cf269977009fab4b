-- What an edit of an entity makes of the graph, where it succeeds and where it is refused.
use Rattle.std.proofs.Common.{◌≡◌, ℕ, not, None, Result, OnOk, OnErr, sym, ap, subst, ◌∙◌}
use Rattle.std.specs.Prelude.{slice_get}
use Rattle.std.specs.Ordering.{nat_cmp, eq_by_cmp}
use Rattle.std.proofs.lemmas.Result.{on_ok_weaker}
use Rattle.cy_values.specs.declared.numbers.NodeId.{NodeId}
use Rattle.cy_values.specs.declared.numbers.RelId.{RelId}
use Rattle.cy_graph.specs.declared.adjacency.Adjacency.{Adjacency}
use Rattle.cy_graph.specs.declared.nodes.Node.{Node}
use Rattle.cy_graph.specs.declared.nodes.Rel.{Rel}
use Rattle.cy_graph.specs.Graph.{Versions, rels_with, with_node_changed, with_rel_changed, without_node}
use Rattle.cy_graph.specs.internal.Contents.{IsNode, IsRel, AreVersions}
use Rattle.cy_graph.specs.internal.Versions.{IsNumbered, with_edited, without_number}
use Rattle.cy_graph.specs.Model.{SeriesVersions, rels_of, versions_of}
use Rattle.cy_graph.proofs.Graphs.{others_there, edited_are, edited_versions, removed_versions, rel_edited_are, rel_edited_versions}
use Rattle.cy_graph.proofs.Least.{ends_left}
use Rattle.cy_graph.proofs.Kept.{joined_edited}
use Rattle.cy_graph.proofs.Slots.{all_where}
use Rattle.cy_graph.proofs.Steps.{either}

module _ {E : Type 0} (answer : Result (Unit {0}) E) where
  -- a node
  pub node_edited_are : (nodes new : SeriesVersions Node) (rels : SeriesVersions Rel) (outgoing incoming : Adjacency) (edited : Node → Node) (number : ℕ) → AreVersions nodes rels outgoing incoming → ((node : Node) → IsNode node → IsNode (edited node))
      → OnOk answer (new ≡ record nodes { now = with_edited edited number nodes.now }) → OnErr answer (new ≡ nodes) → AreVersions new rels outgoing incoming
  node_edited_are nodes new rels outgoing incoming edited number all each ok err =
      either answer ok err (λ is. subst (λ n. AreVersions n rels outgoing incoming) (sym is) (edited_are nodes rels outgoing incoming all edited number each)) (λ is. subst (λ n. AreVersions n rels outgoing incoming) (sym is) all)

  pub node_edited_versions : (nodes new : SeriesVersions Node) (rels : SeriesVersions Rel) (versions : Versions) → versions_of nodes rels ≡ versions → (edited : Node → Node) (id : NodeId) → OnOk answer (new ≡ record nodes { now = with_edited edited id.0 nodes.now })
      → OnOk answer (versions_of new rels ≡ record versions { now = with_node_changed id edited versions.now })
  node_edited_versions nodes new rels versions view edited id =
      on_ok_weaker answer (λ is. ap (λ n. versions_of n rels) is ∙ edited_versions nodes rels edited id
      ∙ ap (λ (v : Versions). let w : Versions = record v { now = with_node_changed id edited v.now } in w) view)

  -- a relationship, whose ends stay
  pub rel_edited_stay : (nodes : SeriesVersions Node) (rels new : SeriesVersions Rel) (outgoing incoming : Adjacency) (edited : Rel → Rel) (number : ℕ) → AreVersions nodes rels outgoing incoming → IsNumbered rels.now → ((rel : Rel) → IsRel rel → IsRel (edited rel))
      → ((rel : Rel) → (edited rel).source ≡ rel.source) → ((rel : Rel) → (edited rel).target ≡ rel.target) → OnOk answer (new ≡ record rels { now = with_edited edited number rels.now }) → OnErr answer (new ≡ rels) → AreVersions nodes new outgoing incoming
  rel_edited_stay nodes rels new outgoing incoming edited number all numbered each source target ok err =
      either answer ok err (λ is. subst (λ r. AreVersions nodes r outgoing incoming) (sym is) (rel_edited_are nodes rels outgoing incoming all edited number each source target
      (joined_edited (λ rel. rel.source.0) edited (λ rel. ap (λ (id : NodeId). id.0) (source rel)) rels number outgoing numbered all.out_joined)
      (joined_edited (λ rel. rel.target.0) edited (λ rel. ap (λ (id : NodeId). id.0) (target rel)) rels number incoming numbered all.in_joined)))
      (λ is. subst (λ r. AreVersions nodes r outgoing incoming) (sym is) all)

  pub rel_edited_versions_are : (nodes : SeriesVersions Node) (rels new : SeriesVersions Rel) (versions : Versions) → versions_of nodes rels ≡ versions → (edited : Rel → Rel) (id : RelId) → OnOk answer (new ≡ record rels { now = with_edited edited id.0 rels.now })
      → OnOk answer (versions_of nodes new ≡ record versions { now = with_rel_changed id edited versions.now })
  rel_edited_versions_are nodes rels new versions view edited id =
      on_ok_weaker answer (λ is. ap (versions_of nodes) is ∙ rel_edited_versions nodes rels edited id
      ∙ ap (λ (v : Versions). let w : Versions = record v { now = with_rel_changed id edited v.now } in w) view)

  -- a node goes, at which no relationship is
  pub node_removed_are : (nodes new : SeriesVersions Node) (rels : SeriesVersions Rel) (outgoing incoming : Adjacency) (id : NodeId) → AreVersions nodes rels outgoing incoming → slice_get (rels_with id (rels_of rels.now.entries)) 0 ≡ None
      → OnOk answer (new ≡ record nodes { now = without_number id.0 nodes.now }) → OnErr answer (new ≡ nodes) → AreVersions new rels outgoing incoming
  node_removed_are nodes new rels outgoing incoming id all none ok err =
      either answer ok err (λ is. subst (λ n. AreVersions n rels outgoing incoming) (sym is) (record {
        now = record {
          nodes_are = all_where IsNode (λ k. not (eq_by_cmp nat_cmp id.0 k)) nodes.now.entries all.now.nodes_are;
          rels_are = all.now.rels_are;
          ends = ends_left id nodes.now.entries (without_number id.0 nodes.now).entries (others_there id.0 nodes.now.entries) rels.now.entries none all.now.ends;
        };
        both = all.both;
        was = all.was;
        out_joined = all.out_joined;
        in_joined = all.in_joined;
      })) (λ is. subst (λ n. AreVersions n rels outgoing incoming) (sym is) all)

  pub node_removed_versions : (nodes new : SeriesVersions Node) (rels : SeriesVersions Rel) (versions : Versions) → versions_of nodes rels ≡ versions → (id : NodeId) → OnOk answer (new ≡ record nodes { now = without_number id.0 nodes.now })
      → OnOk answer (versions_of new rels ≡ record versions { now = without_node id versions.now })
  node_removed_versions nodes new rels versions view id =
      on_ok_weaker answer (λ is. ap (λ n. versions_of n rels) is ∙ removed_versions nodes rels id
      ∙ ap (λ (v : Versions). let w : Versions = record v { now = without_node id v.now } in w) view)
