-- What each call of the two series does to the graph.
use Rattle.std.proofs.Common.{◌≡◌, ℕ, ◌+◌, true, false, cond, not, eqb, List, [], ◌∷◌, ◌++◌, Option, Some, None, IsTrue, IsSome, is_some, refl, sym, ap, subst, ◌∙◌, arith}
use Rattle.std.specs.List.{AllByRecursion}
use Rattle.std.specs.Option.{option_map}
use Rattle.std.specs.Ordering.{nat_cmp, is_eq, eq_by_cmp}
use Rattle.std.specs.FinMap.Entries as entries
use Rattle.std.proofs.lemmas.Cmp.{nat_cmp_total}
use Rattle.std.proofs.lemmas.Map.Lookups.{exact_unsigned}
use Rattle.cy_values.specs.declared.numbers.NodeId.{NodeId}
use Rattle.cy_values.specs.declared.numbers.RelId.{RelId}
use Rattle.cy_graph.specs.declared.adjacency.Adjacency.{Adjacency}
use Rattle.cy_graph.specs.declared.nodes.Node.{Node}
use Rattle.cy_graph.specs.declared.nodes.Rel.{Rel}
use Rattle.cy_graph.specs.Graph.{Versions, node_at, rel_at, with_node, with_rel, with_node_changed, with_rel_changed, without_node, without_rel, IsGraph}
use Rattle.cy_graph.specs.Maps.{rises}
use Rattle.cy_graph.specs.Stored.{IsStorable}
use Rattle.cy_graph.specs.internal.Contents.{IsNode, IsRel, AreValues, AreVersions, IsJoined}
use Rattle.cy_graph.specs.internal.Slots.{value_under}
use Rattle.cy_graph.specs.internal.Versions.{IsNumbered, with_last, with_edited, without_number, put_under}
use Rattle.cy_graph.specs.Model.{Numbered, SeriesVersions, nodes_of, rels_of, state_of, versions_of}
use Rattle.cy_graph.proofs.Contents.{find_named, named_push, named_edited, named_where, named_sorted, named_numbers, named_all}
use Rattle.cy_graph.proofs.RelContents.{find_rel, rels_push, rels_edited, rels_where, rels_sorted, rels_numbers, rels_all}
use Rattle.cy_graph.proofs.Slots.{sorted, same_tests, all_found, all_put, all_push}

-- the ends of a relationship are among these nodes
abbrev pub EndsIn : List (ℕ × Node) → Rel → Type 0
EndsIn nodes rel = IsSome (value_under rel.source.0 nodes) × IsSome (value_under rel.target.0 nodes)

-- ---- such values make a graph

named_ends : (nodes : Numbered Node) (rels : Numbered Rel) (es : List (ℕ × Rel)) → AllByRecursion (λ (e : ℕ × Rel). EndsIn nodes.entries e.1) es
    → AllByRecursion (λ (e : RelId × Rel). IsSome (node_at e.1.source (state_of nodes rels)) × IsSome (node_at e.1.target (state_of nodes rels))) (rels_of es)
named_ends nodes rels [] all = tt
named_ends nodes rels (e ∷ es) all = (
  (
    ap is_some (find_named e.1.source nodes.entries) ∙ all.0.0,
    ap is_some (find_named e.1.target nodes.entries) ∙ all.0.1,
  ),
  named_ends nodes rels es all.1,
)

pub graph_of : (nodes : Numbered Node) (rels : Numbered Rel) → IsNumbered nodes → IsNumbered rels → AreValues nodes rels → IsGraph (state_of nodes rels)
graph_of nodes rels numbered rels_numbered all = record {
  rising = named_sorted nodes.entries (sorted 1 nodes.next nodes.entries numbered.rising);
  numbered = named_numbers 1 nodes.next nodes.entries (omega arith) numbered.rising;
  in_form = named_all (λ n. IsTrue (rises n.labels) × IsTrue (rises n.props)) nodes.entries (λ n is. (is.labels, is.props)) all.nodes_are;
  stored = named_all (λ n. IsStorable n.props) nodes.entries (λ n is. is.stored) all.nodes_are;
  rels_rising = rels_sorted rels.entries (sorted 1 rels.next rels.entries rels_numbered.rising);
  rels_numbered = rels_numbers 1 rels.next rels.entries (omega arith) rels_numbered.rising;
  rels_in_form = rels_all (λ r. IsTrue (rises r.props)) rels.entries (λ r is. is.props) all.rels_are;
  rels_stored = rels_all (λ r. IsStorable r.props) rels.entries (λ r is. is.stored) all.rels_are;
  ends = named_ends nodes rels rels.entries all.ends;
  node_range = numbered.range;
  rel_range = rels_numbered.range;
}

-- ---- an entity that is there stands in its series

pub there_named : (nodes : SeriesVersions Node) (rels : SeriesVersions Rel) (versions : Versions) (id : NodeId) → versions_of nodes rels ≡ versions → IsSome (node_at id versions.now) → IsSome (value_under id.0 nodes.now.entries)
there_named nodes rels versions id view there = sym (ap is_some (find_named id nodes.now.entries)) ∙ ap (λ (v : Versions). is_some (node_at id v.now)) view ∙ there

pub there_joined : (nodes : SeriesVersions Node) (rels : SeriesVersions Rel) (versions : Versions) (id : RelId) → versions_of nodes rels ≡ versions → IsSome (rel_at id versions.now) → IsSome (value_under id.0 rels.now.entries)
there_joined nodes rels versions id view there = sym (ap is_some (find_rel id rels.now.entries)) ∙ ap (λ (v : Versions). is_some (rel_at id v.now)) view ∙ there

-- ---- what an edit of the nodes leaves of them

pushed_there : (es : List (ℕ × Node)) (e : ℕ × Node) (k : ℕ) → IsSome (value_under k es) → IsSome (value_under k (es ++ e ∷ []))
pushed_there [] e k there = let no : false ≡ true = there in cc
pushed_there (f ∷ es) e k there =
    elim (is_eq (nat_cmp k f.0)) as (λ b. IsSome (cond b (Some f.1) (value_under k es)) → IsSome (cond b (Some f.1) (value_under k (es ++ e ∷ [])))) [
      | true ↦ λ t. t
      | false ↦ λ t. pushed_there es e k t
    ] there

put_there : (number : ℕ) (node : Option Node) (es : List (ℕ × Node)) (k : ℕ) → IsSome (value_under k es) → IsSome (value_under k (put_under number node es))
put_there number None es k there = there
put_there number (Some node) es k there =
    ap is_some (entries.find-put nat_cmp nat_cmp_total k number node es)
    ∙ elim (eq_by_cmp nat_cmp k number) as (λ b. is_some (cond b (Some node) (value_under k es)) ≡ true) [ true ↦ refl | false ↦ there ]

pub others_there : (number : ℕ) (es : List (ℕ × Node)) (k : ℕ) → eqb number k ≡ false → IsSome (value_under k es) → IsSome (value_under k (entries.where_key nat_cmp (λ q. not (eq_by_cmp nat_cmp number q)) es))
others_there number es k other there =
    ap is_some (entries.find-where_key nat_cmp (λ q. not (eq_by_cmp nat_cmp number q)) k (λ x e. ap (λ y. not (eq_by_cmp nat_cmp number y)) (sym (exact_unsigned k x e))) es)
    ∙ ap (λ b. is_some (cond (not b) (value_under k es) None)) (sym (same_tests number k) ∙ other) ∙ there

-- the relationships whose ends are there
ends_stay : (old new : List (ℕ × Node)) → ((k : ℕ) → IsSome (value_under k old) → IsSome (value_under k new)) → (es : List (ℕ × Rel))
    → AllByRecursion (λ (e : ℕ × Rel). EndsIn old e.1) es → AllByRecursion (λ (e : ℕ × Rel). EndsIn new e.1) es
ends_stay old new stay [] all = tt
ends_stay old new stay (e ∷ es) all = ((stay e.1.source.0 all.0.0, stay e.1.target.0 all.0.1), ends_stay old new stay es all.1)

-- what holds of each value holds of each once one is changed
changed_all : {V : Type 0} (P : V → Type 0) (edited : V → V) (number : ℕ) (es : List (ℕ × V)) (o : Option V) → o ≡ value_under number es → ((value : V) → P value → P (edited value))
    → AllByRecursion (λ (e : ℕ × V). P e.1) es → AllByRecursion (λ (e : ℕ × V). P e.1) (put_under number (option_map edited o) es)
changed_all P edited number es None is each all = all
changed_all P edited number es (Some value) is each all = all_put P number (edited value) es all (each value (all_found P number es value all (sym is)))

-- ---- the nodes of a graph change

module _ (nodes : SeriesVersions Node) (rels : SeriesVersions Rel) (outgoing incoming : Adjacency) (all : AreVersions nodes rels outgoing incoming) where
  -- with other nodes, among which the ends are still
  with_others : (now : Numbered Node) → AllByRecursion (λ (e : ℕ × Node). IsNode e.1) now.entries → ((k : ℕ) → IsSome (value_under k nodes.now.entries) → IsSome (value_under k now.entries))
      → AreVersions (record nodes { now = now }) rels outgoing incoming
  with_others now are stay = record {
    now = record { nodes_are = are; rels_are = all.now.rels_are; ends = ends_stay nodes.now.entries now.entries stay rels.now.entries all.now.ends };
    both = all.both;
    was = all.was;
    out_joined = all.out_joined;
    in_joined = all.in_joined;
  }

  pub added_are : (node : Node) → IsNode node → AreVersions (record nodes { now = with_last node nodes.now }) rels outgoing incoming
  added_are node is =
      with_others (with_last node nodes.now) (all_push IsNode nodes.now.entries (nodes.now.next, node) all.now.nodes_are is) (pushed_there nodes.now.entries (nodes.now.next, node))

  pub edited_are : (edited : Node → Node) (number : ℕ) → ((node : Node) → IsNode node → IsNode (edited node)) → AreVersions (record nodes { now = with_edited edited number nodes.now }) rels outgoing incoming
  edited_are edited number each =
      with_others (with_edited edited number nodes.now) (changed_all IsNode edited number nodes.now.entries (value_under number nodes.now.entries) refl each all.now.nodes_are)
      (put_there number (option_map edited (value_under number nodes.now.entries)) nodes.now.entries)

  -- ---- one of its relationships changes

  pub rel_edited_are : (edited : Rel → Rel) (number : ℕ) → ((rel : Rel) → IsRel rel → IsRel (edited rel)) → ((rel : Rel) → (edited rel).source ≡ rel.source) → ((rel : Rel) → (edited rel).target ≡ rel.target)
      → IsJoined (λ rel. rel.source.0) (record rels { now = with_edited edited number rels.now }) outgoing → IsJoined (λ rel. rel.target.0) (record rels { now = with_edited edited number rels.now }) incoming
      → AreVersions nodes (record rels { now = with_edited edited number rels.now }) outgoing incoming
  rel_edited_are edited number each same_source same_target out into = record {
    now = record {
      nodes_are = all.now.nodes_are;
      rels_are = changed_all IsRel edited number rels.now.entries (value_under number rels.now.entries) refl each all.now.rels_are;
      ends = changed_all (EndsIn nodes.now.entries) edited number rels.now.entries (value_under number rels.now.entries) refl (λ rel there. (
        subst (λ (id : NodeId). IsSome (value_under id.0 nodes.now.entries)) (sym (same_source rel)) there.0,
        subst (λ (id : NodeId). IsSome (value_under id.0 nodes.now.entries)) (sym (same_target rel)) there.1,
      )) all.now.ends;
    };
    both = all.both;
    was = all.was;
    out_joined = out;
    in_joined = into;
  }

-- ---- what the calls make of the versions

pub added_versions : (nodes : SeriesVersions Node) (rels : SeriesVersions Rel) (node : Node) → versions_of (record nodes { now = with_last node nodes.now }) rels ≡ record (versions_of nodes rels) { now = with_node node (state_of nodes.now rels.now) }
added_versions nodes rels node =
    ap (λ es. let v : Versions = record (versions_of nodes rels) { now = record { content = record { nodes = es; rels = rels_of rels.now.entries }; next_node = nodes.now.next + 1; next_rel = rels.now.next } } in v) (named_push nodes.now.entries nodes.now.next node)

pub edited_versions : (nodes : SeriesVersions Node) (rels : SeriesVersions Rel) (edited : Node → Node) (id : NodeId)
    → versions_of (record nodes { now = with_edited edited id.0 nodes.now }) rels ≡ record (versions_of nodes rels) { now = with_node_changed id edited (state_of nodes.now rels.now) }
edited_versions nodes rels edited id =
    ap (λ es. let v : Versions = record (versions_of nodes rels) { now = record { content = record { nodes = es; rels = rels_of rels.now.entries }; next_node = nodes.now.next; next_rel = rels.now.next } } in v) (named_edited edited id nodes.now.entries)

pub removed_versions : (nodes : SeriesVersions Node) (rels : SeriesVersions Rel) (id : NodeId) → versions_of (record nodes { now = without_number id.0 nodes.now }) rels ≡ record (versions_of nodes rels) { now = without_node id (state_of nodes.now rels.now) }
removed_versions nodes rels id =
    ap (λ es. let v : Versions = record (versions_of nodes rels) { now = record { content = record { nodes = es; rels = rels_of rels.now.entries }; next_node = nodes.now.next; next_rel = rels.now.next } } in v) (named_where id nodes.now.entries)

pub rel_added_versions : (nodes : SeriesVersions Node) (rels : SeriesVersions Rel) (rel : Rel) → versions_of nodes (record rels { now = with_last rel rels.now }) ≡ record (versions_of nodes rels) { now = with_rel rel (state_of nodes.now rels.now) }
rel_added_versions nodes rels rel =
    ap (λ es. let v : Versions = record (versions_of nodes rels) { now = record { content = record { nodes = nodes_of nodes.now.entries; rels = es }; next_node = nodes.now.next; next_rel = rels.now.next + 1 } } in v) (rels_push rels.now.entries rels.now.next rel)

pub rel_edited_versions : (nodes : SeriesVersions Node) (rels : SeriesVersions Rel) (edited : Rel → Rel) (id : RelId)
    → versions_of nodes (record rels { now = with_edited edited id.0 rels.now }) ≡ record (versions_of nodes rels) { now = with_rel_changed id edited (state_of nodes.now rels.now) }
rel_edited_versions nodes rels edited id =
    ap (λ es. let v : Versions = record (versions_of nodes rels) { now = record { content = record { nodes = nodes_of nodes.now.entries; rels = es }; next_node = nodes.now.next; next_rel = rels.now.next } } in v) (rels_edited edited id rels.now.entries)

pub rel_removed_versions : (nodes : SeriesVersions Node) (rels : SeriesVersions Rel) (id : RelId) → versions_of nodes (record rels { now = without_number id.0 rels.now }) ≡ record (versions_of nodes rels) { now = without_rel id (state_of nodes.now rels.now) }
rel_removed_versions nodes rels id =
    ap (λ es. let v : Versions = record (versions_of nodes rels) { now = record { content = record { nodes = nodes_of nodes.now.entries; rels = es }; next_node = nodes.now.next; next_rel = rels.now.next } } in v) (rels_where id rels.now.entries)
