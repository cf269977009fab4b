-- Relationships come and go, and with them the lists at their ends.
use Rattle.std.proofs.Common.{◌≡◌, ℕ, true, false, not, [], reverse, Option, Some, None, is_some, IsSome, IfSome, refl, sym, ap, subst, ◌∙◌}
use Rattle.std.specs.Ordering.{nat_cmp, eq_by_cmp}
use Rattle.cy_graph.specs.declared.adjacency.Adjacency.{Adjacency}
use Rattle.cy_graph.specs.declared.nodes.Node.{Node}
use Rattle.cy_graph.specs.declared.nodes.Rel.{Rel}
use Rattle.cy_graph.specs.Graph.{State}
use Rattle.cy_graph.specs.internal.Adjacency.{ids_at, undone, IsCompacted}
use Rattle.cy_graph.specs.internal.Contents.{IsRel, AreVersions, IsJoined}
use Rattle.cy_graph.specs.internal.Versions.{with_last, without_number}
use Rattle.cy_graph.specs.Model.{Numbered, SeriesVersions, before_of, versions_of}
use Rattle.cy_graph.proofs.Graphs.{EndsIn}
use Rattle.cy_graph.proofs.Kept.{joined_closed, joined_undone}
use Rattle.cy_graph.proofs.Slots.{all_push, all_where}

-- ---- the graph

module _ (nodes : SeriesVersions Node) (rels : SeriesVersions Rel) (outgoing incoming new_outgoing new_incoming : Adjacency) (all : AreVersions nodes rels outgoing incoming) where
  -- more room, and nothing else
  pub reserved_are : IsJoined (λ rel. rel.source.0) rels new_outgoing → IsJoined (λ rel. rel.target.0) rels new_incoming → AreVersions nodes rels new_outgoing new_incoming
  reserved_are out into = record { now = all.now; both = all.both; was = all.was; out_joined = out; in_joined = into }

  -- one more relationship
  pub rel_added_are : (rel : Rel) → IsRel rel → EndsIn nodes.now.entries rel → IsJoined (λ rel. rel.source.0) (record rels { now = with_last rel rels.now }) new_outgoing → IsJoined (λ rel. rel.target.0) (record rels { now = with_last rel rels.now }) new_incoming
      → AreVersions nodes (record rels { now = with_last rel rels.now }) new_outgoing new_incoming
  rel_added_are rel is ends out into = record {
    now = record {
      nodes_are = all.now.nodes_are;
      rels_are = all_push IsRel rels.now.entries (rels.now.next, rel) all.now.rels_are is;
      ends = all_push (EndsIn nodes.now.entries) rels.now.entries (rels.now.next, rel) all.now.ends ends;
    };
    both = all.both;
    was = all.was;
    out_joined = out;
    in_joined = into;
  }

  -- one relationship less
  pub rel_removed_are : (number : ℕ) → IsJoined (λ rel. rel.source.0) (record rels { now = without_number number rels.now }) new_outgoing → IsJoined (λ rel. rel.target.0) (record rels { now = without_number number rels.now }) new_incoming
      → AreVersions nodes (record rels { now = without_number number rels.now }) new_outgoing new_incoming
  rel_removed_are number out into = record {
    now = record {
      nodes_are = all.now.nodes_are;
      rels_are = all_where IsRel (λ k. not (eq_by_cmp nat_cmp number k)) rels.now.entries all.now.rels_are;
      ends = all_where (EndsIn nodes.now.entries) (λ k. not (eq_by_cmp nat_cmp number k)) rels.now.entries all.now.ends;
    };
    both = all.both;
    was = all.was;
    out_joined = out;
    in_joined = into;
  }

-- ---- the end of a change

-- what the rollback of an adjacency leaves
pub record IsUndone (old new : Adjacency) : Type 0 where
  pub ids : (m : ℕ) → ids_at m new.lists ≡ undone (reverse old.steps.items) (λ n. ids_at n old.lists) m
  pub steps : new.steps.items ≡ []

-- a closed version of a series
abbrev pub closed : {V : Type 0} → Numbered V → SeriesVersions V
closed now = record { now = now; was = None }

-- the change is taken back
pub rolled_are : (nodes new_nodes : SeriesVersions Node) (rels new_rels : SeriesVersions Rel) (outgoing incoming new_outgoing new_incoming : Adjacency) → AreVersions nodes rels outgoing incoming
    → (before : Option (Numbered Node)) → nodes.was ≡ before → (before_rels : Option (Numbered Rel)) → rels.was ≡ before_rels → IsSome before → IsSome before_rels
    → IfSome before (λ b. new_nodes ≡ closed b) → IfSome before_rels (λ b. new_rels ≡ closed b) → IsUndone outgoing new_outgoing → IsUndone incoming new_incoming → AreVersions new_nodes new_rels new_outgoing new_incoming
rolled_are nodes new_nodes rels new_rels outgoing incoming new_outgoing new_incoming all None is rels_before rels_is some rels_some nodes_back rels_back out into = let no : false ≡ true = some in cc
rolled_are nodes new_nodes rels new_rels outgoing incoming new_outgoing new_incoming all (Some before) is None rels_is some rels_some nodes_back rels_back out into = let no : false ≡ true = rels_some in cc
rolled_are nodes new_nodes rels new_rels outgoing incoming new_outgoing new_incoming all (Some before) is (Some before_rels) rels_is some rels_some nodes_back rels_back out into =
    subst (λ n. AreVersions n new_rels new_outgoing new_incoming) (sym nodes_back) (subst (λ r. AreVersions (closed before) r new_outgoing new_incoming) (sym rels_back) (record {
      now = all.was before is before_rels rels_is;
      both = refl;
      was = λ other none. cc;
      out_joined = joined_undone (λ rel. rel.source.0) rels before_rels outgoing new_outgoing rels_is all.out_joined out.ids out.steps;
      in_joined = joined_undone (λ rel. rel.target.0) rels before_rels incoming new_incoming rels_is all.in_joined into.ids into.steps;
    }))

pub rolled_versions : (nodes new_nodes : SeriesVersions Node) (rels new_rels : SeriesVersions Rel) → (before : Option (Numbered Node)) (before_rels : Option (Numbered Rel)) → IsSome before → IsSome before_rels
    → IfSome before (λ b. new_nodes ≡ closed b) → IfSome before_rels (λ b. new_rels ≡ closed b) → IfSome (before_of before before_rels) (λ (state : State). versions_of new_nodes new_rels ≡ record { now = state; was = None })
rolled_versions nodes new_nodes rels new_rels None before_rels some rels_some nodes_back rels_back = let no : false ≡ true = some in cc
rolled_versions nodes new_nodes rels new_rels (Some before) None some rels_some nodes_back rels_back = let no : false ≡ true = rels_some in cc
rolled_versions nodes new_nodes rels new_rels (Some before) (Some before_rels) some rels_some nodes_back rels_back = ap (λ n. versions_of n new_rels) nodes_back ∙ ap (λ r. versions_of (closed before) r) rels_back

-- the change stays
pub committed_are : (nodes new_nodes : SeriesVersions Node) (rels new_rels : SeriesVersions Rel) (outgoing incoming new_outgoing new_incoming : Adjacency) → AreVersions nodes rels outgoing incoming → new_nodes ≡ closed nodes.now → new_rels ≡ closed rels.now
    → ((m : ℕ) → IsCompacted new_rels.now.entries (ids_at m outgoing.lists) (ids_at m new_outgoing.lists)) → new_outgoing.steps.items ≡ [] → ((m : ℕ) → IsCompacted new_rels.now.entries (ids_at m incoming.lists) (ids_at m new_incoming.lists)) → new_incoming.steps.items ≡ []
    → AreVersions new_nodes new_rels new_outgoing new_incoming
committed_are nodes new_nodes rels new_rels outgoing incoming new_outgoing new_incoming all nodes_stay rels_stay out out_none into into_none =
    let compacted = λ (old new : Adjacency) (left : (m : ℕ) → IsCompacted new_rels.now.entries (ids_at m old.lists) (ids_at m new.lists)) (m : ℕ).
    subst (λ (r : SeriesVersions Rel). IsCompacted r.now.entries (ids_at m old.lists) (ids_at m new.lists)) rels_stay (left m) in
    subst (λ n. AreVersions n new_rels new_outgoing new_incoming) (sym nodes_stay) (subst (λ r. AreVersions (closed nodes.now) r new_outgoing new_incoming) (sym rels_stay) (record {
      now = all.now;
      both = refl;
      was = λ other none. cc;
      out_joined = joined_closed (λ rel. rel.source.0) rels outgoing new_outgoing all.out_joined (compacted outgoing new_outgoing out) out_none;
      in_joined = joined_closed (λ rel. rel.target.0) rels incoming new_incoming all.in_joined (compacted incoming new_incoming into) into_none;
    }))

-- where a change is open, one is in either series
pub some_in_nodes : (nodes : Option (Numbered Node)) (rels : Option (Numbered Rel)) → is_some nodes ≡ is_some rels → IsSome (before_of nodes rels) → IsSome nodes
some_in_nodes None rels both some = some
some_in_nodes (Some n) rels both some = refl

pub some_in_rels : (nodes : Option (Numbered Node)) (rels : Option (Numbered Rel)) → is_some nodes ≡ is_some rels → IsSome (before_of nodes rels) → IsSome rels
some_in_rels nodes rels both some = sym both ∙ some_in_nodes nodes rels both some
