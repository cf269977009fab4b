-- The adjacency lists stay joined to the relationships.
use Rattle.std.proofs.Common.{◌≡◌, ℕ, true, false, eqb, List, [], ◌∷◌, ◌++◌, reverse, if◌then◌else◌, Option, Some, None, IsSome, IsNone, sym, ap, subst, ◌∙◌}
use Rattle.cy_graph.specs.declared.adjacency.Adjacency.{Adjacency}
use Rattle.cy_graph.specs.declared.adjacency.Step.{Step}
use Rattle.cy_graph.specs.declared.adjacency.Step.TheVariants.{Added, Removed}
use Rattle.cy_graph.specs.declared.nodes.Rel.{Rel}
use Rattle.cy_graph.specs.internal.Adjacency.{ids_at, before_step, undone, without_last, IsCompacted}
use Rattle.cy_graph.specs.internal.Contents.{IsJoined, IsListOf}
use Rattle.cy_graph.specs.internal.Versions.{IsNumbered, with_last, with_edited, without_number}
use Rattle.cy_graph.specs.Model.{Numbered, SeriesVersions}
use Rattle.cy_graph.proofs.Joined.{list_added, list_removed, list_edited, list_compacted}
use Rattle.cy_graph.proofs.Joining.{id_of}
use Rattle.cy_graph.proofs.Undoing.{undone_same, latest, last_gone}

never : {X : Type 0} {A : Type 0} (o : Option X) → IsSome o → IsNone o → A
never None there none = cc
never (Some x) there none = cc

module _ (end : Rel → ℕ) where
  -- a change of the steps that leaves what they undo
  same_before : (before : Numbered Rel) (old new : Adjacency) (s : Step) → new.steps.items ≡ old.steps.items ++ s ∷ [] → ((m : ℕ) → before_step s (λ n. ids_at n new.lists) m ≡ ids_at m old.lists)
      → ((m : ℕ) → IsListOf end m before (undone (reverse old.steps.items) (λ n. ids_at n old.lists) m)) → (m : ℕ) → IsListOf end m before (undone (reverse new.steps.items) (λ n. ids_at n new.lists) m)
  same_before before old new s step back was m =
      let now_ids = λ (n : ℕ). ids_at n new.lists in
      let same = ap (λ steps. undone steps now_ids m) (latest new.steps.items old.steps.items s step) ∙ undone_same (reverse old.steps.items) (before_step s now_ids) (λ n. ids_at n old.lists) back m in
      subst (IsListOf end m before) (sym same) (was m)

  -- more room, and nothing else
  pub joined_reserved : (rels : SeriesVersions Rel) (old new : Adjacency) → IsJoined end rels old → ((m : ℕ) → ids_at m new.lists ≡ ids_at m old.lists) → new.steps.items ≡ old.steps.items → IsJoined end rels new
  joined_reserved rels old new joined ids steps = record {
    now = λ m. subst (IsListOf end m rels.now) (sym (ids m)) (joined.now m);
    closed = λ none. steps ∙ joined.closed none;
    was = λ before is m.
        let same = ap (λ (s : List Step). undone (reverse s) (λ n. ids_at n new.lists) m) steps ∙ undone_same (reverse old.steps.items) (λ n. ids_at n new.lists) (λ n. ids_at n old.lists) ids m in
        subst (IsListOf end m before) (sym same) (joined.was before is m);
  }

  -- one more relationship
  pub joined_added : (rels : SeriesVersions Rel) (rel : Rel) (old new : Adjacency) → IsSome rels.was → IsJoined end rels old
      → ((m : ℕ) → ids_at m new.lists ≡ (if eqb (end rel) m then ids_at m old.lists ++ id_of rels.now.next ∷ [] else ids_at m old.lists)) → new.steps.items ≡ old.steps.items ++ Added (end rel) ∷ []
      → IsJoined end (record rels { now = with_last rel rels.now }) new
  joined_added rels rel old new open_change joined ids step = record {
    now = λ m. subst (IsListOf end m (with_last rel rels.now)) (sym (ids m)) (list_added end m rels.now (ids_at m old.lists) (joined.now m) rel);
    closed = λ none. never rels.was open_change none;
    was = λ before is. same_before before old new (Added (end rel)) step back (joined.was before is);
  }
    where
      back : (m : ℕ) → before_step (Added (end rel)) (λ n. ids_at n new.lists) m ≡ ids_at m old.lists
      back m =
          elim (eqb (end rel) m) as (λ b. ids_at m new.lists ≡ (if b then ids_at m old.lists ++ id_of rels.now.next ∷ [] else ids_at m old.lists) → (if b then without_last (ids_at m new.lists) else ids_at m new.lists) ≡ ids_at m old.lists) [
            | true ↦ λ is. ap without_last is ∙ last_gone (ids_at m old.lists) (id_of rels.now.next)
            | false ↦ λ is. is
          ] (ids m)

  -- one less
  pub joined_removed : (rels : SeriesVersions Rel) (k node : ℕ) (old new : Adjacency) → IsSome rels.was → IsJoined end rels old → ((m : ℕ) → ids_at m new.lists ≡ ids_at m old.lists) → new.steps.items ≡ old.steps.items ++ Removed node ∷ []
      → IsJoined end (record rels { now = without_number k rels.now }) new
  joined_removed rels k node old new open_change joined ids step = record {
    now = λ m. subst (IsListOf end m (without_number k rels.now)) (sym (ids m)) (list_removed end m rels.now (ids_at m old.lists) (joined.now m) k);
    closed = λ none. never rels.was open_change none;
    was = λ before is. same_before before old new (Removed node) step ids (joined.was before is);
  }

  -- another value of one
  pub joined_edited : (edited : Rel → Rel) → ((rel : Rel) → end (edited rel) ≡ end rel) → (rels : SeriesVersions Rel) (number : ℕ) (adjacency : Adjacency) → IsNumbered rels.now → IsJoined end rels adjacency
      → IsJoined end (record rels { now = with_edited edited number rels.now }) adjacency
  joined_edited edited same rels number adjacency numbered joined = record {
    now = λ m. list_edited end edited same m number rels.now (ids_at m adjacency.lists) numbered (joined.now m);
    closed = joined.closed;
    was = joined.was;
  }

  -- once a change is over the lists are as it left them, or compacted
  pub joined_closed : (rels : SeriesVersions Rel) (old new : Adjacency) → IsJoined end rels old → ((m : ℕ) → IsCompacted rels.now.entries (ids_at m old.lists) (ids_at m new.lists)) → new.steps.items ≡ []
      → IsJoined end (record rels { was = None }) new
  joined_closed rels old new joined left none = record {
    now = λ m. list_compacted end m rels.now (ids_at m old.lists) (joined.now m) (ids_at m new.lists) (left m);
    closed = λ over. none;
    was = λ before is. cc;
  }

  -- once it is taken back they are as they were
  pub joined_undone : (rels : SeriesVersions Rel) (before : Numbered Rel) (old new : Adjacency) → rels.was ≡ Some before → IsJoined end rels old → ((m : ℕ) → ids_at m new.lists ≡ undone (reverse old.steps.items) (λ n. ids_at n old.lists) m) → new.steps.items ≡ []
      → IsJoined end (record { now = before; was = None }) new
  joined_undone rels before old new is joined undo none = record {
    now = λ m. subst (IsListOf end m before) (sym (undo m)) (joined.was before is m);
    closed = λ over. none;
    was = λ other no. cc;
  }
