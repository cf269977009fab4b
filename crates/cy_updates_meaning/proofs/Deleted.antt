-- DELETE leaves a graph: no relationship remains at a node that goes.
use Rattle.std.specs.FinMap.Entries as entries
use Rattle.std.proofs.Common.{◌≡◌, ◌<◌, ◌≤◌, Bool, true, false, cond, not, ◌&&◌, List, [], ◌∷◌, filter, None, is_some, IsSome, IsTrue, refl, sym, ap, ◌∙◌}
use Rattle.std.specs.Prelude.{IfOk}
use Rattle.std.specs.List.{AllByRecursion}
use Rattle.std.specs.declared.cmp.Ordering.TheVariants.{Equal}
use Rattle.std.proofs.lemmas.Bool.{false≢true, or_parts}
use Rattle.std.proofs.lemmas.Map.Lookups.{exact_unsigned}
use Rattle.cy_values.specs.declared.numbers.NodeId.{NodeId}
use Rattle.cy_values.specs.declared.numbers.RelId.{RelId}
use Rattle.cy_values.specs.declared.numbers.Entity.{Entity}
use Rattle.cy_values.specs.declared.rows.Cell.{Cell}
use Rattle.cy_values.proofs.Lists.{each_filter}
use Rattle.cy_trees.specs.declared.expressions.Variable.{Variable}
use Rattle.cy_graph.specs.Graph.{State, IsGraph, node_at, node_order}
use Rattle.cy_graph.specs.Maps.{rises}
use Rattle.cy_graph.specs.Stored.{IsStorable}
use Rattle.cy_graph.specs.declared.nodes.Node.{Node}
use Rattle.cy_graph.specs.declared.nodes.Rel.{Rel}
use Rattle.cy_updates_meaning.specs.Deleting.{deleted, is_going, is_left_over, is_node_of, lies_at, named, unless_left_over, without_set}
use Rattle.cy_updates_meaning.proofs.Entries.{sorted_filter}
use Rattle.cy_updates_meaning.proofs.Graphs.{node_number, rel_number}

abbrev has_some : {A : Type 0} → List A → Bool
has_some [] = false
has_some (x ∷ xs) = true

-- where nothing passes a test, each thing fails it
pub none_pass : {A : Type 0} (test : A → Bool) (xs : List A) → filter test xs ≡ [] → AllByRecursion (λ x. test x ≡ false) xs
none_pass test [] none = tt
none_pass test (x ∷ xs) none =
    elim (test x) as (λ b. test x ≡ b → cond b (x ∷ filter test xs) (filter test xs) ≡ [] → (test x ≡ false) × AllByRecursion (λ y. test y ≡ false) xs) [
      | true ↦ λ t some. absurd (false≢true (sym (ap has_some some)))
      | false ↦ λ t rest. (t, none_pass test xs rest)
    ] refl none

-- what holds of each thing that passes holds of those that are left
all_passed : {A : Type 0} (P : A → Type 0) (test : A → Bool) (xs : List A) → AllByRecursion (λ x. test x ≡ true → P x) xs → AllByRecursion P (filter test xs)
all_passed P test [] each = tt
all_passed P test (x ∷ xs) each =
    let rest = all_passed P test xs each.1 in
    elim (test x) as (λ b. test x ≡ b → AllByRecursion P (cond b (x ∷ filter test xs) (filter test xs))) [
      | true ↦ λ t. (each.0 t, rest)
      | false ↦ λ t. rest
    ] refl

remaining : (a b : Bool) → (a && not b) ≡ false → not b ≡ true → a ≡ false
remaining true true h k = cc
remaining true false h k = cc
remaining false b h k = refl

module _ (detach : Bool) (set : List Entity) (graph : State) (is : IsGraph graph) where
  abbrev stays : NodeId × Node → Bool
  stays e = not (is_node_of set e.0)

  abbrev remains : RelId × Rel → Bool
  remains e = not (is_going detach set e)

  abbrev left : State
  left = without_set detach set graph

  same_id : (m n : NodeId) → node_order m n ≡ Equal → m ≡ n
  same_id m n tied = let numbers : m.0 ≡ n.0 = exact_unsigned m.0 n.0 tied in λ i. record { 0 = numbers i }

  node_stays : (id : NodeId) → is_node_of set id ≡ false → IsSome (node_at id graph) → IsSome (node_at id left)
  node_stays id other there =
      ap is_some (entries.find-where_key node_order (λ k. not (is_node_of set k)) id (λ k tied. ap (λ m. not (is_node_of set m)) (sym (same_id id k tied))) graph.content.nodes)
      ∙ ap (λ b. is_some (cond (not b) (node_at id graph) None)) other ∙ there

  abbrev EndsThere : State → RelId × Rel → Type 0
  EndsThere g e = IsSome (node_at e.1.source g) × IsSome (node_at e.1.target g)

  ends_stay : (es : List (RelId × Rel)) → AllByRecursion (λ (e : RelId × Rel). is_left_over detach set e ≡ false) es → AllByRecursion (EndsThere graph) es
      → AllByRecursion (λ (e : RelId × Rel). remains e ≡ true → EndsThere left e) es
  ends_stay [] none there = tt
  ends_stay (e ∷ es) none there = (
    λ kept.
        let apart = or_parts (is_node_of set e.1.source) (is_node_of set e.1.target) (remaining (lies_at set e) (is_going detach set e) none.0 kept) in
        (node_stays e.1.source apart.0 there.0.0, node_stays e.1.target apart.1 there.0.1),
    ends_stay es none.1 there.1,
  )

  left_is : filter (is_left_over detach set) graph.content.rels ≡ [] → IsGraph left
  left_is none = record {
    rising = sorted_filter node_number stays graph.content.nodes is.rising;
    numbered = each_filter (λ (e : NodeId × Node). (1 ≤ e.0.0) × (e.0.0 < graph.next_node)) stays graph.content.nodes is.numbered;
    in_form = each_filter (λ (e : NodeId × Node). IsTrue (rises e.1.labels) × IsTrue (rises e.1.props)) stays graph.content.nodes is.in_form;
    stored = each_filter (λ (e : NodeId × Node). IsStorable e.1.props) stays graph.content.nodes is.stored;
    rels_rising = sorted_filter rel_number remains graph.content.rels is.rels_rising;
    rels_numbered = each_filter (λ (e : RelId × Rel). (1 ≤ e.0.0) × (e.0.0 < graph.next_rel)) remains graph.content.rels is.rels_numbered;
    rels_in_form = each_filter (λ (e : RelId × Rel). IsTrue (rises e.1.props)) remains graph.content.rels is.rels_in_form;
    rels_stored = each_filter (λ (e : RelId × Rel). IsStorable e.1.props) remains graph.content.rels is.rels_stored;
    ends = all_passed (EndsThere left) remains graph.content.rels (ends_stay graph.content.rels (none_pass (is_left_over detach set) graph.content.rels none) is.ends);
    node_range = is.node_range;
    rel_range = is.rel_range;
  }

-- what DELETE leaves is a graph, without some set
pub record Left (old new : State) : Type 0 where
  pub detach : Bool
  pub set : List Entity
  pub is : IsGraph new
  pub left : new ≡ without_set detach set old

by_rest : (graph : State) (detach : Bool) (set : List Entity) → IsGraph graph → (rest : List (RelId × Rel)) → filter (is_left_over detach set) graph.content.rels ≡ rest
    → IfOk (unless_left_over rest (without_set detach set graph)) (Left graph)
by_rest graph detach set is [] none = record { detach = detach; set = set; is = left_is detach set graph is none; left = refl }
by_rest graph detach set is (e ∷ es) some = tt

pub delete_left : (graph : State) (detach : Bool) (variables : List Variable) (rows : List (List Cell)) → IsGraph graph → IfOk (deleted graph detach variables rows) (Left graph)
delete_left graph detach variables rows is =
    by_rest graph detach (named variables rows) is (filter (is_left_over detach (named variables rows)) graph.content.rels) refl
