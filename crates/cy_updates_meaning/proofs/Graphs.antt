-- What updating clauses make of a graph is a graph.
use Rattle.std.specs.FinMap.Entries as entries
use Rattle.std.proofs.Common.{◌≡◌, ℕ, ◌+◌, ◌<◌, ◌≤◌, Bool, true, false, cond, List, [], ◌∷◌, map, Option, Some, None, IsSome, IsTrue, refl, sym, ap, subst, ◌∙◌, arith}
use Rattle.std.specs.Prelude.{◌==◌, IfSome}
use Rattle.std.specs.List.{AllByRecursion, list_any}
use Rattle.std.specs.Option.{option_map}
use Rattle.std.specs.Ordering.{eq_by_cmp}
use Rattle.std.proofs.lemmas.Bool.Decides.{nat_tests}
use Rattle.cy_values.specs.declared.numbers.NodeId.{NodeId}
use Rattle.cy_values.specs.declared.numbers.RelId.{RelId}
use Rattle.cy_values.specs.declared.numbers.Entity.{Entity}
use Rattle.cy_values.specs.declared.numbers.Entity.TheVariants as entity
use Rattle.cy_values.specs.declared.scalars.Value.{Value}
use Rattle.cy_values.proofs.Lists.{each_append, each_then}
use Rattle.cy_trees.specs.Trees.{Name}
use Rattle.cy_graph.specs.Graph.{State, IsGraph, node_at, node_order, number_end, rel_at, rel_order, rel_set_at, replaced, replaced_rel, set_at, with_label, with_node, with_node_changed, with_nodes, with_prop, with_rel, with_rel_changed, with_rels, without_label}
use Rattle.cy_graph.specs.Maps.{rises}
use Rattle.cy_graph.specs.Stored.{is_storable, IsStorable}
use Rattle.cy_graph.specs.declared.nodes.Node.{Node}
use Rattle.cy_graph.specs.declared.nodes.Rel.{Rel}
use Rattle.cy_graph.proofs.Places.{rises-with_value, rises-without}
use Rattle.cy_updates_meaning.proofs.Entries.{change, found_before, keys_revalued, all_revalued, put_changed, put_if, revalued, sorted_push, sorted_revalued}
use Rattle.cy_updates_meaning.proofs.StoredValues.{AreProperties, set_properties}

-- the number of a node, and of a relationship
abbrev pub node_number : NodeId → ℕ
node_number id = id.0

abbrev pub rel_number : RelId → ℕ
rel_number id = id.0

-- a node, and a relationship, as a graph may hold it
abbrev pub IsNode : Node → Type 0
IsNode n = IsTrue (rises n.labels) × AreProperties n.props

one_more : (n : ℕ) → n ≤ number_end → (n == number_end) ≡ false → n + 1 ≤ number_end
one_more n le other = grind (arith, nat_tests)

-- ---- one more

pub with_node_is : (graph : State) (n : Node) → IsGraph graph → IsNode n → (graph.next_node == number_end) ≡ false → IsGraph (with_node n graph)
with_node_is graph n is form left =
    let e : NodeId × Node = (record { 0 = graph.next_node }, n) in
    record {
      rising = sorted_push node_number graph.content.nodes e is.rising
          (each_then (λ (f : NodeId × Node). (1 ≤ f.0.0) × (f.0.0 < graph.next_node)) (λ (f : NodeId × Node). f.0.0 < graph.next_node) (λ f within. within.1) graph.content.nodes is.numbered);
      numbered = each_append (λ (f : NodeId × Node). (1 ≤ f.0.0) × (f.0.0 < graph.next_node + 1)) graph.content.nodes (e ∷ [])
          (each_then (λ (f : NodeId × Node). (1 ≤ f.0.0) × (f.0.0 < graph.next_node)) (λ (f : NodeId × Node). (1 ≤ f.0.0) × (f.0.0 < graph.next_node + 1))
          (λ f within. (within.0, omega (arith, within.1))) graph.content.nodes is.numbered)
          ((is.node_range.0, omega arith), tt);
      in_form = each_append (λ (f : NodeId × Node). IsTrue (rises f.1.labels) × IsTrue (rises f.1.props)) graph.content.nodes (e ∷ []) is.in_form ((form.0, form.1.0), tt);
      stored = each_append (λ (f : NodeId × Node). IsStorable f.1.props) graph.content.nodes (e ∷ []) is.stored (form.1.1, tt);
      rels_rising = is.rels_rising;
      rels_numbered = is.rels_numbered;
      rels_in_form = is.rels_in_form;
      rels_stored = is.rels_stored;
      ends = each_then (λ (r : RelId × Rel). IsSome (node_at r.1.source graph) × IsSome (node_at r.1.target graph))
          (λ (r : RelId × Rel). IsSome (node_at r.1.source (with_node n graph)) × IsSome (node_at r.1.target (with_node n graph)))
          (λ r there. (found_before node_number r.1.source graph.content.nodes (e ∷ []) there.0, found_before node_number r.1.target graph.content.nodes (e ∷ []) there.1))
          graph.content.rels is.ends;
      node_range = (omega arith, one_more graph.next_node is.node_range.1 left);
      rel_range = is.rel_range;
    }

pub with_rel_is : (graph : State) (r : Rel) → IsGraph graph → AreProperties r.props → (graph.next_rel == number_end) ≡ false → IsSome (node_at r.source graph) → IsSome (node_at r.target graph)
    → IsGraph (with_rel r graph)
with_rel_is graph r is props left from to =
    let e : RelId × Rel = (record { 0 = graph.next_rel }, r) in
    record {
      rising = is.rising;
      numbered = is.numbered;
      in_form = is.in_form;
      stored = is.stored;
      rels_rising = sorted_push rel_number graph.content.rels e is.rels_rising
          (each_then (λ (f : RelId × Rel). (1 ≤ f.0.0) × (f.0.0 < graph.next_rel)) (λ (f : RelId × Rel). f.0.0 < graph.next_rel) (λ f within. within.1) graph.content.rels is.rels_numbered);
      rels_numbered = each_append (λ (f : RelId × Rel). (1 ≤ f.0.0) × (f.0.0 < graph.next_rel + 1)) graph.content.rels (e ∷ [])
          (each_then (λ (f : RelId × Rel). (1 ≤ f.0.0) × (f.0.0 < graph.next_rel)) (λ (f : RelId × Rel). (1 ≤ f.0.0) × (f.0.0 < graph.next_rel + 1))
          (λ f within. (within.0, omega (arith, within.1))) graph.content.rels is.rels_numbered)
          ((is.rel_range.0, omega arith), tt);
      rels_in_form = each_append (λ (f : RelId × Rel). IsTrue (rises f.1.props)) graph.content.rels (e ∷ []) is.rels_in_form (props.0, tt);
      rels_stored = each_append (λ (f : RelId × Rel). IsStorable f.1.props) graph.content.rels (e ∷ []) is.rels_stored (props.1, tt);
      ends = each_append (λ (f : RelId × Rel). IsSome (node_at f.1.source graph) × IsSome (node_at f.1.target graph)) graph.content.rels (e ∷ []) is.ends ((from, to), tt);
      node_range = is.node_range;
      rel_range = (omega arith, one_more graph.next_rel is.rel_range.1 left);
    }

-- ---- other values under the same numbers

-- the same numbers are in use, and the same come next
pub record SameNumbers (old new : State) : Type 0 where
  pub nodes : map (λ (e : NodeId × Node). e.0) new.content.nodes ≡ map (λ (e : NodeId × Node). e.0) old.content.nodes
  pub rels : map (λ (e : RelId × Rel). e.0) new.content.rels ≡ map (λ (e : RelId × Rel). e.0) old.content.rels
  pub next_node : new.next_node ≡ old.next_node
  pub next_rel : new.next_rel ≡ old.next_rel

pub same_numbers : (graph : State) → SameNumbers graph graph
same_numbers graph = record { nodes = refl; rels = refl; next_node = refl; next_rel = refl }

pub still_same : (a b c : State) → SameNumbers a b → SameNumbers b c → SameNumbers a c
still_same a b c first second = record {
  nodes = second.nodes ∙ first.nodes;
  rels = second.rels ∙ first.rels;
  next_node = second.next_node ∙ first.next_node;
  next_rel = second.next_rel ∙ first.next_rel;
}

-- so the same nodes and relationships are there
pub node_kept : (old new : State) → SameNumbers old new → (id : NodeId) → IsSome (node_at id old) → IsSome (node_at id new)
node_kept old new same id there =
    entries.is_some-find node_order id new.content.nodes ∙ ap (list_any (eq_by_cmp node_order id)) same.nodes ∙ sym (entries.is_some-find node_order id old.content.nodes) ∙ there

pub rel_kept : (old new : State) → SameNumbers old new → (id : RelId) → IsSome (rel_at id old) → IsSome (rel_at id new)
rel_kept old new same id there =
    entries.is_some-find rel_order id new.content.rels ∙ ap (list_any (eq_by_cmp rel_order id)) same.rels ∙ sym (entries.is_some-find rel_order id old.content.rels) ∙ there

-- a graph that is as good, with the same numbers
pub record Kept (old new : State) : Type 0 where
  pub is : IsGraph new
  pub same : SameNumbers old new

pub kept_then : (a b c : State) → Kept a b → Kept b c → Kept a c
kept_then a b c first second = record { is = second.is; same = still_same a b c first.same second.same }

put_nodes : (id : NodeId) (o : Option Node) (es : List (NodeId × Node)) → replaced id o es ≡ put_if node_number id o es
put_nodes id None es = refl
put_nodes id (Some n) es = refl

put_rels : (id : RelId) (o : Option Rel) (es : List (RelId × Rel)) → replaced_rel id o es ≡ put_if rel_number id o es
put_rels id None es = refl
put_rels id (Some r) es = refl

-- what holds of a value and of the changed one holds of it, changed or not
chosen : {V : Type 0} (P : V → Type 0) (b : Bool) (f : V → V) (v : V) → ((w : V) → P w → P (f w)) → P v → P (cond b (f v) v)
chosen P true f v step here = step v here
chosen P false f v step here = here

module _ (graph : State) (is : IsGraph graph) where
  module _ (id : NodeId) (f : Node → Node) (form : (n : Node) → IsNode n → IsNode (f n)) where
    abbrev nodes_after : List (NodeId × Node)
    nodes_after = revalued node_number (change node_number id f) graph.content.nodes

    forms : AllByRecursion (λ (e : NodeId × Node). IsNode e.1) nodes_after
    forms =
        all_revalued node_number (change node_number id f) (λ (e : NodeId × Node). IsNode e.1) (λ (e : NodeId × Node). IsNode e.1)
        (λ e here. chosen IsNode (eq_by_cmp node_order id e.0) f e.1 form here) graph.content.nodes (together graph.content.nodes is.in_form is.stored)
      where
        together : (es : List (NodeId × Node)) → AllByRecursion (λ (e : NodeId × Node). IsTrue (rises e.1.labels) × IsTrue (rises e.1.props)) es
            → AllByRecursion (λ (e : NodeId × Node). IsStorable e.1.props) es → AllByRecursion (λ (e : NodeId × Node). IsNode e.1) es
        together [] up stored = tt
        together (e ∷ es) up stored = ((up.0.0, (up.0.1, stored.0)), together es up.1 stored.1)

    same_nodes : SameNumbers graph (with_nodes nodes_after graph)
    same_nodes = record { nodes = keys_revalued node_number (change node_number id f) graph.content.nodes; rels = refl; next_node = refl; next_rel = refl }

    nodes_kept : Kept graph (with_nodes nodes_after graph)
    nodes_kept = record {
      is = record {
        rising = sorted_revalued node_number (change node_number id f) graph.content.nodes ∙ is.rising;
        numbered = all_revalued node_number (change node_number id f) (λ (e : NodeId × Node). (1 ≤ e.0.0) × (e.0.0 < graph.next_node)) (λ (e : NodeId × Node). (1 ≤ e.0.0) × (e.0.0 < graph.next_node))
            (λ e within. within) graph.content.nodes is.numbered;
        in_form = each_then (λ (e : NodeId × Node). IsNode e.1) (λ (e : NodeId × Node). IsTrue (rises e.1.labels) × IsTrue (rises e.1.props)) (λ e here. (here.0, here.1.0)) nodes_after forms;
        stored = each_then (λ (e : NodeId × Node). IsNode e.1) (λ (e : NodeId × Node). IsStorable e.1.props) (λ e here. here.1.1) nodes_after forms;
        rels_rising = is.rels_rising;
        rels_numbered = is.rels_numbered;
        rels_in_form = is.rels_in_form;
        rels_stored = is.rels_stored;
        ends = each_then (λ (r : RelId × Rel). IsSome (node_at r.1.source graph) × IsSome (node_at r.1.target graph))
            (λ (r : RelId × Rel). IsSome (node_at r.1.source (with_nodes nodes_after graph)) × IsSome (node_at r.1.target (with_nodes nodes_after graph)))
            (λ r there. (node_kept graph (with_nodes nodes_after graph) same_nodes r.1.source there.0, node_kept graph (with_nodes nodes_after graph) same_nodes r.1.target there.1))
            graph.content.rels is.ends;
        node_range = is.node_range;
        rel_range = is.rel_range;
      };
      same = same_nodes;
    }

    pub node_changed : Kept graph (with_node_changed id f graph)
    node_changed =
        subst (λ es. Kept graph (with_nodes es graph)) (sym (put_nodes id (option_map f (node_at id graph)) graph.content.nodes ∙ put_changed node_number id f graph.content.nodes is.rising)) nodes_kept

  module _ (id : RelId) (f : Rel → Rel) (form : (r : Rel) → AreProperties r.props → AreProperties (f r).props) (same_source : (r : Rel) → (f r).source ≡ r.source) (same_target : (r : Rel) → (f r).target ≡ r.target) where
    abbrev rels_after : List (RelId × Rel)
    rels_after = revalued rel_number (change rel_number id f) graph.content.rels

    abbrev EndsThere : Rel → Type 0
    EndsThere r = IsSome (node_at r.source graph) × IsSome (node_at r.target graph)

    rel_forms : AllByRecursion (λ (e : RelId × Rel). AreProperties e.1.props) rels_after
    rel_forms =
        all_revalued rel_number (change rel_number id f) (λ (e : RelId × Rel). AreProperties e.1.props) (λ (e : RelId × Rel). AreProperties e.1.props)
        (λ e here. chosen (λ (r : Rel). AreProperties r.props) (eq_by_cmp rel_order id e.0) f e.1 form here) graph.content.rels (together graph.content.rels is.rels_in_form is.rels_stored)
      where
        together : (es : List (RelId × Rel)) → AllByRecursion (λ (e : RelId × Rel). IsTrue (rises e.1.props)) es
            → AllByRecursion (λ (e : RelId × Rel). IsStorable e.1.props) es → AllByRecursion (λ (e : RelId × Rel). AreProperties e.1.props) es
        together [] up stored = tt
        together (e ∷ es) up stored = ((up.0, stored.0), together es up.1 stored.1)

    rels_kept : Kept graph (with_rels rels_after graph)
    rels_kept = record {
      is = record {
        rising = is.rising;
        numbered = is.numbered;
        in_form = is.in_form;
        stored = is.stored;
        rels_rising = sorted_revalued rel_number (change rel_number id f) graph.content.rels ∙ is.rels_rising;
        rels_numbered = all_revalued rel_number (change rel_number id f) (λ (e : RelId × Rel). (1 ≤ e.0.0) × (e.0.0 < graph.next_rel)) (λ (e : RelId × Rel). (1 ≤ e.0.0) × (e.0.0 < graph.next_rel))
            (λ e within. within) graph.content.rels is.rels_numbered;
        rels_in_form = each_then (λ (e : RelId × Rel). AreProperties e.1.props) (λ (e : RelId × Rel). IsTrue (rises e.1.props)) (λ e here. here.0) rels_after rel_forms;
        rels_stored = each_then (λ (e : RelId × Rel). AreProperties e.1.props) (λ (e : RelId × Rel). IsStorable e.1.props) (λ e here. here.1) rels_after rel_forms;
        ends = all_revalued rel_number (change rel_number id f) (λ (e : RelId × Rel). EndsThere e.1) (λ (e : RelId × Rel). EndsThere e.1)
            (λ e there. chosen EndsThere (eq_by_cmp rel_order id e.0) f e.1
            (λ r here. (subst (λ (n : NodeId). IsSome (node_at n graph)) (sym (same_source r)) here.0, subst (λ (n : NodeId). IsSome (node_at n graph)) (sym (same_target r)) here.1)) there)
            graph.content.rels is.ends;
        node_range = is.node_range;
        rel_range = is.rel_range;
      };
      same = record { nodes = refl; rels = keys_revalued rel_number (change rel_number id f) graph.content.rels; next_node = refl; next_rel = refl };
    }

    pub rel_changed : Kept graph (with_rel_changed id f graph)
    rel_changed =
        subst (λ es. Kept graph (with_rels es graph)) (sym (put_rels id (option_map f (rel_at id graph)) graph.content.rels ∙ put_changed rel_number id f graph.content.rels is.rels_rising)) rels_kept

  pub prop_kept : (x : Entity) (key : Name) (o : Option Value) → IfSome o (λ v. IsTrue (is_storable v)) → Kept graph (with_prop x key o graph)
  prop_kept (entity.Node id) key o storable = node_changed id (set_at key o) (λ n form. (form.0, set_properties key o n.props storable form.1))
  prop_kept (entity.Rel id) key o storable = rel_changed id (rel_set_at key o) (λ r form. set_properties key o r.props storable form) (λ r. refl) (λ r. refl)

  pub label_kept : (id : NodeId) (label : Name) → Kept graph (with_node_changed id (with_label label) graph)
  label_kept id label = node_changed id (with_label label) (λ n form. (rises-with_value label tt n.labels form.0, form.1))

  pub no_label_kept : (id : NodeId) (label : Name) → Kept graph (with_node_changed id (without_label label) graph)
  no_label_kept id label = node_changed id (without_label label) (λ n form. (rises-without label n.labels form.0, form.1))
