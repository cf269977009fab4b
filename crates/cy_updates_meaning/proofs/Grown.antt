-- A graph that has grown: what was there is there still, and what is new has the next numbers.
use Rattle.std.specs.FinMap.Entries as entries
use Rattle.std.proofs.Common.{◌≡◌, ◌+◌, ◌≤◌, List, [], ◌∷◌, ◌++◌, length, append_assoc, IsSome, refl, sym, ap, subst, ◌∙◌, arith}
use Rattle.std.specs.List.{AllByRecursion}
use Rattle.std.proofs.lemmas.List.{append-nil, length-append}
use Rattle.cy_values.specs.declared.numbers.NodeId.{NodeId}
use Rattle.cy_values.specs.declared.numbers.RelId.{RelId}
use Rattle.cy_values.specs.declared.rows.Cell.{Cell}
use Rattle.cy_values.specs.declared.rows.Cell.TheVariants as cell
use Rattle.cy_values.proofs.Lists.{each_append, each_then}
use Rattle.cy_graph.specs.Graph.{Content, State, node_at, node_order, rel_at, rel_order, with_node, with_rel}
use Rattle.cy_graph.specs.declared.nodes.Node.{Node}
use Rattle.cy_graph.specs.declared.nodes.Rel.{Rel}
use Rattle.cy_oneshot_meaning.specs.Reading.{AreInGraph, IsInGraph}
use Rattle.cy_updates_meaning.proofs.Entries.{found_before}
use Rattle.cy_updates_meaning.proofs.Graphs.{node_number, rel_number}

pub record Grown (old new : State) : Type 0 where
  pub nodes : List (NodeId × Node)
  pub rels : List (RelId × Rel)
  pub nodes_are : new.content.nodes ≡ old.content.nodes ++ nodes
  pub rels_are : new.content.rels ≡ old.content.rels ++ rels
  pub next_node : old.next_node + length nodes ≡ new.next_node
  pub next_rel : old.next_rel + length rels ≡ new.next_rel
  pub nodes_new : AllByRecursion (λ (e : NodeId × Node). old.next_node ≤ e.0.0) nodes
  pub rels_new : AllByRecursion (λ (e : RelId × Rel). old.next_rel ≤ e.0.0) rels

pub grown_nothing : (graph : State) → Grown graph graph
grown_nothing graph = record {
  nodes = [];
  rels = [];
  nodes_are = sym (append-nil graph.content.nodes);
  rels_are = sym (append-nil graph.content.rels);
  next_node = omega arith;
  next_rel = omega arith;
  nodes_new = tt;
  rels_new = tt;
}

pub grown_node : (n : Node) (graph : State) → Grown graph (with_node n graph)
grown_node n graph = record {
  nodes = (record { 0 = graph.next_node }, n) ∷ [];
  rels = [];
  nodes_are = refl;
  rels_are = sym (append-nil graph.content.rels);
  next_node = refl;
  next_rel = omega arith;
  nodes_new = (omega arith, tt);
  rels_new = tt;
}

pub grown_rel : (r : Rel) (graph : State) → Grown graph (with_rel r graph)
grown_rel r graph = record {
  nodes = [];
  rels = (record { 0 = graph.next_rel }, r) ∷ [];
  nodes_are = sym (append-nil graph.content.nodes);
  rels_are = refl;
  next_node = omega arith;
  next_rel = refl;
  nodes_new = tt;
  rels_new = (omega arith, tt);
}

pub grown_then : (a b c : State) → Grown a b → Grown b c → Grown a c
grown_then a b c first second =
    let more_nodes : length (first.nodes ++ second.nodes) ≡ length first.nodes + length second.nodes = length-append first.nodes second.nodes in
    let more_rels : length (first.rels ++ second.rels) ≡ length first.rels + length second.rels = length-append first.rels second.rels in
    let node_up : a.next_node + length first.nodes ≡ b.next_node = first.next_node in
    let node_on : b.next_node + length second.nodes ≡ c.next_node = second.next_node in
    let rel_up : a.next_rel + length first.rels ≡ b.next_rel = first.next_rel in
    let rel_on : b.next_rel + length second.rels ≡ c.next_rel = second.next_rel in
    record {
      nodes = first.nodes ++ second.nodes;
      rels = first.rels ++ second.rels;
      nodes_are = second.nodes_are ∙ ap (λ es. es ++ second.nodes) first.nodes_are ∙ append_assoc a.content.nodes first.nodes second.nodes;
      rels_are = second.rels_are ∙ ap (λ es. es ++ second.rels) first.rels_are ∙ append_assoc a.content.rels first.rels second.rels;
      next_node = omega (arith, more_nodes, node_up, node_on);
      next_rel = omega (arith, more_rels, rel_up, rel_on);
      nodes_new = each_append (λ (e : NodeId × Node). a.next_node ≤ e.0.0) first.nodes second.nodes first.nodes_new
          (each_then (λ (e : NodeId × Node). b.next_node ≤ e.0.0) (λ (e : NodeId × Node). a.next_node ≤ e.0.0) (λ e above. omega (arith, node_up, above)) second.nodes second.nodes_new);
      rels_new = each_append (λ (e : RelId × Rel). a.next_rel ≤ e.0.0) first.rels second.rels first.rels_new
          (each_then (λ (e : RelId × Rel). b.next_rel ≤ e.0.0) (λ (e : RelId × Rel). a.next_rel ≤ e.0.0) (λ e above. omega (arith, rel_up, above)) second.rels second.rels_new);
    }

module _ (old new : State) (grown : Grown old new) where
  pub node_still : (id : NodeId) → IsSome (node_at id old) → IsSome (node_at id new)
  node_still id there =
      subst (λ es. IsSome (entries.find node_order id es)) (sym grown.nodes_are) (found_before node_number id old.content.nodes grown.nodes there)

  pub rel_still : (id : RelId) → IsSome (rel_at id old) → IsSome (rel_at id new)
  rel_still id there = subst (λ es. IsSome (entries.find rel_order id es)) (sym grown.rels_are) (found_before rel_number id old.content.rels grown.rels there)

-- where the nodes and relationships of one graph are in another, what a cell names there is in the other
module _ (graph other : Content) (nodes : (id : NodeId) → IsSome (entries.find node_order id graph.nodes) → IsSome (entries.find node_order id other.nodes))
    (rels : (id : RelId) → IsSome (entries.find rel_order id graph.rels) → IsSome (entries.find rel_order id other.rels)) where
  pub cell_still : (c : Cell) → IsInGraph graph c → IsInGraph other c
  cell_still (cell.Node id) there = nodes id there
  cell_still (cell.Rel id) there = rels id there
  cell_still (cell.Rels ids) there =
      each_then (λ (id : RelId). IsSome (entries.find rel_order id graph.rels)) (λ (id : RelId). IsSome (entries.find rel_order id other.rels)) rels ids there
  cell_still (cell.Value v) there = tt

  pub row_still : (row : List Cell) → AllByRecursion (IsInGraph graph) row → AllByRecursion (IsInGraph other) row
  row_still = each_then (IsInGraph graph) (IsInGraph other) cell_still

  pub rows_still : (rows : List (List Cell)) → AreInGraph graph rows → AreInGraph other rows
  rows_still = each_then (AllByRecursion (IsInGraph graph)) (AllByRecursion (IsInGraph other)) row_still
