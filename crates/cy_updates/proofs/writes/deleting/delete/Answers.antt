use Rattle.std.proofs.Common.{◌≡◌, ◌+◌, length, ap, ◌∙◌, arith, inr}
use Rattle.cy_graph.specs.Graph.{State}
use Rattle.cy_updates_meaning.specs.Deleting.{named}
use Rattle.cy_updates.proofs.DeletedAll.{delete_alone, delete_done, delete_refused, named_nodes, remaining}
use Rattle.cy_updates.proofs.writes.deleting.delete.Goals as goal

pub returns-in-Some-clause-meaning : goal.returns-in-Some-clause-meaning
returns-in-Some-clause-meaning c =
    let graph = c.args.store.now.graph.now in
    let set = named c.args.variables.now c.args.rows.now in
    let found = c.in_ok-found in
    let going = c.in_ok-going in
    let left = remaining graph c.args.detach set found.found.rels.items found.ensures.rels found.found.nodes.items found.ensures.nodes going.going.rels.items going.ensures.rels
    c.remove_rels.new.store.graph.now c.in_ok-rels_gone.ensures.removed in
    inr (delete_refused graph c.args.detach c.args.variables.now c.args.rows.now going.going.nodes.items (named_nodes set found.found.nodes.items found.ensures.nodes going.going.nodes.items going.ensures.nodes)
    c.remove_rels.new.store.graph.now left c.in-Some.rel (rw c.deref.ensures.value at c.in-Some.ensures))

pub remove_nodes-requires-clause-alone : goal.remove_nodes-requires-clause-alone
remove_nodes-requires-clause-alone c =
    let graph = c.args.store.now.graph.now in
    let set = named c.args.variables.now c.args.rows.now in
    let found = c.in_ok-found in
    let going = c.in_ok-going in
    let left = remaining graph c.args.detach set found.found.rels.items found.ensures.rels found.found.nodes.items found.ensures.nodes going.going.rels.items going.ensures.rels
    c.remove_rels.new.store.graph.now c.in_ok-rels_gone.ensures.removed in
    delete_alone graph c.args.detach c.args.variables.now c.args.rows.now going.going.nodes.items (named_nodes set found.found.nodes.items found.ensures.nodes going.going.nodes.items going.ensures.nodes)
    c.remove_rels.new.store.graph.now left (rw c.deref.ensures.value at c.in-None.ensures)

pub returns-in_ok-nodes_gone-in-None-clause-meaning : goal.returns-in_ok-nodes_gone-in-None-clause-meaning
returns-in_ok-nodes_gone-in-None-clause-meaning c =
    let graph = c.args.store.now.graph.now in
    let set = named c.args.variables.now c.args.rows.now in
    let found = c.in_ok-found in
    let going = c.in_ok-going in
    let left = remaining graph c.args.detach set found.found.rels.items found.ensures.rels found.found.nodes.items found.ensures.nodes going.going.rels.items going.ensures.rels
    c.remove_rels.new.store.graph.now c.in_ok-rels_gone.ensures.removed in
    delete_done graph c.args.detach c.args.variables.now c.args.rows.now going.going.nodes.items (named_nodes set found.found.nodes.items found.ensures.nodes going.going.nodes.items going.ensures.nodes)
    c.remove_rels.new.store.graph.now left (rw c.deref.ensures.value at c.in-None.ensures) c.remove_nodes.new.store.graph.now c.in_ok-nodes_gone-in-None.ensures.removed

pub returns-in_ok-nodes_gone-in-None-clause-gone : goal.returns-in_ok-nodes_gone-in-None-clause-gone
returns-in_ok-nodes_gone-in-None-clause-gone c =
    let graph = c.args.store.now.graph.now in
    let set = named c.args.variables.now c.args.rows.now in
    let found = c.in_ok-found in
    let going = c.in_ok-going in
    let nodes_gone = c.in_ok-nodes_gone-in-None.ensures in
    let left = remaining graph c.args.detach set found.found.rels.items found.ensures.rels found.found.nodes.items found.ensures.nodes going.going.rels.items going.ensures.rels
    c.remove_rels.new.store.graph.now c.in_ok-rels_gone.ensures.removed in
    let nodes_left : length c.remove_rels.new.store.graph.now.content.nodes ≡ length graph.content.nodes = ap (λ (g : State). length g.content.nodes) left in
    let rels_left : length c.remove_nodes.new.store.graph.now.content.rels ≡ length c.remove_rels.new.store.graph.now.content.rels = ap length nodes_gone.rels in
    let node_numbers : c.remove_nodes.new.store.graph.now.next_node ≡ graph.next_node = ap (λ (g : State). g.next_node) nodes_gone.removed ∙ ap (λ (g : State). g.next_node) left in
    let rel_numbers : c.remove_nodes.new.store.graph.now.next_rel ≡ graph.next_rel = ap (λ (g : State). g.next_rel) nodes_gone.removed ∙ ap (λ (g : State). g.next_rel) left in
    let nodes_count : c.in_ok-nodes_gone-in-None.nodes_gone + length c.remove_nodes.new.store.graph.now.content.nodes ≡ length c.remove_rels.new.store.graph.now.content.nodes = nodes_gone.count in
    let rels_count : c.in_ok-rels_gone.rels_gone + length c.remove_rels.new.store.graph.now.content.rels ≡ length graph.content.rels = c.in_ok-rels_gone.ensures.count in
    record {
      nodes_gone = omega (arith, nodes_left, node_numbers, nodes_count);
      rels_gone = omega (arith, rels_left, rel_numbers, rels_count);
      nodes_up = omega (arith, node_numbers);
      rels_up = omega (arith, rel_numbers);
    }
