use Rattle.std.proofs.Common.{◌≡◌, ◌++◌, sym, ap, ◌∙◌}
use Rattle.cy_planner_algebra.specs.Meaning.{each_once}
use Rattle.cy_network_operators.specs.Deltas.{counts_after}
use Rattle.cy_network_operators.proofs.Staging.{on_ok}
use Rattle.cy_network_sources.proofs.AttributeLemmas.{assembled}
use Rattle.cy_network_sources.proofs.CostLemmas.{all_steps, among_alike, counted_there, named_sum}
use Rattle.cy_network_sources.proofs.LookupDeltas.{lookup_bounded, lookup_delta}
use Rattle.cy_network_sources.proofs.lookups.lookup.Goals as goal

pub returns-clause-delta : goal.returns-clause-delta
returns-clause-delta g c = λ before old new change is delta.
    let was = g.M.Memory.was c.args.memory.now in
    let staged_now : g.M.Memory.staged c.stage_deltas.new.memory ≡ counts_after c.args.deltas.items was =
    on_ok c.stage_deltas.result (sym c.is_err.ensures.value ∙ c.if-is_err.false) c.stage_deltas.ensures.staged
    ∙ ap (λ deltas. counts_after deltas was) c.deref.ensures.value in
    let keys = c.stage_deltas.ensures.columns ∙ c.requires.columns in
    lookup_delta before c.args.sight.now.graph.now c.args.change.now change c.args.asked.now.column c.args.asked.now.attribute.now was c.args.deltas.items c.add_at_rels.new.made.items c.requires.held
    (assembled c.args.change.now c.args.asked.now.column c.args.asked.now.attribute.now
    c.args.sight.now.graph c.add_changed.new.sight.graph c.add_at_nodes.new.sight.graph c.add_changed.ensures.graph (c.add_at_nodes.ensures.graph ∙ c.add_changed.ensures.graph)
    was (counts_after c.args.deltas.items was)
    (g.M.Memory.was c.stage_deltas.new.memory) (g.M.Memory.staged c.stage_deltas.new.memory) (g.M.Memory.was c.add_at_nodes.new.memory) (g.M.Memory.staged c.add_at_nodes.new.memory)
    c.stage_deltas.ensures.was staged_now (c.add_at_nodes.ensures.read.was ∙ c.stage_deltas.ensures.was) (c.add_at_nodes.ensures.read.staged ∙ staged_now)
    c.args.deltas.items c.new-made.result.items c.add_changed.new.made.items c.add_at_nodes.new.made.items c.add_at_rels.new.made.items c.new-made.ensures.items
    c.in_ok-add_changed.ensures.made
    (λ b h. c.in_ok-add_at_nodes.ensures.made b c.args.asked.now.column h keys)
    (λ b h. c.in_ok-add_at_rels.ensures.made b c.args.asked.now.column h (c.add_at_nodes.ensures.read.columns ∙ keys))
    before change)
    old new is delta

pub returns-clause-bounded : goal.returns-clause-bounded
returns-clause-bounded g c = λ before change.
    let was = g.M.Memory.was c.args.memory.now in
    let staged_now : g.M.Memory.staged c.stage_deltas.new.memory ≡ counts_after c.args.deltas.items was =
    on_ok c.stage_deltas.result (sym c.is_err.ensures.value ∙ c.if-is_err.false) c.stage_deltas.ensures.staged
    ∙ ap (λ deltas. counts_after deltas was) c.deref.ensures.value in
    let keys = c.stage_deltas.ensures.columns ∙ c.requires.columns in
    lookup_bounded before c.args.sight.now.graph.now c.args.change.now change c.args.asked.now.column c.args.asked.now.attribute.now was c.args.deltas.items c.add_at_rels.new.made.items c.requires.held
    (assembled c.args.change.now c.args.asked.now.column c.args.asked.now.attribute.now
    c.args.sight.now.graph c.add_changed.new.sight.graph c.add_at_nodes.new.sight.graph c.add_changed.ensures.graph (c.add_at_nodes.ensures.graph ∙ c.add_changed.ensures.graph)
    was (counts_after c.args.deltas.items was)
    (g.M.Memory.was c.stage_deltas.new.memory) (g.M.Memory.staged c.stage_deltas.new.memory) (g.M.Memory.was c.add_at_nodes.new.memory) (g.M.Memory.staged c.add_at_nodes.new.memory)
    c.stage_deltas.ensures.was staged_now (c.add_at_nodes.ensures.read.was ∙ c.stage_deltas.ensures.was) (c.add_at_nodes.ensures.read.staged ∙ staged_now)
    c.args.deltas.items c.new-made.result.items c.add_changed.new.made.items c.add_at_nodes.new.made.items c.add_at_rels.new.made.items c.new-made.ensures.items
    c.in_ok-add_changed.ensures.made
    (λ b h. c.in_ok-add_at_nodes.ensures.made b c.args.asked.now.column h keys)
    (λ b h. c.in_ok-add_at_rels.ensures.made b c.args.asked.now.column h (c.add_at_nodes.ensures.read.columns ∙ keys))
    before change)
    c.requires.within c.requires.bounded

pub returns-clause-steps : goal.returns-clause-steps
returns-clause-steps g c = λ before old new change is delta exact.
    let was = g.M.Memory.was c.args.memory.now in
    let staged_now : g.M.Memory.staged c.stage_deltas.new.memory ≡ counts_after c.args.deltas.items was =
    on_ok c.stage_deltas.result (sym c.is_err.ensures.value ∙ c.if-is_err.false) c.stage_deltas.ensures.staged
    ∙ ap (λ deltas. counts_after deltas was) c.deref.ensures.value in
    let keys = c.stage_deltas.ensures.columns ∙ c.requires.columns in
    let rows = each_once (old ++ new) in
    let among = counted_there was c.args.deltas.items old new is delta in
    all_steps (g.M.Memory.step_count c.args.memory.now) (g.M.Memory.step_count c.stage_deltas.new.memory) (g.M.Memory.step_count c.add_at_nodes.new.memory) (g.M.Memory.step_count c.add_at_rels.new.memory)
    _ _ _ _ _
    (c.stage_deltas.ensures.steps exact)
    (c.in_ok-add_at_nodes.ensures.steps c.args.asked.now.column rows keys (among_alike rows was (g.M.Memory.was c.stage_deltas.new.memory) (counts_after c.args.deltas.items was) (g.M.Memory.staged c.stage_deltas.new.memory) c.stage_deltas.ensures.was staged_now among) exact)
    (c.in_ok-add_at_rels.ensures.steps c.args.asked.now.column rows (c.add_at_nodes.ensures.read.columns ∙ keys)
    (among_alike rows was (g.M.Memory.was c.add_at_nodes.new.memory) (counts_after c.args.deltas.items was) (g.M.Memory.staged c.add_at_nodes.new.memory) (c.add_at_nodes.ensures.read.was ∙ c.stage_deltas.ensures.was) (c.add_at_nodes.ensures.read.staged ∙ staged_now) among) exact)
    (named_sum c.args.change.now c.args.asked.now.column change.nodes_once change.rels_once rows)
