use Rattle.std.proofs.Common.{ℕ, ◌+◌, ◌≤◌, List, [], ◌∷◌, ◌++◌, ap, subst, ◌∙◌}
use Rattle.std.proofs.lemmas.Result.{on_ok_weaker}
use Rattle.cy_network_operators.specs.Deltas.{deltas_of}
use Rattle.cy_network_sources.specs.internal.Attributes.{still_deltas}
use Rattle.cy_network_sources.specs.internal.Named.{with_key}
use Rattle.cy_network_sources.proofs.LookupDeltas.{still_by_graphs}
use Rattle.cy_network_sources.proofs.lookups.add_at.Goals as goal

pub returns-clause-made : goal.returns-clause-made
returns-clause-made g c =
    let was = g.M.Memory.was c.args.memory.now in
    let staged = g.M.Memory.staged c.args.memory.now in
    on_ok_weaker c.add_still.result
    (λ makes before column change keys row.
    makes row
    ∙ ap (λ made. deltas_of row c.args.made.now.items ++ made)
    (ap (λ (columns : List ℕ). still_deltas columns was staged (c.args.entity ∷ []) c.in_ok-values.values row) keys
    ∙ still_by_graphs before.content c.args.sight.now.graph.now.content column c.args.changing.now.attribute.now was staged c.args.entity c.in_ok-values.values (c.in_ok-values.ensures.values before change) row))
    c.add_still.ensures.made

pub returns-clause-steps : goal.returns-clause-steps
returns-clause-steps g c =
    on_ok_weaker c.add_still.result
    (λ steps column rows keys among exact.
    subst (λ (columns : List ℕ). g.M.Memory.step_count c.add_still.new.memory ≤ g.M.Memory.step_count c.args.memory.now + 1 + with_key columns (c.args.entity ∷ []) rows) keys (steps rows among exact))
    c.add_still.ensures.steps
