use Rattle.std.proofs.Common.{ℕ, Option, [], ◌∷◌, ◌++◌, sym, ap, ◌∙◌, arith}
use Rattle.std.specs.Option.{option_copied}
use Rattle.std.specs.Prelude.{flat_map}
use Rattle.std.proofs.lemmas.List.{append-nil}
use Rattle.cy_values.specs.declared.rows.Cell.TheVariants as cell
use Rattle.cy_graph.specs.declared.nodes.Rel.{Rel}
use Rattle.cy_network_operators.specs.Deltas.{deltas_of}
use Rattle.cy_network_operators.proofs.Readings.{read_then}
use Rattle.cy_network_sources.specs.internal.Attributes.{still}
use Rattle.cy_network_sources.specs.internal.Named.{with_key}
use Rattle.cy_network_sources.proofs.AttributeLemmas.{one_entity, one_less, walked}
use Rattle.cy_network_sources.proofs.CostLemmas.{among_alike, fewer_left, none_left}
use Rattle.cy_network_sources.proofs.NewRows.{none_stay}
use Rattle.cy_network_sources.proofs.lookups.add_at_rels.Goals as goal

pub loop-number-preserved : goal.loop-number-preserved
loop-number-preserved g c =
    let was = g.M.Memory.was c.args.memory.now in
    let staged = g.M.Memory.staged c.args.memory.now in
    let columns = g.M.Memory.key_columns c.args.memory.now in
    let so_far = c.loop-number.invariant in
    record {
      made = λ before column change keys row.
          walked (λ (e : ℕ × Option Rel). still before.content c.args.sight.now.graph.now.content column c.args.changing.now.attribute.now was staged (cell.Rel (record { 0 = e.0 })) row)
          (c.in-Some.number, option_copied c.in-Some.field-0-1) c.next.new.self
          (deltas_of row c.loop-number.made.items) (deltas_of row c.add_at.new.made.items) _
          (one_entity c.args.changing.now.change.now c.args.changing.now.attribute.now (cell.Rel (record { 0 = c.in-Some.number })) c.args.sight.now.graph c.loop-number.sight.graph
          columns (g.M.Memory.key_columns c.loop-number.memory) was (g.M.Memory.was c.loop-number.memory) staged (g.M.Memory.staged c.loop-number.memory)
          so_far.graph so_far.read.columns so_far.read.was so_far.read.staged c.loop-number.made.items c.add_at.new.made.items c.in_ok-add_at.ensures.made before column change keys row)
          (ap (λ left. deltas_of row c.loop-number.made.items ++ flat_map (λ (e : ℕ × Option Rel). still before.content c.args.sight.now.graph.now.content column c.args.changing.now.attribute.now was staged (cell.Rel (record { 0 = e.0 })) row) left) (sym c.in-Some.ensures.steps)
          ∙ so_far.made before column change keys row);
      read = read_then so_far.read c.add_at.ensures.read;
      graph = c.add_at.ensures.graph ∙ so_far.graph;
      reads = one_less c.loop-number.number-iterator c.next.new.self _ c.args.sight.now.reads c.loop-number.sight.reads c.add_at.new.sight.reads _ c.in-Some.ensures.steps so_far.reads c.add_at.ensures.reads;
      steps = λ column rows keys among exact.
          fewer_left (λ (e : ℕ × Option Rel). with_key (column ∷ []) (cell.Rel (record { 0 = e.0 }) ∷ []) rows) c.loop-number.number-iterator c.next.new.self (c.in-Some.number, option_copied c.in-Some.field-0-1)
          (g.M.Memory.step_count c.args.memory.now) (g.M.Memory.step_count c.loop-number.memory) (g.M.Memory.step_count c.add_at.new.memory) _ c.in-Some.ensures.steps
          (so_far.steps column rows keys among exact)
          (c.in_ok-add_at.ensures.steps column rows (so_far.read.columns ∙ keys) (among_alike rows was (g.M.Memory.was c.loop-number.memory) staged (g.M.Memory.staged c.loop-number.memory) so_far.read.was so_far.read.staged among) exact);
    }

pub returns-clause-made : goal.returns-clause-made
returns-clause-made g c =
    let was = g.M.Memory.was c.args.memory.now in
    let staged = g.M.Memory.staged c.args.memory.now in
    λ before column change keys row.
    sym (append-nil (deltas_of row c.loop-number.made.items))
    ∙ ap (λ left. deltas_of row c.loop-number.made.items ++ flat_map (λ (e : ℕ × Option Rel). still before.content c.args.sight.now.graph.now.content column c.args.changing.now.attribute.now was staged (cell.Rel (record { 0 = e.0 })) row) left) (sym c.in-None.ensures.steps.0)
    ∙ c.loop-number.invariant.made before column change keys row

pub returns-clause-steps : goal.returns-clause-steps
returns-clause-steps g c = λ column rows keys among exact.
    none_left (λ (e : ℕ × Option Rel). with_key (column ∷ []) (cell.Rel (record { 0 = e.0 }) ∷ []) rows) c.loop-number.number-iterator
    (g.M.Memory.step_count c.loop-number.memory) _ (c.loop-number.invariant.steps column rows keys among exact)

pub returns-then-all_new-clause-made : goal.returns-then-all_new-clause-made
returns-then-all_new-clause-made g c = λ before column change keys row.
    sym (append-nil (deltas_of row c.args.made.now.items))
    ∙ ap (λ made. deltas_of row c.args.made.now.items ++ made)
    (sym (none_stay before.content c.args.sight.now.graph.now.content column c.args.changing.now.attribute.now (g.M.Memory.was c.args.memory.now) (g.M.Memory.staged c.args.memory.now)
    (λ (e : ℕ × Option Rel). cell.Rel (record { 0 = e.0 })) row (c.requires.new c.if-all_new.true) c.args.changing.now.change.now.rels))

pub returns-then-all_new-clause-steps : goal.returns-then-all_new-clause-steps
returns-then-all_new-clause-steps g c = λ column rows keys among exact. omega arith
