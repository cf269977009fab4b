use Rattle.std.proofs.Common.{List, [], ◌∷◌, ◌++◌, length, ap, subst, ◌∙◌}
use Rattle.std.proofs.lemmas.List.Elements.{filter-append}
use Rattle.std.proofs.lemmas.Result.{on_ok_weaker}
use Rattle.std.specs.Prelude.{flat_map}
use Rattle.cy_values.specs.declared.rows.Cell.{Cell}
use Rattle.cy_values.specs.Same.{is_row}
use Rattle.cy_network_memory.specs.Records.{IsAnswer}
use Rattle.cy_network_operators.specs.Deltas.{deltas_of}
use Rattle.cy_network_sources.specs.internal.Attributes.{valued_record}
use Rattle.cy_network_sources.proofs.CostLemmas.{few_steps, records_few}
use Rattle.cy_network_sources.proofs.LookupLemmas.{still_made}
use Rattle.cy_network_sources.proofs.lookups.add_still.Goals as goal

pub returns-clause-made : goal.returns-clause-made
returns-clause-made g c =
    let columns = g.M.Memory.key_columns c.args.memory.now in
    let was = g.M.Memory.was c.args.memory.now in
    let staged = g.M.Memory.staged c.args.memory.now in
    let key = c.new.ensures ∙ c.in_ok-push.ensures.items ∙ ap (λ cells. cells ++ c.args.entity ∷ []) c.in_ok-cells.ensures.items in
    let answer = subst (λ (k : List Cell). IsAnswer columns was staged k c.in-Ok.records.items) key c.in-Ok.ensures.answer in
    on_ok_weaker c.add_records.result
    (λ is row.
    ap (deltas_of row) is
    ∙ filter-append (λ s. is_row row s.row) c.args.made.now.items (flat_map (valued_record c.args.values.now) c.in-Ok.records.items)
    ∙ ap (λ made. deltas_of row c.args.made.now.items ++ made) (still_made columns was staged (c.args.entity ∷ []) c.args.values.now c.in-Ok.records.items answer row))
    c.add_records.ensures

pub returns-clause-steps : goal.returns-clause-steps
returns-clause-steps g c =
    let columns = g.M.Memory.key_columns c.args.memory.now in
    let was = g.M.Memory.was c.args.memory.now in
    let staged = g.M.Memory.staged c.args.memory.now in
    let key = c.new.ensures ∙ c.in_ok-push.ensures.items ∙ ap (λ cells. cells ++ c.args.entity ∷ []) c.in_ok-cells.ensures.items in
    let answer = subst (λ (k : List Cell). IsAnswer columns was staged k c.in-Ok.records.items) key c.in-Ok.ensures.answer in
    on_ok_weaker c.add_records.result
    (λ _ rows among exact.
    few_steps (g.M.Memory.step_count c.args.memory.now) (g.M.Memory.step_count c.records_with-2.new.memory) (length c.in-Ok.records.items) _ (c.in-Ok.ensures.steps exact)
    (records_few columns was staged (c.args.entity ∷ []) c.in-Ok.records.items answer rows among))
    c.add_records.ensures
