use Rattle.std.proofs.Common.{length, map, sym, subst, ◌∙◌}
use Rattle.std.proofs.lemmas.Iterator.Adapters.{YieldsList-from_vec}
use Rattle.std.proofs.lemmas.Iterator.Consumers.{YieldsList-turn}
use Rattle.std.proofs.lemmas.List.Elements.{All-get_or}
use Rattle.cy_planner_algebra.specs.Sure.{HasCells}
use Rattle.cy_planner_algebra.specs.PlanModels.{output_of}
use Rattle.cy_network_memory.specs.declared.memory.RowDelta.{RowDelta}
use Rattle.cy_network_counts.proofs.projections.images_of.Goals as goal

pub projected-requires-clause-sure : goal.projected-requires-clause-sure
projected-requires-clause-sure c =
    let gives = c.into_iter-row_delta-iterator.ensures.into_iter_gives in
    let turn =
    YieldsList-turn (YieldsList-from_vec {s = c.into_iter-row_delta-iterator.result} c.args.deltas.items gives.0 (gives.1 ∙ c.args.deltas.ok.0)) c.loop-row_delta.yielded c.loop-row_delta.row_delta-iterator c.loop-row_delta.yielded_by c.next.result c.next.new.self c.in-Some.row_delta c.in-Some.is c.next.ensures.steps in
    subst (λ (s : RowDelta). HasCells (map output_of c.args.outputs.now) s.row) (sym turn.1)
    (All-get_or (λ (s : RowDelta). HasCells (map output_of c.args.outputs.now) s.row) c.args.deltas.items (length c.loop-row_delta.yielded) c.in-Some.row_delta turn.0 c.requires.sure)
