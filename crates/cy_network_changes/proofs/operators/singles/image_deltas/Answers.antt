use Rattle.std.proofs.Common.{◌≡◌, List, [], Some, length, refl, sym, ◌∙◌, arith}
use Rattle.cy_values.specs.declared.rows.Cell.{Cell}
use Rattle.cy_planner_algebra.specs.Plans.{Plan}
use Rattle.cy_planner_algebra.specs.PlanModels.{plan_of}
use Rattle.cy_network_operators.specs.Deltas.{rows_at}
use Rattle.cy_network_parts.specs.Memories.{own_contents}
use Rattle.cy_network_parts.specs.internal.Upkeep.{content_of}
use Rattle.cy_network_parts.proofs.Lent.{no_length, some_length}
use Rattle.cy_network_parts.proofs.RowByRow.{with_memory, without_contents, without_memory}
use Rattle.std.proofs.lemmas.Result.{IfOk-from_err}
use Rattle.cy_network_parts.proofs.Refusals.{if_memory}
use Rattle.cy_network_parts.proofs.Taken.{grown_none}
use Rattle.cy_network_changes.specs.internal.Passages.{outputs_of}
use Rattle.cy_network_changes.proofs.PassageLemmas.{project_is}
use Rattle.cy_network_changes.proofs.operators.singles.image_deltas.Goals as goal

pub row_by_row_deltas-requires-clause-told : goal.row_by_row_deltas-requires-clause-told
row_by_row_deltas-requires-clause-told g c =
    let p = plan_of c.args.part.now in
    without_memory g.M.Memory.key_columns c.args.own.now p (outputs_of p) (project_is p c.requires.project) c.requires.begun.1.1.1.fed.own.keyed c.requires.unscanned
    (no_length (length c.args.own.now) (sym c.is_empty.ensures ∙ c.if-is_empty.true))

pub project_deltas-requires-clause-kept : goal.project_deltas-requires-clause-kept
project_deltas-requires-clause-kept g c =
    let p = plan_of c.args.part.now in
    with_memory g.M.Memory.key_columns c.args.own.now p (outputs_of p) (project_is p c.requires.project) c.requires.begun.1.1.1.fed.own.keyed
    (some_length (length c.args.own.now) (sym c.is_empty.ensures ∙ c.if-is_empty.false))

pub row_by_row_deltas-requires-clause-begun : goal.row_by_row_deltas-requires-clause-begun
row_by_row_deltas-requires-clause-begun g c =
    let begun = c.requires.begun in
    let given = begun.1.1.1 in
    (begun.0, (begun.1.0, (begun.1.1.0, (given.deltas, (given.fed.step, (given.fed.below, given.are))))))

pub returns-then-is_empty : goal.returns-then-is_empty
returns-then-is_empty g c = record {
  done = λ old now touches given.
      let p = plan_of c.args.part.now in
      let none : (rows : Plan → List (List Cell)) → own_contents rows p ≡ [] =
      without_contents g.M.Memory.key_columns c.args.own.now p (outputs_of p) (project_is p c.requires.project) c.requires.begun.1.1.1.fed.own.keyed c.requires.unscanned
      (no_length (length c.args.own.now) (sym c.is_empty.ensures ∙ c.if-is_empty.true)) in
      record {
        change = c.in_ok-row_by_row_deltas.ensures old now touches given.deltas given.fed.step given.fed.below given.are;
        holds = given.fed.own.settled ∙ none (rows_at (content_of old)) ∙ sym (none (rows_at (Some now.content)));
      };
  too_many = tt;
  was = refl;
  columns = refl;
  grows = grown_none g.M.Memory.step_count c.args.own.now;
  steps = λ exact old now touches fed. omega arith;
}

pub returns-in_err-row_by_row_deltas : goal.returns-in_err-row_by_row_deltas
returns-in_err-row_by_row_deltas g c = record {
  done = IfOk-from_err c.from_residual.result _ c.from_residual.ensures.0;
  too_many = if_memory _ c.from_residual.result c.from_residual.ensures.1;
  was = refl;
  columns = refl;
  grows = grown_none g.M.Memory.step_count c.args.own.now;
  steps = IfOk-from_err c.from_residual.result _ c.from_residual.ensures.0;
}
