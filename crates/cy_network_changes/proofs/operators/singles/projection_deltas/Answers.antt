use Rattle.std.proofs.Common.{List, map, refl, sym, ap, subst, ◌∙◌}
use Rattle.std.proofs.lemmas.Result.{IfOk-from_err}
use Rattle.cy_planner_algebra.specs.Expressions.{projected}
use Rattle.cy_planner_algebra.specs.Plans.{Output}
use Rattle.cy_planner_algebra.specs.PlanModels.{output_of, plan_of}
use Rattle.cy_network_counts.specs.Merges.{image}
use Rattle.cy_network_parts.specs.Parts.{first_below}
use Rattle.cy_network_parts.specs.internal.Upkeep.{IsStep}
use Rattle.cy_network_parts.proofs.Outcomes.{if_err_more, if_ok_more}
use Rattle.cy_network_parts.proofs.Refusals.{if_memory}
use Rattle.cy_network_parts.proofs.Taken.{grown_none}
use Rattle.cy_network_changes.specs.internal.Passages.{outputs_of}
use Rattle.cy_network_changes.proofs.OwnSingles.{project_sure}
use Rattle.cy_network_changes.proofs.Shifted.{row_delta_numbers}
use Rattle.cy_network_changes.proofs.operators.singles.projection_deltas.Goals as goal

pub images_of-requires-clause-sure : goal.images_of-requires-clause-sure
images_of-requires-clause-sure g c =
    let old = c.requires.begun.0 in
    let now = c.requires.begun.1.0 in
    let touches = c.requires.begun.1.1.0 in
    let fed = c.requires.begun.1.1.1 in
    project_sure old now touches (first_below (plan_of c.args.part.now)) (map output_of c.args.outputs.now) c.args.deltas.items (subst (IsStep old now touches) c.requires.is fed.step) fed.below

pub images_of-requires-clause-numbered : goal.images_of-requires-clause-numbered
images_of-requires-clause-numbered g c =
    let fed = c.requires.begun.1.1.1 in
    row_delta_numbers c.requires.begun.0 c.requires.begun.1.0 c.requires.begun.1.1.0 (first_below (plan_of c.args.part.now)) c.args.deltas.items fed.step.change fed.below

pub image_deltas-requires-clause-begun : goal.image_deltas-requires-clause-begun
image_deltas-requires-clause-begun g c = (
  c.requires.begun.0,
  (
    c.requires.begun.1.0,
    (
      c.requires.begun.1.1.0,
      record {
        deltas = c.args.deltas.items;
        fed = c.requires.begun.1.1.1;
        are = c.in_ok-images.ensures.images ∙ ap (λ (outputs : List Output). map (image (projected outputs)) c.args.deltas.items) (sym (ap outputs_of c.requires.is));
      },
    ),
  ),
)

pub returns-in_err-images : goal.returns-in_err-images
returns-in_err-images g c = record {
  done = IfOk-from_err c.from_residual.result _ c.from_residual.ensures.0;
  too_many = if_memory _ c.from_residual.result c.from_residual.ensures.1;
  was = refl;
  columns = refl;
  grows = grown_none g.M.Memory.step_count c.args.own.now;
  steps = IfOk-from_err c.from_residual.result _ c.from_residual.ensures.0;
}

pub returns : goal.returns
returns g c =
    let are = c.in_ok-images.ensures.images ∙ ap (λ (outputs : List Output). map (image (projected outputs)) c.args.deltas.items) (sym (ap outputs_of c.requires.is)) in
    record {
      done =
          if_ok_more _ _ c.image_deltas.result c.image_deltas.ensures.done
          (λ made done old now touches fed. done old now touches (record { deltas = c.args.deltas.items; fed = fed; are = are }));
      too_many =
          if_err_more _ _ c.image_deltas.result c.image_deltas.ensures.too_many
          (λ fault found many old now touches fed. found many old now touches (record { deltas = c.args.deltas.items; fed = fed; are = are }));
      was = c.image_deltas.ensures.was;
      columns = c.image_deltas.ensures.columns;
      grows = c.image_deltas.ensures.grows;
      steps =
          if_ok_more _ _ c.image_deltas.result c.image_deltas.ensures.steps
          (λ made most exact old now touches fed. most exact old now touches (record { deltas = c.args.deltas.items; fed = fed; are = are }));
    }
