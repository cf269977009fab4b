use Rattle.std.proofs.Common.{map, sym, subst, ap, ◌∙◌}
use Rattle.std.specs.List.{All}
use Rattle.cy_network_relevance.specs.Trails.{TellsRowsApart, tells_apart}
use Rattle.cy_planner_algebra.specs.Expressions.{projected}
use Rattle.cy_planner_algebra.specs.Plans.{Plan}
use Rattle.cy_planner_algebra.specs.PlanModels.{output_of, plan_of}
use Rattle.cy_planner_algebra.specs.WellFormed.{IsWellFormed}
use Rattle.cy_network_operators.specs.Deltas.{IsBounded}
use Rattle.cy_network_counts.proofs.ChangedRows.{images_bounded}
use Rattle.cy_network_counts.proofs.OneToOne.{images_delta}
use Rattle.cy_network_parts.specs.Parts.{first_below}
use Rattle.cy_network_parts.specs.internal.Upkeep.{IsDeltaOf, IsStep}
use Rattle.cy_network_parts.proofs.Outcomes.{if_ok_two}
use Rattle.cy_network_parts.proofs.RowByRow.{gathered, other_told, rearranged}
use Rattle.cy_network_changes.specs.internal.Passages.{outputs_of}
use Rattle.cy_network_changes.proofs.PassageLemmas.{project_is}
use Rattle.cy_network_changes.proofs.operators.singles.row_by_row_deltas.Goals as goal

pub tells_apart-requires : goal.tells_apart-requires
tells_apart-requires c =
    subst IsWellFormed (sym c.first_below.ensures) (subst (IsStep c.requires.begun.0 c.requires.begun.1.0 c.requires.begun.1.1.0) (project_is (plan_of c.args.part.now) c.requires.project) c.requires.begun.1.1.1.1.0).well_formed.0

pub returns-then-tells_apart : goal.returns-then-tells_apart
returns-then-tells_apart c =
    let p = first_below (plan_of c.args.part.now) in
    let outputs = outputs_of (plan_of c.args.part.now) in
    let one : TellsRowsApart p outputs =
    subst (TellsRowsApart p) c.outputs_of.ensures (subst (λ (q : Plan). TellsRowsApart q (map output_of c.outputs_of.result.now)) c.first_below.ensures (c.tells_apart.ensures.rows c.if-tells_apart.true)) in
    if_ok_two _ _ _ c.gather.result c.gather.ensures.delta c.gather.ensures.bounded
    (λ made leads bounds old now touches deltas step part are.
    subst (λ (q : Plan). IsDeltaOf old now q made.items) (sym (project_is (plan_of c.args.part.now) c.requires.project))
    (gathered old now touches p outputs deltas made.items one (λ before after one_before one_after delta. leads outputs deltas before after are one_before one_after delta)
    (λ each. bounds (subst (All IsBounded) (sym are) (images_bounded (projected outputs) deltas each))) (subst (IsStep old now touches) (project_is (plan_of c.args.part.now) c.requires.project) step) part))

pub returns : goal.returns
returns c old now touches deltas step part are =
    let p = first_below (plan_of c.args.part.now) in
    let outputs = outputs_of (plan_of c.args.part.now) in
    let all = other_told p outputs c.requires.told (ap (λ (q : Plan). tells_apart q outputs) (sym c.first_below.ensures) ∙ ap (tells_apart (plan_of c.first_below.result.now)) (sym c.outputs_of.ensures) ∙ sym c.tells_apart.ensures.told ∙ c.if-tells_apart.false) in
    subst (λ (q : Plan). IsDeltaOf old now q c.args.images.items) (sym (project_is (plan_of c.args.part.now) c.requires.project))
    (rearranged old now touches p outputs deltas c.args.images.items all (λ number before after one wide delta. images_delta outputs number before after deltas one wide delta c.args.images.items are)
    (λ each. subst (All IsBounded) (sym are) (images_bounded (projected outputs) deltas each)) (subst (IsStep old now touches) (project_is (plan_of c.args.part.now) c.requires.project) step) part)
