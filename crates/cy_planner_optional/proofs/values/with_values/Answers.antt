-- The values stand after the row.
use Rattle.std.proofs.Common.{◌≡◌, ◌+◌, ◌++◌, ◌≤◌, ◌<◌, List, length, map, sym, ap, subst, ◌∙◌, arith, rules}
use Rattle.std.specs.List.{All, range_with_len}
use Rattle.std.proofs.lemmas.Grind.{common_steps}
use Rattle.std.proofs.lemmas.Bool.Decides.{nat_tests}
use Rattle.std.proofs.lemmas.List.{length-map}
use Rattle.std.proofs.lemmas.Result.{IfOk-weaker}
use Rattle.cy_trees.specs.Trees.{Expression}
use Rattle.cy_trees.specs.TreeModels.{expression_of}
use Rattle.cy_planner_algebra.specs.Plans as plan
use Rattle.cy_planner_algebra.specs.Plans.{Output, Plan, computed, width}
use Rattle.cy_planner_algebra.specs.PlanModels.{output_of, plan_of}
use Rattle.cy_planner_algebra.specs.WellFormed.{IsOutputOver, greatest_width}
use Rattle.cy_planner_rows.specs.declared.places.Wanted.{Wanted}
use Rattle.cy_planner_rows.specs.internal.Lowered.{lowered}
use Rattle.cy_planner_rows.specs.Places.{place}
use Rattle.cy_planner_rows.specs.Columns.{column_output}
use Rattle.cy_planner_rows.specs.internal.Lookups.{over}
use Rattle.cy_planner_rows.proofs.Lists.{all_of_each}
use Rattle.cy_planner_rows.proofs.OverRows.{IsInside}
use Rattle.cy_planner_rows.proofs.Projected.{all_wanted_inside, wanted_of_all}
use Rattle.cy_planner_optional.specs.Columns.{IsExtended}
use Rattle.cy_planner_optional.proofs.Extended.{extended_is, none_mapped, outs, outs_long, outs_over, unextended}
use Rattle.cy_planner_optional.proofs.values.with_values.Goals as goal

pub with_lookups-requires-clause-columns : goal.with_lookups-requires-clause-columns
with_lookups-requires-clause-columns c =
    let below : Plan = plan_of c.args.below in
    let es : List Expression = map (λ e. expression_of e.now) c.args.values.now in
    let wants : c.as_slice.result.now ≡ wanted_of_all es = first_of (cc, grind (arith, common_steps)) in
    subst (λ (ws : List Wanted). All (λ w. w.column < width below) ws) (sym wants)
    (all_of_each (IsInside (width below)) (wanted_of_all es) (all_wanted_inside below es c.requires))

pub project-requires-clause-outputs : goal.project-requires-clause-outputs
project-requires-clause-outputs c =
    let below : Plan = plan_of c.args.below in
    let es : List Expression = map (λ e. expression_of e.now) c.args.values.now in
    let wants : c.in_ok-wanted.wanted ≡ wanted_of_all es = first_of (cc, grind (arith, common_steps)) in
    let wants_again : c.as_slice.result.now ≡ wanted_of_all es = first_of (cc, grind (arith, common_steps)) in
    let wide : plan_of c.in_ok-wide.wide ≡ over below (wanted_of_all es) = c.in_ok-wide.ensures ∙ ap (over below) wants_again in
    let outputs : map output_of c.add_outputs.new.outputs.items ≡ outs below es c.width-width.ensures.well_formed c.requires =
    c.in_ok-add_outputs.ensures ∙ (λ i. (c.in_ok-outputs.ensures ∙ ap (λ n. map column_output (range_with_len 0 n)) c.width-width.ensures.width) i ++ map (λ e. computed (lowered (place (c.width-width.ensures.width i) (wants i)) e)) es) in
    subst (λ (p : Plan). All (IsOutputOver (width p)) (map output_of c.add_outputs.new.outputs.items)) (sym wide)
    (subst (λ (os : List Output). All (IsOutputOver (width (over below (wanted_of_all es)))) os) (sym outputs) (outs_over below es c.width-width.ensures.well_formed c.requires))

pub returns : goal.returns
returns c =
    let below : Plan = plan_of c.args.below in
    let es : List Expression = map (λ e. expression_of e.now) c.args.values.now in
    let wants : c.in_ok-wanted.wanted ≡ wanted_of_all es = first_of (cc, grind (arith, common_steps)) in
    let wants_again : c.as_slice.result.now ≡ wanted_of_all es = first_of (cc, grind (arith, common_steps)) in
    let room : c.width-width.result + length c.as_slice.result.now ≤ greatest_width = first_of (search rules, grind (arith, common_steps)) in
    let here : width below + length (wanted_of_all es) ≤ greatest_width =
    subst (λ (ws : List Wanted). width below + length ws ≤ greatest_width) wants_again (let same = c.width-width.ensures.width in omega (arith, room, same)) in
    let wide : plan_of c.in_ok-wide.wide ≡ over below (wanted_of_all es) = c.in_ok-wide.ensures ∙ ap (over below) wants_again in
    let outputs : map output_of c.add_outputs.new.outputs.items ≡ outs below es c.width-width.ensures.well_formed c.requires =
    c.in_ok-add_outputs.ensures ∙ (λ i. (c.in_ok-outputs.ensures ∙ ap (λ n. map column_output (range_with_len 0 n)) c.width-width.ensures.width) i ++ map (λ e. computed (lowered (place (c.width-width.ensures.width i) (wants i)) e)) es) in
    IfOk-weaker c.project.result _ _
    (λ p is. subst (IsExtended below es) (sym (is ∙ (λ i. plan.project (wide i) (outputs i)))) (extended_is below es c.width-width.ensures.well_formed c.requires here))
    c.project.ensures

pub returns-then-is_empty : goal.returns-then-is_empty
returns-then-is_empty c =
    let none : length c.args.values.now ≡ 0 = first_of (search rules, grind (arith, common_steps, nat_tests)) in
    subst (λ (es : List Expression). IsExtended (plan_of c.args.below) es (plan_of c.args.below)) (sym (none_mapped (λ e. expression_of e.now) c.args.values.now none)) (unextended (plan_of c.args.below))

pub project-requires-clause-room : goal.project-requires-clause-room
project-requires-clause-room c =
    let below : Plan = plan_of c.args.below in
    let es : List Expression = map (λ e. expression_of e.now) c.args.values.now in
    let wants : c.in_ok-wanted.wanted ≡ wanted_of_all es = first_of (cc, grind (arith, common_steps)) in
    let outputs : map output_of c.add_outputs.new.outputs.items ≡ outs below es c.width-width.ensures.well_formed c.requires =
    c.in_ok-add_outputs.ensures ∙ (λ i. (c.in_ok-outputs.ensures ∙ ap (λ n. map column_output (range_with_len 0 n)) c.width-width.ensures.width) i ++ map (λ e. computed (lowered (place (c.width-width.ensures.width i) (wants i)) e)) es) in
    let room : c.width-width.result + length c.args.values.now ≤ greatest_width = first_of (search rules, grind (arith, common_steps)) in
    let long : length c.add_outputs.new.outputs.items ≡ width below + length es = sym (length-map c.add_outputs.new.outputs.items output_of) ∙ ap length outputs ∙ outs_long below es c.width-width.ensures.well_formed c.requires in
    let same : length es ≡ length c.args.values.now = length-map c.args.values.now (λ e. expression_of e.now) in
    let wide = c.width-width.ensures.width in
    omega (arith, room, long, same, wide)
