use Rattle.std.proofs.Common.{◌≡◌, ◌+◌, ◌≤◌, ◌<◌, List, length, map, sym, ap, subst, ◌∙◌, arith, rules}
use Rattle.std.specs.List.{All}
use Rattle.std.proofs.lemmas.Grind.{common_steps}
use Rattle.cy_trees.specs.declared.clauses.Item.{Item}
use Rattle.cy_trees.specs.Trees.{Expression}
use Rattle.cy_trees.specs.TreeModels.{expression_of}
use Rattle.cy_planner_algebra.specs.Plans as plan
use Rattle.cy_planner_algebra.specs.Plans.{Output, Plan, computed, width}
use Rattle.cy_planner_algebra.specs.PlanModels.{output_of, plan_of}
use Rattle.cy_planner_algebra.specs.WellFormed.{IsOutputOver, greatest_width}
use Rattle.cy_planner_rows.specs.declared.places.Wanted.{Wanted}
use Rattle.cy_planner_rows.specs.internal.Lowered.{lowered}
use Rattle.cy_planner_rows.specs.Places.{place}
use Rattle.cy_planner_rows.specs.internal.Lookups.{over}
use Rattle.cy_planner_rows.specs.Rows.{IsProjected}
use Rattle.cy_planner_rows.proofs.Filtered.{if_ok_map}
use Rattle.cy_planner_rows.proofs.Lists.{all_of_each}
use Rattle.cy_planner_rows.proofs.OverRows.{IsInside}
use Rattle.cy_planner_rows.proofs.Projected.{all_wanted_inside, outputs_over, projected_on, wanted_of_all}
use Rattle.cy_planner_rows.proofs.projections.project_items.Goals as goal

pub with_lookups-requires-clause-columns : goal.with_lookups-requires-clause-columns
with_lookups-requires-clause-columns c =
    let below : Plan = plan_of c.args.below in
    let es : List Expression = map (λ (i : Item). expression_of i.expression) c.args.items.now in
    let wants : c.as_slice.result.now ≡ wanted_of_all es = first_of (cc, grind (arith, common_steps)) in
    subst (λ (ws : List Wanted). All (λ w. w.column < width below) ws) (sym wants)
    (all_of_each (IsInside (width below)) (wanted_of_all es) (all_wanted_inside below es c.requires))

pub project-requires-clause-outputs : goal.project-requires-clause-outputs
project-requires-clause-outputs c =
    let below : Plan = plan_of c.args.below in
    let es : List Expression = map (λ (i : Item). expression_of i.expression) c.args.items.now in
    let wants : c.add_asked_by_items.new.wanted ≡ wanted_of_all es = first_of (cc, grind (arith, common_steps)) in
    let wants_again : c.as_slice.result.now ≡ wanted_of_all es = first_of (cc, grind (arith, common_steps)) in
    let wide : plan_of c.in_ok-wide.wide ≡ over below (wanted_of_all es) = c.in_ok-wide.ensures ∙ ap (over below) wants_again in
    let outputs : map output_of c.in_ok-outputs.outputs.items ≡ map (λ e. computed (lowered (place (width below) (wanted_of_all es)) e)) es =
    c.in_ok-outputs.ensures ∙ (λ i. map (λ e. computed (lowered (place (c.width-width.ensures.width i) (wants i)) e)) es) in
    subst (λ (p : Plan). All (IsOutputOver (width p)) (map output_of c.in_ok-outputs.outputs.items)) (sym wide)
    (subst (λ (os : List Output). All (IsOutputOver (width (over below (wanted_of_all es)))) os) (sym outputs) (outputs_over below es c.requires))

pub returns : goal.returns
returns c =
    let below : Plan = plan_of c.args.below in
    let es : List Expression = map (λ (i : Item). expression_of i.expression) c.args.items.now in
    let wants : c.add_asked_by_items.new.wanted ≡ wanted_of_all es = first_of (cc, grind (arith, common_steps)) in
    let wants_again : c.as_slice.result.now ≡ wanted_of_all es = first_of (cc, grind (arith, common_steps)) in
    let room : c.width-width.result + length c.as_slice.result.now ≤ greatest_width = first_of (search rules, grind (arith, common_steps)) in
    let here : width below + length (wanted_of_all es) ≤ greatest_width =
    subst (λ (ws : List Wanted). width below + length ws ≤ greatest_width) wants_again (let same = c.width-width.ensures.width in omega (arith, room, same)) in
    let wide : plan_of c.in_ok-wide.wide ≡ over below (wanted_of_all es) = c.in_ok-wide.ensures ∙ ap (over below) wants_again in
    let outputs : map output_of c.in_ok-outputs.outputs.items ≡ map (λ e. computed (lowered (place (width below) (wanted_of_all es)) e)) es =
    c.in_ok-outputs.ensures ∙ (λ i. map (λ e. computed (lowered (place (c.width-width.ensures.width i) (wants i)) e)) es) in
    if_ok_map (λ p. plan_of p ≡ plan.project (plan_of c.in_ok-wide.wide) (map output_of c.in_ok-outputs.outputs.items)) (λ p. IsProjected below es (plan_of p))
    (λ p is.
    subst (λ (q : Plan). IsProjected below es q) (sym (is ∙ (λ i. plan.project (wide i) (outputs i))))
    (projected_on below es c.width-width.ensures.well_formed here c.requires))
    c.project.result c.project.ensures
