use Rattle.std.proofs.Common.{◌≡◌, ℕ, ◌+◌, ◌<◌, ◌≤◌, List, [], length, sym, ap, subst, ◌∙◌, arith}
use Rattle.std.specs.List.{All}
use Rattle.std.proofs.lemmas.Grind.{common_steps}
use Rattle.cy_trees.specs.Trees.{Expression}
use Rattle.cy_trees.specs.TreeModels.{expression_of}
use Rattle.cy_planner_algebra.specs.Plans as plan
use Rattle.cy_planner_algebra.specs.Plans.{Plan, width}
use Rattle.cy_planner_algebra.specs.PlanModels.{plan_of}
use Rattle.cy_planner_algebra.specs.WellFormed.{IsOver, greatest_width}
use Rattle.cy_planner_rows.specs.declared.places.Wanted.{Wanted}
use Rattle.cy_planner_rows.specs.internal.Lowered.{lowered}
use Rattle.cy_planner_rows.specs.Places.{place}
use Rattle.cy_planner_rows.specs.internal.Asked.{asked, wanted_of, with_tree}
use Rattle.cy_planner_rows.specs.internal.Filters.{IsLookedUpFilter}
use Rattle.cy_planner_rows.specs.internal.Lookups.{narrowed, over}
use Rattle.cy_planner_rows.specs.Rows.{IsReadOver}
use Rattle.cy_planner_rows.proofs.AskedLists.{tree_is}
use Rattle.cy_planner_rows.proofs.Filtered.{if_ok_map, lowered_over, wanted_inside}
use Rattle.cy_planner_rows.proofs.Lists.{all_of_each}
use Rattle.cy_planner_rows.proofs.OverRows.{IsInside, width_over}
use Rattle.cy_planner_rows.proofs.Placed.{asked_among}
use Rattle.cy_planner_rows.proofs.filters.looked_up_filter.Goals as goal

pub with_lookups-requires-clause-columns : goal.with_lookups-requires-clause-columns
with_lookups-requires-clause-columns c =
    let below : Plan = plan_of c.args.below in
    let test : Expression = expression_of c.args.test.now in
    let wants : c.as_slice.result.now ≡ with_tree [] test = first_of (cc, grind (arith, common_steps)) in
    let read : IsReadOver below test = c.requires c.width-width.ensures.well_formed in
    subst (λ (ws : List Wanted). All (λ w. w.column < width below) ws) (sym (wants ∙ tree_is [] test))
    (all_of_each (IsInside (width below)) (wanted_of test) (wanted_inside below test read))

pub filter-requires : goal.filter-requires
filter-requires c =
    let below : Plan = plan_of c.args.below in
    let test : Expression = expression_of c.args.test.now in
    let wants : c.as_slice.result.now ≡ with_tree [] test = first_of (cc, grind (arith, common_steps)) in
    let first : c.in_ok-asking.asking.wanted ≡ wanted_of test = c.in_ok-asking.ensures.wanted ∙ tree_is [] test in
    let read : IsReadOver below test = c.requires c.width-width.ensures.well_formed in
    let wide : plan_of c.in_ok-wide.wide ≡ over below (wanted_of test) = c.in_ok-wide.ensures ∙ ap (over below) (wants ∙ tree_is [] test) in
    let condition : expression_of c.in_ok-asking.asking.condition ≡ lowered (place (width below) (wanted_of test)) test =
    c.in_ok-asking.ensures.condition ∙ (λ i. lowered (place (c.width-width.ensures.width i) (first i)) test) in
    subst (λ (p : Plan). IsOver (width p) (expression_of c.in_ok-asking.asking.condition)) (sym wide)
    (subst (λ (e : Expression). IsOver (width (over below (wanted_of test))) e) (sym condition)
    (lowered_over below (wanted_of test) test read (asked_among [] (asked test))))

pub narrowed-requires : goal.narrowed-requires
narrowed-requires c =
    let below : Plan = plan_of c.args.below in
    let kept : width (plan_of c.in_ok-kept.kept) ≡ width (plan_of c.in_ok-wide.wide) = ap width c.in_ok-kept.ensures in
    let wide : width (plan_of c.in_ok-wide.wide) ≡ width (over below c.as_slice.result.now) = ap width c.in_ok-wide.ensures in
    let more = width_over below c.as_slice.result.now in
    let same = c.width-width.ensures.width in
    omega (arith, kept, wide, more, same)

pub returns : goal.returns
returns c =
    let below : Plan = plan_of c.args.below in
    let test : Expression = expression_of c.args.test.now in
    let wants : c.as_slice.result.now ≡ with_tree [] test = first_of (cc, grind (arith, common_steps)) in
    let first : c.in_ok-asking.asking.wanted ≡ wanted_of test = c.in_ok-asking.ensures.wanted ∙ tree_is [] test in
    let here : width below + length (wanted_of test) ≤ greatest_width =
    subst (λ (ws : List Wanted). width below + length ws ≤ greatest_width) first
    (let wide = c.width-width.ensures.width in let room = c.in_ok-asking.ensures.room in omega (arith, room, wide)) in
    let wide : plan_of c.in_ok-wide.wide ≡ over below (wanted_of test) = c.in_ok-wide.ensures ∙ ap (over below) (wants ∙ tree_is [] test) in
    let condition : expression_of c.in_ok-asking.asking.condition ≡ lowered (place (width below) (wanted_of test)) test =
    c.in_ok-asking.ensures.condition ∙ (λ i. lowered (place (c.width-width.ensures.width i) (first i)) test) in
    let kept : plan_of c.in_ok-kept.kept ≡ plan.filter (over below (wanted_of test)) (lowered (place (width below) (wanted_of test)) test) =
    c.in_ok-kept.ensures ∙ (λ i. plan.filter (wide i) (condition i)) in
    if_ok_map (λ p. plan_of p ≡ narrowed c.width-width.result (plan_of c.in_ok-kept.kept)) (λ p. IsLookedUpFilter below test (plan_of p))
    (λ p is. record { is = is ∙ (λ i. narrowed (c.width-width.ensures.width i) (kept i)); well_formed = c.width-width.ensures.well_formed; room = here })
    c.narrowed.result c.narrowed.ensures
