use Rattle.std.proofs.Common.{◌≡◌, List, map, sym, subst, ◌∙◌}
use Rattle.std.specs.List.{All, AllByRecursion}
use Rattle.cy_planner_algebra.specs.declared.operators.KeyColumns.{KeyColumns}
use Rattle.cy_planner_algebra.specs.Plans as plan
use Rattle.cy_planner_algebra.specs.Plans.{Plan, width}
use Rattle.cy_planner_algebra.specs.PlanModels.{plan_of}
use Rattle.cy_planner_algebra.specs.WellFormed.{IsKeyBetween}
use Rattle.cy_planner_rows.specs.declared.places.Wanted.{Wanted}
use Rattle.cy_planner_rewriting.specs.declared.redirects.Redirect.{Redirect}
use Rattle.cy_planner_rewriting.specs.internal.Lowered.{CanBeSplit}
use Rattle.cy_planner_rewriting.specs.internal.Redirected.{IsRedirect, redirected}
use Rattle.cy_planner_rewriting.proofs.Passing.{well_looked_up}
use Rattle.cy_planner_rewriting.proofs.Redirecting.{AreElsewhere, elsewhere}
use Rattle.cy_planner_rewriting.proofs.Splitting.{join_sides, join_splits, sides_from}
use Rattle.cy_planner_rewriting.proofs.splits.split_looked_up_join.Goals as goal

pub redirects-requires-clause-left : goal.redirects-requires-clause-left
redirects-requires-clause-left c = (well_looked_up c.args.lookups.items (plan.join (plan_of c.args.left) (plan_of c.args.right) c.args.keys.items) c.requires.good).0

pub redirects-requires-clause-right : goal.redirects-requires-clause-right
redirects-requires-clause-right c = (well_looked_up c.args.lookups.items (plan.join (plan_of c.args.left) (plan_of c.args.right) c.args.keys.items) c.requires.good).1

pub redirects-requires-clause-keys : goal.redirects-requires-clause-keys
redirects-requires-clause-keys c =
    subst (λ (ks : List KeyColumns). All (IsKeyBetween (width (plan_of c.args.left)) (width (plan_of c.args.right))) ks) (sym c.as_slice.ensures.value)
    (well_looked_up c.args.lookups.items (plan.join (plan_of c.args.left) (plan_of c.args.right) c.args.keys.items) c.requires.good).2

pub redirects-requires-clause-room : goal.redirects-requires-clause-room
redirects-requires-clause-room c = (well_looked_up c.args.lookups.items (plan.join (plan_of c.args.left) (plan_of c.args.right) c.args.keys.items) c.requires.good).3

pub split_lookups-requires : goal.split_lookups-requires
split_lookups-requires c =
    let others : List Redirect = c.in_ok-others.others.items in
    let ws : List Wanted = c.args.lookups.items in
    let each : AllByRecursion (IsRedirect c.args.keys.items (width (plan_of c.args.left))) others = subst (λ ks. AllByRecursion (IsRedirect ks (width (plan_of c.args.left))) others) c.as_slice.ensures.value c.in_ok-others.ensures in
    let is : c.in_ok-lookups.lookups.items ≡ map (redirected others) ws = c.in_ok-lookups.ensures ∙ (λ i. map (redirected (c.as_slice-2.ensures.value i)) (c.as_slice-3.ensures.value i)) in
    let moved : AreElsewhere (plan_of c.args.left) (plan_of c.args.right) c.args.keys.items ws c.in_ok-lookups.lookups.items = elsewhere (plan_of c.args.left) (plan_of c.args.right) c.args.keys.items others each ws c.requires.inside c.in_ok-lookups.lookups.items is c.requires.good in
    subst (λ (l : List Wanted). CanBeSplit (plan_of c.args.left) (plan_of c.args.right) l) (sym c.as_slice-4.ensures.value)
    (join_splits (plan_of c.args.left) (plan_of c.args.right) c.in_ok-lookups.lookups.items c.args.keys.items moved.1 (moved.0.well_formed c.requires.good))

pub returns-clause-is : goal.returns-clause-is
returns-clause-is c =
    let others : List Redirect = c.in_ok-others.others.items in
    let ws : List Wanted = c.args.lookups.items in
    let ms : List Wanted = c.in_ok-lookups.lookups.items in
    let each : AllByRecursion (IsRedirect c.args.keys.items (width (plan_of c.args.left))) others = subst (λ ks. AllByRecursion (IsRedirect ks (width (plan_of c.args.left))) others) c.as_slice.ensures.value c.in_ok-others.ensures in
    let is : ms ≡ map (redirected others) ws = c.in_ok-lookups.ensures ∙ (λ i. map (redirected (c.as_slice-2.ensures.value i)) (c.as_slice-3.ensures.value i)) in
    let moved : AreElsewhere (plan_of c.args.left) (plan_of c.args.right) c.args.keys.items ws ms = elsewhere (plan_of c.args.left) (plan_of c.args.right) c.args.keys.items others each ws c.requires.inside ms is c.requires.good in
    let made = rw c.as_slice-4.ensures.value at c.in_ok-sides.ensures in
    sides_from (plan.join (plan_of c.args.left) (plan_of c.args.right) c.args.keys.items) ws ms _ _ _ moved.0
    (join_sides c.row_order_laws.ensures.total c.args.left c.args.right ms c.args.keys moved.1 c.in_ok-sides.sides.left c.in_ok-sides.sides.right c.in_ok-sides.sides.outputs
    made.left made.right made.outputs made.good_left made.good_right (moved.0.well_formed c.requires.good))
