use Rattle.std.proofs.Common.{◌≡◌, ℕ, List, length, sym, ap, subst, ◌∙◌, arith}
use Rattle.cy_trees.specs.TreeModels.{expression_of}
use Rattle.cy_planner_algebra.specs.Plans as plan
use Rattle.cy_planner_algebra.specs.Plans.{Plan, width}
use Rattle.cy_planner_algebra.specs.PlanModels.{plan_of}
use Rattle.cy_planner_rows.specs.Renumbered.{renumbered}
use Rattle.cy_planner_rows.specs.declared.places.Wanted.{Wanted}
use Rattle.cy_planner_rewriting.specs.internal.Lowered.{CanBeSplit, both_columns, lefts}
use Rattle.cy_planner_rewriting.proofs.Passing.{well_looked_up}
use Rattle.cy_planner_rewriting.proofs.Sides.{as_many_sides}
use Rattle.cy_planner_rewriting.proofs.Splitting.{outer_sides, outer_splits}
use Rattle.cy_planner_rewriting.proofs.splits.split_looked_up_outer.Goals as goal

pub split_lookups-requires : goal.split_lookups-requires
split_lookups-requires c =
    subst (λ (ws : List Wanted). CanBeSplit (plan_of c.args.left) (plan_of c.args.right) ws) (sym c.as_slice.ensures.value)
    (outer_splits (plan_of c.args.left) (plan_of c.args.right) c.args.lookups.items c.args.keys.items c.requires.inside (expression_of c.args.test) c.requires.good)

pub moved_test-requires-clause-left : goal.moved_test-requires-clause-left
moved_test-requires-clause-left c = (well_looked_up c.args.lookups.items (plan.outer (plan_of c.args.left) (plan_of c.args.right) c.args.keys.items (expression_of c.args.test)) c.requires.good).0

pub moved_test-requires-clause-right : goal.moved_test-requires-clause-right
moved_test-requires-clause-right c = (well_looked_up c.args.lookups.items (plan.outer (plan_of c.args.left) (plan_of c.args.right) c.args.keys.items (expression_of c.args.test)) c.requires.good).1

pub moved_test-requires-clause-room : goal.moved_test-requires-clause-room
moved_test-requires-clause-room c =
    let a : Plan = plan_of c.args.left in
    let ws : List Wanted = c.args.lookups.items in
    let made = rw c.as_slice.ensures.value at c.in_ok-sides.ensures in
    let count : c.len.result ≡ length (lefts (width a) ws) = c.len.ensures ∙ c.in_ok-sides.sides.left.ok.0 ∙ ap length made.left in
    let all = as_many_sides (width a) ws in
    let can = outer_splits a (plan_of c.args.right) ws c.args.keys.items c.requires.inside (expression_of c.args.test) c.requires.good in
    let room = can.room in
    omega (arith, count, all, room)

pub returns-clause-is : goal.returns-clause-is
returns-clause-is c =
    let a : Plan = plan_of c.args.left in
    let b : Plan = plan_of c.args.right in
    let ws : List Wanted = c.args.lookups.items in
    let made = rw c.as_slice.ensures.value at c.in_ok-sides.ensures in
    let count : c.len.result ≡ length (lefts (width a) ws) = c.len.ensures ∙ c.in_ok-sides.sides.left.ok.0 ∙ ap length made.left in
    let moved : expression_of c.in_ok-test.test ≡ renumbered (both_columns (width a) (width b) (length (lefts (width a) ws))) (expression_of c.args.test) =
    c.in_ok-test.ensures ∙ ap (λ (n : ℕ). renumbered (both_columns (width a) (width b) n) (expression_of c.args.test)) count in
    outer_sides c.row_order_laws.ensures.total c.args.left c.args.right ws c.args.keys c.requires.inside c.in_ok-sides.sides.left c.in_ok-sides.sides.right c.in_ok-sides.sides.outputs
    made.left made.right made.outputs made.good_left made.good_right c.args.test c.in_ok-test.test moved c.requires.good
