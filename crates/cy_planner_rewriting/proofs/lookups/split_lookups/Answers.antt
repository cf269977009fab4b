use Rattle.std.proofs.Common.{◌≡◌, List, sym, ap, subst, ◌∙◌, arith}
use Rattle.cy_planner_algebra.specs.Plans.{Plan, width}
use Rattle.cy_planner_algebra.specs.PlanModels.{plan_of}
use Rattle.cy_planner_algebra.specs.WellFormed.{IsWellFormed}
use Rattle.cy_planner_rows.specs.declared.places.Wanted.{Wanted}
use Rattle.cy_planner_rows.specs.internal.Lookups.{over}
use Rattle.cy_planner_rows.proofs.OverRows.{well_over}
use Rattle.cy_planner_rewriting.specs.internal.Lowered.{lefts, rights}
use Rattle.cy_planner_rewriting.proofs.Sides.{as_many_sides, lefts_inside, rights_inside}
use Rattle.cy_planner_rewriting.proofs.lookups.split_lookups.Goals as goal

pub returns-clause-good_left : goal.returns-clause-good_left
returns-clause-good_left c =
    let p : Plan = plan_of c.args.left.now in
    let ws : List Wanted = c.args.lookups.now in
    let is : c.in_ok-on_left.on_left.items ≡ lefts (width p) ws = c.in_ok-on_left.ensures ∙ ap (λ n. lefts n ws) c.width-left_width.ensures in
    let all = as_many_sides (width p) ws in
    let room = c.requires.room in
    subst (λ (l : List Wanted). IsWellFormed (over p l)) (sym is) (well_over p (lefts (width p) ws) c.requires.left (lefts_inside (width p) ws) (omega (arith, all, room)))

pub returns-clause-good_right : goal.returns-clause-good_right
returns-clause-good_right c =
    let p : Plan = plan_of c.args.left.now in
    let q : Plan = plan_of c.args.right.now in
    let ws : List Wanted = c.args.lookups.now in
    let is : c.in_ok-on_right.on_right.items ≡ rights (width p) ws = c.in_ok-on_right.ensures ∙ ap (λ n. rights n ws) c.width-left_width.ensures in
    let all = as_many_sides (width p) ws in
    let room = c.requires.room in
    subst (λ (l : List Wanted). IsWellFormed (over q l)) (sym is) (well_over q (rights (width p) ws) c.requires.right (rights_inside (width p) (width q) ws c.requires.inside) (omega (arith, all, room)))
