use Rattle.std.proofs.Common.{◌≡◌, List, [], length, map, rules, subst, ◌∙◌, arith}
use Rattle.std.proofs.lemmas.Grind.{common_steps}
use Rattle.std.proofs.lemmas.Result.{on_ok_weaker}
use Rattle.cy_planner_algebra.specs.Plans.{Plan, width}
use Rattle.cy_planner_algebra.specs.PlanModels.{output_of, plan_of}
use Rattle.cy_planner_rows.specs.declared.places.Wanted.{Wanted}
use Rattle.cy_planner_rewriting.specs.declared.layers.Layer.TheVariants as layer
use Rattle.cy_planner_rewriting.specs.internal.Lowered.{AreMoved, with_columns}
use Rattle.cy_planner_rewriting.proofs.Stacking.{stays, through_projection, without_lookups}
use Rattle.cy_planner_rewriting.proofs.layers.put_projection.Goals as goal

pub returns-in_ok-wide-in-Some : goal.returns-in_ok-wide-in-Some
returns-in_ok-wide-in-Some c =
    let p : Plan = plan_of c.args.below.now in
    let ts : List Wanted = c.args.pending.now.items in
    let are : AreMoved (map output_of c.args.outputs.items) (width p) ts c.in-Some.moved.items =
    subst (λ n. AreMoved (map output_of c.args.outputs.items) n ts c.in-Some.moved.items) c.width-width.ensures
    (rw c.as_slice.ensures.value at (rw c.as_slice-2.ensures.value at (rw c.in-Some.is at c.in_ok-moved.ensures))) in
    let wide : map output_of c.in_ok-wide-in-Some.wide.items ≡ with_columns (map output_of c.args.outputs.items) (width p) (length ts) =
    c.in_ok-wide-in-Some.ensures ∙ (λ i. with_columns (map output_of c.args.outputs.items) (c.width-width.ensures i) ((c.len.ensures ∙ c.args.pending.now.ok.0) i)) in
    on_ok_weaker c.add_projection-in-Some.result (λ place. through_projection c.args.layers.now.items c.add_projection-in-Some.new.layers.items c.args.outputs c.in_ok-wide-in-Some.wide ts c.in-Some.moved.items p are wide place) c.add_projection-in-Some.ensures

pub returns-in_ok-settle-in-None : goal.returns-in_ok-settle-in-None
returns-in_ok-settle-in-None c =
    let p : Plan = plan_of c.args.below.now in
    on_ok_weaker c.add_projection-in-None.result
    (λ place.
    stays c.args.layers.now.items c.settle.new.layers.items c.add_projection-in-None.new.layers.items (layer.Project c.args.outputs) c.args.pending.now.items c.settle.new.pending.items p
    c.in_ok-settle-in-None.ensures.layers c.in_ok-settle-in-None.ensures.pending (place p))
    c.add_projection-in-None.ensures

pub returns-then-is_empty : goal.returns-then-is_empty
returns-then-is_empty c =
    let p : Plan = plan_of c.args.below.now in
    let none : c.args.pending.now.items ≡ [] = first_of (search rules, grind (arith, common_steps)) in
    on_ok_weaker c.add_projection.result (λ place. without_lookups c.args.layers.now.items c.add_projection.new.layers.items (layer.Project c.args.outputs) c.args.pending.now.items p none (place p)) c.add_projection.ensures
