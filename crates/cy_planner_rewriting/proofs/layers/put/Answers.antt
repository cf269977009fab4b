use Rattle.std.proofs.Common.{List, sym, ap, subst, ◌∙◌}
use Rattle.std.proofs.lemmas.Result.{on_ok_weaker}
use Rattle.cy_planner_algebra.specs.Plans.{Plan}
use Rattle.cy_planner_algebra.specs.PlanModels.{plan_of}
use Rattle.cy_planner_rows.specs.declared.places.Wanted.{Wanted}
use Rattle.cy_planner_rewriting.specs.declared.layers.Layer.{Layer}
use Rattle.cy_planner_rewriting.specs.declared.layers.Layer.TheVariants as layer
use Rattle.cy_planner_rewriting.specs.internal.Opened.{over_layer}
use Rattle.cy_planner_rewriting.specs.internal.Layers.{GoesOn, stacked}
use Rattle.cy_planner_rewriting.proofs.Stacking.{goes_on_same, one_lower, stays, through_different, through_filter}
use Rattle.cy_planner_rewriting.proofs.layers.put.Goals as goal

pub returns-in_ok-push-in-Lookup : goal.returns-in_ok-push-in-Lookup
returns-in_ok-push-in-Lookup c =
    let p : Plan = plan_of c.args.below.now in
    let ls : List Layer = c.args.layers.now.items in
    let ts : List Wanted = c.args.pending.now.items in
    let w : Wanted = record { column = c.in-Lookup.column; attribute = c.in-Lookup.attribute } in
    goes_on_same ls ls ts c.push.new.self.items (over_layer c.args.layer p) p
    (ap (λ (us : List Wanted). stacked ls us p) c.in_ok-push-in-Lookup.ensures.items ∙ one_lower ls ts w p ∙ ap (λ l. stacked ls ts (over_layer l p)) (sym c.in-Lookup.is))

pub returns-in-Filter : goal.returns-in-Filter
returns-in-Filter c =
    let p : Plan = plan_of c.args.below.now in
    let ls : List Layer = c.args.layers.now.items in
    let ts : List Wanted = c.args.pending.now.items in
    on_ok_weaker c.push-in-Filter.result
    (λ place.
    subst (λ l. GoesOn ls ts (over_layer l p) c.push-in-Filter.new.layers.items ts p) (sym c.in-Filter.is) (through_filter ls c.push-in-Filter.new.layers.items c.in-Filter.test ts p place))
    c.push-in-Filter.ensures

pub returns-in-AllDifferent : goal.returns-in-AllDifferent
returns-in-AllDifferent c =
    let p : Plan = plan_of c.args.below.now in
    let ls : List Layer = c.args.layers.now.items in
    let ts : List Wanted = c.args.pending.now.items in
    on_ok_weaker c.add_test.result
    (λ place.
    subst (λ l. GoesOn ls ts (over_layer l p) c.add_test.new.layers.items ts p) (sym c.in-AllDifferent.is) (through_different ls c.add_test.new.layers.items c.in-AllDifferent.columns ts p place))
    c.add_test.ensures

pub returns-in_ok-settle-in-Distinct : goal.returns-in_ok-settle-in-Distinct
returns-in_ok-settle-in-Distinct c =
    let p : Plan = plan_of c.args.below.now in
    let ls : List Layer = c.args.layers.now.items in
    let ts : List Wanted = c.args.pending.now.items in
    on_ok_weaker c.push-in-Distinct.result
    (λ place.
    subst (λ l. GoesOn ls ts (over_layer l p) c.push-in-Distinct.new.layers.items c.settle.new.pending.items p) (sym c.in-Distinct.is)
    (stays ls c.settle.new.layers.items c.push-in-Distinct.new.layers.items layer.Distinct ts c.settle.new.pending.items p c.in_ok-settle-in-Distinct.ensures.layers c.in_ok-settle-in-Distinct.ensures.pending (place p)))
    c.push-in-Distinct.ensures
