use Rattle.std.proofs.Common.{List, sym, ap, subst, ◌∙◌, arith}
use Rattle.std.proofs.lemmas.List.{reverse-reverse}
use Rattle.cy_planner_algebra.specs.Plans.{Plan}
use Rattle.cy_planner_algebra.specs.PlanModels.{plan_of}
use Rattle.cy_planner_algebra.specs.WellFormed.{IsWellFormed}
use Rattle.cy_planner_rows.specs.declared.places.Wanted.{Wanted}
use Rattle.cy_planner_rows.specs.internal.Lookups.{over}
use Rattle.cy_planner_rewriting.specs.internal.Opened.{over_layer}
use Rattle.cy_planner_rewriting.specs.internal.Layers.{stacked}
use Rattle.cy_planner_rewriting.specs.Rewritten.{IsRewritten}
use Rattle.cy_planner_rewriting.proofs.Congruent.{equal_plans}
use Rattle.cy_planner_rewriting.proofs.Stacking.{next_stack, part_in_stack, well_in_stack, well_under_layer}
use Rattle.cy_planner_rewriting.proofs.layers.taken_apart.Goals as goal

pub loop-layer-init : goal.loop-layer-init
loop-layer-init c =
    let part : Plan = plan_of c.args.part in
    let ws : List Wanted = c.args.lookups.items in (
      equal_plans (over part ws) (stacked c.new-layers.result.items c.reverse.new.self.items part)
          (sym ((λ i. stacked (c.new-layers.ensures.items i) (c.reverse.ensures.items i) part) ∙ ap (over part) (reverse-reverse ws))),
      omega arith,
    )

pub put-requires : goal.put-requires
put-requires c =
    well_under_layer c.in-Over.layer (plan_of c.loop-layer.part) (plan_of c.in-Over.below) c.in-Over.ensures.0
    (well_in_stack c.loop-layer.layers.items c.loop-layer.pending.items (plan_of c.loop-layer.part) (c.loop-layer.invariant.0.well_formed c.requires))

pub loop-layer-preserved-in-Over : goal.loop-layer-preserved-in-Over
loop-layer-preserved-in-Over c =
    let whole : Plan = over (plan_of c.args.part) c.args.lookups.items in
    let below : Plan = plan_of c.in-Over.below in
    let top : Plan = over_layer c.in-Over.layer below in
    let less = c.in-Over.ensures.1 in
    let before = c.loop-layer.invariant.1 in
    let here : IsRewritten whole (stacked c.loop-layer.layers.items c.loop-layer.pending.items top) = subst (λ (q : Plan). IsRewritten whole (stacked c.loop-layer.layers.items c.loop-layer.pending.items q)) c.in-Over.ensures.0 c.loop-layer.invariant.0 in
    let there : IsRewritten whole (stacked c.settle_unless.new.layers.items c.settle_unless.new.pending.items top) = subst (λ (q : Plan). IsRewritten whole q) (sym (c.in_ok-settle_unless-in-Over.ensures top)) here in
    (next_stack whole top below c.settle_unless.new.layers.items c.put.new.layers.items c.settle_unless.new.pending.items c.put.new.pending.items c.requires there c.in_ok-put-in-Over.ensures, omega (arith, less, before))

pub loop-layer-preserved : goal.loop-layer-preserved
loop-layer-preserved c =
    let less = c.in-Same.ensures.1 in
    let before = c.loop-layer.invariant.1 in
    (part_in_stack (over (plan_of c.args.part) c.args.lookups.items) (plan_of c.loop-layer.part) (plan_of c.in-Same.other) c.loop-layer.layers.items c.loop-layer.pending.items c.in-Same.ensures.0 c.loop-layer.invariant.0, omega (arith, less, before))

pub with_base-requires : goal.with_base-requires
with_base-requires c = subst IsWellFormed c.in-Base.ensures.0 (well_in_stack c.loop-layer.layers.items c.loop-layer.pending.items (plan_of c.loop-layer.part) (c.loop-layer.invariant.0.well_formed c.requires))
