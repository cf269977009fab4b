use Rattle.std.proofs.Common.{◌≡◌, Bool, true, false, cond, List, map, sym, ap, subst, ◌∙◌, rules}
use Rattle.cy_trees.specs.declared.clauses.Item.{Item}
use Rattle.cy_trees.specs.Trees.{Expression, Projection}
use Rattle.cy_trees.specs.TreeModels.{expression_of, projection_of}
use Rattle.cy_planner_algebra.specs.Plans as plan
use Rattle.cy_planner_algebra.specs.Plans.{Plan}
use Rattle.cy_planner_algebra.specs.PlanModels.{plan_of}
use Rattle.cy_planner_rows.specs.Rows.{AreReadOver, IsProjected}
use Rattle.cy_planner_rows.proofs.Filtered.{if_ok_map}
use Rattle.cy_planner.specs.internal.Projections.{IsProjection, expressions_in}
use Rattle.cy_planner.proofs.ProjectedPlans.{expressions_are, projection_made}
use Rattle.cy_planner.proofs.projections.project_rows.Goals as goal

pub project_items-requires : goal.project_items-requires
project_items-requires c =
    subst (λ (es : List Expression). AreReadOver (plan_of c.args.below) es)
    (sym (ap (λ (is : List Item). map (λ (i : Item). expression_of i.expression) is) c.as_slice.ensures.value ∙ expressions_are c.args.projection.now.items.items)) c.requires.read

pub returns-then-projection : goal.returns-then-projection
returns-then-projection c =
    let below : Plan = plan_of c.args.below in
    let p : Projection = projection_of c.args.projection.now in
    let made : Plan = plan_of c.in_ok-made.made in
    let known : p.distinct ≡ true = first_of (cc, search rules) in
    let items : IsProjected below (expressions_in p.items) made =
    subst (λ (es : List Expression). IsProjected below es made)
    (ap (λ (is : List Item). map (λ (i : Item). expression_of i.expression) is) c.as_slice.ensures.value ∙ expressions_are c.args.projection.now.items.items) c.in_ok-made.ensures in
    let whole : IsProjection below p (plan.distinct made) =
    subst (λ (b : Bool). IsProjection below p (cond b (plan.distinct made) made)) known
    (projection_made c.distinct_and_order.ensures.in_order c.distinct_and_order.ensures.distinct below p made c.requires.plain c.requires.read items) in
    if_ok_map (λ q. plan_of q ≡ plan.distinct made) (λ q. IsProjection below p (plan_of q)) (λ q is. subst (λ (r : Plan). IsProjection below p r) (sym is) whole) c.distinct.result c.distinct.ensures

pub returns : goal.returns
returns c =
    let below : Plan = plan_of c.args.below in
    let p : Projection = projection_of c.args.projection.now in
    let made : Plan = plan_of c.in_ok-made.made in
    let known : p.distinct ≡ false = first_of (cc, search rules) in
    let items : IsProjected below (expressions_in p.items) made =
    subst (λ (es : List Expression). IsProjected below es made)
    (ap (λ (is : List Item). map (λ (i : Item). expression_of i.expression) is) c.as_slice.ensures.value ∙ expressions_are c.args.projection.now.items.items) c.in_ok-made.ensures in
    subst (λ (b : Bool). IsProjection below p (cond b (plan.distinct made) made)) known
    (projection_made c.distinct_and_order.ensures.in_order c.distinct_and_order.ensures.distinct below p made c.requires.plain c.requires.read items)
