-- What stands above the left one of two parts, put over a plan.
use Rattle.std.proofs.Common.{◌≡◌, Global, List, [], ◌∷◌, ◌++◌, Vec, map, refl, sym, ap, subst, ◌∙◌}
use Rattle.std.specs.Prelude.{None, Option, Some}
use Rattle.cy_trees.specs.TreeModels.{expression_of}
use Rattle.cy_planner_algebra.specs.declared.operators.Output.{Output}
use Rattle.cy_planner_algebra.specs.Plans as plan
use Rattle.cy_planner_algebra.specs.Plans.{Plan}
use Rattle.cy_planner_algebra.specs.PlanModels.{output_of, plan_of}
use Rattle.cy_planner_algebra.specs.WellFormed.{IsWellFormed}
use Rattle.cy_planner_rows.specs.declared.places.Wanted.{Wanted}
use Rattle.cy_planner_rows.specs.internal.Lookups.{over}
use Rattle.cy_planner_rewriting.specs.declared.rewriting.Above.{Above}
use Rattle.cy_planner_rewriting.specs.declared.splits.Rejoin.{Rejoin}
use Rattle.cy_planner_rewriting.specs.declared.splits.Rejoin.TheVariants as joint
use Rattle.cy_planner_rewriting.specs.declared.splits.Side.{Side}
use Rattle.cy_planner_rewriting.specs.internal.Above.{StandsBelow, put_over, put_over_one}
use Rattle.cy_planner_rewriting.specs.internal.Layers.{layered, over_outputs}
use Rattle.cy_planner_rewriting.specs.internal.Splits.{AreSides, side_plan, together}
use Rattle.cy_planner_rewriting.specs.Rewritten.{IsRewritten}
use Rattle.cy_planner_rewriting.proofs.Congruent.{over_join, over_outer, over_project, over_semi, over_union, rewritten_again, same_plan}
use Rattle.cy_planner_rewriting.proofs.Layering.{over_all, well_below}
use Rattle.cy_planner_rewriting.proofs.Passing.{looked_up_alike, well_looked_up}
use Rattle.cy_planner_rewriting.proofs.Splitting.{over_sides, well_joined}

-- ---- another plan in the place of the left one

over_given : (outputs : Option (Vec Output Global)) (p q : Plan) → IsRewritten p q → IsRewritten (over_outputs outputs p) (over_outputs outputs q)
over_given None p q is = is
over_given (Some outputs) p q is = over_project p q is (map output_of outputs.items)

over_left : (j : Rejoin) (p q r : Plan) → IsRewritten p q → IsRewritten (together j p r) (together j q r)
over_left (joint.Join keys outputs) p q r is = over_given outputs (plan.join p r keys.items) (plan.join q r keys.items) (over_join p r q r is (same_plan r) keys.items)
over_left (joint.Outer keys test outputs) p q r is =
    over_given outputs (plan.outer p r keys.items (expression_of test)) (plan.outer q r keys.items (expression_of test)) (over_outer p r q r is (same_plan r) keys.items (expression_of test))
over_left (joint.Semi keys keeping) p q r is = over_semi p r q r is (same_plan r) keys.items keeping
over_left (joint.Union ws) p q r is = looked_up_alike ws.items (plan.union p r) (plan.union q r) (over_union p r q r is (same_plan r))

over_one : (a : Above) (p q : Plan) → IsRewritten p q → IsRewritten (put_over_one a p) (put_over_one a q)
over_one a p q is = over_all a.layers.items (together a.joint p (plan_of a.right)) (together a.joint q (plan_of a.right)) (over_left a.joint p q (plan_of a.right) is)

over_each : (above : List Above) (p q : Plan) → IsRewritten p q → IsRewritten (put_over above p) (put_over above q)
over_each [] p q is = is
over_each (a ∷ above) p q is = over_one a (put_over above p) (put_over above q) (over_each above p q is)

-- ---- what stands there is well formed

well_left : (j : Rejoin) (p q : Plan) → IsWellFormed (together j p q) → IsWellFormed p
well_left (joint.Join keys outputs) p q well = (well_joined outputs (plan.join p q keys.items) well).0
well_left (joint.Outer keys test outputs) p q well = (well_joined outputs (plan.outer p q keys.items (expression_of test)) well).0
well_left (joint.Semi keys keeping) p q well = well.0
well_left (joint.Union ws) p q well = let good = well_looked_up ws.items (plan.union p q) well in good.0

well_under : (above : List Above) (p : Plan) → IsWellFormed (put_over above p) → IsWellFormed p
well_under [] p well = well
well_under (a ∷ above) p well =
    well_under above p (well_left a.joint (put_over above p) (plan_of a.right) (well_below a.layers.items (together a.joint (put_over above p) (plan_of a.right)) well))

-- ---- the lowest one

lowest_off : (all above : List Above) (a : Above) (p : Plan) → all ≡ above ++ a ∷ [] → put_over all p ≡ put_over above (put_over_one a p)
lowest_off all above a p is = ap (λ (others : List Above). put_over others p) is ∙ by above
  where
    by : (others : List Above) → put_over (others ++ a ∷ []) p ≡ put_over others (put_over_one a p)
    by [] = refl
    by (b ∷ others) = ap (put_over_one b) (by others)

module _ (whole p : Plan) (all above : List Above) (a : Above) (last : all ≡ above ++ a ∷ []) (before : IsRewritten whole (put_over all p)) where
  lowest_over : IsRewritten whole (put_over above (put_over_one a p))
  lowest_over = subst (λ (q : Plan). IsRewritten whole q) (lowest_off all above a p last) before

  pub well_lowest : IsWellFormed whole → IsWellFormed (put_over_one a p)
  well_lowest well = well_under above (put_over_one a p) (lowest_over.well_formed well)

  pub next_over : (q : Plan) → IsRewritten (put_over_one a p) q → IsRewritten whole (put_over above q)
  next_over q put = rewritten_again whole (put_over above (put_over_one a p)) (put_over above q) lowest_over (over_each above (put_over_one a p) q put)

-- ---- the left one of two parts

pub stands_alone : (whole : Plan) → IsWellFormed whole → StandsBelow whole [] whole
stands_alone whole good = record { good = good; placed = λ p is. is }

pub stands_left : (whole part base : Plan) (ws : List Wanted) (all above : List Above) (a : Above) (l r : Side) → StandsBelow whole above part → IsRewritten part (layered a.layers.items (over base ws))
    → AreSides base ws a.joint l r → IsRewritten (side_plan r) (plan_of a.right) → all ≡ above ++ a ∷ []
    → StandsBelow whole all (side_plan l)
stands_left whole part base ws all above a l r before apart sides right last = record {
  good = sides.left;
  placed = λ p is.
      subst (λ (made : Plan). IsRewritten whole made) (sym (lowest_off all above a p last))
      (before.placed (put_over_one a p) (over_sides part base p (plan_of a.right) a.layers.items ws a.joint l r apart sides is right));
}
