-- What stands above the left one of two parts, put over a plan.
use Rattle.std.proofs.Common.{◌≡◌, List, [], ◌∷◌, ◌++◌, refl, sym, ap, subst, ◌∙◌}
use Rattle.cy_planner_algebra.specs.Plans.{Plan}
use Rattle.cy_planner_algebra.specs.PlanModels.{plan_of}
use Rattle.cy_planner_algebra.specs.WellFormed.{IsWellFormed}
use Rattle.cy_planner_rewriting.specs.internal.Layers.{layered}
use Rattle.cy_planner_rewriting.specs.Rewritten.{IsRewritten}
use Rattle.cy_planner_rewriting.proofs.Layering.{well_below}
use Rattle.cy_planner.specs.internal.Standing.{StandsFor}
use Rattle.cy_planner.specs.declared.outer_filters.OuterAbove.{OuterAbove}
use Rattle.cy_planner.specs.internal.OuterAbove.{StandsBelowOuters, put_outer_over, put_outer_over_one}
use Rattle.cy_planner_rewriting.specs.internal.Opened.{together}
use Rattle.cy_planner.proofs.Congruent.{equal_plans, on_graphs, stands_again}
use Rattle.cy_planner_rewriting.proofs.NarrowPutting.{well_sides}
use Rattle.cy_planner.proofs.Together.{both_replaced, over_all, over_both}

-- another plan in the place of the left one
over_one : (a : OuterAbove) (p q : Plan) → StandsFor p q → StandsFor (put_outer_over_one a p) (put_outer_over_one a q)
over_one a p q is =
    over_all a.layers.items (together a.joint p (plan_of a.right)) (together a.joint q (plan_of a.right))
    (over_both a.joint p (plan_of a.right) q (plan_of a.right) is (equal_plans (plan_of a.right) (plan_of a.right) refl))

over_each : (above : List OuterAbove) (p q : Plan) → StandsFor p q → StandsFor (put_outer_over above p) (put_outer_over above q)
over_each [] p q is = is
over_each (a ∷ above) p q is = over_one a (put_outer_over above p) (put_outer_over above q) (over_each above p q is)

well_under : (above : List OuterAbove) (p : Plan) → IsWellFormed (put_outer_over above p) → IsWellFormed p
well_under [] p well = well
well_under (a ∷ above) p well =
    well_under above p
    (well_sides a.joint (put_outer_over above p) (plan_of a.right) (well_below a.layers.items (together a.joint (put_outer_over above p) (plan_of a.right)) well)).0

-- ---- the lowest one

lowest_off : (all above : List OuterAbove) (a : OuterAbove) (p : Plan) → all ≡ above ++ a ∷ [] → put_outer_over all p ≡ put_outer_over above (put_outer_over_one a p)
lowest_off all above a p is = ap (λ (others : List OuterAbove). put_outer_over others p) is ∙ by above
  where
    by : (others : List OuterAbove) → put_outer_over (others ++ a ∷ []) p ≡ put_outer_over others (put_outer_over_one a p)
    by [] = refl
    by (b ∷ others) = ap (put_outer_over_one b) (by others)

module _ (whole p : Plan) (all above : List OuterAbove) (a : OuterAbove) (last : all ≡ above ++ a ∷ []) (before : StandsFor whole (put_outer_over all p)) where
  lowest_over : StandsFor whole (put_outer_over above (put_outer_over_one a p))
  lowest_over = subst (λ (q : Plan). StandsFor whole q) (lowest_off all above a p last) before

  pub well_lowest : IsWellFormed whole → IsWellFormed (put_outer_over_one a p)
  well_lowest well = well_under above (put_outer_over_one a p) (lowest_over.well_formed well)

  pub well_joined : IsWellFormed whole → IsWellFormed (together a.joint p (plan_of a.right))
  well_joined well = well_below a.layers.items (together a.joint p (plan_of a.right)) (well_lowest well)

  -- it stands over the plan
  pub next_over : (both q : Plan) → StandsFor (together a.joint p (plan_of a.right)) both → IsRewritten (layered a.layers.items both) q → StandsFor whole (put_outer_over above q)
  next_over both q put over =
      stands_again whole (put_outer_over above (put_outer_over_one a p)) (put_outer_over above q) lowest_over
      (over_each above (put_outer_over_one a p) q
      (stands_again (put_outer_over_one a p) (layered a.layers.items both) q (over_all a.layers.items (together a.joint p (plan_of a.right)) both put) (on_graphs (layered a.layers.items both) q over)))

  pub well_both : (both : Plan) → StandsFor (together a.joint p (plan_of a.right)) both → IsWellFormed whole → IsWellFormed (layered a.layers.items both)
  well_both both put well = (over_all a.layers.items (together a.joint p (plan_of a.right)) both put).well_formed (well_lowest well)

-- ---- the left one of two parts

pub stands_alone : (whole : Plan) → IsWellFormed whole → StandsBelowOuters whole [] whole
stands_alone whole good = record { good = good; placed = λ p is. is }

pub stands_left : (whole part base left right : Plan) (all above : List OuterAbove) (a : OuterAbove) → StandsBelowOuters whole above part → IsRewritten part (layered a.layers.items base) → base ≡ together a.joint left right
    → IsWellFormed left → StandsFor right (plan_of a.right) → all ≡ above ++ a ∷ []
    → StandsBelowOuters whole all left
stands_left whole part base left right all above a before apart opened good there last = record {
  good = good;
  placed = λ p is.
      let both : Plan = together a.joint p (plan_of a.right) in
      subst (λ (made : Plan). StandsFor whole made) (sym (lowest_off all above a p last))
      (before.placed (put_outer_over_one a p) (both_replaced part base left right p (plan_of a.right) both a.joint a.layers.items apart opened is there (equal_plans both both refl)));
}
