-- What stands above the left one of two parts, put over a plan.
use Rattle.std.proofs.Common.{◌≡◌, List, [], ◌∷◌, ◌++◌, refl, sym, ap, subst, ◌∙◌}
use Rattle.cy_trees.specs.TreeModels.{expression_of}
use Rattle.cy_planner_algebra.specs.Plans.{Plan}
use Rattle.cy_planner_algebra.specs.WellFormed.{IsWellFormed}
use Rattle.cy_planner_rewriting.specs.declared.layers.Layer.{Layer}
use Rattle.cy_planner_rewriting.specs.Rewritten.{IsRewritten}
use Rattle.cy_planner_rewriting.proofs.Congruent.{equal_plans, over_join, over_outer, over_semi, over_union, rewritten_again, same_plan}
use Rattle.cy_planner_rewriting.proofs.Layering.{over_any, well_below}
use Rattle.cy_planner_rewriting.specs.declared.narrowing.Above.{Above}
use Rattle.cy_planner_rewriting.specs.declared.narrowing.Above.TheVariants as above
use Rattle.cy_planner_rewriting.specs.declared.narrowing.narrows.Narrow.{Narrow}
use Rattle.cy_planner_rewriting.specs.declared.layers.Joint.{Joint}
use Rattle.cy_planner_rewriting.specs.declared.layers.Joint.TheVariants as joint
use Rattle.cy_planner_rewriting.specs.internal.NarrowAbove.{StandsBelow, over_all, over_one}
use Rattle.cy_planner_rewriting.specs.internal.Narrows.{restored}
use Rattle.cy_planner_rewriting.specs.internal.Opened.{over_layer, together}

-- ---- two plans in place of two others

pub well_sides : (j : Joint) (p q : Plan) → IsWellFormed (together j p q) → IsWellFormed p × IsWellFormed q
well_sides (joint.Join keys) p q well = (well.0, well.1)
well_sides _ p q well = (well.0, well.1)

pub together_alike : (j : Joint) (p q r s : Plan) → IsRewritten p r → IsRewritten q s → IsRewritten (together j p q) (together j r s)
together_alike (joint.Join keys) p q r s left right = over_join p q r s left right keys.items
together_alike (joint.Outer keys test) p q r s left right = over_outer p q r s left right keys.items (expression_of test)
together_alike (joint.Semi keys keeping) p q r s left right = over_semi p q r s left right keys.items keeping
together_alike joint.Union p q r s left right = over_union p q r s left right

-- ---- another plan in the place of the left one

one_alike : (a : Above) (p q : Plan) → IsRewritten p q → IsRewritten (over_one a p) (over_one a q)
one_alike (above.Layer l) p q is = over_any l p q is
one_alike (above.Joint j right) p q is = together_alike j p (restored right) q (restored right) is (same_plan (restored right))

pub all_alike : (rest : List Above) (p q : Plan) → IsRewritten p q → IsRewritten (over_all rest p) (over_all rest q)
all_alike [] p q is = is
all_alike (a ∷ rest) p q is = one_alike a (over_all rest p) (over_all rest q) (all_alike rest p q is)

well_one : (a : Above) (p : Plan) → IsWellFormed (over_one a p) → IsWellFormed p
well_one (above.Layer l) p well = well_below (l ∷ []) p well
well_one (above.Joint j right) p well = (well_sides j p (restored right) well).0

pub well_under : (rest : List Above) (p : Plan) → IsWellFormed (over_all rest p) → IsWellFormed p
well_under [] p well = well
well_under (a ∷ rest) p well = well_under rest p (well_one a (over_all rest p) well)

-- ---- the lowest one

pub lowest_off : (all rest : List Above) (a : Above) (p : Plan) → all ≡ rest ++ a ∷ [] → over_all all p ≡ over_all rest (over_one a p)
lowest_off all rest a p is = ap (λ (others : List Above). over_all others p) is ∙ by rest
  where
    by : (others : List Above) → over_all (others ++ a ∷ []) p ≡ over_all others (over_one a p)
    by [] = refl
    by (b ∷ others) = ap (over_one b) (by others)

module _ (whole p : Plan) (all rest : List Above) (a : Above) (last : all ≡ rest ++ a ∷ []) (before : IsRewritten whole (over_all all p)) where
  lowest_over : IsRewritten whole (over_all rest (over_one a p))
  lowest_over = subst (λ (q : Plan). IsRewritten whole q) (lowest_off all rest a p last) before

  pub well_lowest : IsWellFormed whole → IsWellFormed (over_one a p)
  well_lowest well = well_under rest (over_one a p) (lowest_over.well_formed well)

  pub next_over : (q : Plan) → IsRewritten (over_one a p) q → IsRewritten whole (over_all rest q)
  next_over q put = rewritten_again whole (over_all rest (over_one a p)) (over_all rest q) lowest_over (all_alike rest (over_one a p) q put)

-- ---- the left one of two parts

pub stands_alone : (whole : Plan) → IsWellFormed whole → StandsBelow whole [] whole
stands_alone whole good = record { good = good; placed = same_plan whole }

-- what stands above one part more
pub stands_lower : (whole part p : Plan) (all rest : List Above) (a : Above) → all ≡ rest ++ a ∷ [] → StandsBelow whole rest part → IsRewritten part (over_one a p) → StandsBelow whole all p
stands_lower whole part p all rest a last before is = record {
  good = well_one a p (is.well_formed before.good);
  placed =
      subst (λ (q : Plan). IsRewritten whole q) (sym (lowest_off all rest a p last))
      (rewritten_again whole (over_all rest part) (over_all rest (over_one a p)) before.placed (all_alike rest part (over_one a p) is));
}

-- a layer over a part, and two parts of which the right one has another in its place
pub stands_under : (whole part below : Plan) (all rest : List Above) (l : Layer) → all ≡ rest ++ above.Layer l ∷ [] → StandsBelow whole rest part → part ≡ over_layer l below → StandsBelow whole all below
stands_under whole part below all rest l last before is = stands_lower whole part below all rest (above.Layer l) last before (equal_plans part (over_layer l below) is)

pub stands_left : (whole part left right : Plan) (all rest : List Above) (j : Joint) (n : Narrow) → all ≡ rest ++ above.Joint j n ∷ [] → StandsBelow whole rest part → part ≡ together j left right
    → IsRewritten right (restored n) → StandsBelow whole all left
stands_left whole part left right all rest j n last before is put =
    stands_lower whole part left all rest (above.Joint j n) last before
    (rewritten_again part (together j left right) (together j left (restored n)) (equal_plans part (together j left right) is) (together_alike j left right left (restored n) (same_plan left) put))

-- another plan in the place of the lowest part
pub lowest_in_place : (whole part p : Plan) (rest : List Above) → StandsBelow whole rest part → IsRewritten part p → IsRewritten whole (over_all rest p)
lowest_in_place whole part p rest before is = rewritten_again whole (over_all rest part) (over_all rest p) before.placed (all_alike rest part p is)
