-- What stands above the part in which a condition goes on.
use Rattle.std.proofs.Common.{◌≡◌, ℕ, List, [], ◌∷◌, ◌++◌, refl, sym, ap, subst, ◌∙◌}
use Rattle.cy_trees.specs.Trees.{Expression}
use Rattle.cy_planner_algebra.specs.Plans.{Plan}
use Rattle.cy_planner_algebra.specs.WellFormed.{IsWellFormed}
use Rattle.cy_planner_pushdown.specs.declared.above.Above.{Above}
use Rattle.cy_planner_pushdown.specs.declared.above.Above.TheVariants as above
use Rattle.cy_planner_pushdown.specs.internal.Above.{placed, placed_over}
use Rattle.cy_planner_pushdown.specs.declared.ways.Frame.{Frame}
use Rattle.cy_planner_pushdown.specs.internal.Steps.{LeadThrough, LeadsTo}
use Rattle.cy_planner_pushdown.specs.internal.Tests.{tests_of}

-- one more, below the others
over_lowest : (parts : List Above) (a : Above) (p : Plan) → placed_over (parts ++ a ∷ []) p ≡ placed_over parts (placed a p)
over_lowest [] a p = refl
over_lowest (b ∷ parts) a p = ap (placed b) (over_lowest parts a p)

-- the lowest one
pub lowest_off : (all parts : List Above) (a : Above) (p : Plan) → all ≡ parts ++ a ∷ [] → placed_over all p ≡ placed_over parts (placed a p)
lowest_off all parts a p is = ap (λ (ps : List Above). placed_over ps p) is ∙ over_lowest parts a p

-- what is below can be meant where the whole can
pub well_below : (a : Above) (p : Plan) → IsWellFormed (placed a p) → IsWellFormed p
well_below above.Distinct p well = well
well_below (above.JoinRight left keys) p well = well.1
well_below _ p well = well.0

well_under : (parts : List Above) (p : Plan) → IsWellFormed (placed_over parts p) → IsWellFormed p
well_under [] p well = well
well_under (a ∷ parts) p well = well_under parts p (well_below a (placed_over parts p) well)

pub well_lowest : (all parts : List Above) (a : Above) (p : Plan) → all ≡ parts ++ a ∷ [] → IsWellFormed (placed_over all p) → IsWellFormed (placed a p)
well_lowest all parts a p is well = well_under parts (placed a p) (subst IsWellFormed (lowest_off all parts a p is) well)

-- ---- what was opened

-- one frame more, below the others
pub one_more : (whole : Plan) (tests : List (List ℕ × Expression)) (frames : List Frame) (part : Plan) (others : List (List ℕ × Expression)) → LeadThrough whole tests frames part others
    → (f : Frame) (below : Plan) (lower : List (List ℕ × Expression)) → LeadsTo part others below lower (tests_of f.here.items) (placed f.above) → LeadThrough whole tests (frames ++ f ∷ []) below lower
one_more whole tests [] part others (same, alike) f below lower next = (
  below,
  lower,
  subst (λ (p : Plan). LeadsTo p tests below lower (tests_of f.here.items) (placed f.above)) (sym same)
      (subst (λ (ts : List (List ℕ × Expression)). LeadsTo part ts below lower (tests_of f.here.items) (placed f.above)) (sym alike) next),
  (refl, refl),
)
one_more whole tests (g ∷ frames) part others (middle, between, leads, rest) f below lower next = (middle, between, leads, one_more middle between frames part others rest f below lower next)

-- The lowest frame stands on a plan.
pub record IsLowest (whole : Plan) (tests : List (List ℕ × Expression)) (frames : List Frame) (f : Frame) (part : Plan) (others : List (List ℕ × Expression)) : Type 0 where
  pub middle : Plan
  pub between : List (List ℕ × Expression)
  pub through : LeadThrough whole tests frames middle between
  pub leads : LeadsTo middle between part others (tests_of f.here.items) (placed f.above)

lowest_of : (whole : Plan) (tests : List (List ℕ × Expression)) (frames : List Frame) (f : Frame) (part : Plan) (others : List (List ℕ × Expression))
    → LeadThrough whole tests (frames ++ f ∷ []) part others → IsLowest whole tests frames f part others
lowest_of whole tests [] f part others (middle, between, leads, (same, alike)) = record {
  middle = whole;
  between = tests;
  through = (refl, refl);
  leads = subst (λ (p : Plan). LeadsTo whole tests p others (tests_of f.here.items) (placed f.above)) same
      (subst (λ (ts : List (List ℕ × Expression)). LeadsTo whole tests middle ts (tests_of f.here.items) (placed f.above)) alike leads);
}
lowest_of whole tests (g ∷ frames) f part others (middle, between, leads, rest) =
    let low = lowest_of middle between frames f part others rest in
    record { middle = low.middle; between = low.between; through = (middle, between, leads, low.through); leads = low.leads }

pub lowest : (whole : Plan) (tests : List (List ℕ × Expression)) (all frames : List Frame) (f : Frame) (part : Plan) (others : List (List ℕ × Expression)) → all ≡ frames ++ f ∷ []
    → LeadThrough whole tests all part others → IsLowest whole tests frames f part others
lowest whole tests all frames f part others last through =
    lowest_of whole tests frames f part others (subst (λ (fs : List Frame). LeadThrough whole tests fs part others) last through)
