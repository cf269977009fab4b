-- How many operators a plan has, by the operators right below it.
use Rattle.std.proofs.Common.{◌≡◌, ℕ, ◌+◌, List, [], ◌∷◌, ◌++◌, length, refl, ap, ◌∙◌, sym, arith}
use Rattle.std.proofs.lemmas.List.{length-append}
use Rattle.cy_planner_algebra.specs.declared.operators.Below as coded_below
use Rattle.cy_planner_algebra.specs.declared.operators.Below.TheVariants as parts_below
use Rattle.cy_planner_algebra.specs.internal.Below.{below, plans_in}
use Rattle.cy_planner_algebra.specs.Parts.{parts}
use Rattle.cy_planner_algebra.specs.Plans as plan
use Rattle.cy_planner_algebra.specs.Plans.{Plan}
use Rattle.cy_planner_algebra.specs.PlanModels.{plan_of}

-- how many operators several plans have together
abbrev total : List Plan → ℕ
total [] = 0
total (p ∷ plans) = length (parts p) + total plans

alone : (above p : Plan) → length (above ∷ parts p) ≡ 1 + (length (parts p) + 0)
alone above p = omega arith

together : (above left right : Plan) → length (above ∷ parts left ++ parts right) ≡ 1 + (length (parts left) + (length (parts right) + 0))
together above left right = omega (arith, length-append (parts left) (parts right))

counted_plan : (p : Plan) → length (parts p) ≡ 1 + total (below p)
counted_plan plan.unit = refl
counted_plan plan.nodes = refl
counted_plan (plan.rels types orientation) = refl
counted_plan (plan.join left right keys) = together (plan.join left right keys) left right
counted_plan (plan.outer left right keys test) = together (plan.outer left right keys test) left right
counted_plan (plan.semi left right keys keeping) = together (plan.semi left right keys keeping) left right
counted_plan (plan.lookup p column attribute) = alone (plan.lookup p column attribute) p
counted_plan (plan.filter p test) = alone (plan.filter p test) p
counted_plan (plan.all_different p columns) = alone (plan.all_different p columns) p
counted_plan (plan.project p outputs) = alone (plan.project p outputs) p
counted_plan (plan.distinct p) = alone (plan.distinct p) p
counted_plan (plan.union left right) = together (plan.union left right) left right

-- and by the operators that a call lends
abbrev pub count_in : coded_below.Below → ℕ
count_in parts_below.None = 0
count_in (parts_below.One p) = length (parts (plan_of p.now))
count_in (parts_below.Two left right) = length (parts (plan_of left.now)) + length (parts (plan_of right.now))

same_total : (b : coded_below.Below) → total (plans_in b) ≡ count_in b
same_total parts_below.None = refl
same_total (parts_below.One p) = omega arith
same_total (parts_below.Two left right) = omega arith

pub counted : (p : Plan) (b : coded_below.Below) → plans_in b ≡ below p → length (parts p) ≡ 1 + count_in b
counted p b is = counted_plan p ∙ ap (λ n. 1 + n) (ap total (sym is) ∙ same_total b)
