-- The operators of a plan: itself, and the operators of those below it. (own)
use Rattle.std.specs.Prelude.{List, [], ◌∷◌, ◌++◌}
use Rattle.cy_planner_algebra.specs.Plans as plan
use Rattle.cy_planner_algebra.specs.Plans.{Plan}

abbrev pub parts : Plan → List Plan
parts plan.unit = plan.unit ∷ []
parts plan.nodes = plan.nodes ∷ []
parts (plan.rels types orientation) = plan.rels types orientation ∷ []
parts (plan.join left right keys) = plan.join left right keys ∷ parts left ++ parts right
parts (plan.outer left right keys test) = plan.outer left right keys test ∷ parts left ++ parts right
parts (plan.semi left right keys keeping) = plan.semi left right keys keeping ∷ parts left ++ parts right
parts (plan.lookup p column attribute) = plan.lookup p column attribute ∷ parts p
parts (plan.filter p test) = plan.filter p test ∷ parts p
parts (plan.all_different p columns) = plan.all_different p columns ∷ parts p
parts (plan.project p outputs) = plan.project p outputs ∷ parts p
parts (plan.distinct p) = plan.distinct p ∷ parts p
parts (plan.union left right) = plan.union left right ∷ parts left ++ parts right
