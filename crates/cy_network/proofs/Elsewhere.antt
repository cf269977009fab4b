-- Where the rows of each part stand but of a few.
use Rattle.std.proofs.Common.{◌≡◌, refl, ◌∙◌}
use Rattle.cy_planner_algebra.specs.declared.operators.Operator.{Operator, roll-Operator}
use Rattle.cy_planner_algebra.specs.declared.operators.Operator.TheOpen.{Operator-F}
use Rattle.cy_planner_algebra.specs.declared.operators.Operator.TheVariants.{rolls-Project, rolls-Distinct, rolls-Union}
use Rattle.cy_planner_algebra.specs.PlanModels.{plan_of}
use Rattle.cy_planner_algebra.proofs.Layers.{IsNoProject, IsNoDistinct, IsNoUnion, by_layer, plan_from}
use Rattle.cy_network.specs.Places.{in_table, place_of}

-- the rows of another part than these stand in a table
pub place_else : (part : Operator) → IsNoProject part → IsNoDistinct part → IsNoUnion part → place_of (plan_of part) ≡ in_table
place_else part no_project no_distinct no_union = by_layer (λ p. place_of p ≡ in_table) part go
  where
    go : (layer : Operator-F Operator) → part ≡ roll-Operator layer → place_of (plan_from layer) ≡ in_table
    go (Operator-F.Project below outputs) is = absurd (no_project below outputs (is ∙ rolls-Project below outputs))
    go (Operator-F.Distinct below) is = absurd (no_distinct below (is ∙ rolls-Distinct below))
    go (Operator-F.Union left right) is = absurd (no_union left right (is ∙ rolls-Union left right))
    go Operator-F.Unit is = refl
    go _ is = refl
