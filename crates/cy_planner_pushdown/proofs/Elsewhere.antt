-- What holds of each part but a few.
use Rattle.std.proofs.Common.{◌≡◌, ℕ, refl, ◌∙◌}
use Rattle.std.specs.Option.{option_and_then}
use Rattle.cy_planner_algebra.specs.declared.operators.Operator.{Operator, roll-Operator}
use Rattle.cy_planner_algebra.specs.declared.operators.Operator.TheOpen.{Operator-F}
use Rattle.cy_planner_algebra.specs.declared.operators.Operator.TheVariants.{rolls-Nodes, rolls-Rels, rolls-Join, rolls-Outer, rolls-Lookup, rolls-Project, rolls-Distinct, rolls-Union}
use Rattle.cy_planner_algebra.specs.internal.Below.{sifted}
use Rattle.cy_planner_algebra.specs.PlanModels.{plan_of}
use Rattle.cy_planner_algebra.proofs.Layers.{IsNoNodes, IsNoRels, IsNoJoin, IsNoOuter, IsNoLookup, IsNoProject, IsNoDistinct, IsNoUnion, by_layer, plan_from}
use Rattle.cy_planner_pushdown.specs.internal.Pushed.{kind_at}
use Rattle.cy_planner_pushdown.specs.internal.Widths.{right_width}

-- the kind of what stands in a column of another part is that in the part that it sifts
pub kind_else : (part : Operator) (column : ℕ) → IsNoNodes part → IsNoRels part → IsNoJoin part → IsNoOuter part → IsNoLookup part → IsNoProject part → IsNoDistinct part → IsNoUnion part → kind_at (plan_of part) column ≡ option_and_then (λ q. kind_at q column) (sifted (plan_of part))
kind_else part column no_nodes no_rels no_join no_outer no_lookup no_project no_distinct no_union = by_layer (λ p. kind_at p column ≡ option_and_then (λ q. kind_at q column) (sifted p)) part go
  where
    go : (layer : Operator-F Operator) → part ≡ roll-Operator layer → kind_at (plan_from layer) column ≡ option_and_then (λ q. kind_at q column) (sifted (plan_from layer))
    go Operator-F.Nodes is = absurd (no_nodes (is ∙ rolls-Nodes))
    go (Operator-F.Rels types orientation) is = absurd (no_rels types orientation (is ∙ rolls-Rels types orientation))
    go (Operator-F.Join left right keys) is = absurd (no_join left right keys (is ∙ rolls-Join left right keys))
    go (Operator-F.Outer left right keys test) is = absurd (no_outer left right keys test (is ∙ rolls-Outer left right keys test))
    go (Operator-F.Lookup below column attribute) is = absurd (no_lookup below column attribute (is ∙ rolls-Lookup below column attribute))
    go (Operator-F.Project below outputs) is = absurd (no_project below outputs (is ∙ rolls-Project below outputs))
    go (Operator-F.Distinct below) is = absurd (no_distinct below (is ∙ rolls-Distinct below))
    go (Operator-F.Union left right) is = absurd (no_union left right (is ∙ rolls-Union left right))
    go Operator-F.Unit is = refl
    go _ is = refl

-- the rows of another part stand beside no others
pub narrow_else : (part : Operator) → IsNoJoin part → IsNoOuter part → right_width (plan_of part) ≡ 0
narrow_else part no_join no_outer = by_layer (λ p. right_width p ≡ 0) part go
  where
    go : (layer : Operator-F Operator) → part ≡ roll-Operator layer → right_width (plan_from layer) ≡ 0
    go (Operator-F.Join left right keys) is = absurd (no_join left right keys (is ∙ rolls-Join left right keys))
    go (Operator-F.Outer left right keys test) is = absurd (no_outer left right keys test (is ∙ rolls-Outer left right keys test))
    go Operator-F.Unit is = refl
    go _ is = refl
