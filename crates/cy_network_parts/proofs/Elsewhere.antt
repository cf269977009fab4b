-- What each part is but a few.
use Rattle.std.proofs.Common.{◌≡◌, ℕ, false, List, None, refl, ◌∙◌}
use Rattle.cy_planner_algebra.specs.declared.operators.Operator.{Operator, roll-Operator}
use Rattle.cy_planner_algebra.specs.declared.operators.Operator.TheOpen.{Operator-F}
use Rattle.cy_planner_algebra.specs.declared.operators.Operator.TheVariants.{rolls-Unit, rolls-AllDifferent, rolls-Filter, rolls-Join, rolls-Lookup, rolls-Project, rolls-Union}
use Rattle.cy_planner_algebra.specs.Plans.{Plan}
use Rattle.cy_planner_algebra.specs.PlanModels.{plan_of}
use Rattle.cy_planner_algebra.proofs.Layers.{IsNoUnit, IsNoAllDifferent, IsNoFilter, IsNoJoin, IsNoLookup, IsNoProject, IsNoUnion, by_layer, plan_from}
use Rattle.cy_network_parts.specs.KeptRows.{keeps_rows}
use Rattle.cy_network_parts.specs.Parts.{is_unit}
use Rattle.cy_network_parts.specs.Shared.{own_joins}
use Rattle.cy_network_parts.specs.internal.Held.{left_back, right_back, shared_input}

-- another part than that of the empty row is none
pub unit_else : (part : Operator) → IsNoUnit part → is_unit (plan_of part) ≡ false
unit_else part no_unit = by_layer (λ p. is_unit p ≡ false) part go
  where
    go : (layer : Operator-F Operator) → part ≡ roll-Operator layer → is_unit (plan_from layer) ≡ false
    go Operator-F.Unit is = absurd (no_unit (is ∙ rolls-Unit))
    go Operator-F.Nodes is = refl
    go _ is = refl

-- another part than these keeps no rows
pub kept_else : (part : Operator) → IsNoProject part → IsNoUnion part → keeps_rows (plan_of part) ≡ false
kept_else part no_project no_union = by_layer (λ p. keeps_rows p ≡ false) part go
  where
    go : (layer : Operator-F Operator) → part ≡ roll-Operator layer → keeps_rows (plan_from layer) ≡ false
    go (Operator-F.Project below outputs) is = absurd (no_project below outputs (is ∙ rolls-Project below outputs))
    go (Operator-F.Union left right) is = absurd (no_union left right (is ∙ rolls-Union left right))
    go Operator-F.Unit is = refl
    go _ is = refl

-- another one than a join counts for none
pub joins_else : (part : Operator) → IsNoJoin part → 0 ≡ own_joins (plan_of part)
joins_else part no_join = by_layer (λ p. 0 ≡ own_joins p) part go
  where
    go : (layer : Operator-F Operator) → part ≡ roll-Operator layer → 0 ≡ own_joins (plan_from layer)
    go (Operator-F.Join left right keys) is = absurd (no_join left right keys (is ∙ rolls-Join left right keys))
    go Operator-F.Unit is = refl
    go _ is = refl

-- another one holds the rows of an input of a join alone
pub shared_else : (part : Operator) → IsNoJoin part → shared_input (plan_of part) ≡ None
shared_else part no_join = by_layer (λ p. shared_input p ≡ None) part go
  where
    go : (layer : Operator-F Operator) → part ≡ roll-Operator layer → shared_input (plan_from layer) ≡ None
    go (Operator-F.Join left right keys) is = absurd (no_join left right keys (is ∙ rolls-Join left right keys))
    go Operator-F.Unit is = refl
    go _ is = refl

-- another operator than these has no memory below it that holds another one's left rows
pub left_else : (table : Plan) (key : List ℕ) (part : Operator) (more : ℕ) → IsNoJoin part → IsNoUnion part → IsNoProject part → IsNoAllDifferent part → left_back table key (plan_of part) more ≡ None
left_else table key part more no_join no_union no_project no_different = by_layer (λ p. left_back table key p more ≡ None) part go
  where
    go : (layer : Operator-F Operator) → part ≡ roll-Operator layer → left_back table key (plan_from layer) more ≡ None
    go (Operator-F.Join left right keys) is = absurd (no_join left right keys (is ∙ rolls-Join left right keys))
    go (Operator-F.Union left right) is = absurd (no_union left right (is ∙ rolls-Union left right))
    go (Operator-F.Project below outputs) is = absurd (no_project below outputs (is ∙ rolls-Project below outputs))
    go (Operator-F.AllDifferent below columns) is = absurd (no_different below columns (is ∙ rolls-AllDifferent below columns))
    go Operator-F.Unit is = refl
    go _ is = refl

-- nor have others than these one that holds its right rows
pub right_else : (table : Plan) (key : List ℕ) (part : Operator) (more : ℕ) → IsNoJoin part → IsNoLookup part → IsNoProject part → IsNoFilter part → IsNoAllDifferent part
    → right_back table key (plan_of part) more ≡ None
right_else table key part more no_join no_lookup no_project no_filter no_different = by_layer (λ p. right_back table key p more ≡ None) part go
  where
    go : (layer : Operator-F Operator) → part ≡ roll-Operator layer → right_back table key (plan_from layer) more ≡ None
    go (Operator-F.Join left right keys) is = absurd (no_join left right keys (is ∙ rolls-Join left right keys))
    go (Operator-F.Lookup below column attribute) is = absurd (no_lookup below column attribute (is ∙ rolls-Lookup below column attribute))
    go (Operator-F.Project below outputs) is = absurd (no_project below outputs (is ∙ rolls-Project below outputs))
    go (Operator-F.Filter below test) is = absurd (no_filter below test (is ∙ rolls-Filter below test))
    go (Operator-F.AllDifferent below columns) is = absurd (no_different below columns (is ∙ rolls-AllDifferent below columns))
    go Operator-F.Unit is = refl
    go _ is = refl
