-- What each part is but a few.
use Rattle.std.proofs.Common.{◌≡◌, Box, Global, Vec, false, [], refl, ◌∙◌, arith}
use Rattle.cy_planner_algebra.specs.declared.operators.Keeping.{Keeping}
use Rattle.cy_planner_algebra.specs.declared.operators.KeyColumns.{KeyColumns}
use Rattle.cy_planner_algebra.specs.declared.operators.Operator.{Operator, roll-Operator}
use Rattle.cy_planner_algebra.specs.declared.operators.Operator.TheOpen.{Operator-F}
use Rattle.cy_planner_algebra.specs.declared.operators.Operator.TheVariants as operator
use Rattle.cy_planner_algebra.specs.declared.operators.Operator.TheVariants.{rolls-Join, rolls-Outer, rolls-Semi, rolls-Union, rolls-Lookup, rolls-Filter, rolls-AllDifferent, rolls-Project, rolls-Distinct}
use Rattle.cy_planner_algebra.specs.PlanModels.{plan_of}
use Rattle.cy_planner_algebra.proofs.Layers.{IsNoJoin, IsNoOuter, IsNoUnion, IsNoLookup, IsNoFilter, IsNoAllDifferent, IsNoProject, IsNoDistinct, by_layer, plan_from}
use Rattle.cy_network_parts.specs.Parts.{below_count}
use Rattle.cy_network_changes.specs.internal.Passages.{different_of, is_all_different, is_join, is_project, keys_of, outputs_of}

-- another part than a join is none, and has no keys
pub join_else : (part : Operator) → IsNoJoin part → is_join (plan_of part) ≡ false
join_else part no_join = by_layer (λ p. is_join p ≡ false) part go
  where
    go : (layer : Operator-F Operator) → part ≡ roll-Operator layer → is_join (plan_from layer) ≡ false
    go (Operator-F.Join left right keys) is = absurd (no_join left right keys (is ∙ rolls-Join left right keys))
    go Operator-F.Unit is = refl
    go _ is = refl

pub keys_else : (part : Operator) → IsNoJoin part → keys_of (plan_of part) ≡ []
keys_else part no_join = by_layer (λ p. keys_of p ≡ []) part go
  where
    go : (layer : Operator-F Operator) → part ≡ roll-Operator layer → keys_of (plan_from layer) ≡ []
    go (Operator-F.Join left right keys) is = absurd (no_join left right keys (is ∙ rolls-Join left right keys))
    go Operator-F.Unit is = refl
    go _ is = refl

-- another part than a projection is none, and makes no columns
pub project_else : (part : Operator) → IsNoProject part → is_project (plan_of part) ≡ false
project_else part no_project = by_layer (λ p. is_project p ≡ false) part go
  where
    go : (layer : Operator-F Operator) → part ≡ roll-Operator layer → is_project (plan_from layer) ≡ false
    go (Operator-F.Project below outputs) is = absurd (no_project below outputs (is ∙ rolls-Project below outputs))
    go Operator-F.Unit is = refl
    go _ is = refl

pub outputs_else : (part : Operator) → IsNoProject part → outputs_of (plan_of part) ≡ []
outputs_else part no_project = by_layer (λ p. outputs_of p ≡ []) part go
  where
    go : (layer : Operator-F Operator) → part ≡ roll-Operator layer → outputs_of (plan_from layer) ≡ []
    go (Operator-F.Project below outputs) is = absurd (no_project below outputs (is ∙ rolls-Project below outputs))
    go Operator-F.Unit is = refl
    go _ is = refl

-- another part tests no columns for different relationships
pub different_else : (part : Operator) → IsNoAllDifferent part → is_all_different (plan_of part) ≡ false
different_else part no_different = by_layer (λ p. is_all_different p ≡ false) part go
  where
    go : (layer : Operator-F Operator) → part ≡ roll-Operator layer → is_all_different (plan_from layer) ≡ false
    go (Operator-F.AllDifferent below columns) is = absurd (no_different below columns (is ∙ rolls-AllDifferent below columns))
    go Operator-F.Unit is = refl
    go _ is = refl

pub tested_else : (part : Operator) → IsNoAllDifferent part → different_of (plan_of part) ≡ []
tested_else part no_different = by_layer (λ p. different_of p ≡ []) part go
  where
    go : (layer : Operator-F Operator) → part ≡ roll-Operator layer → different_of (plan_from layer) ≡ []
    go (Operator-F.AllDifferent below columns) is = absurd (no_different below columns (is ∙ rolls-AllDifferent below columns))
    go Operator-F.Unit is = refl
    go _ is = refl

-- no other part than these has one part below it
pub single_else : (part : Operator) → IsNoLookup part → IsNoFilter part → IsNoAllDifferent part → IsNoProject part → IsNoDistinct part → (below_count (plan_of part) ≡ 1 → ⊥)
single_else part no_lookup no_filter no_different no_project no_distinct = by_layer (λ p. (below_count p ≡ 1 → ⊥)) part go
  where
    go : (layer : Operator-F Operator) → part ≡ roll-Operator layer → (below_count (plan_from layer) ≡ 1 → ⊥)
    go (Operator-F.Lookup below column attribute) is = absurd (no_lookup below column attribute (is ∙ rolls-Lookup below column attribute))
    go (Operator-F.Filter below test) is = absurd (no_filter below test (is ∙ rolls-Filter below test))
    go (Operator-F.AllDifferent below columns) is = absurd (no_different below columns (is ∙ rolls-AllDifferent below columns))
    go (Operator-F.Project below outputs) is = absurd (no_project below outputs (is ∙ rolls-Project below outputs))
    go (Operator-F.Distinct below) is = absurd (no_distinct below (is ∙ rolls-Distinct below))
    go Operator-F.Unit is = λ one. omega (arith, one)
    go _ is = λ one. omega (arith, one)

-- no other part than these has two parts below it
pub pair_else : (part : Operator) → IsNoJoin part → IsNoOuter part
    → ((left right : Box Operator Global) (keys : Vec KeyColumns Global) (keeping : Keeping) → part ≡ operator.Semi left right keys keeping → ⊥) → IsNoUnion part
    → (below_count (plan_of part) ≡ 2 → ⊥)
pair_else part no_join no_outer no_semi no_union = by_layer (λ p. (below_count p ≡ 2 → ⊥)) part go
  where
    go : (layer : Operator-F Operator) → part ≡ roll-Operator layer → (below_count (plan_from layer) ≡ 2 → ⊥)
    go (Operator-F.Join left right keys) is = absurd (no_join left right keys (is ∙ rolls-Join left right keys))
    go (Operator-F.Outer left right keys test) is = absurd (no_outer left right keys test (is ∙ rolls-Outer left right keys test))
    go (Operator-F.Semi left right keys keeping) is = absurd (no_semi left right keys keeping (is ∙ rolls-Semi left right keys keeping))
    go (Operator-F.Union left right) is = absurd (no_union left right (is ∙ rolls-Union left right))
    go Operator-F.Unit is = λ two. omega (arith, two)
    go _ is = λ two. omega (arith, two)
