-- Plans that are compared, by what each operator is made of.
use Rattle.std.proofs.Common.{◌≡◌, ℕ, zero, suc, ◌+◌, Box, Global, Vec, true, false, ◌&&◌, List, map, refl, sym, ap, ◌∙◌, arith}
use Rattle.cy_values.specs.declared.texts.Text.{Text}
use Rattle.cy_trees.specs.Trees.{Name, Expression}
use Rattle.cy_trees.specs.TreeModels.{expression_of}
use Rattle.cy_trees.specs.declared.expressions.Expr.{Expr}
use Rattle.cy_planner_algebra.specs.declared.operators.Attribute.{Attribute}
use Rattle.cy_planner_algebra.specs.declared.operators.KeyColumns.{KeyColumns}
use Rattle.cy_planner_algebra.specs.declared.operators.Operator.{Operator, roll-Operator}
use Rattle.cy_planner_algebra.specs.declared.operators.Operator.TheFolds.{fold-roll-Operator}
use Rattle.cy_planner_algebra.specs.declared.operators.Operator.TheOpen.{Operator-F}
use Rattle.cy_planner_algebra.specs.declared.operators.Operator.TheVariants as operator
use Rattle.cy_planner_algebra.specs.declared.operators.Orientation.{Orientation}
use Rattle.cy_planner_algebra.specs.declared.operators.Output as coded_output
use Rattle.cy_planner_algebra.specs.Plans as plan
use Rattle.cy_planner_algebra.specs.Plans.{Output, Plan}
use Rattle.cy_planner_algebra.specs.PlanModels.{output_of, plan_of, plan_step}
use Rattle.cy_planner_algebra.proofs.Layers.{IsNoFilter, IsNoJoin, IsNoLookup, IsNoNodes, IsNoProject, IsNoRels, by_layer, plan_from}
use Rattle.cy_network_parts.specs.SameConditions.{same_condition}
use Rattle.cy_network_parts.specs.SamePlans.{most_deep, same_plan}

-- ---- what an operator stands for

pub rels_of : (p : Operator) (types : Vec Text Global) (way : Orientation) → p ≡ operator.Rels types way → plan_of p ≡ plan.rels types.items way
rels_of p types way is = ap plan_of (is ∙ sym (operator.rolls-Rels types way)) ∙ fold-roll-Operator Plan plan_step _

pub project_of : (p : Operator) (below : Box Operator Global) (outputs : Vec coded_output.Output Global) → p ≡ operator.Project below outputs
    → plan_of p ≡ plan.project (plan_of below.value) (map output_of outputs.items)
project_of p below outputs is = ap plan_of (is ∙ sym (operator.rolls-Project below outputs)) ∙ fold-roll-Operator Plan plan_step _

pub lookup_of : (p : Operator) (below : Box Operator Global) (column : ℕ) (attribute : Attribute) → p ≡ operator.Lookup below column attribute
    → plan_of p ≡ plan.lookup (plan_of below.value) column attribute
lookup_of p below column attribute is = ap plan_of (is ∙ sym (operator.rolls-Lookup below column attribute)) ∙ fold-roll-Operator Plan plan_step _

pub filter_of : (p : Operator) (below : Box Operator Global) (test : Expr) → p ≡ operator.Filter below test → plan_of p ≡ plan.filter (plan_of below.value) (expression_of test)
filter_of p below test is = ap plan_of (is ∙ sym (operator.rolls-Filter below test)) ∙ fold-roll-Operator Plan plan_step _

pub join_of : (p : Operator) (left right : Box Operator Global) (keys : Vec KeyColumns Global) → p ≡ operator.Join left right keys
    → plan_of p ≡ plan.join (plan_of left.value) (plan_of right.value) keys.items
join_of p left right keys is = ap plan_of (is ∙ sym (operator.rolls-Join left right keys)) ∙ fold-roll-Operator Plan plan_step _

-- ---- what is asked of two

pub is_twelve : 12 ≡ most_deep
unfolding most_deep
is_twelve = refl

-- what the code asks of two conditions
pub filter_same : (deep less : ℕ) (p q below other : Plan) (test wanted : Expression) → p ≡ plan.filter below test → q ≡ plan.filter other wanted → deep ≡ less + 1 → same_plan less below other ≡ true
    → same_condition most_deep test wanted ≡ same_plan deep p q
filter_same deep less p q below other test wanted p_is q_is is below_same =
    sym (ap (λ n. same_plan n p q) (one_less deep less is) ∙ ap (λ r. same_plan (suc less) r q) p_is ∙ ap (same_plan (suc less) (plan.filter below test)) q_is ∙ ap (λ b. b && same_condition most_deep test wanted) below_same)
  where
    one_less : (deep less : ℕ) → deep ≡ less + 1 → deep ≡ suc less
    one_less deep less is = omega (arith, is)

-- ---- operators of two kinds, or of one that is not compared

pub rels_else : (deep : ℕ) (types : List Name) (way : Orientation) (q : Operator) → IsNoRels q → same_plan deep (plan.rels types way) (plan_of q) ≡ false
rels_else zero types way q no_rels = refl
rels_else (suc deep) types way q no_rels = by_layer (λ p. same_plan (suc deep) (plan.rels types way) p ≡ false) q go
  where
    go : (layer : Operator-F Operator) → q ≡ roll-Operator layer → same_plan (suc deep) (plan.rels types way) (plan_from layer) ≡ false
    go (Operator-F.Rels others other) is = absurd (no_rels others other (is ∙ operator.rolls-Rels others other))
    go Operator-F.Unit is = refl
    go _ is = refl

pub project_else : (deep : ℕ) (below : Plan) (outputs : List Output) (q : Operator) → IsNoProject q → same_plan deep (plan.project below outputs) (plan_of q) ≡ false
project_else zero below outputs q no_project = refl
project_else (suc deep) below outputs q no_project = by_layer (λ p. same_plan (suc deep) (plan.project below outputs) p ≡ false) q go
  where
    go : (layer : Operator-F Operator) → q ≡ roll-Operator layer → same_plan (suc deep) (plan.project below outputs) (plan_from layer) ≡ false
    go (Operator-F.Project other others) is = absurd (no_project other others (is ∙ operator.rolls-Project other others))
    go Operator-F.Unit is = refl
    go _ is = refl

pub lookup_else : (deep : ℕ) (below : Plan) (column : ℕ) (attribute : Attribute) (q : Operator) → IsNoLookup q → same_plan deep (plan.lookup below column attribute) (plan_of q) ≡ false
lookup_else zero below column attribute q no_lookup = refl
lookup_else (suc deep) below column attribute q no_lookup = by_layer (λ p. same_plan (suc deep) (plan.lookup below column attribute) p ≡ false) q go
  where
    go : (layer : Operator-F Operator) → q ≡ roll-Operator layer → same_plan (suc deep) (plan.lookup below column attribute) (plan_from layer) ≡ false
    go (Operator-F.Lookup other place wanted) is = absurd (no_lookup other place wanted (is ∙ operator.rolls-Lookup other place wanted))
    go Operator-F.Unit is = refl
    go _ is = refl

pub filter_else : (deep : ℕ) (below : Plan) (test : Expression) (q : Operator) → IsNoFilter q → same_plan deep (plan.filter below test) (plan_of q) ≡ false
filter_else zero below test q no_filter = refl
filter_else (suc deep) below test q no_filter = by_layer (λ p. same_plan (suc deep) (plan.filter below test) p ≡ false) q go
  where
    go : (layer : Operator-F Operator) → q ≡ roll-Operator layer → same_plan (suc deep) (plan.filter below test) (plan_from layer) ≡ false
    go (Operator-F.Filter other wanted) is = absurd (no_filter other wanted (is ∙ operator.rolls-Filter other wanted))
    go Operator-F.Unit is = refl
    go _ is = refl

pub join_else : (deep : ℕ) (left right : Plan) (keys : List KeyColumns) (q : Operator) → IsNoJoin q → same_plan deep (plan.join left right keys) (plan_of q) ≡ false
join_else zero left right keys q no_join = refl
join_else (suc deep) left right keys q no_join = by_layer (λ p. same_plan (suc deep) (plan.join left right keys) p ≡ false) q go
  where
    go : (layer : Operator-F Operator) → q ≡ roll-Operator layer → same_plan (suc deep) (plan.join left right keys) (plan_from layer) ≡ false
    go (Operator-F.Join first second others) is = absurd (no_join first second others (is ∙ operator.rolls-Join first second others))
    go Operator-F.Unit is = refl
    go _ is = refl

pub else_differs : (deep : ℕ) (p : Operator) (q : Plan) → IsNoNodes p → IsNoRels p → IsNoProject p → IsNoLookup p → IsNoFilter p → IsNoJoin p → same_plan deep (plan_of p) q ≡ false
else_differs zero p q no_nodes no_rels no_project no_lookup no_filter no_join = refl
else_differs (suc deep) p q no_nodes no_rels no_project no_lookup no_filter no_join = by_layer (λ r. same_plan (suc deep) r q ≡ false) p go
  where
    go : (layer : Operator-F Operator) → p ≡ roll-Operator layer → same_plan (suc deep) (plan_from layer) q ≡ false
    go Operator-F.Nodes is = absurd (no_nodes (is ∙ operator.rolls-Nodes))
    go (Operator-F.Rels types way) is = absurd (no_rels types way (is ∙ operator.rolls-Rels types way))
    go (Operator-F.Project below outputs) is = absurd (no_project below outputs (is ∙ operator.rolls-Project below outputs))
    go (Operator-F.Lookup below column attribute) is = absurd (no_lookup below column attribute (is ∙ operator.rolls-Lookup below column attribute))
    go (Operator-F.Filter below test) is = absurd (no_filter below test (is ∙ operator.rolls-Filter below test))
    go (Operator-F.Join left right keys) is = absurd (no_join left right keys (is ∙ operator.rolls-Join left right keys))
    go Operator-F.Unit is = refl
    go _ is = refl
