-- The plan of a part by what the part is made of, for a match that speaks of some parts and not of the others.
use Rattle.std.proofs.Common.{◌≡◌, ℕ, Box, Global, Vec, rules, sym, subst}
use Rattle.cy_values.specs.declared.texts.Text.{Text}
use Rattle.cy_trees.specs.declared.expressions.Expr.{Expr}
use Rattle.cy_planner_algebra.specs.declared.operators.Attribute.{Attribute}
use Rattle.cy_planner_algebra.specs.declared.operators.KeyColumns.{KeyColumns}
use Rattle.cy_planner_algebra.specs.declared.operators.Operator.{Operator, map-Operator, out-Operator, roll-Operator, the_lemmas}
use Rattle.cy_planner_algebra.specs.declared.operators.Operator.TheFolds.{fold_out-Operator}
use Rattle.cy_planner_algebra.specs.declared.operators.Operator.TheOpen.{Operator-F}
use Rattle.cy_planner_algebra.specs.declared.operators.Operator.TheVariants as operator
use Rattle.cy_planner_algebra.specs.declared.operators.Orientation.{Orientation}
use Rattle.cy_planner_algebra.specs.declared.operators.Output as coded_output
use Rattle.cy_planner_algebra.specs.Plans.{Plan}
use Rattle.cy_planner_algebra.specs.PlanModels.{plan_of, plan_step}

-- a part is another one than these
abbrev pub IsNoUnit : Operator → Type 0
IsNoUnit part = part ≡ operator.Unit → ⊥

abbrev pub IsNoNodes : Operator → Type 0
IsNoNodes part = part ≡ operator.Nodes → ⊥

abbrev pub IsNoRels : Operator → Type 0
IsNoRels part = (types : Vec Text Global) (orientation : Orientation) → part ≡ operator.Rels types orientation → ⊥

abbrev pub IsNoJoin : Operator → Type 0
IsNoJoin part = (left right : Box Operator Global) (keys : Vec KeyColumns Global) → part ≡ operator.Join left right keys → ⊥

abbrev pub IsNoOuter : Operator → Type 0
IsNoOuter part = (left right : Box Operator Global) (keys : Vec KeyColumns Global) (test : Expr) → part ≡ operator.Outer left right keys test → ⊥

abbrev pub IsNoLookup : Operator → Type 0
IsNoLookup part = (below : Box Operator Global) (column : ℕ) (attribute : Attribute) → part ≡ operator.Lookup below column attribute → ⊥

abbrev pub IsNoFilter : Operator → Type 0
IsNoFilter part = (below : Box Operator Global) (test : Expr) → part ≡ operator.Filter below test → ⊥

abbrev pub IsNoAllDifferent : Operator → Type 0
IsNoAllDifferent part = (below : Box Operator Global) (columns : Vec ℕ Global) → part ≡ operator.AllDifferent below columns → ⊥

abbrev pub IsNoProject : Operator → Type 0
IsNoProject part = (below : Box Operator Global) (outputs : Vec coded_output.Output Global) → part ≡ operator.Project below outputs → ⊥

abbrev pub IsNoDistinct : Operator → Type 0
IsNoDistinct part = (below : Box Operator Global) → part ≡ operator.Distinct below → ⊥

abbrev pub IsNoUnion : Operator → Type 0
IsNoUnion part = (left right : Box Operator Global) → part ≡ operator.Union left right → ⊥

-- a plan by what its uppermost part is made of
abbrev pub plan_from : Operator-F Operator → Plan
plan_from layer = plan_step (map-Operator Operator Plan plan_of layer)

-- what holds of the plan of each part that a layer makes holds of the plan of a part
pub by_layer : (Holds : Plan → Type 0) (part : Operator) → ((layer : Operator-F Operator) → part ≡ roll-Operator layer → Holds (plan_from layer)) → Holds (plan_of part)
by_layer Holds part each =
    let rolled : roll-Operator (out-Operator part) ≡ part = search (rules, the_lemmas) in
    subst Holds (sym (fold_out-Operator Plan plan_step part)) (each (out-Operator part) (sym rolled))
