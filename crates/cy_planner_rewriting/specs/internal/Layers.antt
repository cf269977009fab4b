-- The layers of a plan: operators with one operator below them. (own)
use Rattle.std.specs.Prelude.{◌≡◌, ◌<◌, ◌≤◌, List, [], ◌∷◌, map, reverse, None, Option, Some, ⊤}
use Rattle.std.specs.declared.alloc.Global.{Global}
use Rattle.std.specs.declared.vec.Vec.{Vec}
use Rattle.cy_planner_algebra.specs.declared.operators.Operator.{Operator, size-Operator}
use Rattle.cy_planner_algebra.specs.declared.operators.Output.{Output}
use Rattle.cy_planner_algebra.specs.Plans as plan
use Rattle.cy_planner_algebra.specs.Plans.{Plan}
use Rattle.cy_planner_algebra.specs.PlanModels.{output_of, plan_of}
use Rattle.cy_planner_algebra.specs.WellFormed.{IsWellFormed}
use Rattle.cy_planner_rows.specs.declared.places.Wanted.{Wanted}
use Rattle.cy_planner_rows.specs.internal.Lookups.{over}
use Rattle.cy_planner_rewriting.specs.internal.Opened.{over_layer}
use Rattle.cy_planner_rewriting.specs.Rewritten.{IsRewritten}
use Rattle.cy_planner_rewriting.specs.declared.layers.Layer.{Layer}
use Rattle.cy_planner_rewriting.specs.declared.layers.Layer.TheVariants as layer
use Rattle.cy_planner_rewriting.specs.declared.layers.Opened.{Opened}
use Rattle.cy_planner_rewriting.specs.declared.layers.Opened.TheVariants as opened

-- several over a plan, the uppermost first
abbrev pub layered : List Layer → Plan → Plan
layered [] p = p
layered (l ∷ ls) p = over_layer l (layered ls p)

-- a plan, or a projection of it, if there is one
abbrev pub over_outputs : Option (Vec Output Global) → Plan → Plan
over_outputs None p = p
over_outputs (Some outputs) p = plan.project p (map output_of outputs.items)

-- an operator with two operators below it, or none
abbrev pub IsBase : Plan → Type 0
IsBase plan.unit = ⊤
IsBase plan.nodes = ⊤
IsBase (plan.rels types orientation) = ⊤
IsBase (plan.join left right keys) = ⊤
IsBase (plan.outer left right keys test) = ⊤
IsBase (plan.semi left right keys keeping) = ⊤
IsBase (plan.lookup p column attribute) = ⊥
IsBase (plan.filter p test) = ⊥
IsBase (plan.all_different p columns) = ⊥
IsBase (plan.project p outputs) = ⊥
IsBase (plan.distinct p) = ⊥
IsBase (plan.union left right) = ⊤

-- what an operator is: a layer over another operator, one that can stand in its place, or a base
abbrev pub IsOpened : Operator → Opened → Type 0
IsOpened part (opened.Over l below) = (plan_of part ≡ over_layer l (plan_of below)) × (size-Operator below < size-Operator part)
IsOpened part (opened.Same other) = IsRewritten (plan_of part) (plan_of other) × (size-Operator other < size-Operator part)
IsOpened part (opened.Base base) = (plan_of part ≡ plan_of base) × IsBase (plan_of base) × (size-Operator base ≤ size-Operator part)

-- where layers stand over a plan, these others can stand over another one
abbrev pub AreInPlace : List Layer → List Layer → Plan → Plan → Type 0
AreInPlace layers others p q = IsWellFormed (layered layers p) → IsRewritten (layered layers p) (layered others q)

abbrev pub lookup_layer : Wanted → Layer
lookup_layer w = layer.Lookup w.column w.attribute

-- layers, and look-ups below them, over a plan, the uppermost first
abbrev pub stacked : List Layer → List Wanted → Plan → Plan
stacked layers pending p = layered layers (over p (reverse pending))

-- where layers and look-ups stand over a plan, these others can stand over another one
abbrev pub GoesOn : List Layer → List Wanted → Plan → List Layer → List Wanted → Plan → Type 0
GoesOn layers pending p others more q = IsWellFormed (stacked layers pending p) → IsRewritten (stacked layers pending p) (stacked others more q)
