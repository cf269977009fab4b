-- What the operators of plans are, with the layers and the joints that they are made of. (own)
use Rattle.std.specs.Prelude.{◌≡◌, ◌<◌, map}
use Rattle.cy_trees.specs.TreeModels.{expression_of}
use Rattle.cy_planner_algebra.specs.declared.operators.Operator.{Operator, size-Operator}
use Rattle.cy_planner_algebra.specs.Plans as plan
use Rattle.cy_planner_algebra.specs.Plans.{Plan}
use Rattle.cy_planner_algebra.specs.PlanModels.{output_of, plan_of}
use Rattle.cy_planner_rewriting.specs.declared.layers.Joint.{Joint}
use Rattle.cy_planner_rewriting.specs.declared.layers.Joint.TheVariants as joint
use Rattle.cy_planner_rewriting.specs.declared.layers.Layer.{Layer}
use Rattle.cy_planner_rewriting.specs.declared.layers.Layer.TheVariants as layer
use Rattle.cy_planner_rewriting.specs.declared.layers.Part.{Part}
use Rattle.cy_planner_rewriting.specs.declared.layers.Part.TheVariants as opened

-- a layer over a plan
abbrev pub over_layer : Layer → Plan → Plan
over_layer (layer.Lookup column attribute) p = plan.lookup p column attribute
over_layer (layer.Filter test) p = plan.filter p (expression_of test)
over_layer (layer.AllDifferent columns) p = plan.all_different p columns.items
over_layer (layer.Project outputs) p = plan.project p (map output_of outputs.items)
over_layer layer.Distinct p = plan.distinct p

-- two plans together
abbrev pub together : Joint → Plan → Plan → Plan
together (joint.Join keys) p q = plan.join p q keys.items
together (joint.Outer keys test) p q = plan.outer p q keys.items (expression_of test)
together (joint.Semi keys keeping) p q = plan.semi p q keys.items keeping
together joint.Union p q = plan.union p q

-- what an operator is: a plan with no operator below it, a layer over another operator, or two operators together
abbrev pub IsOpened : Operator → Part → Type 0
IsOpened part (opened.Leaf p) = plan_of part ≡ plan_of p
IsOpened part (opened.Over l below) = (plan_of part ≡ over_layer l (plan_of below)) × (size-Operator below < size-Operator part)
IsOpened part (opened.Both j left right) = (plan_of part ≡ together j (plan_of left) (plan_of right)) × (size-Operator left < size-Operator part) × (size-Operator right < size-Operator part)
