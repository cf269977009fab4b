-- A base with look-ups on it, split into its two operators with look-ups on them. (own)
use Rattle.std.specs.Prelude.{◌≡◌, ℕ, ◌<◌, List, ⊤}
use Rattle.cy_trees.specs.TreeModels.{expression_of}
use Rattle.cy_planner_algebra.specs.declared.operators.Operator.{Operator, size-Operator}
use Rattle.cy_planner_algebra.specs.Plans as plan
use Rattle.cy_planner_algebra.specs.Plans.{Plan}
use Rattle.cy_planner_algebra.specs.PlanModels.{plan_of}
use Rattle.cy_planner_algebra.specs.WellFormed.{IsWellFormed}
use Rattle.cy_planner_rows.specs.declared.places.Wanted.{Wanted}
use Rattle.cy_planner_rows.specs.internal.Lookups.{over}
use Rattle.cy_planner_rewriting.specs.internal.Layers.{over_outputs}
use Rattle.cy_planner_rewriting.specs.Rewritten.{IsRewritten}
use Rattle.cy_planner_rewriting.specs.declared.splits.Rejoin.{Rejoin}
use Rattle.cy_planner_rewriting.specs.declared.splits.Rejoin.TheVariants as joint
use Rattle.cy_planner_rewriting.specs.declared.splits.Side.{Side}
use Rattle.cy_planner_rewriting.specs.declared.splits.Split.{Split}
use Rattle.cy_planner_rewriting.specs.declared.splits.Split.TheVariants as split

-- two plans together
abbrev pub together : Rejoin → Plan → Plan → Plan
together (joint.Join keys outputs) p q = over_outputs outputs (plan.join p q keys.items)
together (joint.Outer keys test outputs) p q = over_outputs outputs (plan.outer p q keys.items (expression_of test))
together (joint.Semi keys keeping) p q = plan.semi p q keys.items keeping
together (joint.Union lookups) p q = over (plan.union p q) lookups.items

-- an operator with look-ups on it
abbrev pub side_plan : Side → Plan
side_plan s = over (plan_of s.part) s.lookups.items

-- together they can stand in place of the base with its look-ups, and so can plans that can stand in place of them
pub record AreSides (base : Plan) (ws : List Wanted) (j : Rejoin) (l r : Side) : Type 0 where
  pub left : IsWellFormed (side_plan l)
  pub right : IsWellFormed (side_plan r)
  pub whole : (p q : Plan) → IsRewritten (side_plan l) p → IsRewritten (side_plan r) q → IsRewritten (over base ws) (together j p q)

abbrev pub IsSplit : Plan → List Wanted → Split → Type 0
IsSplit base ws (split.Leaf p) = plan_of p ≡ over base ws
IsSplit base ws (split.Both j l r) = AreSides base ws j l r

-- the sides are less deep than this many levels
abbrev pub AreLessDeep : ℕ → Split → Type 0
AreLessDeep depth (split.Leaf p) = ⊤
AreLessDeep depth (split.Both j l r) = (size-Operator l.part < depth) × (size-Operator r.part < depth)

-- the sides are these operators
abbrev pub HasParts : Operator → Operator → Split → Type 0
HasParts left right (split.Leaf p) = ⊥
HasParts left right (split.Both j l r) = (l.part ≡ left) × (r.part ≡ right)
