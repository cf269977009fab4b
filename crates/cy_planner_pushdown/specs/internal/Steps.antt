-- Where conditions on columns of an operator go on. (own)
use Rattle.std.specs.Prelude.{◌≡◌, ℕ, ◌<◌, List, [], ◌∷◌, ⊤}
use Rattle.cy_values.specs.declared.rows.Cell.{Cell}
use Rattle.cy_trees.specs.Trees.{Expression}
use Rattle.cy_graph.specs.Graph.{Content}
use Rattle.cy_planner_algebra.specs.declared.operators.Operator.{size-Operator}
use Rattle.cy_planner_algebra.specs.Plans.{Plan}
use Rattle.cy_planner_algebra.specs.PlanModels.{plan_of}
use Rattle.cy_planner_algebra.specs.WellFormed.{IsWellFormed}
use Rattle.cy_planner_pushdown.specs.declared.above.Above.{Above}
use Rattle.cy_planner_pushdown.specs.declared.splits.Split.{Split}
use Rattle.cy_planner_pushdown.specs.declared.ways.Frame.{Frame}
use Rattle.cy_planner_pushdown.specs.declared.ways.Step.{Step}
use Rattle.cy_planner_pushdown.specs.declared.ways.Step.TheVariants as step
use Rattle.cy_planner_pushdown.specs.internal.Above.{placed}
use Rattle.cy_planner_pushdown.specs.internal.Pairs.{paired}
use Rattle.cy_planner_pushdown.specs.internal.Pushed.{IsSifted}
use Rattle.cy_planner_pushdown.specs.internal.Tests.{CanAllBePushed, are_true, tests_of}

-- Some conditions on a plan go on to an operator of it. What comes of that is put back below what stood over it, and those that stay are put on top.
pub record LeadsTo (whole : Plan) (tests : List (List ℕ × Expression)) (part : Plan) (others here : List (List ℕ × Expression)) (around : Plan → Plan) : Type 0 where
  pub good : IsWellFormed part
  pub can : CanAllBePushed part others
  pub fits : (p : Plan) → IsSifted part (are_true others) p → IsWellFormed p → IsWellFormed (around p)
  pub can_here : (p : Plan) → IsSifted part (are_true others) p → CanAllBePushed (around p) here
  pub sifted : (p q : Plan) → IsSifted part (are_true others) p → IsSifted (around p) (are_true here) q → IsSifted whole (are_true tests) q

-- Some can be put on each of two operators of it, and what these stand in is put around both.
pub record LeadsToBoth (whole : Plan) (tests : List (List ℕ × Expression)) (left : Plan) (lefts : List (List ℕ × Expression)) (right : Plan) (rights here : List (List ℕ × Expression)) (around : Plan → Plan → Plan) : Type 0 where
  pub good_left : IsWellFormed left
  pub good_right : IsWellFormed right
  pub can_left : CanAllBePushed left lefts
  pub can_right : CanAllBePushed right rights
  pub fits : (p q : Plan) → IsSifted left (are_true lefts) p → IsSifted right (are_true rights) q → IsWellFormed p → IsWellFormed q → IsWellFormed (around p q)
  pub can_here : (p q : Plan) → IsSifted left (are_true lefts) p → IsSifted right (are_true rights) q → CanAllBePushed (around p q) here
  pub sifted : (p q r : Plan) → IsSifted left (are_true lefts) p → IsSifted right (are_true rights) q → IsSifted (around p q) (are_true here) r → IsSifted whole (are_true tests) r

-- They stay on a plan.
pub record Stay (whole : Plan) (tests : List (List ℕ × Expression)) (part : Plan) (here : List (List ℕ × Expression)) : Type 0 where
  pub is : part ≡ whole
  pub can : CanAllBePushed whole here
  pub same : (graph : Content) (row : List Cell) → are_true here graph row ≡ are_true tests graph row

-- they stay on the operator, or some go on in one operator below, or in both
abbrev pub IsStep : Plan → List (List ℕ × Expression) → Step → Type 0
IsStep whole tests (step.Here part here) = Stay whole tests (plan_of part) (tests_of here.items)
IsStep whole tests (step.Below frame place) = LeadsTo whole tests (plan_of place.part) (tests_of place.tests.items) (tests_of frame.here.items) (placed frame.above)
IsStep whole tests (step.Both pair here left right) =
    LeadsToBoth whole tests (plan_of left.part) (tests_of left.tests.items) (plan_of right.part) (tests_of right.tests.items) (tests_of here.items) (paired pair)

-- they go on below what stands above it
abbrev pub IsBelow : Above → Plan → Split → Step → Type 0
IsBelow above p split (step.Here part here) = ⊥
IsBelow above p split (step.Below frame place) = (frame.above ≡ above) × (frame.here ≡ split.here) × (plan_of place.part ≡ p) × (place.tests ≡ split.first)
IsBelow above p split (step.Both pair here left right) = ⊥

-- the operators in which they go on are less deep than this
abbrev pub AreBelow : ℕ → Step → Type 0
AreBelow depth (step.Here part here) = ⊤
AreBelow depth (step.Below frame place) = size-Operator place.part < depth
AreBelow depth (step.Both pair here left right) = (size-Operator left.part < depth) × (size-Operator right.part < depth)

-- the conditions lead through what was opened, the uppermost first, to those on an operator
abbrev pub LeadThrough : Plan → List (List ℕ × Expression) → List Frame → Plan → List (List ℕ × Expression) → Type 0
LeadThrough whole tests [] part others = (whole ≡ part) × (tests ≡ others)
LeadThrough whole tests (frame ∷ frames) part others =
    (middle : Plan) × (next : List (List ℕ × Expression)) × LeadsTo whole tests middle next (tests_of frame.here.items) (placed frame.above) × LeadThrough middle next frames part others
