-- Conditions on columns of an operator, by where they go on. (own)
use Rattle.std.specs.Prelude.{◌≡◌, ℕ, ◌++◌, Bool, ◌&&◌, true, IsTrue, List, [], ◌∷◌, length}
use Rattle.cy_values.specs.declared.rows.Cell.{Cell}
use Rattle.cy_trees.specs.Trees.{Expression}
use Rattle.cy_graph.specs.Graph.{Content}
use Rattle.cy_planner_algebra.specs.Plans as plan
use Rattle.cy_planner_algebra.specs.Plans.{Plan, width}
use Rattle.cy_planner_algebra.specs.Expressions.{projected}
use Rattle.cy_planner_algebra.specs.Keys.{meet}
use Rattle.cy_planner_pushdown.specs.declared.sides.Way.{Way}
use Rattle.cy_planner_pushdown.specs.declared.sides.Way.TheVariants as way
use Rattle.cy_planner_pushdown.specs.declared.splits.Split.{Split}
use Rattle.cy_planner_pushdown.specs.internal.Tests.{CanAllBePushed, are_true, tests_of}

-- the conditions that stay, those that go on in the only input or the left one, and those that go on in the right one
pub record Tests : Type 0 where
  pub here : List (List ℕ × Expression)
  pub first : List (List ℕ × Expression)
  pub second : List (List ℕ × Expression)

abbrev pub tests_in : Split → Tests
tests_in split = record { here = tests_of split.here.items; first = tests_of split.first.items; second = tests_of split.second.items }

abbrev pub none : Tests
none = record { here = []; first = []; second = [] }

-- all go on in the only input, or in the left one
abbrev pub all_first : List (List ℕ × Expression) → Tests
all_first tests = record { here = []; first = tests; second = [] }

-- with one more
abbrev pub with_way : Way → Expression → Tests → Tests
with_way (way.Here columns) test tests = record { here = tests.here ++ (columns.items, test) ∷ []; first = tests.first; second = tests.second }
with_way (way.First columns) test tests = record { here = tests.here; first = tests.first ++ (columns.items, test) ∷ []; second = tests.second }
with_way (way.Second columns) test tests = record { here = tests.here; first = tests.first; second = tests.second ++ (columns.items, test) ∷ [] }
with_way (way.Both lefts rights) test tests = record { here = tests.here; first = tests.first ++ (lefts.items, test) ∷ []; second = tests.second ++ (rights.items, test) ∷ [] }

-- the only input, or the left one; and the right one
abbrev pub first_input : Plan → Plan
first_input (plan.join left right keys) = left
first_input (plan.outer left right keys test) = left
first_input (plan.semi left right keys keeping) = left
first_input (plan.lookup p column attribute) = p
first_input (plan.filter p test) = p
first_input (plan.all_different p columns) = p
first_input (plan.project p outputs) = p
first_input (plan.distinct p) = p
first_input (plan.union left right) = left
first_input p = p

abbrev pub second_input : Plan → Plan
second_input (plan.join left right keys) = right
second_input (plan.union left right) = right
second_input p = p

-- a row of an operator passes where the rows pass of which it is made
abbrev pub Agree : Plan → (Content → List Cell → Bool) → (Content → List Cell → Bool) → (Content → List Cell → Bool) → Type 0
Agree plan.unit passes first second = (graph : Content) (row : List Cell) → passes graph row ≡ true
Agree plan.nodes passes first second = (graph : Content) (row : List Cell) → passes graph row ≡ true
Agree (plan.rels types orientation) passes first second = (graph : Content) (row : List Cell) → passes graph row ≡ true
Agree (plan.join left right keys) passes first second = (graph : Content) (l r : List Cell) → length l ≡ width left → IsTrue (meet keys l r) → passes graph (l ++ r) ≡ (first graph l && second graph r)
Agree (plan.outer left right keys test) passes first second = (graph : Content) (l r : List Cell) → length l ≡ width left → passes graph (l ++ r) ≡ first graph l
Agree (plan.semi left right keys keeping) passes first second = (graph : Content) (row : List Cell) → passes graph row ≡ first graph row
Agree (plan.lookup p column attribute) passes first second = (graph : Content) (row more : List Cell) → length row ≡ width p → passes graph (row ++ more) ≡ first graph row
Agree (plan.filter p test) passes first second = (graph : Content) (row : List Cell) → passes graph row ≡ first graph row
Agree (plan.all_different p columns) passes first second = (graph : Content) (row : List Cell) → passes graph row ≡ first graph row
Agree (plan.project p outputs) passes first second = (graph : Content) (row : List Cell) → passes graph (projected outputs row) ≡ first graph row
Agree (plan.distinct p) passes first second = (graph : Content) (row : List Cell) → passes graph row ≡ first graph row
Agree (plan.union left right) passes first second = (graph : Content) (row : List Cell) → (passes graph row ≡ first graph row) × (passes graph row ≡ second graph row)

-- Of conditions that can be put on an operator some are left, and the others stay there or go on in its inputs.
pub record IsSplit (p : Plan) (all rest : List (List ℕ × Expression)) (tests : Tests) : Type 0 where
  pub moving : Content → List Cell → Bool
  pub same : (graph : Content) (row : List Cell) → are_true all graph row ≡ (are_true rest graph row && (moving graph row && are_true tests.here graph row))
  pub agree : Agree p moving (are_true tests.first) (are_true tests.second)
  pub still : tests.first ≡ [] → tests.second ≡ [] → (graph : Content) (row : List Cell) → moving graph row ≡ true
  pub can_rest : CanAllBePushed p rest
  pub can_here : CanAllBePushed p tests.here
  pub can_first : CanAllBePushed (first_input p) tests.first
  pub can_second : CanAllBePushed (second_input p) tests.second
