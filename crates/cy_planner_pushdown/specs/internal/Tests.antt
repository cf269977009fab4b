-- Conditions on what stands in columns of a plan's rows, several at once. (own)
use Rattle.std.specs.Prelude.{ℕ, Bool, List, map}
use Rattle.std.specs.List.{AllByRecursion, list_all}
use Rattle.cy_values.specs.declared.rows.Cell.{Cell}
use Rattle.cy_trees.specs.Trees.{Expression}
use Rattle.cy_trees.specs.TreeModels.{expression_of}
use Rattle.cy_graph.specs.Graph.{Content}
use Rattle.cy_planner_algebra.specs.Plans.{Plan}
use Rattle.cy_planner_pushdown.specs.declared.tests.CellsTest.{CellsTest}
use Rattle.cy_planner_pushdown.specs.internal.Conditions.{keeps_cells}
use Rattle.cy_planner_pushdown.specs.internal.Pushed.{CanBePushed}

-- the columns, and the condition on what stands there
abbrev pub test_of : CellsTest → List ℕ × Expression
test_of t = (t.columns.items, expression_of t.test)

abbrev pub tests_of : List CellsTest → List (List ℕ × Expression)
tests_of tests = map test_of tests

-- each is true of the cells in its columns
abbrev pub are_true : List (List ℕ × Expression) → Content → List Cell → Bool
are_true tests graph row = list_all (λ (t : List ℕ × Expression). keeps_cells graph t.1 t.0 row) tests

-- each can be put on a plan
abbrev pub CanAllBePushed : Plan → List (List ℕ × Expression) → Type 0
CanAllBePushed p tests = AllByRecursion (λ (t : List ℕ × Expression). CanBePushed p t.0 t.1) tests
