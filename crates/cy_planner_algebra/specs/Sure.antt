-- Sure plans: on no graph has an expression of one a fault on a row that it gets. (own)
use Rattle.std.specs.Prelude.{⊤, IsOk, List}
use Rattle.std.specs.List.{All}
use Rattle.cy_values.specs.declared.rows.Cell.{Cell}
use Rattle.cy_trees.specs.Trees.{Expression}
use Rattle.cy_graph.specs.Graph.{Content, State, IsGraph}
use Rattle.cy_planner_algebra.specs.Plans as plan
use Rattle.cy_planner_algebra.specs.Plans.{Plan, Output, computed, gathered}
use Rattle.cy_planner_algebra.specs.Expressions.{cell_of, truth_on}
use Rattle.cy_planner_algebra.specs.Meaning.{rows_of, joined}

-- a condition has a truth on a row
abbrev pub HasTruth : Expression → List Cell → Type 0
HasTruth e row = IsOk (truth_on row e)

-- a column of a projection has its cell on a row
abbrev pub HasCell : List Cell → Output → Type 0
HasCell row (computed e) = IsOk (cell_of row e)
HasCell row (gathered columns) = ⊤

abbrev pub HasCells : List Output → List Cell → Type 0
HasCells outputs row = All (HasCell row) outputs

-- on one graph: each condition has a truth on each row of the operator below it, a predicate on each pair of rows that have the same
-- key, and each column of a projection its cell
abbrev pub IsSureOn : Content → Plan → Type 0
IsSureOn graph plan.unit = ⊤
IsSureOn graph plan.nodes = ⊤
IsSureOn graph (plan.rels types orientation) = ⊤
IsSureOn graph (plan.join left right keys) = IsSureOn graph left × IsSureOn graph right
IsSureOn graph (plan.outer left right keys test) =
    IsSureOn graph left × IsSureOn graph right × All (HasTruth test) (joined keys (rows_of graph left) (rows_of graph right))
IsSureOn graph (plan.semi left right keys keeping) = IsSureOn graph left × IsSureOn graph right
IsSureOn graph (plan.lookup p column attribute) = IsSureOn graph p
IsSureOn graph (plan.filter p test) = IsSureOn graph p × All (HasTruth test) (rows_of graph p)
IsSureOn graph (plan.all_different p columns) = IsSureOn graph p
IsSureOn graph (plan.project p outputs) = IsSureOn graph p × All (HasCells outputs) (rows_of graph p)
IsSureOn graph (plan.distinct p) = IsSureOn graph p
IsSureOn graph (plan.union left right) = IsSureOn graph left × IsSureOn graph right

-- on every graph
abbrev pub IsSure : Plan → Type 0
IsSure p = (graph : State) → IsGraph graph → IsSureOn graph.content p
