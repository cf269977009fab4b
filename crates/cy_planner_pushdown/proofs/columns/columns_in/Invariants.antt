-- The columns so far.
use Rattle.std.proofs.Common.{take}
use Rattle.cy_planner_pushdown.specs.internal.Pushed.{AreMoved}
use Rattle.cy_planner_pushdown.specs.internal.Sources.{stands}
use Rattle.cy_planner_pushdown.proofs.columns.columns_in.Given as goal

abbrev pub invariant-loop-column : goal.invariant-loop-column
invariant-loop-column l = AreMoved (stands l.source) (take l.column-index l.columns) l.found.items
