-- The columns so far.
use Rattle.std.proofs.Common.{◌≡◌, take}
use Rattle.cy_planner_rewriting.specs.internal.KeyPairs.{paired_columns}
use Rattle.cy_planner_rewriting.proofs.narrowing.joints.paired_columns.Given as goal

abbrev pub invariant-loop-column : goal.invariant-loop-column
invariant-loop-column l = l.columns.items ≡ paired_columns l.keys l.width l.fn.left.items (take l.column-index l.right)
