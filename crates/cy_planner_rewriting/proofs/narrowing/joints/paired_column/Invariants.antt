-- The keys that are left settle the answer.
use Rattle.std.proofs.Common.{◌≡◌, drop}
use Rattle.cy_planner_rewriting.specs.internal.KeyPairs.{paired_column}
use Rattle.cy_planner_rewriting.proofs.narrowing.joints.paired_column.Given as goal

abbrev pub invariant-loop-key : goal.invariant-loop-key
invariant-loop-key l = paired_column (drop l.key-index l.keys) l.width l.column ≡ paired_column l.keys l.width l.column
