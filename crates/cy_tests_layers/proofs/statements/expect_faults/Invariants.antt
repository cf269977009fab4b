use Rattle.std.proofs.Common.{IsNone}
use Rattle.cy_tests_layers.proofs.statements.expect_faults.Given as goal

-- no change is open between statements
abbrev pub invariant-loop-case : goal.invariant-loop-case
invariant-loop-case g l = IsNone l.store.graph.was
