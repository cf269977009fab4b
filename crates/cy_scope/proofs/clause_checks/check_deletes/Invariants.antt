-- What is left settles the fault.
use Rattle.std.proofs.Common.{◌≡◌, drop}
use Rattle.cy_scope.specs.ClauseFaults as spec
use Rattle.cy_scope.proofs.clause_checks.check_deletes.Given as goal

abbrev pub invariant-loop-variable : goal.invariant-loop-variable
invariant-loop-variable l =
    spec.deletes_fault l.scope ((drop l.variable-index l.variables)) ≡ spec.deletes_fault l.scope (l.variables)
