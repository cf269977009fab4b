-- What is done, and what the others are to become.
use Rattle.std.proofs.Common.{◌≡◌, map}
use Rattle.cy_scope.specs.Resolved as spec
use Rattle.cy_scope_kinds.proofs.ResolvedLemmas.{mixed}
use Rattle.cy_scope.proofs.clause_columns.resolve_variables.Given as goal

abbrev pub invariant-loop-variable : goal.invariant-loop-variable
invariant-loop-variable l =
    mixed (λ v. v) (spec.resolved_variable l.scope) l.variable-index l.variables ≡ map (spec.resolved_variable l.scope) (map (λ v. v) l.initial.variables)
