-- What is left of both settles the answer.
use Rattle.std.proofs.Common.{◌≡◌, drop}
use Rattle.cy_scope_kinds.specs.Scopes as spec
use Rattle.cy_scope_kinds.specs.internal.Maps.{variables_of}
use Rattle.cy_scope_kinds.proofs.scopes.have_same_names.Given as goal

abbrev pub invariant-loop-name : goal.invariant-loop-name
invariant-loop-name l =
    spec.has_same_names (variables_of (drop l.name-index l.variables)) (variables_of l.left.rest.now) ≡ spec.has_same_names (variables_of l.variables) (variables_of l.others)
