-- The columns of the variables so far are marked.
use Rattle.std.proofs.Common.{take}
use Rattle.std.specs.List.{AllByRecursion}
use Rattle.cy_oneshot.specs.Carried.{IsVariableRead}
use Rattle.cy_oneshot.specs.internal.Carried.{StillNeeded}
use Rattle.cy_oneshot.proofs.needed.mark_variables.Given as goal

abbrev pub invariant-loop-variable : goal.invariant-loop-variable
invariant-loop-variable l =
    record {
      read : AllByRecursion (IsVariableRead l.needed.items) (take l.variable-index l.variables);
      still : StillNeeded l.initial.needed.items l.needed.items;
    }
