-- The numbers of the faults (own).
use Rattle.std.specs.Prelude.{ℕ}
use Rattle.cy_planner.specs.declared.faults.PlanFault.{PlanFault}
use Rattle.cy_planner.specs.declared.faults.PlanFault.TheVariants.{PlanTooLarge, NoMemory}

abbrev pub code_of : PlanFault → ℕ
code_of PlanTooLarge = 67
code_of NoMemory = 90
