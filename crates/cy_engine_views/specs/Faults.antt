-- The numbers of the faults, and what those of the layers below are here (own).
use Rattle.std.specs.Prelude.{ℕ}
use Rattle.cy_network_memory.specs.declared.faults.MemoryFault.{MemoryFault}
use Rattle.cy_network_memory.specs.declared.faults.MemoryFault.TheVariants as memory
use Rattle.cy_planner.specs.declared.faults.PlanFault.{PlanFault}
use Rattle.cy_planner.specs.declared.faults.PlanFault.TheVariants as plan
use Rattle.cy_engine_views.specs.declared.faults.UpkeepFault.{UpkeepFault}
use Rattle.cy_engine_views.specs.declared.faults.UpkeepFault.TheVariants.{PlanTooLarge, TooManyRows, NoMemory}

abbrev pub code_of : UpkeepFault → ℕ
code_of PlanTooLarge = 67
code_of TooManyRows = 69
code_of NoMemory = 90

abbrev pub of_plan : PlanFault → UpkeepFault
of_plan plan.PlanTooLarge = PlanTooLarge
of_plan plan.NoMemory = NoMemory

abbrev pub of_memory : MemoryFault → UpkeepFault
of_memory memory.TooManyRows = TooManyRows
of_memory memory.NoMemory = NoMemory
