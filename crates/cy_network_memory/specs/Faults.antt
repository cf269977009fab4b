-- The numbers of faults (own).
use Rattle.std.specs.Prelude.{ℕ}
use Rattle.cy_network_memory.specs.declared.faults.MemoryFault.{MemoryFault}
use Rattle.cy_network_memory.specs.declared.faults.MemoryFault.TheVariants.{TooManyRows, NoMemory}

abbrev pub code_of : MemoryFault → ℕ
code_of TooManyRows = 69
code_of NoMemory = 90
