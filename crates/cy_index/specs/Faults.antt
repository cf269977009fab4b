-- The numbers of faults (own).
use Rattle.std.specs.Prelude.{ℕ}
use Rattle.cy_index.specs.declared.faults.IndexFault.{IndexFault}
use Rattle.cy_index.specs.declared.faults.IndexFault.TheVariants.{IndexThere, NoMemory}

abbrev pub code_of : IndexFault → ℕ
code_of IndexThere = 71
code_of NoMemory = 90
