-- The numbers of faults (own).
use Rattle.std.specs.Prelude.{ℕ}
use Rattle.cy_graph.specs.declared.faults.GraphFault.{GraphFault}
use Rattle.cy_graph.specs.declared.faults.GraphFault.TheVariants.{StillConnected, Full, NoMemory}

abbrev pub code_of : GraphFault → ℕ
code_of (StillConnected rel) = 50
code_of Full = 53
code_of NoMemory = 90
