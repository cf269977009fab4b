use Rattle.cy_planner_rows.proofs.LoweredLemmas.{same}
use Rattle.cy_planner_rows.proofs.lowering.lowering_keeps_values.Goals as goal

pub returns : goal.returns
returns c = λ place graph row wide e stored readable. same place graph row wide stored e readable
