use Rattle.cy_planner_rows.proofs.RenumberedLemmas.{same_cell}
use Rattle.cy_planner_rows.proofs.renumbering.renumbering_keeps_values.Goals as goal

pub returns : goal.returns
returns c = λ graph row columns e reads. same_cell graph row columns e reads
