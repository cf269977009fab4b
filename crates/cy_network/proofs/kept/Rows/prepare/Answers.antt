use Rattle.std.proofs.lemmas.Result.{IfOk-weaker}
use Rattle.cy_network.proofs.kept.Rows.prepare.Goals as goal

pub returns-in-Table-clause-leaves : goal.returns-in-Table-clause-leaves
returns-in-Table-clause-leaves c = IfOk-weaker c.prepared.result _ _ (λ made leaves there. leaves) c.prepared.ensures.leaves
