use Rattle.cy_expr.proofs.KindLemmas.{kind-holds}
use Rattle.cy_expr.proofs.laws.kinds.Goals as goal

pub returns : goal.returns
returns c = λ graph scope row e fit. kind-holds graph scope row fit e
