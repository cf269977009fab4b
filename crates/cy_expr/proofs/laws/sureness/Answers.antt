use Rattle.cy_expr.proofs.SureLemmas.{sure-ok}
use Rattle.cy_expr.proofs.laws.sureness.Goals as goal

pub returns : goal.returns
returns c = λ graph scope row e fit checked sure. sure-ok graph scope row fit e checked sure
