use Rattle.cy_updates_meaning.proofs.Bags.{same_clauses, same_update}
use Rattle.cy_updates_meaning.proofs.laws.statements_on_bags.Goals as goal

pub returns-clause-updates : goal.returns-clause-updates
returns-clause-updates c = λ graph clause rows others same. same_update c.row_order_laws.ensures.total graph clause rows others same

pub returns-clause-clauses : goal.returns-clause-clauses
returns-clause-clauses c = λ clauses one other same. same_clauses c.row_order_laws.ensures.total c.clauses_on_bags.ensures.bags clauses one other same
