use Rattle.std.proofs.Common.{inl, inr}
use Rattle.cy_expr.proofs.ReadingLemmas.{same-row, longer-row}
use Rattle.cy_expr.proofs.laws.reading.Goals as goal

pub returns-clause-entities : goal.returns-clause-entities
returns-clause-entities c = λ one other row e agree. same-row one other row e (inl agree)

pub returns-clause-columns : goal.returns-clause-columns
returns-clause-columns c = λ one other row e unread. same-row one other row e (inr unread)

pub returns-clause-below : goal.returns-clause-below
returns-clause-below c = λ graph row more e below. longer-row graph row more e below
