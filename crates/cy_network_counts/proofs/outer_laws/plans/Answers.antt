use Rattle.cy_network_counts.proofs.PlanLemmas.{plan_sure, plan_too_many}
use Rattle.cy_network_counts.proofs.outer_laws.plans.Goals as goal

pub returns-clause-sure : goal.returns-clause-sure
returns-clause-sure c = λ old new left right keys test old_is new_is good sure within. plan_sure left right keys test good sure old new old_is new_is within

pub returns-clause-too_many : goal.returns-clause-too_many
returns-clause-too_many c = λ graph left right keys test good. plan_too_many left right keys test good graph
