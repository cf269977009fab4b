use Rattle.cy_planner.proofs.Sums.{closed_form}
use Rattle.cy_planner.proofs.weight.sum_between.Goals as goal

pub returns-clause-sum : goal.returns-clause-sum
returns-clause-sum c = rw (c.from-least.ensures, c.from-most.ensures) (closed_form c.args.least c.args.most c.if-most-least.false)
