-- With another number of arguments than one there is none.
use Rattle.std.proofs.Common.{sym}
use Rattle.cy_oneshot_outcomes.proofs.CertainSteps.{not_one_asked}
use Rattle.cy_oneshot_outcomes.proofs.certain.asked_shape.Goals as goal

pub returns-then-arguments-ne1 : goal.returns-then-arguments-ne1
returns-then-arguments-ne1 c = sym (not_one_asked c.args.shapes.now c.args.arguments.now c.if-arguments-ne1.true)
