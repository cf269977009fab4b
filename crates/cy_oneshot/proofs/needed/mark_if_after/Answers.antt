use Rattle.std.proofs.Common.{arith}
use Rattle.cy_oneshot.proofs.Marked.{still_nothing}
use Rattle.cy_oneshot.proofs.needed.mark_if_after.Goals as goal

pub returns-then-column-count-clause-read : goal.returns-then-column-count-clause-read
returns-then-column-count-clause-read c = λ past. absurd (omega (arith, past, c.if-column-count.true))

pub returns-then-column-count-clause-still : goal.returns-then-column-count-clause-still
returns-then-column-count-clause-still c = still_nothing c.args.needed.now.items

pub returns-clause-read : goal.returns-clause-read
returns-clause-read c = λ past. c.mark_one.ensures.marked
