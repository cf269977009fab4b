-- This many clauses are looked at.
use Rattle.cy_oneshot.proofs.needed.+needed_ahead.Given as goal

abbrev pub decreases-needed_ahead : goal.decreases-needed_ahead
decreases-needed_ahead l = l.ahead
