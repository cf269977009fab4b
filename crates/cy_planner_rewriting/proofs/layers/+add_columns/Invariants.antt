-- Over fewer conditions and tests each time.
use Rattle.cy_planner_rewriting.proofs.layers.+add_columns.Given as goal

abbrev pub decreases-add_columns : goal.decreases-add_columns
decreases-add_columns l = l.most
