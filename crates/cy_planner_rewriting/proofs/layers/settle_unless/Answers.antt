use Rattle.cy_planner_rewriting.proofs.Stacking.{both_ok, settled_stack}
use Rattle.cy_planner_rewriting.proofs.layers.settle_unless.Goals as goal

pub returns-else-joins : goal.returns-else-joins
returns-else-joins c =
    both_ok c.settle.result
    (λ layers pending p. settled_stack c.args.layers.now.items c.settle.new.layers.items c.args.pending.now.items c.settle.new.pending.items p layers pending) c.settle.ensures.layers c.settle.ensures.pending
