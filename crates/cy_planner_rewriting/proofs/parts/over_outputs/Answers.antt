use Rattle.cy_planner_rewriting.proofs.parts.over_outputs.Goals as goal

pub over_projection-requires : goal.over_projection-requires
over_projection-requires c = rw c.in-Some.is at c.requires
