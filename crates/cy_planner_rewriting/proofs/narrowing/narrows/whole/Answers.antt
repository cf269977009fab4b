use Rattle.std.proofs.Common.{ap, ◌∙◌}
use Rattle.std.specs.List.{range_with_len}
use Rattle.cy_planner_algebra.specs.PlanModels.{plan_of}
use Rattle.cy_planner_rewriting.proofs.NarrowColumns.{whole_columns}
use Rattle.cy_planner_rewriting.proofs.narrowing.narrows.whole.Goals as goal

pub returns : goal.returns
returns c = whole_columns (plan_of c.args.plan) c.in_ok-columns.columns.items c.width.ensures.well_formed (c.in_ok-columns.ensures ∙ ap (range_with_len 0) c.width.ensures.width)
