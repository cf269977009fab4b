use Rattle.std.proofs.Common.{◌+◌, ◌≤◌, List, length, sym, subst}
use Rattle.cy_planner_algebra.specs.Plans.{width}
use Rattle.cy_planner_algebra.specs.PlanModels.{plan_of}
use Rattle.cy_planner_algebra.specs.WellFormed.{greatest_width}
use Rattle.cy_planner_rows.specs.declared.places.Wanted.{Wanted}
use Rattle.cy_planner_rows.specs.internal.Lookups.{over}
use Rattle.cy_planner_rows.proofs.OverRows.{width_bounded, width_over}
use Rattle.cy_planner_rewriting.proofs.splits.leaf.Goals as goal

pub with_lookups-requires-clause-room : goal.with_lookups-requires-clause-room
with_lookups-requires-clause-room c =
    let ws : List Wanted = c.args.lookups.items in
    subst (λ (l : List Wanted). width (plan_of c.args.base) + length l ≤ greatest_width) (sym c.as_slice.ensures.value)
    (subst (λ n. n ≤ greatest_width) (width_over (plan_of c.args.base) ws) (width_bounded (over (plan_of c.args.base) ws) c.requires.good))
