use Rattle.std.proofs.Common.{◌≤◌, [], ◌∷◌, length, arith}
use Rattle.cy_planner_algebra.specs.PlanModels.{plan_of}
use Rattle.cy_network_sources.proofs.NeededLabels.{needed_by_last, without_label}
use Rattle.cy_network_sources.proofs.ThroughScans.{if_some_then}
use Rattle.cy_network_sources.proofs.needs.needed_label.Goals as goal

pub returns : goal.returns
returns c =
    let some : 3 ≤ length c.args.parts.now = omega arith in
    if_some_then _ _ c.label_tested.result
    (λ label tests. needed_by_last c.args.parts.now some label.now c.index-parts-count.result c.index-parts-count-2.result c.index-parts-count-3.result c.index-parts-count.is c.index-parts-count-2.is c.index-parts-count-3.is
    (without_label label.now (plan_of c.index-parts-count.result.now ∷ plan_of c.index-parts-count-2.result.now ∷ plan_of c.index-parts-count-3.result.now ∷ []) tests))
    c.label_tested.ensures
