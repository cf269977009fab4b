use Rattle.std.proofs.Common.{◌≤◌, length, arith}
use Rattle.cy_network_sources.proofs.NeededLabels.{all_left, left_by_last}
use Rattle.cy_network_sources.proofs.needs.parts_left.Goals as goal

pub returns-then-count-lt4-clause-same : goal.returns-then-count-lt4-clause-same
returns-then-count-lt4-clause-same c = all_left c.args.node.now c.args.parts.now _ (omega arith)

pub returns-then-leave_node-clause-same : goal.returns-then-leave_node-clause-same
returns-then-leave_node-clause-same c =
    let four : 4 ≤ length c.args.parts.now = omega arith in
    left_by_last c.args.parts.now (omega (arith, four)) c.args.node.now c.index-parts-count.result c.index-parts-count-2.result c.index-parts-count-3.result c.index-parts-count-4.result four
    c.index-parts-count.is c.index-parts-count-2.is c.index-parts-count-3.is c.index-parts-count-4.is (c.leave_node.ensures c.if-leave_node.true)

pub returns-clause-same : goal.returns-clause-same
returns-clause-same c = all_left c.args.node.now c.args.parts.now _ (omega arith)
