use Rattle.std.proofs.Common.{◌+◌, drop, map, ap}
use Rattle.cy_trees.specs.TreeModels.{expression_of, item_of}
use Rattle.cy_oneshot_projections.proofs.GroupAnswers.{arguments_more}
use Rattle.cy_oneshot_patterns.proofs.SliceReads.{next_of}
use Rattle.cy_oneshot_projections.proofs.groups.arguments.Goals as goal

pub loop-item-preserved : goal.loop-item-preserved
loop-item-preserved c =
    let all = c.args.items.now in
    let i = c.loop-item.item-index in
    let item = c.item-item.result in
    arguments_more (map (λ e. expression_of e.now) c.loop-item.found.items) _ _ (item_of item) (map item_of (drop (i + 1) all)) (map item_of (drop i all))
    (ap (map item_of) (next_of all i item c.loop-item-test.true c.item-item.is)) c.in_ok-add_argument.ensures c.loop-item.invariant
