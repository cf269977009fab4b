use Rattle.std.proofs.Common.{◌≡◌, map}
use Rattle.std.specs.Vec.Iter.{into_iter_items}
use Rattle.cy_trees.specs.TreeModels.{expression_of}
use Rattle.cy_oneshot_patterns.specs.Matching.{unwound}
use Rattle.cy_oneshot_patterns.specs.Outcomes.{together, joined}
use Rattle.cy_oneshot_meaning.specs.Reading.{AreInGraph}
use Rattle.cy_oneshot.specs.Carried.{carried}
use Rattle.cy_oneshot.proofs.unwinding.unwound.Given as goal

-- the rows so far, and those that are left
abbrev pub invariant-loop-row : goal.invariant-loop-row
invariant-loop-row l =
    (together l.unwound (carried l.needed (joined (map (unwound l.store.graph.now.content (expression_of l.list)) (into_iter_items l.row-iterator)))) ≡ carried l.needed (joined (map (unwound l.store.graph.now.content (expression_of l.list)) l.fn.rows.items)))
    × AreInGraph l.store.graph.now.content (into_iter_items l.row-iterator)
