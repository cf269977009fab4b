use Rattle.std.proofs.Common.{◌≡◌, drop, map}
use Rattle.cy_oneshot_patterns.specs.Outcomes.{together, gathered}
use Rattle.cy_oneshot_meaning.specs.Projection.{key_cell}
use Rattle.cy_oneshot_meaning.specs.internal.Seen.{projected_of}
use Rattle.cy_oneshot_projections.specs.SortKeys.{sort_key_of}
use Rattle.cy_oneshot_projections.proofs.projection.keyed_row.Given as goal

-- the cells so far, and those of the keys that are left
abbrev pub invariant-loop-key : goal.invariant-loop-key
invariant-loop-key l =
    together l.cells (gathered (map (λ k. key_cell l.store.graph.now.content (projected_of l.width l.fn.seen) k.0 k.1.expression) (map sort_key_of (drop l.key-index l.keys))))
    ≡ gathered (map (λ k. key_cell l.store.graph.now.content (projected_of l.width l.fn.seen) k.0 k.1.expression) (map sort_key_of l.keys))
