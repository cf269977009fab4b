-- The layers so far, and those of the look-ups that are left.
use Rattle.std.proofs.Common.{◌≡◌, ◌++◌, map, reverse, vec_len}
use Rattle.cy_planner_rewriting.specs.internal.Layers.{lookup_layer}
use Rattle.cy_planner_rewriting.proofs.layers.settle.Given as goal

abbrev pub invariant-loop-lookup : goal.invariant-loop-lookup
invariant-loop-lookup l = l.layers.items ++ map lookup_layer (reverse l.pending.items) ≡ l.fn.layers.items ++ map lookup_layer l.fn.pending.items

abbrev pub decreases-loop-lookup : goal.decreases-loop-lookup
decreases-loop-lookup l = vec_len l.pending
