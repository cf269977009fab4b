-- The keys so far.
use Rattle.std.proofs.Common.{◌≡◌, map, take}
use Rattle.cy_planner_rewriting.specs.internal.KeyPairs.{renumbered_key}
use Rattle.cy_planner_rewriting.proofs.narrowing.joints.renumber_keys.Given as goal

abbrev pub invariant-loop-key : goal.invariant-loop-key
invariant-loop-key l = l.made.items ≡ map (renumbered_key l.left l.right) (take l.key-index l.keys)
