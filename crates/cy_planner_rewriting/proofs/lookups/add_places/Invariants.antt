-- The places so far, and those of what is left.
use Rattle.std.proofs.Common.{◌≡◌, ◌+◌, ◌≤◌, ◌++◌, drop}
use Rattle.cy_planner_rewriting.specs.internal.Lowered.{places}
use Rattle.cy_planner_rewriting.proofs.lookups.add_places.Given as goal

abbrev pub invariant-loop-lookup : goal.invariant-loop-lookup
invariant-loop-lookup l = record {
  made : l.columns.items ++ places l.width l.left l.right (drop l.lookup-index l.lookups) ≡ l.initial.columns.items ++ places l.width l.fn.left l.fn.right l.lookups;
  left : l.left ≤ l.fn.left + l.lookup-index;
  right : l.right ≤ l.fn.right + l.lookup-index;
}
