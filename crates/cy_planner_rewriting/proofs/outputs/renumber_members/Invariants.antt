-- The members so far.
use Rattle.std.proofs.Common.{◌≡◌, map, take}
use Rattle.cy_planner_rows.specs.Renumbered.{new_column}
use Rattle.cy_planner_rewriting.proofs.outputs.renumber_members.Given as goal

abbrev pub invariant-loop-member : goal.invariant-loop-member
invariant-loop-member l = l.made.items ≡ map (new_column l.columns) (take l.member-index l.members)
