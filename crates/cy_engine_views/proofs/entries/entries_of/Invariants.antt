use Rattle.std.proofs.Common.{◌≡◌, ◌++◌}
use Rattle.cy_engine_views.specs.Upkeep.{entries_in}
use Rattle.cy_engine_views.proofs.entries.entries_of.Given as goal

-- the entries so far and those of the views that are left are all
abbrev pub invariant-loop-name : goal.invariant-loop-name
invariant-loop-name l = l.entries.items ++ entries_in l.tick l.name-iterator ≡ entries_in l.tick l.registry.entries
