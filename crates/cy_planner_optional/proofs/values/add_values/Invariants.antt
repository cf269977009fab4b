-- The values so far, and those that are left.
use Rattle.std.proofs.Common.{◌≡◌, ◌++◌, drop, filter, map, not}
use Rattle.cy_trees.specs.TreeModels.{entry_of, expression_of}
use Rattle.cy_planner_tables.specs.OwnPatterns.{is_literal_entry}
use Rattle.cy_planner_optional.specs.Columns.{values_of}
use Rattle.cy_planner_optional.proofs.values.add_values.Given as goal

abbrev pub invariant-loop-entry : goal.invariant-loop-entry
invariant-loop-entry l =
    map (λ e. expression_of e.now) l.values.items ++ values_of (filter (λ e. not (is_literal_entry e)) (map entry_of (drop l.entry-index l.entries)))
    ≡ map (λ e. expression_of e.now) l.initial.values.items ++ values_of (filter (λ e. not (is_literal_entry e)) (map entry_of l.entries))
