-- The conditions so far with those of the columns that are left.
use Rattle.std.proofs.Common.{◌≡◌, drop, map}
use Rattle.std.specs.Prelude.{None, option_map}
use Rattle.cy_trees.specs.TreeModels.{expression_of}
use Rattle.cy_planner_rows.specs.Conditions.{with_tests}
use Rattle.cy_planner_optional.specs.internal.Told.{is_not_null_at}
use Rattle.cy_planner_optional.proofs.paths.telling_values.all_there.Given as goal

abbrev pub invariant-loop-column : goal.invariant-loop-column
invariant-loop-column l = with_tests (option_map expression_of l.tests) (map is_not_null_at (drop l.column-index l.columns)) ≡ with_tests None (map is_not_null_at l.columns)
