-- The columns that are left settle the number.
use Rattle.std.proofs.Common.{◌≡◌, drop}
use Rattle.cy_planner_tables.specs.OwnPatterns as spec
use Rattle.cy_planner_optional.proofs.own_columns.position.Given as goal

abbrev pub invariant-loop-other : goal.invariant-loop-other
invariant-loop-other l =
    record {
      so_far : l.number ≡ l.other-index;
      left : spec.position l.number (drop l.other-index l.columns) l.column ≡ spec.position 0 l.columns l.column;
    }
