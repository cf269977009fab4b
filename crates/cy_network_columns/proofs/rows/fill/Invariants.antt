use Rattle.cy_network_columns.specs.internal.Columns.{FilledTo}
use Rattle.cy_network_columns.proofs.rows.fill.Given as goal

-- the cells so far were added
abbrev pub invariant-loop-place : goal.invariant-loop-place
invariant-loop-place l = FilledTo l.place l.cells l.initial.columns l.columns
