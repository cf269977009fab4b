-- Conditions in place of others. (own)
use Rattle.std.specs.Prelude.{◌≡◌, ℕ, List, Option, None, Some, Result, Ok, Err}
use Rattle.cy_values.specs.declared.rows.Cell.{Cell}
use Rattle.cy_values.specs.declared.truth.Truth.{Truth}
use Rattle.cy_trees.specs.Trees.{Expression}
use Rattle.cy_scope_kinds.specs.Kinded.{IsKinded}
use Rattle.cy_scope_kinds.specs.Scopes.{Scope}
use Rattle.cy_expr.specs.declared.faults.EvalFault.{EvalFault}
use Rattle.cy_expr.specs.Evaluation.{cell_of}
use Rattle.cy_expr.specs.Faults.{on_one}
use Rattle.cy_expr.specs.Logic.{truth_of}
use Rattle.cy_expr.specs.Lookups.{Lookups}
use Rattle.cy_expr.specs.Operators.{value_in_cell}
use Rattle.cy_expr.specs.Reading.{reads_below, reads_columns}

-- the truth, if there is no fault
abbrev pub if_ok : Result Truth EvalFault → Option Truth
if_ok (Ok t) = Some t
if_ok (Err fault) = None

-- the truth of a condition on a row, if it has no fault
abbrev pub truth_on : Lookups → List Cell → Expression → Option Truth
truth_on graph row test = if_ok (on_one truth_of (on_one value_in_cell (cell_of graph row test)))

-- A condition that has on each row the truth that another one has, or a fault where that has one, and reads what that reads.
pub record IsAlike (test other : Expression) : Type 0 where
  pub truth : (graph : Lookups) (row : List Cell) → truth_on graph row other ≡ truth_on graph row test
  pub columns : reads_columns other ≡ reads_columns test
  pub below : (count : ℕ) → reads_below count other ≡ reads_below count test
  pub kinded : (scope : Scope) → IsKinded scope test → IsKinded scope other
