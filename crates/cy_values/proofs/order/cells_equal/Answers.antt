use Rattle.std.proofs.Common.{◌≡◌, [], ◌∷◌, sym, ◌∙◌}
use Rattle.cy_values.proofs.SameRows.{one_cell}
use Rattle.cy_values.proofs.order.cells_equal.Goals as goal
use Rattle.cy_values.proofs.Booleans.{and_true}

pub returns : goal.returns
returns c = λ x y. sym (and_true _) ∙ c.rows_equal.ensures (x ∷ []) (y ∷ []) ∙ one_cell x y
