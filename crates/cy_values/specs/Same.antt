-- Cells and rows that are the same. (own)
use Rattle.std.specs.Prelude.{Bool, List}
use Rattle.std.specs.Ordering.{eq_by_cmp}
use Rattle.cy_values.specs.declared.rows.Cell.{Cell}
use Rattle.cy_values.specs.Order.{cell_order, row_cmp}

-- whether two cells are the same, and whether two rows are
abbrev pub is_cell : Cell → Cell → Bool
is_cell = eq_by_cmp cell_order

abbrev pub is_row : List Cell → List Cell → Bool
is_row = eq_by_cmp row_cmp
