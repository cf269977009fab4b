-- The derived orders of cells and rows are the canonical ones, and tell cells and rows from one another.
use Rattle.std.proofs.Common.{◌≡◌, true, List, ap, sym, ◌∙◌}
use Rattle.std.specs.declared.cmp.Ordering.{Ordering}
use Rattle.std.specs.Ordering.{eq_by_cmp, is_eq}
use Rattle.cy_values.specs.declared.rows.Cell.{Cell}
use Rattle.cy_values.specs.Order.{cell_order, row_cmp}
use Rattle.cy_oneshot_meaning.proofs.BagLemmas.{identity, same_cell}

pub same_orders : {A : Type 0} (R S : A → A → Ordering) → ((x y : A) → R x y ≡ S x y) → R ≡ S
same_orders R S alike = λ i x y. alike x y i

pub tied_cells : (R : Cell → Cell → Ordering) → ((x y : Cell) → R x y ≡ cell_order x y) → (x y : Cell) → eq_by_cmp R x y ≡ true → x ≡ y
tied_cells R alike x y h = same_cell x y (ap is_eq (sym (alike x y)) ∙ h)

pub tied_rows : (R : List Cell → List Cell → Ordering) → ((x y : List Cell) → R x y ≡ row_cmp x y) → (x y : List Cell) → eq_by_cmp R x y ≡ true → x ≡ y
tied_rows R alike x y h = identity x y (ap is_eq (sym (alike x y)) ∙ h)
