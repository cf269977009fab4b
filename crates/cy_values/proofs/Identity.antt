-- Rows that the canonical order calls equal are the same.
use Rattle.std.proofs.Common.{◌≡◌, ℕ, Bool, true, false, refl, ap, List}
use Rattle.std.specs.declared.cmp.Ordering.TheVariants.{Equal}
use Rattle.std.specs.Ordering.{nat_cmp, bool_cmp}
use Rattle.std.specs.FinMap.{slice_cmp-IsAntisymmetric}
use Rattle.std.proofs.lemmas.Map.Lookups.{exact_signed, exact_unsigned, exact_bytes}
use Rattle.cy_values.specs.declared.numbers.NodeId.{NodeId}
use Rattle.cy_values.specs.declared.numbers.RelId.{RelId}
use Rattle.cy_values.specs.declared.scalars.Scalar.{Scalar}
use Rattle.cy_values.specs.declared.scalars.Scalar.TheVariants as scalar
use Rattle.cy_values.specs.declared.scalars.Value.{Value}
use Rattle.cy_values.specs.declared.scalars.Value.TheVariants as value
use Rattle.cy_values.specs.declared.rows.Cell.{Cell}
use Rattle.cy_values.specs.declared.rows.Cell.TheVariants as cell
use Rattle.cy_values.specs.Order.{scalar_order, value_order, cell_order, row_cmp}

same_bools : (a b : Bool) → bool_cmp a b ≡ Equal → a ≡ b
same_bools false false e = refl
same_bools false true e = cc
same_bools true false e = cc
same_bools true true e = refl

same_nodes : (m n : NodeId) → nat_cmp m.0 n.0 ≡ Equal → m ≡ n
same_nodes m n e = ap (λ (k : ℕ). let id : NodeId = record { 0 = k } in id) (exact_unsigned m.0 n.0 e)

same_rels : (m n : RelId) → nat_cmp m.0 n.0 ≡ Equal → m ≡ n
same_rels m n e = ap (λ (k : ℕ). let id : RelId = record { 0 = k } in id) (exact_unsigned m.0 n.0 e)

pub same_scalars : (x y : Scalar) → scalar_order x y ≡ Equal → x ≡ y
same_scalars (scalar.Text s) (scalar.Text t) e = ap scalar.Text (exact_bytes s t e)
same_scalars (scalar.Text _) (scalar.Bool _) e = cc
same_scalars (scalar.Text _) (scalar.Int _) e = cc
same_scalars (scalar.Text _) scalar.Null e = cc
same_scalars (scalar.Bool _) (scalar.Text _) e = cc
same_scalars (scalar.Bool a) (scalar.Bool b) e = ap scalar.Bool (same_bools a b e)
same_scalars (scalar.Bool _) (scalar.Int _) e = cc
same_scalars (scalar.Bool _) scalar.Null e = cc
same_scalars (scalar.Int _) (scalar.Text _) e = cc
same_scalars (scalar.Int _) (scalar.Bool _) e = cc
same_scalars (scalar.Int m) (scalar.Int n) e = ap scalar.Int (exact_signed m n e)
same_scalars (scalar.Int _) scalar.Null e = cc
same_scalars scalar.Null (scalar.Text _) e = cc
same_scalars scalar.Null (scalar.Bool _) e = cc
same_scalars scalar.Null (scalar.Int _) e = cc
same_scalars scalar.Null scalar.Null e = refl

pub same_values : (x y : Value) → value_order x y ≡ Equal → x ≡ y
same_values (value.List xs) (value.List ys) e = ap value.List (slice_cmp-IsAntisymmetric same_scalars xs ys e)
same_values (value.List _) (value.Text _) e = cc
same_values (value.List _) (value.Bool _) e = cc
same_values (value.List _) (value.Int _) e = cc
same_values (value.List _) value.Null e = cc
same_values (value.Text _) (value.List _) e = cc
same_values (value.Text s) (value.Text t) e = ap value.Text (exact_bytes s t e)
same_values (value.Text _) (value.Bool _) e = cc
same_values (value.Text _) (value.Int _) e = cc
same_values (value.Text _) value.Null e = cc
same_values (value.Bool _) (value.List _) e = cc
same_values (value.Bool _) (value.Text _) e = cc
same_values (value.Bool a) (value.Bool b) e = ap value.Bool (same_bools a b e)
same_values (value.Bool _) (value.Int _) e = cc
same_values (value.Bool _) value.Null e = cc
same_values (value.Int _) (value.List _) e = cc
same_values (value.Int _) (value.Text _) e = cc
same_values (value.Int _) (value.Bool _) e = cc
same_values (value.Int m) (value.Int n) e = ap value.Int (exact_signed m n e)
same_values (value.Int _) value.Null e = cc
same_values value.Null (value.List _) e = cc
same_values value.Null (value.Text _) e = cc
same_values value.Null (value.Bool _) e = cc
same_values value.Null (value.Int _) e = cc
same_values value.Null value.Null e = refl

pub same_cells : (x y : Cell) → cell_order x y ≡ Equal → x ≡ y
same_cells (cell.Node m) (cell.Node n) e = ap cell.Node (same_nodes m n e)
same_cells (cell.Node _) (cell.Rel _) e = cc
same_cells (cell.Node _) (cell.Rels _) e = cc
same_cells (cell.Node _) (cell.Value (value.List _)) e = cc
same_cells (cell.Node _) (cell.Value (value.Text _)) e = cc
same_cells (cell.Node _) (cell.Value (value.Bool _)) e = cc
same_cells (cell.Node _) (cell.Value (value.Int _)) e = cc
same_cells (cell.Node _) (cell.Value value.Null) e = cc
same_cells (cell.Rel _) (cell.Node _) e = cc
same_cells (cell.Rel m) (cell.Rel n) e = ap cell.Rel (same_rels m n e)
same_cells (cell.Rel _) (cell.Rels _) e = cc
same_cells (cell.Rel _) (cell.Value (value.List _)) e = cc
same_cells (cell.Rel _) (cell.Value (value.Text _)) e = cc
same_cells (cell.Rel _) (cell.Value (value.Bool _)) e = cc
same_cells (cell.Rel _) (cell.Value (value.Int _)) e = cc
same_cells (cell.Rel _) (cell.Value value.Null) e = cc
same_cells (cell.Rels _) (cell.Node _) e = cc
same_cells (cell.Rels _) (cell.Rel _) e = cc
same_cells (cell.Rels ms) (cell.Rels ns) e = ap cell.Rels (slice_cmp-IsAntisymmetric same_rels ms ns e)
same_cells (cell.Rels _) (cell.Value (value.List _)) e = cc
same_cells (cell.Rels _) (cell.Value (value.Text _)) e = cc
same_cells (cell.Rels _) (cell.Value (value.Bool _)) e = cc
same_cells (cell.Rels _) (cell.Value (value.Int _)) e = cc
same_cells (cell.Rels _) (cell.Value value.Null) e = cc
same_cells (cell.Value (value.List _)) (cell.Node _) e = cc
same_cells (cell.Value (value.List _)) (cell.Rel _) e = cc
same_cells (cell.Value (value.List _)) (cell.Rels _) e = cc
same_cells (cell.Value (value.Text _)) (cell.Node _) e = cc
same_cells (cell.Value (value.Text _)) (cell.Rel _) e = cc
same_cells (cell.Value (value.Text _)) (cell.Rels _) e = cc
same_cells (cell.Value (value.Bool _)) (cell.Node _) e = cc
same_cells (cell.Value (value.Bool _)) (cell.Rel _) e = cc
same_cells (cell.Value (value.Bool _)) (cell.Rels _) e = cc
same_cells (cell.Value (value.Int _)) (cell.Node _) e = cc
same_cells (cell.Value (value.Int _)) (cell.Rel _) e = cc
same_cells (cell.Value (value.Int _)) (cell.Rels _) e = cc
same_cells (cell.Value value.Null) (cell.Node _) e = cc
same_cells (cell.Value value.Null) (cell.Rel _) e = cc
same_cells (cell.Value value.Null) (cell.Rels _) e = cc
same_cells (cell.Value v) (cell.Value w) e = ap cell.Value (same_values v w e)

pub same_rows : (xs ys : List Cell) → row_cmp xs ys ≡ Equal → xs ≡ ys
same_rows = slice_cmp-IsAntisymmetric same_cells
