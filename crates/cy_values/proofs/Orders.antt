-- The derived orders are the canonical ones.
use Rattle.std.proofs.Common.{◌≡◌, refl, subst, List, [], ◌∷◌}
use Rattle.std.specs.Cmp.{IsTotalOrder}
use Rattle.std.specs.declared.cmp.Ordering.{Ordering}
use Rattle.std.specs.Ordering.{ordering_then}
use Rattle.std.specs.Cmp.Lexicographic.{slice_cmp}
use Rattle.cy_values.specs.declared.scalars.Scalar.{Scalar}
use Rattle.cy_values.specs.declared.scalars.Scalar.TheVariants as scalar
use Rattle.cy_values.specs.declared.scalars.Value.{Value}
use Rattle.cy_values.specs.declared.scalars.Value.TheVariants as value
use Rattle.cy_values.specs.declared.rows.Cell.{Cell}
use Rattle.cy_values.specs.declared.rows.Cell.TheVariants as cell
use Rattle.cy_values.specs.Order.{scalar_order, value_order, cell_order, row_cmp}
use Rattle.cy_values.specs.contracts.scalars.ScalarOrd.TheImpl as scalar_impl
use Rattle.cy_values.specs.contracts.scalars.ValueOrd.TheImpl as value_impl
use Rattle.cy_values.specs.contracts.rows.CellOrd.TheImpl as cell_impl

-- lists are compared alike where their elements are
pub slice_cmp-alike : {A : Type 0} (R S : A → A → Ordering) → ((x y : A) → R x y ≡ S x y) → (xs ys : List A) → slice_cmp R xs ys ≡ slice_cmp S xs ys
slice_cmp-alike R S alike [] [] = refl
slice_cmp-alike R S alike [] (y ∷ ys) = refl
slice_cmp-alike R S alike (x ∷ xs) [] = refl
slice_cmp-alike R S alike (x ∷ xs) (y ∷ ys) = λ i. ordering_then (alike x y i) (slice_cmp-alike R S alike xs ys i)

pub scalars_alike : (x y : Scalar) → (scalar_impl.cmp-value).it x y ≡ scalar_order x y
scalars_alike (scalar.Text s) (scalar.Text t) = refl
scalars_alike (scalar.Bool a) (scalar.Bool b) = refl
scalars_alike (scalar.Int m) (scalar.Int n) = refl
scalars_alike (scalar.Text _) _ = refl
scalars_alike (scalar.Bool _) _ = refl
scalars_alike (scalar.Int _) _ = refl
scalars_alike scalar.Null (scalar.Text _) = refl
scalars_alike scalar.Null (scalar.Bool _) = refl
scalars_alike scalar.Null (scalar.Int _) = refl
scalars_alike scalar.Null scalar.Null = refl

pub values_alike : (x y : Value) → (value_impl.cmp-value).it x y ≡ value_order x y
values_alike (value.List xs) (value.List ys) = slice_cmp-alike _ _ scalars_alike xs ys
values_alike (value.Text s) (value.Text t) = refl
values_alike (value.Bool a) (value.Bool b) = refl
values_alike (value.Int m) (value.Int n) = refl
values_alike (value.List _) _ = refl
values_alike value.Null (value.List _) = refl
values_alike value.Null (value.Text _) = refl
values_alike value.Null (value.Bool _) = refl
values_alike value.Null (value.Int _) = refl
values_alike value.Null value.Null = refl
values_alike _ _ = refl

pub cells_alike : (x y : Cell) → (cell_impl.cmp-value).it x y ≡ cell_order x y
cells_alike (cell.Node m) (cell.Node n) = refl
cells_alike (cell.Rel m) (cell.Rel n) = refl
cells_alike (cell.Rels ms) (cell.Rels ns) = refl
cells_alike (cell.Value v) (cell.Value w) = values_alike v w
cells_alike (cell.Node _) (cell.Value (value.List _)) = refl
cells_alike (cell.Node _) (cell.Value (value.Text _)) = refl
cells_alike (cell.Node _) (cell.Value (value.Bool _)) = refl
cells_alike (cell.Node _) (cell.Value (value.Int _)) = refl
cells_alike (cell.Node _) (cell.Value value.Null) = refl
cells_alike (cell.Rel _) (cell.Value (value.List _)) = refl
cells_alike (cell.Rel _) (cell.Value (value.Text _)) = refl
cells_alike (cell.Rel _) (cell.Value (value.Bool _)) = refl
cells_alike (cell.Rel _) (cell.Value (value.Int _)) = refl
cells_alike (cell.Rel _) (cell.Value value.Null) = refl
cells_alike (cell.Rels _) (cell.Value (value.List _)) = refl
cells_alike (cell.Rels _) (cell.Value (value.Text _)) = refl
cells_alike (cell.Rels _) (cell.Value (value.Bool _)) = refl
cells_alike (cell.Rels _) (cell.Value (value.Int _)) = refl
cells_alike (cell.Rels _) (cell.Value value.Null) = refl
cells_alike (cell.Value (value.List _)) _ = refl
cells_alike (cell.Value (value.Text _)) _ = refl
cells_alike (cell.Value (value.Bool _)) _ = refl
cells_alike (cell.Value (value.Int _)) _ = refl
cells_alike (cell.Value value.Null) _ = refl
cells_alike _ _ = refl

pub rows_alike : (xs ys : List Cell) → slice_cmp (cell_impl.cmp-value).it xs ys ≡ row_cmp xs ys
rows_alike xs ys = slice_cmp-alike _ _ cells_alike xs ys

-- so they have the laws of a derived order
pub rows_total : IsTotalOrder (slice_cmp (cell_impl.cmp-value).it) → IsTotalOrder row_cmp
rows_total total = subst IsTotalOrder (λ i xs ys. rows_alike xs ys i) total
