-- The canonical order of cells and rows: nodes, relationships, lists of relationships, lists, texts, booleans, integers, null.
-- (own)
use Rattle.std.specs.Prelude.{ℕ, List}
use Rattle.std.specs.declared.cmp.Ordering.{Ordering}
use Rattle.std.specs.declared.cmp.Ordering.TheVariants.{Equal}
use Rattle.std.specs.Ordering.{nat_cmp, int_cmp, bool_cmp, ordering_then}
use Rattle.std.specs.Cmp.Lexicographic.{slice_cmp}
use Rattle.cy_values.specs.declared.scalars.Scalar.{Scalar}
use Rattle.cy_values.specs.declared.scalars.Scalar.TheVariants as scalar
use Rattle.cy_values.specs.declared.scalars.Value.{Value}
use Rattle.cy_values.specs.declared.scalars.Value.TheVariants as value
use Rattle.cy_values.specs.declared.rows.Cell.{Cell}
use Rattle.cy_values.specs.declared.rows.Cell.TheVariants as cell

-- where the kind of a scalar stands in the order
abbrev pub scalar_kind : Scalar → ℕ
scalar_kind (scalar.Text t) = 4
scalar_kind (scalar.Bool b) = 5
scalar_kind (scalar.Int n) = 6
scalar_kind scalar.Null = 7

-- two scalars of one kind: texts by bytes, false before true, integers by value
abbrev pub within_scalars : Scalar → Scalar → Ordering
within_scalars (scalar.Text s) (scalar.Text t) = slice_cmp nat_cmp s t
within_scalars (scalar.Bool a) (scalar.Bool b) = bool_cmp a b
within_scalars (scalar.Int m) (scalar.Int n) = int_cmp m n
within_scalars _ _ = Equal

abbrev pub scalar_order : Scalar → Scalar → Ordering
scalar_order x y = ordering_then (nat_cmp (scalar_kind x) (scalar_kind y)) (within_scalars x y)

abbrev pub value_kind : Value → ℕ
value_kind (value.List xs) = 3
value_kind (value.Text t) = 4
value_kind (value.Bool b) = 5
value_kind (value.Int n) = 6
value_kind value.Null = 7

-- two values of one kind: lists element by element, a prefix first
abbrev pub within_values : Value → Value → Ordering
within_values (value.List xs) (value.List ys) = slice_cmp scalar_order xs ys
within_values (value.Text s) (value.Text t) = slice_cmp nat_cmp s t
within_values (value.Bool a) (value.Bool b) = bool_cmp a b
within_values (value.Int m) (value.Int n) = int_cmp m n
within_values _ _ = Equal

abbrev pub value_order : Value → Value → Ordering
value_order x y = ordering_then (nat_cmp (value_kind x) (value_kind y)) (within_values x y)

abbrev pub cell_kind : Cell → ℕ
cell_kind (cell.Node n) = 0
cell_kind (cell.Rel r) = 1
cell_kind (cell.Rels rs) = 2
cell_kind (cell.Value v) = value_kind v

-- two cells of one kind: nodes and relationships by number
abbrev pub within_cells : Cell → Cell → Ordering
within_cells (cell.Node m) (cell.Node n) = nat_cmp m.0 n.0
within_cells (cell.Rel m) (cell.Rel n) = nat_cmp m.0 n.0
within_cells (cell.Rels ms) (cell.Rels ns) = slice_cmp (λ m n. nat_cmp m.0 n.0) ms ns
within_cells (cell.Value v) (cell.Value w) = within_values v w
within_cells _ _ = Equal

abbrev pub cell_order : Cell → Cell → Ordering
cell_order x y = ordering_then (nat_cmp (cell_kind x) (cell_kind y)) (within_cells x y)

-- rows go cell by cell from the left, a prefix first
abbrev pub row_cmp : List Cell → List Cell → Ordering
row_cmp = slice_cmp cell_order
