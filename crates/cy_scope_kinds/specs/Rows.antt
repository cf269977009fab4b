-- Rows that fit a scope: a cell for each of its variables, null or of the variable's kind (own).
use Rattle.std.specs.Prelude.{Bool, true, false, not, ◌&&◌, List, [], ◌∷◌}
use Rattle.cy_values.specs.declared.scalars.Value.{Value}
use Rattle.cy_values.specs.declared.scalars.Value.TheVariants as value
use Rattle.cy_values.specs.declared.rows.Cell.{Cell}
use Rattle.cy_values.specs.declared.rows.Cell.TheVariants as cell
use Rattle.cy_scope_kinds.specs.declared.kinds.Kind.{Kind}
use Rattle.cy_scope_kinds.specs.Kinds.{is_value, is_flag, is_node, is_relationship, is_relationships}
use Rattle.cy_scope_kinds.specs.Scopes.{Scope}

-- null is of each kind, a boolean is a flag and a value, and another value is no flag
abbrev pub is_value_of : Kind → Value → Bool
is_value_of k value.Null = true
is_value_of k (value.Bool b) = is_value k
is_value_of k (value.Int n) = is_value k && not (is_flag k)
is_value_of k (value.Text t) = is_value k && not (is_flag k)
is_value_of k (value.List vs) = is_value k && not (is_flag k)

abbrev pub is_cell_of : Kind → Cell → Bool
is_cell_of k (cell.Node n) = is_node k
is_cell_of k (cell.Rel r) = is_relationship k
is_cell_of k (cell.Rels rs) = is_relationships k
is_cell_of k (cell.Value v) = is_value_of k v

abbrev pub row_fits : Scope → List Cell → Bool
row_fits [] [] = true
row_fits [] (c ∷ row) = false
row_fits (v ∷ scope) [] = false
row_fits (v ∷ scope) (c ∷ row) = is_cell_of v.1 c && row_fits scope row
