-- A row that fits a scope, column by column.
use Rattle.std.proofs.Common.{zero, suc, ◌≡◌, ℕ, List, [], ◌∷◌, Some, refl, sym, ap, ◌∙◌}
use Rattle.std.specs.Prelude.{slice_get, IsTrue}
use Rattle.std.proofs.lemmas.Option.{none-some, same_Some}
use Rattle.std.proofs.lemmas.Bool.{and_parts}
use Rattle.cy_trees.specs.Trees.{Name}
use Rattle.cy_values.specs.declared.rows.Cell.{Cell}
use Rattle.cy_scope_kinds.specs.declared.kinds.Kind.{Kind}
use Rattle.cy_scope_kinds.specs.Scopes.{Scope}
use Rattle.cy_scope_kinds.specs.Rows.{row_fits, is_cell_of}

pub column-fits : (scope : Scope) (row : List Cell) (column : ℕ) (name : Name) (k : Kind) → IsTrue (row_fits scope row) → slice_get scope column ≡ Some (name, k)
    → (c : Cell) × (slice_get row column ≡ Some c) × IsTrue (is_cell_of k c)
column-fits [] row column name k fits is = absurd (none-some (name, k) is)
column-fits (v ∷ scope) [] column name k fits is = cc
column-fits (v ∷ scope) (c ∷ row) zero name k fits is =
    (c, refl, ap (λ (w : Name × Kind). is_cell_of w.1 c) (sym (same_Some v (name, k) is)) ∙ (and_parts (is_cell_of v.1 c) (row_fits scope row) fits).0)
column-fits (v ∷ scope) (c ∷ row) (suc column) name k fits is = column-fits scope row column name k (and_parts (is_cell_of v.1 c) (row_fits scope row) fits).1 is
