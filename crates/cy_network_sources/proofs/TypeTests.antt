-- The types of relationships.
use Rattle.std.proofs.Common.{◌≡◌, ◌==◌, false, List, [], ◌∷◌, refl, length}
use Rattle.std.specs.List.{list_any}
use Rattle.std.specs.Str.{bytes_eq}
use Rattle.cy_trees.specs.Trees.{Name}
use Rattle.cy_graph.specs.declared.nodes.Rel.{Rel}
use Rattle.cy_expr.specs.Graphs.{has_type}

-- where a type is named, the relationship has to be of one
pub type_test : (types : List Name) (rel : Rel) → (length types == 0) ≡ false → list_any (λ name. bytes_eq name rel.kind) types ≡ has_type types rel
type_test [] rel some = cc some
type_test (t ∷ types) rel some = refl
