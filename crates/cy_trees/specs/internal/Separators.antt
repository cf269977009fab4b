-- What stands between the parts of a list that is written.
use Rattle.std.specs.Prelude.{true, false, List, [], ◌∷◌}
use Rattle.cy_lexer.specs.declared.symbols.Symbol.TheVariants as symbol
use Rattle.cy_trees.specs.declared.writing.Separator.{Separator}
use Rattle.cy_trees.specs.declared.writing.Separator.TheVariants as separator
use Rattle.cy_trees.specs.Show.{Piece, space, mark, comma, and_pieces, union_pieces}

abbrev pub separator_pieces : Separator → List Piece
separator_pieces separator.Nothing = []
separator_pieces separator.Bar = mark symbol.Bar ∷ []
separator_pieces separator.Comma = comma
separator_pieces separator.Space = space ∷ []
separator_pieces separator.And = and_pieces
separator_pieces separator.Union = union_pieces false
separator_pieces separator.UnionAll = union_pieces true
