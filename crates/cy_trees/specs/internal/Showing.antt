-- What stands between the brackets around an operator or a CASE.
use Rattle.std.specs.Prelude.{List, [], ◌∷◌, ◌++◌}
use Rattle.cy_lexer.specs.declared.keywords.Keyword.TheVariants as keyword
use Rattle.cy_lexer.specs.declared.symbols.Symbol.TheVariants as symbol
use Rattle.cy_trees.specs.Trees.{Expression, property, has_labels, unary, binary, comparison, case}
use Rattle.cy_trees.specs.Show.{Piece, space, says, mark, named, owner_pieces, is_literal_or_list, expression_pieces, label_pieces, unary_pieces, binary_pieces, links_pieces, arms_pieces, otherwise_pieces}

abbrev pub inside_pieces : Expression → List Piece
inside_pieces (property e key) = owner_pieces (is_literal_or_list e) (expression_pieces e) ++ mark symbol.Dot ∷ named key ∷ []
inside_pieces (has_labels e labels) = owner_pieces (is_literal_or_list e) (expression_pieces e) ++ label_pieces labels
inside_pieces (unary operator e) = unary_pieces operator (expression_pieces e)
inside_pieces (binary operator a b) = expression_pieces a ++ space ∷ (binary_pieces operator ++ space ∷ expression_pieces b)
inside_pieces (comparison e links) = expression_pieces e ++ links_pieces links
inside_pieces (case arms e) = says keyword.Case ∷ (arms_pieces arms ++ (otherwise_pieces e ++ space ∷ says keyword.End ∷ []))
inside_pieces _ = []
