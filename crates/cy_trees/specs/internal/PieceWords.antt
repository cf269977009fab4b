-- The words of what is written.
use Rattle.std.specs.Prelude.{List, [], ◌∷◌}
use Rattle.cy_lexer.specs.Words.{Word}
use Rattle.cy_trees.specs.Show.{Piece, word, space}

-- the words of pieces
abbrev pub words_of : List Piece → List Word
words_of [] = []
words_of (word w ∷ ps) = w ∷ words_of ps
words_of (space ∷ ps) = words_of ps
