-- Tokens of a line that are those of words, up to the tokens that are left.
use Rattle.std.proofs.Common.{ℕ, IsTrue, List, [], ◌∷◌, ◌++◌}
use Rattle.cy_lexer.specs.declared.tokens.Token.{Token}
use Rattle.cy_lexer.specs.Words.{Word}
use Rattle.cy_lexer.specs.internal.SpacedWords.{IsTokenOf}
use Rattle.cy_parser_grammar.specs.Words.{is_within}

-- what stands from the tokens `ts` up to the tokens `rest` is the tokens of the words
pub data Stands (line : List ℕ) : List Word → List Token → List Token → Type 0 where
  nothing_stands : (ts : List Token) → Stands line [] ts ts
  word_stands : (w : Word) (ws : List Word) (t : Token) (ts rest : List Token) → IsTokenOf line t w → IsTrue (is_within line t)
      → Stands line ws ts rest → Stands line (w ∷ ws) (t ∷ ts) rest

-- the first word's token, and the rest
pub at_word : (line : List ℕ) (P : List Token → Type 0) (w : Word) (ws : List Word) (ts rest : List Token) → Stands line (w ∷ ws) ts rest →
    ((t : Token) (mid : List Token) → IsTokenOf line t w → IsTrue (is_within line t) → Stands line ws mid rest → P (t ∷ mid)) → P ts
at_word line P w ws _ rest (word_stands _ _ t mid _ is within s) f = f t mid is within s

-- no words
pub at_end : (line : List ℕ) (P : List Token → Type 0) (ts rest : List Token) → Stands line [] ts rest → P rest → P ts
at_end line P _ rest (nothing_stands _) p = p

-- words after words
pub split : (line : List ℕ) (ws vs : List Word) (ts rest : List Token) → Stands line (ws ++ vs) ts rest →
    (mid : List Token) × Stands line ws ts mid × Stands line vs mid rest
split line [] vs ts rest s = (ts, nothing_stands ts, s)
split line (w ∷ ws) vs _ rest (word_stands _ _ t us _ is within s) =
    let r = split line ws vs us rest s in
    (r.0, word_stands w ws t us r.0 is within r.1, r.2)
