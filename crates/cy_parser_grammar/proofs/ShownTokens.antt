-- Pieces of a text that is shown, as tokens of a line.
use Rattle.std.proofs.Common.{◌≡◌, ℕ, true, IsTrue, List, [], ◌∷◌, ◌++◌, refl, sym, ap, ◌∙◌, subst, if◌then◌else◌}
use Rattle.std.specs.Prelude.{chars, encode_utf8_all}
use Rattle.cy_lexer.specs.declared.tokens.Token.{Token}
use Rattle.cy_lexer.specs.declared.tokens.TokenKind.TheVariants as kind
use Rattle.cy_lexer.specs.declared.symbols.Symbol.{Symbol}
use Rattle.cy_lexer.specs.declared.symbols.Symbol.TheVariants as sign
use Rattle.cy_lexer.specs.declared.keywords.Keyword.{Keyword}
use Rattle.cy_lexer.specs.Words.{Word}
use Rattle.cy_lexer.specs.Words as words
use Rattle.cy_lexer.specs.Spans.{slice_of}
use Rattle.cy_lexer.specs.Tokens.{denoted}
use Rattle.cy_lexer.specs.internal.SpacedWords.{IsTokenOf, meant}
use Rattle.cy_lexer.specs.internal.SpacedWords as spaced
use Rattle.std.proofs.lemmas.Str.{chars-encodes}
use Rattle.cy_lexer.proofs.WordsLemmas.{denoted-token}
use Rattle.cy_trees.specs.Trees.{Name}
use Rattle.cy_trees.specs.Show.{Piece, word, space, says, mark, named, spelt, bracketed}
use Rattle.cy_trees.specs.internal.PieceWords.{words_of}
use Rattle.cy_parser_grammar.specs.Words.{denotes, is_within, is_word, is_name}
use Rattle.cy_parser_grammar.specs.Spells.{IsKeyword, IsSymbol, IsNumber}
use Rattle.cy_parser_grammar.specs.internal.WellFormed.{IsText, IsNamed}
use Rattle.cy_parser_grammar.proofs.Stands.{Stands, at_word, at_end, split}

words_of-append : (ps qs : List Piece) → words_of (ps ++ qs) ≡ words_of ps ++ words_of qs
words_of-append [] qs = refl
words_of-append (word w ∷ ps) qs = ap (λ ws. w ∷ ws) (words_of-append ps qs)
words_of-append (space ∷ ps) qs = words_of-append ps qs

-- what a name and a text denote
pub denotes_within : (line : List ℕ) (t : Token) → IsTrue (is_within line t) → denotes line t ≡ encode_utf8_all (denoted t.kind (chars (slice_of line t)))
unfolding denotes
denotes_within line t within = ap (λ b. if b then encode_utf8_all (denoted t.kind (chars (slice_of line t))) else []) within

name_denotes : (line : List ℕ) (n : Name) (t : Token) → IsNamed n → IsTokenOf line t (words.name (chars n)) → IsTrue (is_within line t) → denotes line t ≡ n
name_denotes line n t of is within =
    let back : chars n ≡ of.0 ∷ of.1 = ap chars of.2 ∙ chars-encodes (of.0 ∷ of.1) of.3 in
    let can : spaced.is_word (words.name (chars n)) ≡ true = ap (λ cs. spaced.is_word (words.name cs)) back ∙ of.3 in
    denotes_within line t within
    ∙ ap encode_utf8_all (denoted-token line t (words.name (chars n)) can is ∙ back) ∙ sym of.2

text_denotes : (line : List ℕ) (n : Name) (t : Token) → IsText n → IsTokenOf line t (words.text (chars n)) → IsTrue (is_within line t) → denotes line t ≡ n
text_denotes line n t of is within =
    let back : chars n ≡ of.0 = ap chars of.1 ∙ chars-encodes of.0 of.2 in
    let can : spaced.is_word (words.text (chars n)) ≡ true = ap (λ cs. spaced.is_word (words.text cs)) back ∙ of.2 in
    denotes_within line t within
    ∙ ap encode_utf8_all (denoted-token line t (words.text (chars n)) can is ∙ back) ∙ sym of.1

module _ (line : List ℕ) where
  -- what stands from the tokens `ts` up to the tokens `rest` is the words of the pieces
  abbrev pub Shown : List Piece → List Token → List Token → Type 0
  Shown ps ts rest = Stands line (words_of ps) ts rest

  pub both : (ps qs : List Piece) (ts rest : List Token) → Shown (ps ++ qs) ts rest → (mid : List Token) × Shown ps ts mid × Shown qs mid rest
  both ps qs ts rest s = split line (words_of ps) (words_of qs) ts rest (subst (λ ws. Stands line ws ts rest) (words_of-append ps qs) s)

  -- the first piece's token
  pub at_symbol : (P : List Token → Type 0) (s : Symbol) (ps : List Piece) (ts rest : List Token) → Shown (mark s ∷ ps) ts rest →
      ((t : Token) (mid : List Token) → IsSymbol s t → Shown ps mid rest → P (t ∷ mid)) → P ts
  at_symbol P s ps ts rest shown f = at_word line P (words.symbol s) (words_of ps) ts rest shown (λ t mid is within more. f t mid is.0 more)

  pub at_keyword : (P : List Token → Type 0) (k : Keyword) (ps : List Piece) (ts rest : List Token) → Shown (says k ∷ ps) ts rest →
      ((t : Token) (mid : List Token) → IsKeyword k t → Shown ps mid rest → P (t ∷ mid)) → P ts
  at_keyword P k ps ts rest shown f = at_word line P (words.keyword k) (words_of ps) ts rest shown (λ t mid is within more. f t mid is.0 more)

  pub at_number : (P : List Token → Type 0) (n : ℕ) (ps : List Piece) (ts rest : List Token) → Shown (word (words.number n) ∷ ps) ts rest →
      ((t : Token) (mid : List Token) → IsNumber n t → Shown ps mid rest → P (t ∷ mid)) → P ts
  at_number P n ps ts rest shown f = at_word line P (words.number n) (words_of ps) ts rest shown (λ t mid is within more. f t mid is.0 more)

  pub at_name : (P : List Token → Type 0) (n : Name) (ps : List Piece) (ts rest : List Token) → IsNamed n → Shown (named n ∷ ps) ts rest →
      ((t : Token) (mid : List Token) → IsTrue (is_name t.kind) → IsTrue (is_word t.kind) → denotes line t ≡ n → Shown ps mid rest → P (t ∷ mid)) → P ts
  at_name P n ps ts rest of shown f = at_word line P (words.name (chars n)) (words_of ps) ts rest shown
      (λ t mid is within more. f t mid (ap is_name is.0) (ap is_word is.0) (name_denotes line n t of is within) more)

  pub at_text : (P : List Token → Type 0) (n : Name) (ps : List Piece) (ts rest : List Token) → IsText n → Shown (spelt n ∷ ps) ts rest →
      ((t : Token) (mid : List Token) → t.kind ≡ kind.Text → denotes line t ≡ n → Shown ps mid rest → P (t ∷ mid)) → P ts
  at_text P n ps ts rest of shown f = at_word line P (words.text (chars n)) (words_of ps) ts rest shown
      (λ t mid is within more. f t mid is.0 (text_denotes line n t of is within) more)

  -- the last piece's token
  pub last_symbol : (P : List Token → Type 0) (s : Symbol) (ts rest : List Token) → Shown (mark s ∷ []) ts rest →
      ((t : Token) → IsSymbol s t → P (t ∷ rest)) → P ts
  last_symbol P s ts rest shown f = at_symbol P s [] ts rest shown (λ t mid is more. at_end line (λ us. P (t ∷ us)) mid rest more (f t is))

  pub last_keyword : (P : List Token → Type 0) (k : Keyword) (ts rest : List Token) → Shown (says k ∷ []) ts rest →
      ((t : Token) → IsKeyword k t → P (t ∷ rest)) → P ts
  last_keyword P k ts rest shown f = at_keyword P k [] ts rest shown (λ t mid is more. at_end line (λ us. P (t ∷ us)) mid rest more (f t is))

  -- what stands in brackets
  pub in_brackets : (P : List Token → Type 0) (ps : List Piece) (ts rest : List Token) → Shown (bracketed ps) ts rest →
      ((opening closing : Token) (inside : List Token) → IsSymbol sign.LeftParenthesis opening → IsSymbol sign.RightParenthesis closing →
      Shown ps inside (closing ∷ rest) → P (opening ∷ inside)) → P ts
  in_brackets P ps ts rest shown f = at_symbol P sign.LeftParenthesis (ps ++ mark sign.RightParenthesis ∷ []) ts rest shown (λ opening inside opens more.
      let parts = both ps (mark sign.RightParenthesis ∷ []) inside rest more in
      last_symbol (λ us. Shown ps inside us → P (opening ∷ inside)) sign.RightParenthesis parts.0 rest parts.2
      (λ closing closes here. f opening closing inside opens closes here) parts.1)
