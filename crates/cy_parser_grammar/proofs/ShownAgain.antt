-- Tokens that are like those of a shown text are the tokens of its words.
use Rattle.std.proofs.Common.{◌≡◌, ℕ, ◌≤◌, List, [], ◌∷◌, map, length, Result, Ok, refl, sym, ap, ◌∙◌, subst}
use Rattle.std.specs.Str.{IsUtf8}
use Rattle.cy_lexer.specs.declared.tokens.Token.{Token}
use Rattle.cy_lexer.specs.Line.{longest_line}
use Rattle.cy_lexer.specs.Spans.{slice_of}
use Rattle.cy_lexer.specs.Tokens.{tokens_of}
use Rattle.cy_lexer.specs.Words.{Word}
use Rattle.cy_lexer.specs.internal.SpacedWords.{bytes_of, kind_of}
use Rattle.cy_trees.specs.Trees.{Statement}
use Rattle.cy_trees.specs.Show.{show, statement_pieces}
use Rattle.cy_trees.specs.internal.PieceWords.{words_of}
use Rattle.cy_parser_grammar.specs.Shown.{AreAlike, AreNeighbours, with_columns}
use Rattle.cy_parser_grammar.specs.SpellsClauses.{SpellsStatement}
use Rattle.cy_parser_grammar.proofs.PiecesLemmas.{AreTokens}
use Rattle.cy_parser_grammar.proofs.ShownWords.{shown-is_read}
use Rattle.cy_parser_grammar.proofs.ShownStatements.{shown-statement}
use Rattle.cy_parser_grammar.proofs.Stands.{Stands, nothing_stands, word_stands}
use Rattle.cy_parser_grammar.proofs.WellSpelt.{IsPart, part_next, part_lexed}
use Rattle.cy_parser_grammar.proofs.WellSpeltClauses.{statement-well}

-- kinds and slices of the tokens of words
kinds_are : (line : List ℕ) (us : List Token) (ws : List Word) → AreTokens line us ws → map (λ u. u.kind) us ≡ map kind_of ws
kinds_are line [] [] are = refl
kinds_are line [] (w ∷ ws) are = absurd are
kinds_are line (u ∷ us) [] are = absurd are
kinds_are line (u ∷ us) (w ∷ ws) are = ap (λ k. k ∷ map (λ x. x.kind) us) are.0.0 ∙ ap (λ ks. kind_of w ∷ ks) (kinds_are line us ws are.1)

slices_are : (line : List ℕ) (us : List Token) (ws : List Word) → AreTokens line us ws → map (slice_of line) us ≡ map bytes_of ws
slices_are line [] [] are = refl
slices_are line [] (w ∷ ws) are = absurd are
slices_are line (u ∷ us) [] are = absurd are
slices_are line (u ∷ us) (w ∷ ws) are = ap (λ k. k ∷ map (slice_of line) us) are.0.1 ∙ ap (λ ks. bytes_of w ∷ ks) (slices_are line us ws are.1)

module _ (line : List ℕ) (utf8 : IsUtf8 line) where
  stands_by : (ts : List Token) (ws : List Word) → IsPart line utf8 ts → map (λ t. t.kind) ts ≡ map kind_of ws → map (slice_of line) ts ≡ map bytes_of ws → Stands line ws ts []
  stands_by [] [] p kinds slices = nothing_stands []
  stands_by [] (w ∷ ws) p kinds slices = absurd cc
  stands_by (t ∷ ts) [] p kinds slices = absurd cc
  stands_by (t ∷ ts) (w ∷ ws) p kinds slices =
      let l = part_lexed line utf8 t ts p in
      let kind_is : t.kind ≡ kind_of w = cc in
      let slice_is : slice_of line t ≡ bytes_of w = cc in
      let kinds_rest : map (λ x. x.kind) ts ≡ map kind_of ws = cc in
      let slices_rest : map (slice_of line) ts ≡ map bytes_of ws = cc in
      word_stands w ws t ts [] (kind_is, slice_is) l.stretch.within (stands_by ts ws (part_next line utf8 t ts p) kinds_rest slices_rest)

-- a statement that tokens of some line spell, and tokens like those of its text
pub shown-again : (s : Statement) (first : List ℕ) (spelling : List Token) (line : List ℕ) (ts us : List Token) → IsUtf8 first → IsUtf8 line →
    AreNeighbours first spelling → SpellsStatement first s spelling → AreNeighbours line ts → length (show s) ≤ longest_line → tokens_of (show s) ≡ Ok us → AreAlike line ts (show s) us →
    SpellsStatement line (with_columns s) ts
shown-again s first spelling line ts us utf8_first utf8 of_first spelt of_line short tokens alike =
    let well = statement-well first utf8_first s spelling spelt of_first in
    let read = shown-is_read s well short in
    let x : Result (List Token) _ = Ok read.0 in
    let y : Result (List Token) _ = Ok us in
    let both : x ≡ y = sym read.1 ∙ tokens in
    let same : read.0 ≡ us = cc in
    let are : AreTokens (show s) us (words_of (statement_pieces s)) = subst (λ z. AreTokens (show s) z (words_of (statement_pieces s))) same read.3 in
    shown-statement line s well ts (stands_by line utf8 ts (words_of (statement_pieces s)) of_line
    (alike.0 ∙ kinds_are (show s) us (words_of (statement_pieces s)) are) (alike.1 ∙ slices_are (show s) us (words_of (statement_pieces s)) are))

-- the tokens of its text
pub shown-itself : (s : Statement) (first : List ℕ) (spelling : List Token) → IsUtf8 first → AreNeighbours first spelling → SpellsStatement first s spelling →
    length (show s) ≤ longest_line → (us : List Token) × (tokens_of (show s) ≡ Ok us) × SpellsStatement (show s) (with_columns s) us
shown-itself s first spelling utf8_first of_first spelt short =
    let well = statement-well first utf8_first s spelling spelt of_first in
    let read = shown-is_read s well short in
    (read.0, read.1, shown-statement (show s) s well read.0 read.4)
