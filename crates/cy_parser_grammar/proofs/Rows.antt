-- A line, its tokens and the tree that they spell, computed.
use Rattle.std.proofs.Common.{◌≡◌, ℕ, List, [], ◌∷◌, None, false, true, negsuc, refl, ap, subst, ◌∙◌, arith}
use Rattle.std.specs.Prelude.{codes, chars, encode_utf8_all}
use Rattle.std.proofs.lemmas.Str.{chars-encodes}
use lib.Utf8.{encode}
use Rattle.cy_lexer.specs.Words as words
use Rattle.cy_trees.specs.Show.{statement_pieces}
use Rattle.cy_trees.specs.internal.PieceWords.{words_of}
use Rattle.cy_parser_grammar.proofs.ShownTokens.{denotes_within}
use Rattle.cy_lexer.specs.declared.tokens.Token.{Token}
use Rattle.cy_lexer.specs.declared.tokens.TokenKind.TheVariants as kind
use Rattle.cy_lexer.specs.declared.keywords.Keyword.TheVariants as word
use Rattle.cy_lexer.specs.declared.symbols.Symbol.TheVariants as sign
use Rattle.cy_trees.specs.Trees.{Statement, «return», integer, Expression}
use Rattle.cy_trees.specs.Depth.{depth}
use Rattle.cy_parser_grammar.specs.Words.{denotes}
use Rattle.cy_parser_grammar.specs.Spells.{Spells, signed, negative}
use Rattle.cy_parser_grammar.specs.SpellsClauses.{SpellsStatement, one_query, SpellsItem, most_levels, reading, ended, next_clause, no_more_clauses, nothing_more, return_, projection, not_distinct, last, item_as, no_order, no_count}
use Rattle.cy_parser_grammar.proofs.ShownExpressions.{as_whole}

line : List ℕ
line = codes "RETURN -9223372036854775808 AS x"

abbrev first : Token
first = record { kind = kind.Keyword word.Return; start = 0; end = 6 }

abbrev minus : Token
minus = record { kind = kind.Symbol sign.Minus; start = 7; end = 8 }

abbrev digits : Token
digits = record { kind = kind.Number 9223372036854775808; start = 8; end = 27 }

abbrev names : Token
names = record { kind = kind.Keyword word.As; start = 28; end = 30 }

abbrev column : Token
column = record { kind = kind.Name; start = 31; end = 32 }

abbrev least : Expression
least = integer (negsuc 9223372036854775807)

abbrev row : Statement
row = record {
  queries = record {
    clauses = «return» (record {
      distinct = false;
      items = record { expression = least; column = codes "x"; named = true } ∷ [];
      order = [];
      skip = None;
      limit = None;
    }) ∷ [];
  } ∷ [];
  all = false;
}

column_is : denotes line column ≡ codes "x"
unfolding line encode
column_is = denotes_within line column refl ∙ ap encode_utf8_all (chars-encodes (120 ∷ []) refl)

-- the least integer is one literal
least_is_spelt : Spells line most_levels signed least (minus ∷ digits ∷ names ∷ column ∷ []) (names ∷ column ∷ [])
least_is_spelt = negative 256 9223372036854775808 minus digits (names ∷ column ∷ []) refl refl (omega arith)

item_is_spelt : SpellsItem line (record { expression = least; column = codes "x"; named = true }) (minus ∷ digits ∷ names ∷ column ∷ []) []
item_is_spelt = subst (λ name. SpellsItem line (record { expression = least; column = name; named = true }) (minus ∷ digits ∷ names ∷ column ∷ []) []) column_is
    (item_as least names column (minus ∷ digits ∷ names ∷ column ∷ []) []
    (record { spells = as_whole line most_levels least (minus ∷ digits ∷ names ∷ column ∷ []) (names ∷ column ∷ []) least_is_spelt; shallow = omega arith }) refl refl)

row_is_spelt : SpellsStatement line row (first ∷ minus ∷ digits ∷ names ∷ column ∷ [])
row_is_spelt = one_query _ _ [] (next_clause reading _ [] _ [] _ refl
    (return_ _ first (minus ∷ digits ∷ names ∷ column ∷ []) [] refl
    (projection false _ [] None None _ (minus ∷ digits ∷ names ∷ column ∷ []) [] [] [] [] (not_distinct _) (last _ _ [] item_is_spelt) (no_order []) (no_count []) (no_count [])))
    (no_more_clauses ended [] refl)) nothing_more

-- its depth, and how it is shown
depth_of_row : depth least ≡ 1
depth_of_row = refl

text_of_row : words_of (statement_pieces row) ≡
    words.keyword word.Return ∷ words.symbol sign.Minus ∷ words.number 9223372036854775808 ∷ words.keyword word.As ∷ words.name (chars (codes "x")) ∷ []
text_of_row = refl
