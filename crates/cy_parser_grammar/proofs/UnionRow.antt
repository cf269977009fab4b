-- A line of two queries with UNION ALL between them, its tokens and the tree that they spell, computed.
use Rattle.std.proofs.Common.{◌≡◌, ℕ, pos, ◌≤◌, List, [], ◌∷◌, Some, None, false, true, refl, ap, subst, ◌∙◌, arith}
use Rattle.std.specs.Prelude.{codes, encode_utf8_all}
use Rattle.std.proofs.lemmas.Str.{chars-encodes}
use lib.Utf8.{encode}
use Rattle.cy_lexer.specs.declared.tokens.Token.{Token}
use Rattle.cy_lexer.specs.declared.tokens.TokenKind.TheVariants as kind
use Rattle.cy_lexer.specs.declared.keywords.Keyword.TheVariants as word
use Rattle.cy_trees.specs.Trees.{Name, Expression, integer, null, Query, Statement, «return»}
use Rattle.cy_trees.specs.Depth.{depth, greatest_depth}
use Rattle.cy_parser_grammar.specs.Words.{denotes, is_name as is_a_name}
use Rattle.cy_parser_grammar.specs.Spells.{Spells, postfix, is_postfix, number, null_}
use Rattle.cy_parser_grammar.specs.SpellsClauses.{SpellsStatement, SpellsReading, most_levels, reading, ended, next_clause, no_more_clauses, nothing_more, union_all, further, no_further, union_of, return_, projection, not_distinct, last, item_as, no_order, no_count}
use Rattle.cy_parser_grammar.specs.internal.Clauses as read
use Rattle.cy_parser_grammar.proofs.ShownTokens.{denotes_within}
use Rattle.cy_parser_grammar.proofs.WorkedTokens.{keyword, name, digit}
use Rattle.cy_parser_grammar.proofs.ShownExpressions.{as_whole}
use Rattle.cy_parser_grammar.proofs.StatementsComplete.{statement-complete}

line : List ℕ
line = codes "RETURN 1 AS x UNION ALL RETURN null AS x"

abbrev first_name : Token
first_name = name 12

abbrev second_name : Token
second_name = name 39

abbrev one : Token
one = digit 1 7

abbrev nil : Token
nil = keyword word.Null 31 35

abbrev first_query : List Token → List Token
first_query rest = keyword word.Return 0 6 ∷ one ∷ keyword word.As 9 11 ∷ first_name ∷ rest

abbrev second_query : List Token
second_query = keyword word.Return 24 30 ∷ nil ∷ keyword word.As 36 38 ∷ second_name ∷ []

abbrev from_union : List Token
from_union = keyword word.Union 14 19 ∷ keyword word.All 20 23 ∷ second_query

abbrev query : Expression → Name → Query
query e column = record {
  clauses = «return» (record {
    distinct = false;
    items = record { expression = e; column = column; named = true } ∷ [];
    order = [];
    skip = None;
    limit = None;
  }) ∷ [];
}

abbrev row : Name → Name → Statement
row first second = record { queries = query (integer (pos 1)) first ∷ query null second ∷ []; all = true }

-- RETURN of one literal
query_is_spelt : (e : Expression) (return_word t as_ column : Token) (rest : List Token) → return_word.kind ≡ kind.Keyword word.Return → as_.kind ≡ kind.Keyword word.As →
    column.kind ≡ kind.Name → depth e ≤ greatest_depth → ((left : List Token) → Spells line most_levels postfix e (t ∷ left) left) →
    SpellsReading line (query e (denotes line column)) (return_word ∷ t ∷ as_ ∷ column ∷ rest) rest
query_is_spelt e return_word t as_ column rest is is_as is_name shallow literal = record {
  spelt = next_clause reading _ [] _ rest rest refl
      (return_ _ return_word (t ∷ as_ ∷ column ∷ rest) rest is
      (projection false _ [] None None _ (t ∷ as_ ∷ column ∷ rest) rest rest rest rest (not_distinct _)
      (last _ _ rest (item_as e as_ column (t ∷ as_ ∷ column ∷ rest) rest
      (record {
        spells = as_whole line most_levels e (t ∷ as_ ∷ column ∷ rest) (as_ ∷ column ∷ rest) (is_postfix most_levels e _ _ (literal (as_ ∷ column ∷ rest)));
        shallow = shallow;
      }) is_as (ap (λ k. is_a_name k) is_name)))
      (no_order rest) (no_count rest) (no_count rest)))
      (no_more_clauses ended rest refl);
  reads = refl;
}

first_is : denotes line first_name ≡ codes "x"
unfolding line encode
first_is = denotes_within line first_name refl ∙ ap encode_utf8_all (chars-encodes (120 ∷ []) refl)

second_is : denotes line second_name ≡ codes "x"
unfolding line encode
second_is = denotes_within line second_name refl ∙ ap encode_utf8_all (chars-encodes (120 ∷ []) refl)

as_written : SpellsStatement line (row (denotes line first_name) (denotes line second_name)) (first_query from_union)
as_written = union_of _ _ [] true (first_query from_union) from_union []
    (query_is_spelt (integer (pos 1)) _ one _ first_name from_union refl refl refl (omega arith) (λ left. number 256 1 one left refl (omega arith)))
    (further _ [] from_union second_query [] [] (union_all _ _ second_query refl refl)
    (query_is_spelt null _ nil _ second_name [] refl refl refl (omega arith) (λ left. null_ 256 nil left refl)) (no_further []))
    nothing_more

row_is_spelt : SpellsStatement line (row (codes "x") (codes "x")) (first_query from_union)
row_is_spelt =
    subst (λ x. SpellsStatement line (row x (codes "x")) (first_query from_union)) first_is
    (subst (λ x. SpellsStatement line (row (denotes line first_name) x) (first_query from_union)) second_is as_written)

-- what is read of it
row_is_read : read.statement line (first_query from_union) ≡ Some (row (codes "x") (codes "x"), [])
row_is_read = statement-complete line (row (codes "x") (codes "x")) (first_query from_union) row_is_spelt
