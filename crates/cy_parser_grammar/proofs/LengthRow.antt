-- A line with a length that is open above, its tokens and the tree that they spell, computed.
use Rattle.std.proofs.Common.{◌≡◌, ℕ, List, [], ◌∷◌, Some, None, false, true, refl, ap, subst, ◌∙◌, arith}
use Rattle.std.specs.Prelude.{codes, encode_utf8_all}
use Rattle.std.proofs.lemmas.Str.{chars-encodes}
use lib.Utf8.{encode}
use Rattle.cy_lexer.specs.declared.tokens.Token.{Token}
use Rattle.cy_lexer.specs.declared.tokens.TokenKind.TheVariants as kind
use Rattle.cy_lexer.specs.declared.keywords.Keyword.TheVariants as word
use Rattle.cy_lexer.specs.declared.symbols.Symbol.TheVariants as sign
use Rattle.cy_trees.specs.declared.clauses.Direction.TheVariants as direction
use Rattle.cy_trees.specs.Trees.{Name, Statement, «match», delete}
use Rattle.cy_parser_grammar.specs.Words.{denotes}
use Rattle.cy_parser_grammar.specs.SpellsClauses.{SpellsStatement, one_query, reading, ended, next_clause, no_more_clauses, nothing_more, match_, delete_, last, path, node, a_variable, variable, no_variable, no_labels, no_map, no_steps, a_step, relationship, details, no_types, a_length, at_least, arrow, no_arrow, no_where}
use Rattle.cy_parser_grammar.proofs.ShownTokens.{denotes_within}
use Rattle.cy_parser_grammar.proofs.WorkedTokens.{token, keyword, symbol, name, digit}

line : List ℕ
line = codes "MATCH (a)<-[*2..]-(b) DELETE b"

abbrev first_name : Token
first_name = name 7

abbrev second_name : Token
second_name = name 19

abbrev deleted : Token
deleted = name 29

abbrev tokens : List Token
tokens = keyword word.Match 0 5 ∷ symbol sign.LeftParenthesis 6 ∷ first_name ∷ symbol sign.RightParenthesis 8 ∷ symbol sign.Less 9 ∷ symbol sign.Minus 10
    ∷ symbol sign.LeftBracket 11 ∷ symbol sign.Star 12 ∷ digit 2 13 ∷ token (kind.Symbol sign.DotDot) 14 16 ∷ symbol sign.RightBracket 16 ∷ symbol sign.Minus 17
    ∷ symbol sign.LeftParenthesis 18 ∷ second_name ∷ symbol sign.RightParenthesis 20 ∷ keyword word.Delete 22 28 ∷ deleted ∷ []

-- the tree, by what its three names are: two or more relationships, each of which leads to the left
abbrev row : Name → Name → Name → Statement
row first second gone = record {
  queries = record {
    clauses =
        «match» false (record {
          start = record { variable = Some (record { name = first; column = None }); labels = []; properties = None };
          steps = record {
            relationship = record { variable = None; direction = direction.Left; types = []; length = Some (record { least = 2; most = None }); properties = None };
            node = record { variable = Some (record { name = second; column = None }); labels = []; properties = None };
          } ∷ [];
        } ∷ []) (record { test = None; paths = [] }) ∷
        delete false (record { name = gone; column = None } ∷ []) ∷ [];
  } ∷ [];
  all = false;
}

first_is : denotes line first_name ≡ codes "a"
unfolding line encode
first_is = denotes_within line first_name refl ∙ ap encode_utf8_all (chars-encodes (97 ∷ []) refl)

second_is : denotes line second_name ≡ codes "b"
unfolding line encode
second_is = denotes_within line second_name refl ∙ ap encode_utf8_all (chars-encodes (98 ∷ []) refl)

deleted_is : denotes line deleted ≡ codes "b"
unfolding line encode
deleted_is = denotes_within line deleted refl ∙ ap encode_utf8_all (chars-encodes (98 ∷ []) refl)

as_written : SpellsStatement line (row (denotes line first_name) (denotes line second_name) (denotes line deleted)) tokens
as_written = one_query _ _ _ (next_clause reading _ _ _ _ _ refl
    (match_ _ _ _ _ _ _ refl
    (last _ _ _ (path _ _ _ _ _
    (node _ _ _ _ _ _ _ _ _ refl (a_variable _ _ _ (variable first_name _ refl)) (no_labels _) (no_map _) refl)
    (a_step _ _ _ _ _ _ _
    (relationship _ true false _ _ _ _ _ _ (arrow _ _ refl) refl
    (details None direction.Either [] _ None _ _ _ _ _ _ _ refl (no_variable _) (no_types _)
    (a_length _ _ _ _ refl (at_least 2 _ _ _ refl refl (omega arith))) (no_map _) refl)
    refl (no_arrow _))
    (node _ _ _ _ _ _ _ _ _ refl (a_variable _ _ _ (variable second_name _ refl)) (no_labels _) (no_map _) refl)
    (no_steps _))))
    (no_where _))
    (next_clause reading _ _ _ _ _ refl
    (delete_ _ _ _ _ refl (last _ _ _ (variable deleted _ refl)))
    (no_more_clauses ended _ refl))) nothing_more

row_is_spelt : SpellsStatement line (row (codes "a") (codes "b") (codes "b")) tokens
row_is_spelt =
    subst (λ x. SpellsStatement line (row x (codes "b") (codes "b")) tokens) first_is
    (subst (λ x. SpellsStatement line (row (denotes line first_name) x (codes "b")) tokens) second_is
    (subst (λ x. SpellsStatement line (row (denotes line first_name) (denotes line second_name) x) tokens) deleted_is as_written))
