-- Paths as conditions, their tokens and what is read of them, computed.
use Rattle.std.proofs.Common.{◌≡◌, ℕ, suc, ◌+◌, List, [], ◌∷◌, Some, None, false, true, refl}
use Rattle.cy_lexer.specs.declared.tokens.Token.{Token}
use Rattle.cy_lexer.specs.declared.keywords.Keyword.TheVariants as word
use Rattle.cy_lexer.specs.declared.symbols.Symbol.TheVariants as sign
use Rattle.cy_trees.specs.declared.clauses.Direction.{Direction}
use Rattle.cy_trees.specs.declared.clauses.Direction.TheVariants as direction
use Rattle.cy_trees.specs.Trees.{Name, NodePattern, Path}
use Rattle.cy_parser_grammar.specs.Words.{denotes}
use Rattle.cy_parser_grammar.specs.internal.Reader.{or_else, and_then, sees_keyword, sees_symbol, expect_symbol, denoting}
use Rattle.cy_parser_grammar.specs.internal.Clauses as read
use Rattle.cy_parser_grammar.specs.internal.Clauses.{where_from, sees_two_brackets, length_if_any, condition_read, conjuncts, parts, parts_from, part, path_part, path_test, denied_path, bracketed_path, stepped, path, node, variable_if_any, labels_if_any, map_if_any, steps, steps_from, step, relationship, relationship_if_any, relationship_body, types_if_any, types, types_from}
use Rattle.cy_parser_grammar.proofs.WorkedTokens.{keyword, symbol, name}

abbrev named_node : Name → NodePattern
named_node n = record { variable = Some (record { name = n; column = None }); labels = []; properties = None }

abbrev one_step : NodePattern → Direction → List Name → NodePattern → Path
one_step from towards types to = record {
  start = from;
  steps = record {
    relationship = record { variable = None; direction = towards; types = types; length = None; properties = None };
    node = to;
  } ∷ [];
}

-- what comes after the WHERE
abbrev from_return : List Token
from_return = keyword word.Return 50 56 ∷ name 57 ∷ []

module _ (line : List ℕ) where
  -- `(a)-[:T]->()`, from a place on
  abbrev outgoing : ℕ → List Token → List Token
  outgoing at rest = symbol sign.LeftParenthesis at ∷ name (suc at) ∷ symbol sign.RightParenthesis (at + 2) ∷ symbol sign.Minus (at + 3) ∷ symbol sign.LeftBracket (at + 4)
      ∷ symbol sign.Colon (at + 5) ∷ name (at + 6) ∷ symbol sign.RightBracket (at + 7) ∷ symbol sign.Minus (at + 8) ∷ symbol sign.Greater (at + 9)
      ∷ symbol sign.LeftParenthesis (at + 10) ∷ symbol sign.RightParenthesis (at + 11) ∷ rest

  abbrev outgoing_path : ℕ → Path
  outgoing_path at = one_step (named_node (denotes line (name (suc at)))) direction.Right (denotes line (name (at + 6)) ∷ []) (record { variable = None; labels = []; properties = None })

  abbrev denied_row : List Token
  denied_row = keyword word.Not 18 21 ∷ outgoing 22 from_return

  -- `WHERE NOT (a)-[:T]->()`
  denied_is_read : read.condition_read line denied_row ≡ Some (record { test = None; paths = record { denied = true; path = outgoing_path 22 } ∷ [] }, from_return)
  unfolding or_else and_then sees_keyword sees_symbol expect_symbol denoting where_from sees_two_brackets length_if_any condition_read conjuncts parts parts_from part path_part path_test denied_path bracketed_path stepped path node variable_if_any labels_if_any map_if_any steps steps_from step relationship relationship_if_any relationship_body types_if_any types types_from
  denied_is_read = refl

  -- `WHERE NOT ((a)-[:T]->())`
  abbrev bracketed_row : List Token
  bracketed_row = keyword word.Not 18 21 ∷ symbol sign.LeftParenthesis 22 ∷ outgoing 23 (symbol sign.RightParenthesis 35 ∷ from_return)

  bracketed_is_read : read.condition_read line bracketed_row ≡ Some (record { test = None; paths = record { denied = true; path = outgoing_path 23 } ∷ [] }, from_return)
  unfolding or_else and_then sees_keyword sees_symbol expect_symbol denoting where_from sees_two_brackets length_if_any condition_read conjuncts parts parts_from part path_part path_test denied_path bracketed_path stepped path node variable_if_any labels_if_any map_if_any steps steps_from step relationship relationship_if_any relationship_body types_if_any types types_from
  bracketed_is_read = refl

  -- `WHERE (a)<--(b)` is a path, and no comparison
  abbrev incoming_row : List Token
  incoming_row = symbol sign.LeftParenthesis 18 ∷ name 19 ∷ symbol sign.RightParenthesis 20 ∷ symbol sign.Less 21 ∷ symbol sign.Minus 22 ∷ symbol sign.Minus 23
      ∷ symbol sign.LeftParenthesis 24 ∷ name 25 ∷ symbol sign.RightParenthesis 26 ∷ from_return

  incoming_is_read : read.condition_read line incoming_row ≡ Some (
    record {
      test = None;
      paths = record { denied = false; path = one_step (named_node (denotes line (name 19))) direction.Left [] (named_node (denotes line (name 25))) } ∷ [];
    },
    from_return,
  )
  unfolding or_else and_then sees_keyword sees_symbol expect_symbol denoting where_from sees_two_brackets length_if_any condition_read conjuncts parts parts_from part path_part path_test denied_path bracketed_path stepped path node variable_if_any labels_if_any map_if_any steps steps_from step relationship relationship_if_any relationship_body types_if_any types types_from
  incoming_is_read = refl
