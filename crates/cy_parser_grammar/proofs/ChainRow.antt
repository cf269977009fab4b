-- A line with a chain of comparisons and with columns that have no AS, its tokens and the tree that they spell, computed.
use Rattle.std.proofs.Common.{◌≡◌, ℕ, pos, ◌<◌, List, [], ◌∷◌, Some, None, false, refl, ap, subst, ◌∙◌, arith}
use Rattle.std.specs.Prelude.{codes, encode_utf8_all}
use Rattle.std.proofs.lemmas.Str.{chars-encodes}
use lib.Utf8.{encode}
use Rattle.cy_lexer.specs.declared.tokens.Token.{Token}
use Rattle.cy_lexer.specs.declared.keywords.Keyword.TheVariants as word
use Rattle.cy_lexer.specs.declared.symbols.Symbol.TheVariants as sign
use Rattle.cy_trees.specs.declared.expressions.BinaryOperator.TheVariants as operator
use Rattle.cy_trees.specs.declared.expressions.Comparator.TheVariants as comparator
use Rattle.cy_trees.specs.Trees.{Name, Statement, «match», «return», integer, variable as named, binary, comparison, link, no_links, Expression}
use Rattle.cy_parser_grammar.specs.Words.{denotes, slice_in}
use Rattle.cy_lexer.specs.Numbers.{greatest_number}
use Rattle.cy_parser_grammar.specs.Spells.{Spells, IsNumber, whole, negation, predicate, signed, head, is_exclusion, is_conjunction, is_negation, is_comparison, is_predicate, is_sum, is_product, is_signed, is_postfix, is_owner, is_head, number, name as is_named, bracket, add, compare, last_link, next_link}
use Rattle.cy_parser_grammar.specs.SpellsClauses.{SpellsStatement, one_query, Part, SpellsChain, where_expression, SpellsExpression, column_name, reading, ended, next_clause, no_more_clauses, nothing_more, match_, return_, projection, not_distinct, last, next, item, no_order, no_count, path, node, a_variable, variable, no_labels, no_map, no_steps}
use Rattle.cy_parser_grammar.proofs.ConditionParts.{lone_condition}
use Rattle.cy_parser_grammar.proofs.NoPath.{begins_no_path}
use Rattle.cy_parser_grammar.proofs.ShownTokens.{denotes_within}
use Rattle.cy_parser_grammar.proofs.ShownExpressions.{as_whole}
use Rattle.cy_parser_grammar.proofs.WorkedTokens.{keyword, symbol, name, digit}

line : List ℕ
line = codes "MATCH (n) WHERE 1<2<3 RETURN 1 + 2, (n)"

abbrev node_name : Token
node_name = name 7

abbrev one : Token
one = digit 1 16

abbrev first_less : Token
first_less = symbol sign.Less 17

abbrev two : Token
two = digit 2 18

abbrev second_less : Token
second_less = symbol sign.Less 19

abbrev three : Token
three = digit 3 20

abbrev left : Token
left = digit 1 29

abbrev plus : Token
plus = symbol sign.Plus 31

abbrev right : Token
right = digit 2 33

abbrev item_name : Token
item_name = name 37

abbrev second_item : List Token
second_item = symbol sign.LeftParenthesis 36 ∷ item_name ∷ symbol sign.RightParenthesis 38 ∷ []

abbrev after_total : List Token
after_total = symbol sign.Comma 34 ∷ second_item

abbrev from_return : List Token
from_return = keyword word.Return 22 28 ∷ left ∷ plus ∷ right ∷ after_total

abbrev test : List Token
test = one ∷ first_less ∷ two ∷ second_less ∷ three ∷ from_return

abbrev tokens : List Token
tokens = keyword word.Match 0 5 ∷ symbol sign.LeftParenthesis 6 ∷ node_name ∷ symbol sign.RightParenthesis 8 ∷ keyword word.Where 10 15 ∷ test

-- one chain of two comparisons
abbrev chain : Expression
chain = comparison (integer (pos 1)) (link comparator.Less (integer (pos 2)) (link comparator.Less (integer (pos 3)) no_links))

abbrev total : Expression
total = binary operator.Add (integer (pos 1)) (integer (pos 2))

-- the tree, by what its two names and its first column are
abbrev row : Name → Name → Name → Statement
row of_node of_item column = record {
  queries = record {
    clauses =
        «match» false (record { start = record { variable = Some (record { name = of_node; column = None }); labels = []; properties = None }; steps = [] } ∷ [])
        (record { test = Some chain; paths = [] }) ∷
        «return» (record {
          distinct = false;
          items = record { expression = total; column = column; named = false }
              ∷ record { expression = named (record { name = of_item; column = None }); column = of_item; named = false } ∷ [];
          order = [];
          skip = None;
          limit = None;
        }) ∷ [];
  } ∷ [];
  all = false;
}

node_is : denotes line node_name ≡ codes "n"
unfolding line encode
node_is = denotes_within line node_name refl ∙ ap encode_utf8_all (chars-encodes (110 ∷ []) refl)

item_is : denotes line item_name ≡ codes "n"
unfolding line encode
item_is = denotes_within line item_name refl ∙ ap encode_utf8_all (chars-encodes (110 ∷ []) refl)

-- the column is written as in the line, its spaces too
column_is : column_name line total (left ∷ plus ∷ right ∷ []) ≡ codes "1 + 2"
unfolding line slice_in
column_is = refl

literal : (n : ℕ) (t : Token) (rest : List Token) → IsNumber n t → n < greatest_number → Spells line 257 signed (integer (pos n)) (t ∷ rest) rest
literal n t rest is small = is_postfix _ _ _ _ (number 256 n t rest is small)

operand : (n : ℕ) (t : Token) (rest : List Token) → IsNumber n t → n < greatest_number → Spells line 257 predicate (integer (pos n)) (t ∷ rest) rest
operand n t rest is small = is_sum _ _ _ _ (is_product _ _ _ _ (is_signed _ _ _ _ (literal n t rest is small)))

chain_is_negation : Spells line 257 negation chain test from_return
chain_is_negation = is_comparison _ _ _ _
    (compare _ _ _ _ _ _ (operand 1 one (first_less ∷ two ∷ second_less ∷ three ∷ from_return) refl (omega arith))
    (next_link _ _ _ _ first_less _ _ _ refl (operand 2 two (second_less ∷ three ∷ from_return) refl (omega arith))
    (last_link _ _ _ second_less _ _ refl (operand 3 three from_return refl (omega arith)))))

chain_is_spelt : SpellsExpression line chain test from_return
chain_is_spelt = record { spells = is_exclusion _ _ _ _ (is_conjunction _ _ _ _ (is_negation _ _ _ _ chain_is_negation)); shallow = omega arith }

-- no path is among its parts
no_path_there : (ps : List Part) (left : List Token) → SpellsChain line ps test left → ⊥
no_path_there = lone_condition line chain test from_return
    (begins_no_path line test refl) chain_is_negation (omega arith) refl

total_is_spelt : SpellsExpression line total (left ∷ plus ∷ right ∷ after_total) after_total
total_is_spelt = record {
  spells = is_exclusion _ _ _ _ (is_conjunction _ _ _ _ (is_negation _ _ _ _ (is_comparison _ _ _ _ (is_predicate _ _ _ _ (is_sum _ _ _ _
      (add _ _ _ _ plus _ _ _ (is_product _ _ _ _ (is_signed _ _ _ _ (literal 1 left (plus ∷ right ∷ after_total) refl (omega arith)))) refl
      (is_signed _ _ _ _ (literal 2 right after_total refl (omega arith)))))))));
  shallow = omega arith;
}

head_as_whole : (n : ℕ) (e : Expression) (ts rest : List Token) → Spells line n head e ts rest → Spells line n whole e ts rest
head_as_whole n e ts rest s = as_whole line n e ts rest (is_postfix _ _ _ _ (is_owner _ _ _ _ (is_head _ _ _ _ s)))

-- a name in brackets is a variable, whose column is its name
item_is_spelt : SpellsExpression line (named (record { name = denotes line item_name; column = None })) second_item []
item_is_spelt = record {
  spells = head_as_whole _ _ _ _ (bracket 256 _ _ _ _ _ refl (head_as_whole _ _ _ _ (is_named 255 item_name _ refl)) refl);
  shallow = omega arith;
}

as_written : SpellsStatement line (row (denotes line node_name) (denotes line item_name) (column_name line total (left ∷ plus ∷ right ∷ []))) tokens
as_written = one_query _ _ _ (next_clause reading _ _ _ _ _ refl
    (match_ _ _ _ _ _ _ refl
    (last _ _ _ (path _ _ _ _ _ (node _ _ _ _ _ _ _ _ _ refl (a_variable _ _ _ (variable node_name _ refl)) (no_labels _) (no_map _) refl) (no_steps _)))
    (where_expression _ _ _ _ refl no_path_there chain_is_spelt))
    (next_clause reading _ _ _ _ _ refl
    (return_ _ _ _ _ refl
    (projection false _ [] None None _ _ _ _ _ _ (not_distinct _)
    (next _ _ _ _ _ _ (item _ _ _ total_is_spelt) refl (last _ _ _ (item _ _ _ item_is_spelt)))
    (no_order _) (no_count _) (no_count _)))
    (no_more_clauses ended _ refl))) nothing_more

row_is_spelt : SpellsStatement line (row (codes "n") (codes "n") (codes "1 + 2")) tokens
row_is_spelt =
    subst (λ x. SpellsStatement line (row x (codes "n") (codes "1 + 2")) tokens) node_is
    (subst (λ x. SpellsStatement line (row (denotes line node_name) x (codes "1 + 2")) tokens) item_is
    (subst (λ x. SpellsStatement line (row (denotes line node_name) (denotes line item_name) x) tokens) column_is as_written))
