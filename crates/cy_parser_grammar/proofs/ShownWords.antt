-- The tokens of a statement's text are the words of its pieces.
use Rattle.std.proofs.Common.{◌≡◌, ℕ, suc, pos, negsuc, ◌≤◌, Bool, true, false, not, IsTrue, List, [], ◌∷◌, ◌++◌, length, map, Option, Some, None, Ok, refl, sym, ap, ◌∙◌, subst, arith}
use Rattle.std.specs.Str.{chars, encode_utf8_all}
use Rattle.std.proofs.lemmas.Bool.Decides.{nat_tests}
use Rattle.std.proofs.lemmas.Str.{chars-encodes}
use Rattle.cy_lexer.specs.declared.keywords.Keyword.{Keyword}
use Rattle.cy_lexer.specs.declared.keywords.Keyword.TheVariants as keyword
use Rattle.cy_lexer.specs.declared.symbols.Symbol.{Symbol}
use Rattle.cy_lexer.specs.declared.symbols.Symbol.TheVariants as sign
use Rattle.cy_lexer.specs.declared.tokens.Token.{Token}
use Rattle.cy_lexer.specs.Line.{longest_line}
use Rattle.cy_lexer.specs.Numbers.{greatest_number}
use Rattle.cy_lexer.specs.Spans.{AreSpansOf}
use Rattle.cy_lexer.specs.Tokens.{tokens_of}
use Rattle.cy_lexer.specs.Words.{Word}
use Rattle.cy_lexer.specs.Words as words
use Rattle.cy_lexer.specs.internal.SpacedWords.{is_word, space, written, tokens_at, AreTokensOf}
use Rattle.cy_lexer.proofs.WordsLemmas.{tokens_of-words, AreTokensOf-words}
use Rattle.cy_trees.specs.declared.expressions.UnaryOperator.{UnaryOperator}
use Rattle.cy_trees.specs.declared.expressions.UnaryOperator.TheVariants as one
use Rattle.cy_trees.specs.declared.expressions.BinaryOperator.{BinaryOperator}
use Rattle.cy_trees.specs.declared.expressions.BinaryOperator.TheVariants as two
use Rattle.cy_trees.specs.declared.expressions.Comparator.{Comparator}
use Rattle.cy_trees.specs.declared.expressions.Variable.{Variable}
use Rattle.cy_trees.specs.declared.clauses.Direction.{Direction}
use Rattle.cy_trees.specs.declared.clauses.Direction.TheVariants as direction
use Rattle.cy_trees.specs.declared.clauses.Length.{Length}
use Rattle.cy_trees.specs.Trees.{Name, Expression, null, boolean, integer, text, variable, property, has_labels, unary, binary, comparison, list, case, call, call_star, Expressions, no_more, more, Links, no_links, link, Arms, no_arms, arm, Otherwise, nothing, otherwise, MapEntry, NodePattern, RelationshipPattern, Step, Path, Item, Key, Projection, SetItem, set_property, set_labels, RemoveItem, remove_property, remove_labels, PathTest, Where, Clause, «match», unwind, «with», «return», create, set, remove, delete, Query, Statement}
use Rattle.cy_trees.specs.Show.{Piece, says, mark, named, bracketed, each_after, separated, comma, list_pieces, binary_pieces, comparator_symbol, unary_pieces, label_pieces, is_literal_or_list, owner_pieces, distinct_pieces, expression_pieces, elements_pieces, further_pieces, links_pieces, arms_pieces, otherwise_pieces, entry_pieces, map_pieces, variable_pieces, node_pieces, type_pieces, bound_pieces, length_pieces, tail_pieces, head_pieces, relationship_pieces, step_pieces, path_pieces, denied_pieces, paths_pieces, and_pieces, path_test_pieces, where_pieces, filter_pieces, item_pieces, descending_pieces, key_pieces, order_pieces, count_pieces, projection_pieces, set_item_pieces, remove_item_pieces, optional_pieces, detach_pieces, clause_pieces, query_pieces, union_pieces, statement_pieces, pieces_text, show}
use Rattle.cy_trees.specs.internal.PieceWords.{words_of}
use Rattle.cy_trees.specs.Show as piece
use Rattle.cy_parser_grammar.specs.SpellsClauses.{greatest_bound, ClausePhase, phase_after, reading, may_end}
use Rattle.cy_parser_grammar.specs.internal.WellFormed.{IsText, IsNamed, Every, Several, IfAny, IsVariable, IsWellFormed, AreWellFormed, LinksAreWellFormed, ArmsAreWellFormed, OtherwiseIsWellFormed, IsWhole, EntryIsWellFormed, NodeIsWellFormed, LengthIsWellFormed, RelationshipIsWellFormed, StepIsWellFormed, PathIsWellFormed, ItemIsWellFormed, KeyIsWellFormed, CountIsWellFormed, ProjectionIsWellFormed, SetItemIsWellFormed, RemoveItemIsWellFormed, PathTestIsWellFormed, WhereIsWellFormed, ClauseIsWellFormed, ClausesAreWellFormed, QueryIsWellFormed, ReadingIsWellFormed, QueriesAreWellFormed, StatementIsWellFormed}
use Rattle.cy_parser_grammar.proofs.PiecesLemmas.{Before, free, ended, owned, after, touches, stands, Allows, Runs, runs-stands, no_pieces, a_word, a_space, space_after, both, from, to, is_quiet, after_symbol, after_end, after_owner, ended_owned, last, spaced, AreTokens, spaced-words, spaced-are_words, spaced-text, free_first, unspaced}
use Rattle.cy_parser_grammar.proofs.Stands.{Stands}
use Rattle.cy_parser_grammar.proofs.WordsSpans.{words-have_spans, words-stand}
use Rattle.cy_parser_grammar.proofs.WellSpelt.{some_every}

-- ---- what can be written

pub name-is_word : (n : Name) → IsNamed n → is_word (words.name (chars n)) ≡ true
name-is_word n is = rw (ap chars is.2 ∙ chars-encodes (is.0 ∷ is.1) is.3) is.3

pub text-is_word : (n : Name) → IsText n → is_word (words.text (chars n)) ≡ true
text-is_word n is = rw (ap chars is.1 ∙ chars-encodes is.0 is.2) is.2

pub number-is_word : (n : ℕ) → n ≤ greatest_number → is_word (words.number n) ≡ true
number-is_word n fits = grind (arith, nat_tests)

-- ---- pieces that stand often

-- the same after a symbol that joins with none
opened : {ps : List Piece} {c : Before} (s : Symbol) → is_quiet s ≡ true → Runs free ps c → Runs (after (words.symbol s)) ps c
opened s quiet run = from (after_symbol s quiet) run

-- a keyword and a space
said : {b c : Before} {ps : List Piece} (k : Keyword) → touches b (words.keyword k) ≡ true → Runs free ps c → Runs b (says k ∷ piece.space ∷ ps) c
said k touch run = a_word (words.keyword k) touch refl (a_space run)

-- a last name
last_name : {b : Before} (n : Name) → touches b (words.name (chars n)) ≡ true → IsNamed n → Runs b (named n ∷ []) ended
last_name n touch is = last (words.name (chars n)) touch (name-is_word n is) refl

-- brackets
in_brackets : {b : Before} {ps : List Piece} → touches b (words.symbol sign.LeftParenthesis) ≡ true → Runs (after (words.symbol sign.LeftParenthesis)) ps ended → Runs b (bracketed ps) owned
in_brackets {b} {ps} touch run =
    a_word (words.symbol sign.LeftParenthesis) touch refl
    (both run (a_word (words.symbol sign.RightParenthesis) refl refl (to (after_owner (words.symbol sign.RightParenthesis) refl) no_pieces)))

in_free_brackets : {ps : List Piece} → Runs free ps ended → Runs free (bracketed ps) owned
in_free_brackets run = in_brackets refl (opened sign.LeftParenthesis refl run)

-- what may stand after an expression: where it is a literal, no dot
abbrev end_of : Bool → Before
end_of true = ended
end_of false = owned

ended_allows : (b : Bool) → Allows ended (end_of b)
ended_allows true = record { allows = λ qs h. h }
ended_allows false = ended_owned

operand : {ps : List Piece} (b : Bool) → Runs free ps (end_of b) → Runs free ps ended
operand b run = to (ended_allows b) run

owner-runs : (b : Bool) (ps : List Piece) → Runs free ps (end_of b) → Runs free (owner_pieces b ps) owned
owner-runs true ps run = in_free_brackets run
owner-runs false ps run = run

-- labels
labels-run : (labels : List Name) → Every IsNamed labels → Runs ended (label_pieces labels) ended
labels-run [] are = no_pieces
labels-run (n ∷ labels) are =
    a_word (words.symbol sign.Colon) refl refl
    (a_word (words.name (chars n)) refl (name-is_word n are.0) (from (after_end (words.name (chars n)) refl) (labels-run labels are.1)))

distinct-runs : (d : Bool) → Runs free (distinct_pieces d) free
distinct-runs true = said keyword.Distinct refl no_pieces
distinct-runs false = no_pieces

binary-runs : (operator : BinaryOperator) {ps : List Piece} → Runs free ps ended → Runs free (binary_pieces operator ++ piece.space ∷ ps) ended
binary-runs two.Or run = said keyword.Or refl run
binary-runs two.Xor run = said keyword.Xor refl run
binary-runs two.And run = said keyword.And refl run
binary-runs two.In run = said keyword.In refl run
binary-runs two.Contains run = said keyword.Contains refl run
binary-runs two.StartsWith run = said keyword.Starts refl (said keyword.With refl run)
binary-runs two.EndsWith run = said keyword.Ends refl (said keyword.With refl run)
binary-runs two.Add run = a_word (words.symbol sign.Plus) refl refl (a_space run)
binary-runs two.Subtract run = a_word (words.symbol sign.Minus) refl refl (a_space run)
binary-runs two.Multiply run = a_word (words.symbol sign.Star) refl refl (a_space run)
binary-runs two.Divide run = a_word (words.symbol sign.Slash) refl refl (a_space run)
binary-runs two.Remainder run = a_word (words.symbol sign.Percent) refl refl (a_space run)

comparator-runs : (c : Comparator) {ps : List Piece} → Runs free ps ended → Runs free (mark (comparator_symbol c) ∷ piece.space ∷ ps) ended
comparator-runs c run = a_word (words.symbol (comparator_symbol c)) refl refl (a_space run)

bracketed-ends : {ps : List Piece} → Runs free ps ended → Runs free (bracketed ps) ended
bracketed-ends run = to ended_owned (in_free_brackets run)

unary-runs : (operator : UnaryOperator) (ps : List Piece) → Runs free ps ended → Runs free (unary_pieces operator ps) ended
unary-runs one.Not ps run = said keyword.Not refl run
unary-runs one.Plus ps run = a_word (words.symbol sign.Plus) refl refl (opened sign.Plus refl (bracketed-ends run))
unary-runs one.Minus ps run = a_word (words.symbol sign.Minus) refl refl (opened sign.Minus refl (bracketed-ends run))
unary-runs one.IsNull ps run = both run (space_after (said keyword.Is refl (last (words.keyword keyword.Null) refl refl refl)))
unary-runs one.IsNotNull ps run = both run (space_after (said keyword.Is refl (said keyword.Not refl (last (words.keyword keyword.Null) refl refl refl))))

-- ---- expressions

mutual
  pub expression-runs : (e : Expression) → IsWellFormed e → Runs free (expression_pieces e) (end_of (is_literal_or_list e))
  expression-runs null is = last (words.keyword keyword.Null) refl refl refl
  expression-runs (boolean true) is = last (words.keyword keyword.True) refl refl refl
  expression-runs (boolean false) is = last (words.keyword keyword.False) refl refl refl
  expression-runs (integer (pos n)) is = last (words.number n) refl (number-is_word n (omega (arith, is))) refl
  expression-runs (integer (negsuc n)) is =
      a_word (words.symbol sign.Minus) refl refl (last (words.number (suc n)) refl (number-is_word (suc n) (omega (arith, is))) refl)
  expression-runs (text t) is = last (words.text (chars t)) refl (text-is_word t is) refl
  expression-runs (variable v) is = a_word (words.name (chars v.name)) refl (name-is_word v.name is.0) (to (after_owner (words.name (chars v.name)) refl) no_pieces)
  expression-runs (property e key) is =
      in_free_brackets (both (owner-runs (is_literal_or_list e) (expression_pieces e) (expression-runs e is.0))
      (a_word (words.symbol sign.Dot) refl refl (last_name key refl is.1)))
  expression-runs (has_labels e labels) is =
      in_free_brackets (both (owner-runs (is_literal_or_list e) (expression_pieces e) (expression-runs e is.0)) (from ended_owned (labels-run labels (some_every labels is.1))))
  expression-runs (unary operator e) is = in_free_brackets (unary-runs operator (expression_pieces e) (operand (is_literal_or_list e) (expression-runs e is)))
  expression-runs (binary operator a b) is =
      in_free_brackets (both (operand (is_literal_or_list a) (expression-runs a is.0)) (space_after (binary-runs operator (operand (is_literal_or_list b) (expression-runs b is.1)))))
  expression-runs (comparison e no_links) is = absurd is
  expression-runs (comparison e (link c x links)) is =
      in_free_brackets (both (operand (is_literal_or_list e) (expression-runs e is.0)) (links-run (link c x links) (is.1, is.2)))
  expression-runs (list es) is =
      a_word (words.symbol sign.LeftBracket) refl refl
      (both (elements-run sign.LeftBracket refl es is) (last (words.symbol sign.RightBracket) refl refl refl))
  expression-runs (case no_arms e) is = absurd is
  expression-runs (case (arm a b arms) e) is =
      in_free_brackets (a_word (words.keyword keyword.Case) refl refl
      (from (after_end (words.keyword keyword.Case) refl)
      (both (arms-run (arm a b arms) (is.0, is.1, is.2))
      (both (otherwise-runs e is.3) (space_after (last (words.keyword keyword.End) refl refl refl))))))
  expression-runs (call f true no_more) is = absurd is
  expression-runs (call f false no_more) is =
      a_word (words.name (chars f)) refl (name-is_word f is.0)
      (in_brackets refl (elements-run sign.LeftParenthesis refl no_more tt))
  expression-runs (call f true (more e es)) is =
      a_word (words.name (chars f)) refl (name-is_word f is.0.0)
      (in_brackets refl (opened sign.LeftParenthesis refl (said keyword.Distinct refl (both (operand (is_literal_or_list e) (expression-runs e is.1)) (further-run es is.2)))))
  expression-runs (call f false (more e es)) is =
      a_word (words.name (chars f)) refl (name-is_word f is.0.0)
      (in_brackets refl (elements-run sign.LeftParenthesis refl (more e es) (is.1, is.2)))
  expression-runs (call_star f) is =
      a_word (words.name (chars f)) refl (name-is_word f is.0)
      (in_brackets refl (last (words.symbol sign.Star) refl refl refl))

  elements-run : (s : Symbol) → is_quiet s ≡ true → (es : Expressions) → AreWellFormed es → Runs (after (words.symbol s)) (elements_pieces es) ended
  elements-run s quiet no_more are = to (after_end (words.symbol s) quiet) no_pieces
  elements-run s quiet (more e es) are = opened s quiet (both (operand (is_literal_or_list e) (expression-runs e are.0)) (further-run es are.1))

  further-run : (es : Expressions) → AreWellFormed es → Runs ended (further_pieces es) ended
  further-run no_more are = no_pieces
  further-run (more e es) are =
      a_word (words.symbol sign.Comma) refl refl (a_space (both (operand (is_literal_or_list e) (expression-runs e are.0)) (further-run es are.1)))

  links-run : (ls : Links) → LinksAreWellFormed ls → Runs ended (links_pieces ls) ended
  links-run no_links are = no_pieces
  links-run (link c e ls) are = space_after (comparator-runs c (both (operand (is_literal_or_list e) (expression-runs e are.0)) (links-run ls are.1)))

  arms-run : (arms : Arms) → ArmsAreWellFormed arms → Runs ended (arms_pieces arms) ended
  arms-run no_arms are = no_pieces
  arms-run (arm a b arms) are =
      space_after (said keyword.When refl (both (operand (is_literal_or_list a) (expression-runs a are.0))
      (space_after (said keyword.Then refl (both (operand (is_literal_or_list b) (expression-runs b are.1)) (arms-run arms are.2))))))

  otherwise-runs : (o : Otherwise) → OtherwiseIsWellFormed o → Runs ended (otherwise_pieces o) ended
  otherwise-runs nothing is = no_pieces
  otherwise-runs (otherwise e) is = space_after (said keyword.Else refl (operand (is_literal_or_list e) (expression-runs e is)))

-- an expression may stand after what a text may begin with, and what ends an operand may stand after it
pub operand-runs : (e : Expression) → IsWellFormed e → Runs free (expression_pieces e) ended
operand-runs e is = operand (is_literal_or_list e) (expression-runs e is)

-- ---- lists

-- each after some pieces
each-run : {A : Type 0} (P : A → Type 0) (f : A → List Piece) (between : List Piece) → Runs ended between free → ((x : A) → P x → Runs free (f x) ended) →
    (xs : List A) → Every P xs → Runs ended (each_after between (map f xs)) ended
each-run P f between first each [] are = no_pieces
each-run P f between first each (x ∷ xs) are = both first (both (each x are.0) (each-run P f between first each xs are.1))

comma-runs : Runs ended comma free
comma-runs = a_word (words.symbol sign.Comma) refl refl (a_space no_pieces)

list-runs : {A : Type 0} (P : A → Type 0) (f : A → List Piece) → ((x : A) → P x → Runs free (f x) ended) →
    (xs : List A) → Several P xs → Runs free (list_pieces (map f xs)) ended
list-runs P f each [] are = absurd are
list-runs P f each (x ∷ xs) are = both (each x are.0) (each-run P f comma comma-runs each xs are.1)

-- after a symbol, even none
list-runs-after : {A : Type 0} (P : A → Type 0) (f : A → List Piece) → ((x : A) → P x → Runs free (f x) ended) →
    (s : Symbol) → is_quiet s ≡ true → (xs : List A) → Every P xs → Runs (after (words.symbol s)) (list_pieces (map f xs)) ended
list-runs-after P f each s quiet [] are = to (after_end (words.symbol s) quiet) no_pieces
list-runs-after P f each s quiet (x ∷ xs) are = opened s quiet (list-runs P f each (x ∷ xs) are)

-- ---- patterns

entry-runs : (e : MapEntry) → EntryIsWellFormed e → Runs free (entry_pieces e) ended
entry-runs e is =
    a_word (words.name (chars e.key)) refl (name-is_word e.key is.0)
    (a_word (words.symbol sign.Colon) refl refl (opened sign.Colon refl (operand-runs e.value is.1.0)))

map-runs : (es : Option (List MapEntry)) → IfAny (Every EntryIsWellFormed) es → Runs ended (map_pieces es) ended
map-runs None are = no_pieces
map-runs (Some es) are =
    a_word (words.symbol sign.LeftBrace) refl refl
    (both (list-runs-after EntryIsWellFormed entry_pieces entry-runs sign.LeftBrace refl es are) (last (words.symbol sign.RightBrace) refl refl refl))

variable-runs : (s : Symbol) → is_quiet s ≡ true → (v : Option Variable) → IfAny IsVariable v → Runs (after (words.symbol s)) (variable_pieces v) ended
variable-runs s quiet None is = to (after_end (words.symbol s) quiet) no_pieces
variable-runs s quiet (Some v) is = opened s quiet (last_name v.name refl is.0)

node-runs : (b : Before) → touches b (words.symbol sign.LeftParenthesis) ≡ true → (n : NodePattern) → NodeIsWellFormed n → Runs b (node_pieces n) ended
node-runs b touch n is =
    to ended_owned (in_brackets touch
    (both (variable-runs sign.LeftParenthesis refl n.variable is.0) (both (labels-run n.labels is.1) (map-runs n.properties is.2))))

bar-runs : Runs ended (mark sign.Bar ∷ []) free
bar-runs = a_word (words.symbol sign.Bar) refl refl (to (after_symbol sign.Bar refl) no_pieces)

types-run : (ts : List Name) → Every IsNamed ts → Runs ended (type_pieces ts) ended
types-run [] are = no_pieces
types-run (t ∷ ts) are =
    a_word (words.symbol sign.Colon) refl refl
    (a_word (words.name (chars t)) refl (name-is_word t are.0)
    (from (after_end (words.name (chars t)) refl)
    (each-run IsNamed (λ n. named n ∷ []) (mark sign.Bar ∷ []) bar-runs (λ n is. last_name n refl is) ts are.1)))

bound-runs : (least : ℕ) (most : Option ℕ) → IfAny (λ most. (least ≤ most) × (most ≤ greatest_bound)) most → Runs (after (words.symbol sign.DotDot)) (bound_pieces most) ended
bound-runs least None is = to (after_end (words.symbol sign.DotDot) refl) no_pieces
bound-runs least (Some n) is = last (words.number n) refl (number-is_word n (omega (arith, is.1))) refl

length-runs : (l : Option Length) → IfAny LengthIsWellFormed l → Runs ended (length_pieces l) ended
length-runs None is = no_pieces
length-runs (Some l) is =
    a_word (words.symbol sign.Star) refl refl
    (a_word (words.number l.least) refl (number-is_word l.least (omega (arith, is.0)))
    (a_word (words.symbol sign.DotDot) refl refl (bound-runs l.least l.most is.1)))

tail-runs : (d : Direction) → Runs ended (tail_pieces d) (after (words.symbol sign.LeftBracket))
tail-runs direction.Left =
    a_word (words.symbol sign.Less) refl refl (a_word (words.symbol sign.Minus) refl refl (a_word (words.symbol sign.LeftBracket) refl refl no_pieces))
tail-runs d = a_word (words.symbol sign.Minus) refl refl (a_word (words.symbol sign.LeftBracket) refl refl no_pieces)

-- what a relationship ends with
abbrev head_of : Direction → Word
head_of direction.Right = words.symbol sign.Greater
head_of d = words.symbol sign.Minus

head-runs : (d : Direction) → Runs ended (head_pieces d) (after (head_of d))
head-runs direction.Right =
    a_word (words.symbol sign.RightBracket) refl refl (a_word (words.symbol sign.Minus) refl refl (a_word (words.symbol sign.Greater) refl refl no_pieces))
head-runs d = a_word (words.symbol sign.RightBracket) refl refl (a_word (words.symbol sign.Minus) refl refl no_pieces)

head_touches : (d : Direction) → touches (after (head_of d)) (words.symbol sign.LeftParenthesis) ≡ true
head_touches direction.Right = refl
head_touches d = refl

relationship-runs : (r : RelationshipPattern) → RelationshipIsWellFormed r → Runs ended (relationship_pieces r) (after (head_of r.direction))
relationship-runs r is =
    both (tail-runs r.direction) (both (variable-runs sign.LeftBracket refl r.variable is.0) (both (types-run r.types is.1) (both (length-runs r.length is.2)
    (both (map-runs r.properties is.3) (head-runs r.direction)))))

step-runs : (s : Step) → StepIsWellFormed s → Runs ended (step_pieces s) ended
step-runs s is =
    both (relationship-runs s.relationship is.0) (node-runs (after (head_of s.relationship.direction)) (head_touches s.relationship.direction) s.node is.1)

steps-run : (ss : List Step) → Every StepIsWellFormed ss → Runs ended (each_after [] (map step_pieces ss)) ended
steps-run [] are = no_pieces
steps-run (s ∷ ss) are = both (step-runs s are.0) (steps-run ss are.1)

path-runs : (p : Path) → PathIsWellFormed p → Runs free (path_pieces p) ended
path-runs p is = both (node-runs free refl p.start is.0) (steps-run p.steps is.1)

-- ---- clauses

paths-run : (ps : List Path) → Several PathIsWellFormed ps → Runs free (paths_pieces ps) ended
paths-run ps are = list-runs PathIsWellFormed path_pieces path-runs ps are

denied-runs : (b : Bool) (p : Path) → PathIsWellFormed p → Runs free (denied_pieces b (path_pieces p)) ended
denied-runs true p is = said keyword.Not refl (bracketed-ends (path-runs p is))
denied-runs false p is = path-runs p is

path_test-runs : (t : PathTest) → PathTestIsWellFormed t → Runs free (path_test_pieces t) ended
path_test-runs t is = denied-runs t.denied t.path is.path

path_tests-run : (ts : List PathTest) → Every PathTestIsWellFormed ts → Runs ended (each_after and_pieces (map path_test_pieces ts)) ended
path_tests-run [] are = no_pieces
path_tests-run (t ∷ ts) are = space_after (said keyword.And refl (both (path_test-runs t are.0) (path_tests-run ts are.1)))

where-runs : (test : Option Expression) (tests : List PathTest) → IfAny IsWhole test → Every PathTestIsWellFormed tests → Runs ended (where_pieces test tests) ended
where-runs None [] is are = no_pieces
where-runs None (t ∷ ts) is are = space_after (said keyword.Where refl (both (path_test-runs t are.0) (path_tests-run ts are.1)))
where-runs (Some e) [] is are = space_after (said keyword.Where refl (both (operand-runs e is.0) no_pieces))
where-runs (Some e) (t ∷ ts) is are = space_after (said keyword.Where refl (both (operand-runs e is.0) (path_tests-run (t ∷ ts) are)))

filter-runs : (f : Where) → WhereIsWellFormed f → Runs ended (filter_pieces f) ended
filter-runs f is = where-runs f.test f.paths is.test is.paths

item-runs : (i : Item) → ItemIsWellFormed i → Runs free (item_pieces i) ended
item-runs i is = both (operand-runs i.expression is.0.0) (space_after (said keyword.As refl (last_name i.column refl is.1)))

descending-runs : (d : Bool) → Runs ended (descending_pieces d) ended
descending-runs true = space_after (last (words.keyword keyword.Desc) refl refl refl)
descending-runs false = no_pieces

key-runs : (k : Key) → KeyIsWellFormed k → Runs free (key_pieces k) ended
key-runs k is = both (operand-runs k.expression is.0) (descending-runs k.descending)

order-runs : (ks : List Key) → Every KeyIsWellFormed ks → Runs ended (order_pieces ks) ended
order-runs [] are = no_pieces
order-runs (k ∷ ks) are =
    space_after (said keyword.Order refl (said keyword.By refl (list-runs KeyIsWellFormed key_pieces key-runs (k ∷ ks) are)))

count-runs : (k : Keyword) (n : Option ℕ) → IfAny CountIsWellFormed n → Runs ended (count_pieces k n) ended
count-runs k None is = no_pieces
count-runs k (Some n) is = space_after (said k refl (last (words.number n) refl (number-is_word n (omega (arith, is))) refl))

projection-runs : (p : Projection) → ProjectionIsWellFormed p → Runs free (projection_pieces p) ended
projection-runs p is =
    both (distinct-runs p.distinct) (both (list-runs ItemIsWellFormed item_pieces item-runs p.items is.0) (both (order-runs p.order is.1)
    (both (count-runs keyword.Skip p.skip is.2) (count-runs keyword.Limit p.limit is.3))))

set_item-runs : (i : SetItem) → SetItemIsWellFormed i → Runs free (set_item_pieces i) ended
set_item-runs (set_property v key e) is =
    a_word (words.name (chars v.name)) refl (name-is_word v.name is.0.0)
    (a_word (words.symbol sign.Dot) refl refl
    (a_word (words.name (chars key)) refl (name-is_word key is.1)
    (a_space (a_word (words.symbol sign.Equal) refl refl (a_space (operand-runs e is.2.0))))))
set_item-runs (set_labels v labels) is =
    a_word (words.name (chars v.name)) refl (name-is_word v.name is.0.0)
    (from (after_end (words.name (chars v.name)) refl) (labels-run labels (some_every labels is.1)))

remove_item-runs : (i : RemoveItem) → RemoveItemIsWellFormed i → Runs free (remove_item_pieces i) ended
remove_item-runs (remove_property v key) is =
    a_word (words.name (chars v.name)) refl (name-is_word v.name is.0.0) (a_word (words.symbol sign.Dot) refl refl (last_name key refl is.1))
remove_item-runs (remove_labels v labels) is =
    a_word (words.name (chars v.name)) refl (name-is_word v.name is.0.0)
    (from (after_end (words.name (chars v.name)) refl) (labels-run labels (some_every labels is.1)))

optional-runs : (b : Bool) → Runs free (optional_pieces b) free
optional-runs true = said keyword.Optional refl no_pieces
optional-runs false = no_pieces

detach-runs : (b : Bool) → Runs free (detach_pieces b) free
detach-runs true = said keyword.Detach refl no_pieces
detach-runs false = no_pieces

pub clause-runs : (c : Clause) → ClauseIsWellFormed c → Runs free (clause_pieces c) ended
clause-runs («match» optional paths filter) is =
    both (optional-runs optional) (said keyword.Match refl (both (paths-run paths is.0) (filter-runs filter is.1)))
clause-runs (unwind e v) is =
    said keyword.Unwind refl (both (operand-runs e is.0.0) (space_after (said keyword.As refl (last_name v.name refl is.1.0))))
clause-runs («with» p filter) is = said keyword.With refl (both (projection-runs p is.0) (filter-runs filter is.1))
clause-runs («return» p) is = said keyword.Return refl (projection-runs p is)
clause-runs (create paths) is = said keyword.Create refl (paths-run paths is)
clause-runs (set items) is = said keyword.Set refl (list-runs SetItemIsWellFormed set_item_pieces set_item-runs items is)
clause-runs (remove items) is = said keyword.Remove refl (list-runs RemoveItemIsWellFormed remove_item_pieces remove_item-runs items is)
clause-runs (delete detach vs) is =
    both (detach-runs detach) (said keyword.Delete refl (list-runs IsVariable (λ v. named v.name ∷ []) (λ v is_named. last_name v.name refl is_named.0) vs is))

-- ---- statements

clauses-run : (s : ClausePhase) (cs : List Clause) → ClausesAreWellFormed s cs → Runs ended (each_after (piece.space ∷ []) (map clause_pieces cs)) ended
clauses-run s [] are = no_pieces
clauses-run s (c ∷ cs) are = space_after (both (clause-runs c are.1) (clauses-run (phase_after c) cs are.2))

query-runs : (q : Query) → QueryIsWellFormed q → Runs free (query_pieces q) ended
query-runs q are = first-runs reading q.clauses refl are
  where
    first-runs : (s : ClausePhase) (cs : List Clause) → IsTrue (not (may_end s)) → ClausesAreWellFormed s cs → Runs free (separated (piece.space ∷ []) (map clause_pieces cs)) ended
    first-runs s [] none are = absurd cc
    first-runs s (c ∷ cs) none are = both (clause-runs c are.1) (clauses-run (phase_after c) cs are.2)

union-runs : {ps : List Piece} (all : Bool) → Runs free ps ended → Runs ended (union_pieces all ++ ps) ended
union-runs true run = space_after (said keyword.Union refl (said keyword.All refl run))
union-runs false run = space_after (said keyword.Union refl run)

unions-run : (all : Bool) (qs : List Query) → Every ReadingIsWellFormed qs → Runs ended (each_after (union_pieces all) (map query_pieces qs)) ended
unions-run all [] are = no_pieces
unions-run all (q ∷ qs) are = union-runs all (both (query-runs q are.0.0) (unions-run all qs are.1))

queries-stand : (qs : List Query) (all : Bool) → QueriesAreWellFormed qs all → stands free (separated (union_pieces all) (map query_pieces qs)) ≡ true
queries-stand [] all are = absurd are
queries-stand (q ∷ []) all are = runs-stands (both (query-runs q are.0) no_pieces)
queries-stand (q ∷ second ∷ others) all are = runs-stands (both (query-runs q are.0.0) (unions-run all (second ∷ others) are.1))

-- The tokens of the text of pieces are the words of the pieces, one for each, in order: with the spaces after them, without,
-- and as tokens that have places in the line.
pub pieces-are_read : (ps : List Piece) → stands free ps ≡ true → length (pieces_text ps) ≤ longest_line →
    (us : List Token) × (tokens_of (pieces_text ps) ≡ Ok us) × AreTokensOf (pieces_text ps) us (spaced ps) × AreTokens (pieces_text ps) us (words_of ps) ×
    Stands (pieces_text ps) (words_of ps) us []
pieces-are_read ps h short =
    let ws = spaced ps in
    let us = tokens_at 0 ws in
    let line = encode_utf8_all (written ws) in
    let same : line ≡ pieces_text ps = ap (λ (f : Bool). space f ++ line) (sym (free_first ps h)) ∙ spaced-text free ps h in
    let are = spaced-are_words free ps h in
    let fits = subst (λ (x : List ℕ). length x ≤ longest_line) (sym same) short in
    let of : AreTokensOf (pieces_text ps) us ws = subst (λ (x : List ℕ). AreTokensOf x us ws) same (AreTokensOf-words ws) in
    let all : AreTokens (pieces_text ps) us (words_of ps) = subst (λ (vs : List Word). AreTokens (pieces_text ps) us vs) (spaced-words ps) (unspaced (pieces_text ps) us ws of) in
    let spans : AreSpansOf (pieces_text ps) 0 us (length (pieces_text ps)) = subst (λ (x : List ℕ). AreSpansOf x 0 us (length x)) same (words-have_spans ws are) in (
      us,
      subst (λ (x : List ℕ). tokens_of x ≡ Ok us) same (tokens_of-words ws are fits),
      of,
      all,
      words-stand (pieces_text ps) us (words_of ps) 0 (length (pieces_text ps)) all spans,
    )

-- what a tree's text is read as
pub shown-is_read : (s : Statement) → StatementIsWellFormed s → length (show s) ≤ longest_line →
    (us : List Token) × (tokens_of (show s) ≡ Ok us) × AreTokensOf (show s) us (spaced (statement_pieces s)) × AreTokens (show s) us (words_of (statement_pieces s)) ×
    Stands (show s) (words_of (statement_pieces s)) us []
unfolding show
shown-is_read s is short = pieces-are_read (statement_pieces s) (queries-stand s.queries s.all is) short
