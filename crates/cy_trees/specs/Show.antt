-- How trees are written (own): as words with single spaces. Keywords stand in capitals, names in backticks, texts in
-- single quotes, and each operator of an expression in brackets.
use Rattle.std.specs.Prelude.{ℕ, suc, pos, negsuc, Bool, true, false, List, [], ◌∷◌, ◌++◌, map, Option, Some, None, codes, chars, encode_utf8_all}
use Rattle.std.specs.Fmt.{decimal}
use Rattle.std.specs.List.{flat_map}
use Rattle.cy_lexer.specs.Keywords.{spelling}
use Rattle.cy_lexer.specs.Words.{Word, doubled, escaped, signs}
use Rattle.cy_lexer.specs.Words as words
use Rattle.cy_lexer.specs.declared.keywords.Keyword.{Keyword}
use Rattle.cy_lexer.specs.declared.keywords.Keyword.TheVariants as keyword
use Rattle.cy_lexer.specs.declared.symbols.Symbol.{Symbol}
use Rattle.cy_lexer.specs.declared.symbols.Symbol.TheVariants as symbol
use Rattle.cy_trees.specs.declared.expressions.UnaryOperator.{UnaryOperator}
use Rattle.cy_trees.specs.declared.expressions.UnaryOperator.TheVariants as one
use Rattle.cy_trees.specs.declared.expressions.BinaryOperator.{BinaryOperator}
use Rattle.cy_trees.specs.declared.expressions.BinaryOperator.TheVariants as two
use Rattle.cy_trees.specs.declared.expressions.Comparator.{Comparator}
use Rattle.cy_trees.specs.declared.expressions.Comparator.TheVariants as comparator
use Rattle.cy_trees.specs.declared.expressions.Variable.{Variable}
use Rattle.cy_trees.specs.declared.clauses.Direction.{Direction}
use Rattle.cy_trees.specs.declared.clauses.Direction.TheVariants as direction
use Rattle.cy_trees.specs.declared.clauses.Length.{Length}
use Rattle.cy_trees.specs.Trees.{Name, Expression, null, boolean, integer, text, variable, property, has_labels, unary, binary, comparison, list, case, call, call_star, Expressions, no_more, more, Links, no_links, link, Arms, no_arms, arm, Otherwise, nothing, otherwise, MapEntry, NodePattern, RelationshipPattern, Step, Path, Item, Key, Projection, SetItem, set_property, set_labels, RemoveItem, remove_property, remove_labels, PathTest, Where, Clause, «match», unwind, «with», «return», create, set, remove, delete, Query, Statement}

-- a word, or a space between words
pub data Piece : Type 0 where
  word : Word → Piece
  space : Piece

-- the bytes of a word and of a piece
abbrev pub word_text : Word → List ℕ
word_text (words.keyword k) = spelling k
word_text (words.name cs) = encode_utf8_all (96 ∷ (doubled cs ++ 96 ∷ []))
word_text (words.text cs) = encode_utf8_all (39 ∷ (escaped cs ++ 39 ∷ []))
word_text (words.number n) = decimal n
word_text (words.symbol s) = signs s

abbrev pub piece_text : Piece → List ℕ
piece_text (word w) = word_text w
piece_text space = codes " "

-- the text of pieces, as bytes
abbrev pub pieces_text : List Piece → List ℕ
pieces_text = flat_map piece_text

abbrev pub says : Keyword → Piece
says k = word (words.keyword k)

abbrev pub mark : Symbol → Piece
mark s = word (words.symbol s)

-- a name, and a text, of bytes
abbrev pub named : Name → Piece
named bytes = word (words.name (chars bytes))

abbrev pub spelt : List ℕ → Piece
spelt bytes = word (words.text (chars bytes))

abbrev pub bracketed : List Piece → List Piece
bracketed ps = mark symbol.LeftParenthesis ∷ (ps ++ mark symbol.RightParenthesis ∷ [])

-- one after another, each after the same pieces
abbrev pub each_after : List Piece → List (List Piece) → List Piece
each_after between [] = []
each_after between (ps ∷ pss) = between ++ (ps ++ each_after between pss)

-- one after another, with the same pieces between each two
abbrev pub separated : List Piece → List (List Piece) → List Piece
separated between [] = []
separated between (ps ∷ pss) = ps ++ each_after between pss

abbrev pub comma : List Piece
comma = mark symbol.Comma ∷ space ∷ []

abbrev pub list_pieces : List (List Piece) → List Piece
list_pieces = separated comma

abbrev pub binary_pieces : BinaryOperator → List Piece
binary_pieces two.Or = says keyword.Or ∷ []
binary_pieces two.Xor = says keyword.Xor ∷ []
binary_pieces two.And = says keyword.And ∷ []
binary_pieces two.In = says keyword.In ∷ []
binary_pieces two.Contains = says keyword.Contains ∷ []
binary_pieces two.StartsWith = says keyword.Starts ∷ space ∷ says keyword.With ∷ []
binary_pieces two.EndsWith = says keyword.Ends ∷ space ∷ says keyword.With ∷ []
binary_pieces two.Add = mark symbol.Plus ∷ []
binary_pieces two.Subtract = mark symbol.Minus ∷ []
binary_pieces two.Multiply = mark symbol.Star ∷ []
binary_pieces two.Divide = mark symbol.Slash ∷ []
binary_pieces two.Remainder = mark symbol.Percent ∷ []

abbrev pub comparator_symbol : Comparator → Symbol
comparator_symbol comparator.Equal = symbol.Equal
comparator_symbol comparator.NotEqual = symbol.NotEqual
comparator_symbol comparator.Less = symbol.Less
comparator_symbol comparator.LessOrEqual = symbol.LessOrEqual
comparator_symbol comparator.Greater = symbol.Greater
comparator_symbol comparator.GreaterOrEqual = symbol.GreaterOrEqual

-- an operator with one operand, and the pieces of that
abbrev pub unary_pieces : UnaryOperator → List Piece → List Piece
unary_pieces one.Not ps = says keyword.Not ∷ space ∷ ps
unary_pieces one.Plus ps = mark symbol.Plus ∷ bracketed ps
unary_pieces one.Minus ps = mark symbol.Minus ∷ bracketed ps
unary_pieces one.IsNull ps = ps ++ space ∷ says keyword.Is ∷ space ∷ says keyword.Null ∷ []
unary_pieces one.IsNotNull ps = ps ++ space ∷ says keyword.Is ∷ space ∷ says keyword.Not ∷ space ∷ says keyword.Null ∷ []

-- the labels of a node, each after a colon
abbrev pub label_pieces : List Name → List Piece
label_pieces labels = each_after (mark symbol.Colon ∷ []) (map (λ n. named n ∷ []) labels)

-- literals and lists, after which a `.` or a label can't stand
abbrev pub is_literal_or_list : Expression → Bool
is_literal_or_list null = true
is_literal_or_list (boolean b) = true
is_literal_or_list (integer n) = true
is_literal_or_list (text t) = true
is_literal_or_list (list es) = true
is_literal_or_list e = false

abbrev pub owner_pieces : Bool → List Piece → List Piece
owner_pieces true ps = bracketed ps
owner_pieces false ps = ps

abbrev pub distinct_pieces : Bool → List Piece
distinct_pieces true = says keyword.Distinct ∷ space ∷ []
distinct_pieces false = []

-- an expression
abbrev mutual
  pub expression_pieces : Expression → List Piece
  expression_pieces null = says keyword.Null ∷ []
  expression_pieces (boolean true) = says keyword.True ∷ []
  expression_pieces (boolean false) = says keyword.False ∷ []
  expression_pieces (integer (pos n)) = word (words.number n) ∷ []
  expression_pieces (integer (negsuc n)) = mark symbol.Minus ∷ word (words.number (suc n)) ∷ []
  expression_pieces (text t) = spelt t ∷ []
  expression_pieces (variable v) = named v.name ∷ []
  expression_pieces (property e key) =
      bracketed (owner_pieces (is_literal_or_list e) (expression_pieces e) ++ mark symbol.Dot ∷ named key ∷ [])
  expression_pieces (has_labels e labels) =
      bracketed (owner_pieces (is_literal_or_list e) (expression_pieces e) ++ label_pieces labels)
  expression_pieces (unary operator e) = bracketed (unary_pieces operator (expression_pieces e))
  expression_pieces (binary operator a b) =
      bracketed (expression_pieces a ++ space ∷ (binary_pieces operator ++ space ∷ expression_pieces b))
  expression_pieces (comparison e links) = bracketed (expression_pieces e ++ links_pieces links)
  expression_pieces (list es) =
      mark symbol.LeftBracket ∷ (elements_pieces es ++ mark symbol.RightBracket ∷ [])
  expression_pieces (case arms e) =
      bracketed (says keyword.Case ∷ (arms_pieces arms ++ (otherwise_pieces e ++ space ∷ says keyword.End ∷ [])))
  expression_pieces (call function distinct es) =
      named function ∷ bracketed (distinct_pieces distinct ++ elements_pieces es)
  expression_pieces (call_star function) = named function ∷ bracketed (mark symbol.Star ∷ [])

  -- expressions with commas between them
  pub elements_pieces : Expressions → List Piece
  elements_pieces no_more = []
  elements_pieces (more e es) = expression_pieces e ++ further_pieces es

  -- expressions, each after a comma
  pub further_pieces : Expressions → List Piece
  further_pieces no_more = []
  further_pieces (more e es) = mark symbol.Comma ∷ space ∷ (expression_pieces e ++ further_pieces es)

  pub links_pieces : Links → List Piece
  links_pieces no_links = []
  links_pieces (link c e links) =
      space ∷ mark (comparator_symbol c) ∷ space ∷ (expression_pieces e ++ links_pieces links)

  pub arms_pieces : Arms → List Piece
  arms_pieces no_arms = []
  arms_pieces (arm condition outcome arms) =
      space ∷ says keyword.When ∷ space ∷ (expression_pieces condition ++
      space ∷ says keyword.Then ∷ space ∷ (expression_pieces outcome ++ arms_pieces arms))

  pub otherwise_pieces : Otherwise → List Piece
  otherwise_pieces nothing = []
  otherwise_pieces (otherwise e) = space ∷ says keyword.Else ∷ space ∷ expression_pieces e

-- patterns
abbrev pub entry_pieces : MapEntry → List Piece
entry_pieces e = named e.key ∷ mark symbol.Colon ∷ expression_pieces e.value

abbrev pub map_pieces : Option (List MapEntry) → List Piece
map_pieces None = []
map_pieces (Some es) =
    mark symbol.LeftBrace ∷ (list_pieces (map entry_pieces es) ++ mark symbol.RightBrace ∷ [])

abbrev pub variable_pieces : Option Variable → List Piece
variable_pieces None = []
variable_pieces (Some v) = named v.name ∷ []

abbrev pub node_pieces : NodePattern → List Piece
node_pieces n = bracketed (variable_pieces n.variable ++ (label_pieces n.labels ++ map_pieces n.properties))

-- types, the first after a colon and each other after a bar
abbrev pub type_pieces : List Name → List Piece
type_pieces [] = []
type_pieces (t ∷ ts) =
    mark symbol.Colon ∷ named t ∷ each_after (mark symbol.Bar ∷ []) (map (λ n. named n ∷ []) ts)

abbrev pub bound_pieces : Option ℕ → List Piece
bound_pieces None = []
bound_pieces (Some n) = word (words.number n) ∷ []

abbrev pub length_pieces : Option Length → List Piece
length_pieces None = []
length_pieces (Some l) =
    mark symbol.Star ∷ word (words.number l.least) ∷ mark symbol.DotDot ∷ bound_pieces l.most

abbrev pub tail_pieces : Direction → List Piece
tail_pieces direction.Left = mark symbol.Less ∷ mark symbol.Minus ∷ mark symbol.LeftBracket ∷ []
tail_pieces _ = mark symbol.Minus ∷ mark symbol.LeftBracket ∷ []

abbrev pub head_pieces : Direction → List Piece
head_pieces direction.Right = mark symbol.RightBracket ∷ mark symbol.Minus ∷ mark symbol.Greater ∷ []
head_pieces _ = mark symbol.RightBracket ∷ mark symbol.Minus ∷ []

abbrev pub relationship_pieces : RelationshipPattern → List Piece
relationship_pieces r =
    tail_pieces r.direction ++ (variable_pieces r.variable ++ (type_pieces r.types ++ (length_pieces r.length ++
    (map_pieces r.properties ++ head_pieces r.direction))))

abbrev pub step_pieces : Step → List Piece
step_pieces s = relationship_pieces s.relationship ++ node_pieces s.node

abbrev pub path_pieces : Path → List Piece
path_pieces p = node_pieces p.start ++ each_after [] (map step_pieces p.steps)

-- a path, denied or not, as a condition
abbrev pub denied_pieces : Bool → List Piece → List Piece
denied_pieces true ps = says keyword.Not ∷ space ∷ bracketed ps
denied_pieces false ps = ps

-- clauses
abbrev pub paths_pieces : List Path → List Piece
paths_pieces ps = list_pieces (map path_pieces ps)

abbrev pub and_pieces : List Piece
and_pieces = space ∷ says keyword.And ∷ space ∷ []

abbrev pub path_test_pieces : PathTest → List Piece
path_test_pieces t = denied_pieces t.denied (path_pieces t.path)

-- the conjuncts after WHERE: the condition, if there is one, and the paths
abbrev pub conjuncts_pieces : Option Expression → List PathTest → List Piece
conjuncts_pieces None tests = separated and_pieces (map path_test_pieces tests)
conjuncts_pieces (Some e) tests = expression_pieces e ++ each_after and_pieces (map path_test_pieces tests)

abbrev pub where_pieces : Option Expression → List PathTest → List Piece
where_pieces None [] = []
where_pieces test tests = space ∷ says keyword.Where ∷ space ∷ conjuncts_pieces test tests

abbrev pub filter_pieces : Where → List Piece
filter_pieces w = where_pieces w.test w.paths

abbrev pub item_pieces : Item → List Piece
item_pieces i = expression_pieces i.expression ++ space ∷ says keyword.As ∷ space ∷ named i.column ∷ []

abbrev pub descending_pieces : Bool → List Piece
descending_pieces true = space ∷ says keyword.Desc ∷ []
descending_pieces false = []

abbrev pub key_pieces : Key → List Piece
key_pieces k = expression_pieces k.expression ++ descending_pieces k.descending

abbrev pub order_pieces : List Key → List Piece
order_pieces [] = []
order_pieces (k ∷ ks) =
    space ∷ says keyword.Order ∷ space ∷ says keyword.By ∷ space ∷ list_pieces (map key_pieces (k ∷ ks))

abbrev pub count_pieces : Keyword → Option ℕ → List Piece
count_pieces k None = []
count_pieces k (Some n) = space ∷ says k ∷ space ∷ word (words.number n) ∷ []

abbrev pub projection_pieces : Projection → List Piece
projection_pieces p =
    distinct_pieces p.distinct ++ (list_pieces (map item_pieces p.items) ++ (order_pieces p.order ++
    (count_pieces keyword.Skip p.skip ++ count_pieces keyword.Limit p.limit)))

abbrev pub set_item_pieces : SetItem → List Piece
set_item_pieces (set_property v key e) =
    named v.name ∷ mark symbol.Dot ∷ named key ∷ space ∷ mark symbol.Equal ∷ space ∷ expression_pieces e
set_item_pieces (set_labels v labels) = named v.name ∷ label_pieces labels

abbrev pub remove_item_pieces : RemoveItem → List Piece
remove_item_pieces (remove_property v key) = named v.name ∷ mark symbol.Dot ∷ named key ∷ []
remove_item_pieces (remove_labels v labels) = named v.name ∷ label_pieces labels

abbrev pub optional_pieces : Bool → List Piece
optional_pieces true = says keyword.Optional ∷ space ∷ []
optional_pieces false = []

abbrev pub detach_pieces : Bool → List Piece
detach_pieces true = says keyword.Detach ∷ space ∷ []
detach_pieces false = []

abbrev pub clause_pieces : Clause → List Piece
clause_pieces («match» optional paths filter) =
    optional_pieces optional ++ says keyword.Match ∷ space ∷ (paths_pieces paths ++ filter_pieces filter)
clause_pieces (unwind e v) =
    says keyword.Unwind ∷ space ∷ (expression_pieces e ++ space ∷ says keyword.As ∷ space ∷ named v.name ∷ [])
clause_pieces («with» p filter) = says keyword.With ∷ space ∷ (projection_pieces p ++ filter_pieces filter)
clause_pieces («return» p) = says keyword.Return ∷ space ∷ projection_pieces p
clause_pieces (create paths) = says keyword.Create ∷ space ∷ paths_pieces paths
clause_pieces (set is) = says keyword.Set ∷ space ∷ list_pieces (map set_item_pieces is)
clause_pieces (remove is) = says keyword.Remove ∷ space ∷ list_pieces (map remove_item_pieces is)
clause_pieces (delete detach vs) =
    detach_pieces detach ++ says keyword.Delete ∷ space ∷ list_pieces (map (λ v. named v.name ∷ []) vs)

abbrev pub query_pieces : Query → List Piece
query_pieces q = separated (space ∷ []) (map clause_pieces q.clauses)

-- between two queries
abbrev pub union_pieces : Bool → List Piece
union_pieces true = space ∷ says keyword.Union ∷ space ∷ says keyword.All ∷ space ∷ []
union_pieces false = space ∷ says keyword.Union ∷ space ∷ []

-- a statement, and its text
abbrev pub statement_pieces : Statement → List Piece
statement_pieces s = separated (union_pieces s.all) (map query_pieces s.queries)

unfoldable pub show : Statement → List ℕ
show s = pieces_text (statement_pieces s)
