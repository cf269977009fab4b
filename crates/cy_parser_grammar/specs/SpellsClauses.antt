-- Which tokens spell patterns, clauses and a statement: the rules of the grammar (openCypher 9, grammar, narrowed to this
-- profile). As for expressions, what stands from the tokens `ts` up to the tokens `rest` spells the tree.
use Rattle.std.specs.Prelude.{ℕ, ◌<◌, ◌≤◌, ◌-◌, ◌⊎◌, length, take, Bool, true, false, not, ◌&&◌, IsTrue, List, [], ◌∷◌, Option, Some, None}
use Rattle.std.specs.Option.{ForSome}
use Rattle.cy_lexer.specs.declared.tokens.TokenKind.{TokenKind}
use Rattle.cy_lexer.specs.declared.tokens.TokenKind.TheVariants as kind
use Rattle.cy_lexer.specs.declared.tokens.Token.{Token}
use Rattle.cy_lexer.specs.declared.keywords.Keyword.{Keyword}
use Rattle.cy_lexer.specs.declared.keywords.Keyword.TheVariants as word
use Rattle.cy_lexer.specs.declared.symbols.Symbol.{Symbol}
use Rattle.cy_lexer.specs.declared.symbols.Symbol.TheVariants as sign
use Rattle.cy_trees.specs.declared.expressions.Variable.{Variable}
use Rattle.cy_trees.specs.declared.clauses.Direction.{Direction}
use Rattle.cy_trees.specs.declared.clauses.Direction.TheVariants as direction
use Rattle.cy_trees.specs.declared.clauses.Length.{Length}
use Rattle.cy_trees.specs.declared.expressions.BinaryOperator.TheVariants as operator
use Rattle.cy_trees.specs.Trees.{Name, Expression, binary, variable as variable_tree, MapEntry, NodePattern, RelationshipPattern, Step, Path, Item, Key, Projection, SetItem, set_property, set_labels, RemoveItem, remove_property, remove_labels, PathTest, Where, Clause, «match», unwind, «with», «return», create, set, remove, delete, Query, Statement}
use Rattle.cy_trees.specs.Depth.{depth, greatest_depth}
use Rattle.cy_parser_grammar.specs.Words.{is_name, is_word, denotes, written}
use Rattle.cy_lexer.specs.Numbers.{greatest_number}
use Rattle.cy_parser_grammar.specs.Spells.{Spells, whole, negation, SpellsLabels, IsKeyword, IsSymbol, IsNumber}

-- trees with a `,` between, one or more
pub data SpellsEach {A : Type 0} (each : A → List Token → List Token → Type 0) : List A → List Token → List Token → Type 0 where
  last : (a : A) (ts rest : List Token) → each a ts rest → SpellsEach each (a ∷ []) ts rest
  next : (a : A) (more : List A) (comma : Token) (ts mid rest : List Token) → each a ts (comma ∷ mid) → IsSymbol sign.Comma comma
      → SpellsEach each more mid rest → SpellsEach each (a ∷ more) ts rest

-- 256 levels may be open in an expression, and the number is one more (own)
abbrev pub most_levels : ℕ
most_levels = 257

module _ (line : List ℕ) where
  pub record SpellsExpression (e : Expression) (ts rest : List Token) : Type 0 where
    pub spells : Spells line most_levels whole e ts rest
    pub shallow : depth e ≤ greatest_depth

  -- a variable, whose column isn't known yet
  pub data SpellsVariable : Variable → List Token → List Token → Type 0 where
    variable : (t : Token) (rest : List Token) → IsTrue (is_name t.kind)
        → SpellsVariable (record { name = denotes line t; column = None }) (t ∷ rest) rest

  pub data SpellsVariableIfAny : Option Variable → List Token → List Token → Type 0 where
    no_variable : (ts : List Token) → SpellsVariableIfAny None ts ts
    a_variable : (v : Variable) (ts rest : List Token) → SpellsVariable v ts rest → SpellsVariableIfAny (Some v) ts rest

  -- labels = ":" word { ":" word }
  pub data SpellsLabelsIfAny : List Name → List Token → List Token → Type 0 where
    no_labels : (ts : List Token) → SpellsLabelsIfAny [] ts ts
    labels : (ls : List Name) (colon : Token) (ts rest : List Token) → IsSymbol sign.Colon colon → SpellsLabels line ls ts rest
        → SpellsLabelsIfAny ls (colon ∷ ts) rest

  pub data SpellsEntry : MapEntry → List Token → List Token → Type 0 where
    entry : (e : Expression) (key colon : Token) (ts rest : List Token) → IsTrue (is_word key.kind) → IsSymbol sign.Colon colon
        → SpellsExpression e ts rest → SpellsEntry (record { key = denotes line key; value = e }) (key ∷ colon ∷ ts) rest

  -- map = "{" [ word ":" expr { "," word ":" expr } ] "}"
  pub data SpellsMapIfAny : Option (List MapEntry) → List Token → List Token → Type 0 where
    no_map : (ts : List Token) → SpellsMapIfAny None ts ts
    empty_map : (opening closing : Token) (rest : List Token) → IsSymbol sign.LeftBrace opening → IsSymbol sign.RightBrace closing
        → SpellsMapIfAny (Some []) (opening ∷ closing ∷ rest) rest
    map_of : (es : List MapEntry) (opening closing : Token) (ts rest : List Token) → IsSymbol sign.LeftBrace opening
        → SpellsEach SpellsEntry es ts (closing ∷ rest) → IsSymbol sign.RightBrace closing → SpellsMapIfAny (Some es) (opening ∷ ts) rest

  -- node = "(" [ name ] [ labels ] [ map ] ")"
  pub data SpellsNode : NodePattern → List Token → List Token → Type 0 where
    node : (v : Option Variable) (ls : List Name) (m : Option (List MapEntry)) (opening closing : Token) (ts from mid rest : List Token)
        → IsSymbol sign.LeftParenthesis opening → SpellsVariableIfAny v ts from → SpellsLabelsIfAny ls from mid
        → SpellsMapIfAny m mid (closing ∷ rest) → IsSymbol sign.RightParenthesis closing
        → SpellsNode (record { variable = v; labels = ls; properties = m }) (opening ∷ ts) rest

  -- types = ":" word { "|" [ ":" ] word }, after the first ":"
  pub data SpellsTypes : List Name → List Token → List Token → Type 0 where
    last_type : (t : Token) (rest : List Token) → IsTrue (is_word t.kind) → SpellsTypes (denotes line t ∷ []) (t ∷ rest) rest
    next_type : (ns : List Name) (t bar : Token) (mid rest : List Token) → IsTrue (is_word t.kind) → IsSymbol sign.Bar bar
        → SpellsTypes ns mid rest → SpellsTypes (denotes line t ∷ ns) (t ∷ bar ∷ mid) rest
    next_type_with_colon : (ns : List Name) (t bar colon : Token) (mid rest : List Token) → IsTrue (is_word t.kind)
        → IsSymbol sign.Bar bar → IsSymbol sign.Colon colon → SpellsTypes ns mid rest → SpellsTypes (denotes line t ∷ ns) (t ∷ bar ∷ colon ∷ mid) rest

  pub data SpellsTypesIfAny : List Name → List Token → List Token → Type 0 where
    no_types : (ts : List Token) → SpellsTypesIfAny [] ts ts
    types : (ns : List Name) (colon : Token) (ts rest : List Token) → IsSymbol sign.Colon colon → SpellsTypes ns ts rest
        → SpellsTypesIfAny ns (colon ∷ ts) rest

-- the greatest bound of a length (own)
abbrev pub greatest_bound : ℕ
greatest_bound = 65535

-- range = "*" [ int ] [ ".." [ int ] ], its bounds in order and not too large
pub data SpellsLength : Length → List Token → List Token → Type 0 where
  any_length : (ts : List Token) → SpellsLength (record { least = 1; most = None }) ts ts
  exactly : (n : ℕ) (number : Token) (rest : List Token) → IsNumber n number → n ≤ greatest_bound
      → SpellsLength (record { least = n; most = Some n }) (number ∷ rest) rest
  unbounded : (dots : Token) (rest : List Token) → IsSymbol sign.DotDot dots → SpellsLength (record { least = 1; most = None }) (dots ∷ rest) rest
  at_least : (m : ℕ) (number dots : Token) (rest : List Token) → IsNumber m number → IsSymbol sign.DotDot dots → m ≤ greatest_bound
      → SpellsLength (record { least = m; most = None }) (number ∷ dots ∷ rest) rest
  at_most : (n : ℕ) (dots number : Token) (rest : List Token) → IsSymbol sign.DotDot dots → IsNumber n number → 1 ≤ n → n ≤ greatest_bound
      → SpellsLength (record { least = 1; most = Some n }) (dots ∷ number ∷ rest) rest
  between : (m n : ℕ) (first dots second : Token) (rest : List Token) → IsNumber m first → IsSymbol sign.DotDot dots → IsNumber n second
      → m ≤ n → n ≤ greatest_bound → SpellsLength (record { least = m; most = Some n }) (first ∷ dots ∷ second ∷ rest) rest

pub data SpellsLengthIfAny : Option Length → List Token → List Token → Type 0 where
  no_length : (ts : List Token) → SpellsLengthIfAny None ts ts
  a_length : (l : Length) (star : Token) (ts rest : List Token) → IsSymbol sign.Star star → SpellsLength l ts rest
      → SpellsLengthIfAny (Some l) (star ∷ ts) rest

-- a relationship's direction, from whether an arrow stands on its left and on its right (openCypher 9; that both arrows mean
-- either direction, as none do, is own)
abbrev pub direction_of : Bool → Bool → Direction
direction_of true true = direction.Either
direction_of true false = direction.Left
direction_of false true = direction.Right
direction_of false false = direction.Either

-- the symbol, if it is said to be there
pub data SpellsArrow (s : Symbol) : Bool → List Token → List Token → Type 0 where
  arrow : (t : Token) (rest : List Token) → IsSymbol s t → SpellsArrow s true (t ∷ rest) rest
  no_arrow : (ts : List Token) → SpellsArrow s false ts ts

-- ---- the conjuncts of a WHERE

-- a conjunct: an expression, or a path
pub data Part : Type 0 where
  condition : Expression → Part
  path_test : PathTest → Part

abbrev pub any_step : List Step → Bool
any_step [] = false
any_step (s ∷ ss) = true

-- the path has a relationship
abbrev pub has_step : Path → Bool
has_step p = any_step p.steps

abbrev pub is_path_among : List Part → Bool
is_path_among [] = false
is_path_among (condition e ∷ ps) = is_path_among ps
is_path_among (path_test t ∷ ps) = true

-- the paths, in order
abbrev pub paths_among : List Part → List PathTest
paths_among [] = []
paths_among (condition e ∷ ps) = paths_among ps
paths_among (path_test t ∷ ps) = t ∷ paths_among ps

-- the expressions in order, joined by AND to the left
abbrev pub joined : Option Expression → Expression → Expression
joined None e = e
joined (Some before) e = binary operator.And before e

abbrev pub test_after : Option Expression → List Part → Option Expression
test_after before [] = before
test_after before (condition e ∷ ps) = test_after (Some (joined before e)) ps
test_after before (path_test t ∷ ps) = test_after before ps

abbrev pub test_of : List Part → Option Expression
test_of ps = test_after None ps

-- a WHERE ends before `;`, UNION and the first word of a clause
abbrev pub is_after_where : TokenKind → Bool
is_after_where (kind.Symbol sign.Semicolon) = true
is_after_where (kind.Keyword word.Union) = true
is_after_where (kind.Keyword word.Match) = true
is_after_where (kind.Keyword word.Optional) = true
is_after_where (kind.Keyword word.Unwind) = true
is_after_where (kind.Keyword word.With) = true
is_after_where (kind.Keyword word.Return) = true
is_after_where (kind.Keyword word.Create) = true
is_after_where (kind.Keyword word.Set) = true
is_after_where (kind.Keyword word.Remove) = true
is_after_where (kind.Keyword word.Delete) = true
is_after_where (kind.Keyword word.Detach) = true
is_after_where _ = false

-- the WHERE ends before these tokens
abbrev pub ends_where : List Token → Bool
ends_where [] = true
ends_where (t ∷ ts) = is_after_where t.kind

-- a conjunct may end before AND too
abbrev pub is_after_part : TokenKind → Bool
is_after_part (kind.Keyword word.And) = true
is_after_part k = is_after_where k

abbrev pub ends_part : List Token → Bool
ends_part [] = true
ends_part (t ∷ ts) = is_after_part t.kind

module _ (line : List ℕ) where
  -- what stands in the square brackets, and nothing where there are none; the direction is that of the arrows around it, which
  -- the next rule sets
  pub data SpellsDetails : RelationshipPattern → List Token → List Token → Type 0 where
    no_details : (towards : Direction) (ts : List Token)
        → SpellsDetails (record { variable = None; direction = towards; types = []; length = None; properties = None }) ts ts
    details : (v : Option Variable) (towards : Direction) (ns : List Name) (l : Option Length) (m : Option (List MapEntry))
        (opening closing : Token) (ts from mid next rest : List Token) → IsSymbol sign.LeftBracket opening
        → SpellsVariableIfAny line v ts from → SpellsTypesIfAny line ns from mid → SpellsLengthIfAny l mid next
        → SpellsMapIfAny line m next (closing ∷ rest) → IsSymbol sign.RightBracket closing
        → SpellsDetails (record { variable = v; direction = towards; types = ns; length = l; properties = m }) (opening ∷ ts) rest

  -- rel = [ "<" ] "-" [ "[" [ name ] [ types ] [ range ] [ map ] "]" ] "-" [ ">" ]
  pub data SpellsRelationship : RelationshipPattern → List Token → List Token → Type 0 where
    relationship : (r : RelationshipPattern) (is_left is_right : Bool) (first second : Token) (ts from mid rest : List Token)
        → SpellsArrow sign.Less is_left ts (first ∷ from) → IsSymbol sign.Minus first → SpellsDetails r from (second ∷ mid)
        → IsSymbol sign.Minus second → SpellsArrow sign.Greater is_right mid rest
        → SpellsRelationship (record r { direction = direction_of is_left is_right }) ts rest

  pub data SpellsSteps : List Step → List Token → List Token → Type 0 where
    no_steps : (ts : List Token) → SpellsSteps [] ts ts
    a_step : (r : RelationshipPattern) (n : NodePattern) (more : List Step) (ts from mid rest : List Token)
        → SpellsRelationship r ts from → SpellsNode line n from mid → SpellsSteps more mid rest
        → SpellsSteps (record { relationship = r; node = n } ∷ more) ts rest

  -- path = node { rel node }
  pub data SpellsPath : Path → List Token → List Token → Type 0 where
    path : (n : NodePattern) (more : List Step) (ts mid rest : List Token) → SpellsNode line n ts mid → SpellsSteps more mid rest
        → SpellsPath (record { start = n; steps = more }) ts rest

  -- the column of an item without AS, which these tokens spell
  abbrev pub column_name : Expression → List Token → Name
  column_name (variable_tree v) own = v.name
  column_name _ own = written line own

  -- path1 | "NOT" path1 | "NOT" "(" path1 ")", where path1 = node rel node { rel node }
  pub data SpellsPathTest : PathTest → List Token → List Token → Type 0 where
    path_there : (p : Path) (ts rest : List Token) → SpellsPath p ts rest → IsTrue (has_step p)
        → SpellsPathTest (record { denied = false; path = p }) ts rest
    no_path : (p : Path) (not_ : Token) (ts rest : List Token) → IsKeyword word.Not not_ → SpellsPath p ts rest → IsTrue (has_step p)
        → SpellsPathTest (record { denied = true; path = p }) (not_ ∷ ts) rest
    no_path_in_brackets : (p : Path) (not_ opening closing : Token) (ts rest : List Token) → IsKeyword word.Not not_
        → IsSymbol sign.LeftParenthesis opening → SpellsPath p ts (closing ∷ rest) → IsTrue (has_step p) → IsSymbol sign.RightParenthesis closing
        → SpellsPathTest (record { denied = true; path = p }) (not_ ∷ opening ∷ ts) rest

  -- part = not | path1 | "NOT" path1 | "NOT" "(" path1 ")": it is a path where the tokens spell one up to the part's end, else
  -- an expression, which isn't too deep
  pub data SpellsPart : Part → List Token → List Token → Type 0 where
    path_part : (t : PathTest) (ts rest : List Token) → SpellsPathTest t ts rest → IsTrue (ends_part rest) → SpellsPart (path_test t) ts rest
    condition_part : (e : Expression) (ts rest : List Token)
        → ((t : PathTest) (left : List Token) → SpellsPathTest t ts left → IsTrue (ends_part left) → ⊥)
        → Spells line most_levels negation e ts rest → depth e ≤ greatest_depth → IsTrue (ends_part rest)
        → SpellsPart (condition e) ts rest

  -- part { "AND" part }
  pub data SpellsParts : List Part → List Token → List Token → Type 0 where
    last_part : (p : Part) (ts rest : List Token) → SpellsPart p ts rest → SpellsParts (p ∷ []) ts rest
    next_part : (p : Part) (ps : List Part) (and : Token) (ts mid rest : List Token) → SpellsPart p ts (and ∷ mid) → IsKeyword word.And and
        → SpellsParts ps mid rest → SpellsParts (p ∷ ps) ts rest

  -- parts up to the end of the WHERE, of which one is a path
  pub record SpellsChain (ps : List Part) (ts rest : List Token) : Type 0 where
    pub parts : SpellsParts ps ts rest
    pub ends : IsTrue (ends_where rest)
    pub has_path : IsTrue (is_path_among ps)

  -- where = "WHERE" expr | "WHERE" part { "AND" part }: it is a chain of parts where the tokens spell one, of which a part is a
  -- path, else an expression; the condition that the parts make isn't too deep
  pub data SpellsWhereIfAny : Where → List Token → List Token → Type 0 where
    no_where : (ts : List Token) → SpellsWhereIfAny (record { test = None; paths = [] }) ts ts
    where_parts : (ps : List Part) (where_ : Token) (ts rest : List Token) → IsKeyword word.Where where_ → SpellsChain ps ts rest
        → ForSome (test_of ps) (λ e. depth e ≤ greatest_depth)
        → SpellsWhereIfAny (record { test = test_of ps; paths = paths_among ps }) (where_ ∷ ts) rest
    where_expression : (e : Expression) (where_ : Token) (ts rest : List Token) → IsKeyword word.Where where_
        → ((ps : List Part) (left : List Token) → SpellsChain ps ts left → ⊥) → SpellsExpression line e ts rest
        → SpellsWhereIfAny (record { test = Some e; paths = [] }) (where_ ∷ ts) rest

  -- item = expr [ "AS" name ], where without AS the column is the variable's name, or what is written
  pub data SpellsItem : Item → List Token → List Token → Type 0 where
    item_as : (e : Expression) (as_ column : Token) (ts rest : List Token) → SpellsExpression line e ts (as_ ∷ column ∷ rest)
        → IsKeyword word.As as_ → IsTrue (is_name column.kind)
        → SpellsItem (record { expression = e; column = denotes line column; named = true }) ts rest
    item : (e : Expression) (ts rest : List Token) → SpellsExpression line e ts rest
        → SpellsItem (record { expression = e; column = column_name e (take (length ts - length rest) ts); named = false }) ts rest

  -- key = expr [ "ASC" | "ASCENDING" | "DESC" | "DESCENDING" ]
  pub data SpellsKey : Key → List Token → List Token → Type 0 where
    plain_key : (e : Expression) (ts rest : List Token) → SpellsExpression line e ts rest
        → SpellsKey (record { expression = e; descending = false }) ts rest
    asc : (e : Expression) (t : Token) (ts rest : List Token) → SpellsExpression line e ts (t ∷ rest)
        → IsKeyword word.Asc t ⊎ IsKeyword word.Ascending t → SpellsKey (record { expression = e; descending = false }) ts rest
    desc : (e : Expression) (t : Token) (ts rest : List Token) → SpellsExpression line e ts (t ∷ rest)
        → IsKeyword word.Desc t ⊎ IsKeyword word.Descending t → SpellsKey (record { expression = e; descending = true }) ts rest

  pub data SpellsOrderIfAny : List Key → List Token → List Token → Type 0 where
    no_order : (ts : List Token) → SpellsOrderIfAny [] ts ts
    order_by : (ks : List Key) (order by : Token) (ts rest : List Token) → IsKeyword word.Order order → IsKeyword word.By by
        → SpellsEach SpellsKey ks ts rest → SpellsOrderIfAny ks (order ∷ by ∷ ts) rest

  -- [ "SKIP" int ], [ "LIMIT" int ]
  pub data SpellsCountIfAny (k : Keyword) : Option ℕ → List Token → List Token → Type 0 where
    no_count : (ts : List Token) → SpellsCountIfAny k None ts ts
    a_count : (n : ℕ) (t number : Token) (rest : List Token) → IsKeyword k t → IsNumber n number → n < greatest_number
        → SpellsCountIfAny k (Some n) (t ∷ number ∷ rest) rest

  pub data SpellsDistinct : Bool → List Token → List Token → Type 0 where
    not_distinct : (ts : List Token) → SpellsDistinct false ts ts
    distinct : (t : Token) (rest : List Token) → IsKeyword word.Distinct t → SpellsDistinct true (t ∷ rest) rest

  -- body = [ "DISTINCT" ] item { "," item } [ "ORDER" "BY" key { "," key } ] [ "SKIP" int ] [ "LIMIT" int ]
  pub data SpellsProjection : Projection → List Token → List Token → Type 0 where
    projection : (d : Bool) (is : List Item) (ks : List Key) (s l : Option ℕ) (ts from mid after last_ rest : List Token)
        → SpellsDistinct d ts from → SpellsEach SpellsItem is from mid → SpellsOrderIfAny ks mid after
        → SpellsCountIfAny word.Skip s after last_ → SpellsCountIfAny word.Limit l last_ rest
        → SpellsProjection (record { distinct = d; items = is; order = ks; skip = s; limit = l }) ts rest

  -- set = name "." word "=" expr | name labels
  pub data SpellsSetItem : SetItem → List Token → List Token → Type 0 where
    set_property_to : (v : Variable) (e : Expression) (dot key equal : Token) (ts mid rest : List Token)
        → SpellsVariable line v ts (dot ∷ key ∷ equal ∷ mid) → IsSymbol sign.Dot dot → IsTrue (is_word key.kind) → IsSymbol sign.Equal equal
        → SpellsExpression line e mid rest → SpellsSetItem (set_property v (denotes line key) e) ts rest
    set_labels_to : (v : Variable) (ls : List Name) (colon : Token) (ts mid rest : List Token)
        → SpellsVariable line v ts (colon ∷ mid) → IsSymbol sign.Colon colon → SpellsLabels line ls mid rest
        → SpellsSetItem (set_labels v ls) ts rest

  -- rem = name "." word | name labels
  pub data SpellsRemoveItem : RemoveItem → List Token → List Token → Type 0 where
    remove_property_of : (v : Variable) (dot key : Token) (ts rest : List Token)
        → SpellsVariable line v ts (dot ∷ key ∷ rest) → IsSymbol sign.Dot dot → IsTrue (is_word key.kind)
        → SpellsRemoveItem (remove_property v (denotes line key)) ts rest
    remove_labels_of : (v : Variable) (ls : List Name) (colon : Token) (ts mid rest : List Token)
        → SpellsVariable line v ts (colon ∷ mid) → IsSymbol sign.Colon colon → SpellsLabels line ls mid rest
        → SpellsRemoveItem (remove_labels v ls) ts rest

  pub data SpellsClause : Clause → List Token → List Token → Type 0 where
    match_ : (ps : List Path) (f : Where) (t : Token) (ts mid rest : List Token) → IsKeyword word.Match t
        → SpellsEach SpellsPath ps ts mid → SpellsWhereIfAny f mid rest → SpellsClause («match» false ps f) (t ∷ ts) rest
    optional_match : (ps : List Path) (f : Where) (optional t : Token) (ts mid rest : List Token) → IsKeyword word.Optional optional
        → IsKeyword word.Match t → SpellsEach SpellsPath ps ts mid → SpellsWhereIfAny f mid rest
        → SpellsClause («match» true ps f) (optional ∷ t ∷ ts) rest
    unwind_as : (e : Expression) (v : Variable) (t as_ : Token) (ts mid rest : List Token) → IsKeyword word.Unwind t
        → SpellsExpression line e ts (as_ ∷ mid) → IsKeyword word.As as_ → SpellsVariable line v mid rest → SpellsClause (unwind e v) (t ∷ ts) rest
    with_ : (p : Projection) (f : Where) (t : Token) (ts mid rest : List Token) → IsKeyword word.With t
        → SpellsProjection p ts mid → SpellsWhereIfAny f mid rest → SpellsClause («with» p f) (t ∷ ts) rest
    return_ : (p : Projection) (t : Token) (ts rest : List Token) → IsKeyword word.Return t → SpellsProjection p ts rest
        → SpellsClause («return» p) (t ∷ ts) rest
    create_ : (ps : List Path) (t : Token) (ts rest : List Token) → IsKeyword word.Create t → SpellsEach SpellsPath ps ts rest
        → SpellsClause (create ps) (t ∷ ts) rest
    set_ : (is : List SetItem) (t : Token) (ts rest : List Token) → IsKeyword word.Set t → SpellsEach SpellsSetItem is ts rest
        → SpellsClause (set is) (t ∷ ts) rest
    remove_ : (is : List RemoveItem) (t : Token) (ts rest : List Token) → IsKeyword word.Remove t → SpellsEach SpellsRemoveItem is ts rest
        → SpellsClause (remove is) (t ∷ ts) rest
    delete_ : (vs : List Variable) (t : Token) (ts rest : List Token) → IsKeyword word.Delete t → SpellsEach (SpellsVariable line) vs ts rest
        → SpellsClause (delete false vs) (t ∷ ts) rest
    detach_delete : (vs : List Variable) (detach t : Token) (ts rest : List Token) → IsKeyword word.Detach detach → IsKeyword word.Delete t
        → SpellsEach (SpellsVariable line) vs ts rest → SpellsClause (delete true vs) (detach ∷ t ∷ ts) rest

-- ---- the order of clauses

-- what the clauses before lead to: reading ones, or none since the beginning or the last WITH; updating ones; the end
pub data ClausePhase : Type 0 where
  reading : ClausePhase
  updating : ClausePhase
  ended : ClausePhase

abbrev pub phase_after : Clause → ClausePhase
phase_after («match» optional ps f) = reading
phase_after (unwind e v) = reading
phase_after («with» p f) = reading
phase_after («return» p) = ended
phase_after (create ps) = updating
phase_after (set is) = updating
phase_after (remove is) = updating
phase_after (delete detach vs) = ended

-- after updating clauses no reading one may follow, and after RETURN and DELETE nothing
abbrev pub may_follow : ClausePhase → Clause → Bool
may_follow reading c = true
may_follow updating («match» optional ps f) = false
may_follow updating (unwind e v) = false
may_follow updating c = true
may_follow ended c = false

-- a query ends with an updating clause or RETURN
abbrev pub may_end : ClausePhase → Bool
may_end reading = false
may_end updating = true
may_end ended = true

-- query = clause { clause }, in an order that is allowed
pub data SpellsQuery (line : List ℕ) : ClausePhase → List Clause → List Token → List Token → Type 0 where
  no_more_clauses : (s : ClausePhase) (ts : List Token) → IsTrue (may_end s) → SpellsQuery line s [] ts ts
  next_clause : (s : ClausePhase) (c : Clause) (cs : List Clause) (ts mid rest : List Token) → IsTrue (may_follow s c) → SpellsClause line c ts mid
      → SpellsQuery line (phase_after c) cs mid rest → SpellsQuery line s (c ∷ cs) ts rest

-- ---- queries with UNION between

abbrev pub updates : Clause → Bool
updates (create ps) = true
updates (set is) = true
updates (remove is) = true
updates (delete detach vs) = true
updates c = false

-- no clause updates, so that a whole query of them ends with RETURN
abbrev pub reads_alone : List Clause → Bool
reads_alone [] = true
reads_alone (c ∷ cs) = not (updates c) && reads_alone cs

-- a query of a union
pub record SpellsReading (line : List ℕ) (q : Query) (ts rest : List Token) : Type 0 where
  pub spelt : SpellsQuery line reading q.clauses ts rest
  pub reads : IsTrue (reads_alone q.clauses)

-- "UNION" [ "ALL" ]
pub data SpellsUnion : Bool → List Token → List Token → Type 0 where
  union : (t : Token) (rest : List Token) → IsKeyword word.Union t → SpellsUnion false (t ∷ rest) rest
  union_all : (t all : Token) (rest : List Token) → IsKeyword word.Union t → IsKeyword word.All all → SpellsUnion true (t ∷ all ∷ rest) rest

-- { "UNION" [ "ALL" ] query }, with ALL after each UNION or after none
pub data SpellsFurther (line : List ℕ) (all : Bool) : List Query → List Token → List Token → Type 0 where
  no_further : (ts : List Token) → SpellsFurther line all [] ts ts
  further : (q : Query) (qs : List Query) (ts from mid rest : List Token) → SpellsUnion all ts from → SpellsReading line q from mid
      → SpellsFurther line all qs mid rest → SpellsFurther line all (q ∷ qs) ts rest

-- the end of the tokens, which a `;` may stand before
pub data SpellsEnd : List Token → Type 0 where
  nothing_more : SpellsEnd []
  semicolon : (t : Token) → IsSymbol sign.Semicolon t → SpellsEnd (t ∷ [])

-- statement = query { "UNION" [ "ALL" ] query } [ ";" ], where queries of a union are reading ones
pub data SpellsStatement (line : List ℕ) : Statement → List Token → Type 0 where
  one_query : (q : Query) (ts rest : List Token) → SpellsQuery line reading q.clauses ts rest → SpellsEnd rest
      → SpellsStatement line (record { queries = q ∷ []; all = false }) ts
  union_of : (first second : Query) (others : List Query) (all : Bool) (ts mid rest : List Token) → SpellsReading line first ts mid
      → SpellsFurther line all (second ∷ others) mid rest → SpellsEnd rest
      → SpellsStatement line (record { queries = first ∷ second ∷ others; all = all }) ts
