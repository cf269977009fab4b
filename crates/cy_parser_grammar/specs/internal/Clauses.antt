-- How patterns, clauses and statements are read.
use Rattle.std.specs.Prelude.{ℕ, zero, suc, Bool, true, false, not, ◌&&◌, if◌then◌else◌, nat_lt, nat_le, List, [], ◌∷◌, ◌++◌, length, take, ◌-◌, Option, Some, None}
use Rattle.cy_lexer.specs.declared.tokens.TokenKind.{TokenKind}
use Rattle.cy_lexer.specs.declared.tokens.TokenKind.TheVariants as kind
use Rattle.cy_lexer.specs.declared.tokens.Token.{Token}
use Rattle.cy_lexer.specs.declared.keywords.Keyword.{Keyword}
use Rattle.cy_lexer.specs.declared.keywords.Keyword.TheVariants as word
use Rattle.cy_lexer.specs.declared.symbols.Symbol.TheVariants as sign
use Rattle.cy_trees.specs.declared.expressions.Variable.{Variable}
use Rattle.cy_trees.specs.declared.clauses.Direction.{Direction}
use Rattle.cy_trees.specs.declared.clauses.Direction.TheVariants as direction
use Rattle.cy_trees.specs.declared.clauses.Length.{Length}
use Rattle.cy_trees.specs.declared.expressions.BinaryOperator.TheVariants as operator
use Rattle.cy_parser_grammar.specs.declared.places.Nested.TheVariants as nested
use Rattle.cy_parser_grammar.specs.declared.phases.Opening.{Opening}
use Rattle.cy_parser_grammar.specs.declared.phases.Opening.TheVariants as opening
use Rattle.cy_parser_grammar.specs.declared.phases.ClausePhase.{ClausePhase}
use Rattle.cy_parser_grammar.specs.declared.phases.ClausePhase.TheVariants as phase
use Rattle.cy_trees.specs.Trees.{Name, Expression, binary, MapEntry, NodePattern, RelationshipPattern, Step, Path, Item, Key, Projection, SetItem, set_property, set_labels, RemoveItem, remove_property, remove_labels, PathTest, Where, Clause, «match», unwind, «with», «return», create, set, remove, delete, Query, Statement}
use Rattle.cy_lexer.specs.Numbers.{greatest_number}
use Rattle.cy_parser_grammar.specs.SpellsClauses.{greatest_bound, most_levels, direction_of, column_name, Part, condition, path_test as path_conjunct, has_step, is_path_among, ends_part, reads_alone}
use Rattle.cy_parser_grammar.specs.internal.Reader.{Reader, ◌>>=◌, ◌>>◌, ◌<$>◌, ◌<|>◌, pure, refuse, peek, skip, past, at_kind, sees_symbol, eat_keyword, eat_symbol, expect_keyword, expect_symbol, checked, name, word as any_word}
use Rattle.cy_parser_grammar.specs.internal.Expressions.{labels, expression, nesting}

-- items with commas between, one or more
unfoldable pub separated_from : {A : Type 0} → Reader A → ℕ → List A → Reader (List A)
separated_from item zero found = refuse
separated_from item (suc n) found = do
  x ← item
  goes_on ← eat_symbol sign.Comma
  if goes_on then separated_from item n (found ++ x ∷ []) else pure (found ++ x ∷ [])

abbrev pub separated : {A : Type 0} → Reader A → Reader (List A)
separated item = λ ts. separated_from item (length ts) [] ts

abbrev pub Tokens : Type 0
Tokens = List Token

abbrev pub named_variable : Name → Variable
named_variable n = record { name = n; column = None }

-- ---- lengths

abbrev pub number_by : Option TokenKind → Reader (Option ℕ)
number_by (Some (kind.Number n)) = if nat_lt n greatest_number then skip >> pure (Some n) else refuse
number_by _ = pure None

-- a number, if one comes next
unfoldable pub number_if_any : Reader (Option ℕ)
number_if_any = peek >>= number_by

-- a number, which has to come next
abbrev pub count_by : Option TokenKind → Reader ℕ
count_by (Some (kind.Number n)) = if nat_lt n greatest_number then skip >> pure n else refuse
count_by _ = refuse

unfoldable pub count : Reader ℕ
count = peek >>= count_by

unfoldable pub number_after : Keyword → Reader (Option ℕ)
number_after k = do
  is_there ← eat_keyword k
  if is_there then Some <$> count else pure None

-- bounds in order, and not too large
abbrev pub ranging : ℕ → Option ℕ → Reader Length
ranging least None = if nat_le least greatest_bound then pure (record { least = least; most = None }) else refuse
ranging least (Some most) =
    if nat_le least most && nat_le most greatest_bound then pure (record { least = least; most = Some most }) else refuse

abbrev pub least_of : Option ℕ → ℕ
least_of (Some n) = n
least_of None = 1

-- the bounds without `..`: a number alone is both
abbrev pub alone : Option ℕ → Reader Length
alone (Some n) = ranging n (Some n)
alone None = ranging 1 None

-- after `*`
unfoldable pub bounds : Reader Length
bounds = do
  least ← number_if_any
  is_open ← eat_symbol sign.DotDot
  if is_open then (number_if_any >>= ranging (least_of least)) else alone least

unfoldable pub length_if_any : Reader (Option Length)
length_if_any = do
  is_there ← eat_symbol sign.Star
  if is_there then Some <$> bounds else pure None

-- ---- where the clauses stand

-- the clause that a keyword begins
abbrev pub opening_of : TokenKind → Option Opening
opening_of (kind.Keyword word.Match) = Some opening.Match
opening_of (kind.Keyword word.Optional) = Some opening.Optional
opening_of (kind.Keyword word.Unwind) = Some opening.Unwind
opening_of (kind.Keyword word.With) = Some opening.With
opening_of (kind.Keyword word.Return) = Some opening.Return
opening_of (kind.Keyword word.Create) = Some opening.Create
opening_of (kind.Keyword word.Set) = Some opening.Set
opening_of (kind.Keyword word.Remove) = Some opening.Remove
opening_of (kind.Keyword word.Delete) = Some opening.Delete
opening_of (kind.Keyword word.Detach) = Some opening.Detach
opening_of _ = None

-- the clauses that may follow, by the clauses before
abbrev pub allows : ClausePhase → Opening → Bool
allows phase.Reading o = true
allows phase.Updating opening.Match = false
allows phase.Updating opening.Optional = false
allows phase.Updating opening.Unwind = false
allows phase.Updating o = true
allows phase.Ended o = false

abbrev pub phase_after : Opening → ClausePhase
phase_after opening.Match = phase.Reading
phase_after opening.Optional = phase.Reading
phase_after opening.Unwind = phase.Reading
phase_after opening.With = phase.Reading
phase_after opening.Return = phase.Ended
phase_after opening.Create = phase.Updating
phase_after opening.Set = phase.Updating
phase_after opening.Remove = phase.Updating
phase_after opening.Delete = phase.Ended
phase_after opening.Detach = phase.Ended

-- the clauses that write
abbrev pub updates : Opening → Bool
updates opening.Create = true
updates opening.Set = true
updates opening.Remove = true
updates opening.Delete = true
updates opening.Detach = true
updates o = false

-- a clause may follow, in a query after UNION too
abbrev pub is_allowed : Bool → ClausePhase → Opening → Bool
is_allowed false s o = allows s o
is_allowed true s o = allows s o && not (updates o)

-- a query may end after these clauses
abbrev pub may_end : ClausePhase → Bool
may_end phase.Reading = false
may_end phase.Updating = true
may_end phase.Ended = true

unfoldable pub query_ended : ClausePhase → Reader (Unit {0})
query_ended s = if may_end s then pure tt else refuse

-- the end of the tokens, which a `;` may stand before
abbrev pub nothing_left : Reader (Unit {0})
nothing_left [] = Some (tt, [])
nothing_left (t ∷ ts) = None

unfoldable pub end_read : Reader (Unit {0})
end_read = eat_symbol sign.Semicolon >> nothing_left

-- ALL, or none, after a later UNION, as after the first one
unfoldable pub same_union : Bool → Reader (Unit {0})
same_union true = expect_keyword word.All
same_union false = pure tt

-- ---- the conjuncts of a WHERE

-- two brackets come next
unfoldable pub sees_two_brackets : List Token → Bool
sees_two_brackets ts = sees_symbol sign.LeftParenthesis ts && sees_symbol sign.LeftParenthesis (past ts)

abbrev pub two_brackets : Reader Bool
two_brackets = λ ts. Some (sees_two_brackets ts, ts)

-- the condition with one more conjunct
unfoldable pub conjoined : Option Expression → Expression → Reader Expression
conjoined None e = pure e
conjoined (Some before) e = checked (binary operator.And before e)

-- a WHERE with more parts
unfoldable pub where_from : Where → List Part → Reader Where
where_from found [] = pure found
where_from found (condition e ∷ ps) = conjoined found.test e >>= (λ test. where_from (record { test = Some test; paths = found.paths }) ps)
where_from found (path_conjunct t ∷ ps) = where_from (record { test = found.test; paths = found.paths ++ t ∷ [] }) ps

-- a part ends after what was read
abbrev pub ending : {A : Type 0} → A → Reader A
ending a = λ ts. if ends_part ts then Some (a, ts) else None

abbrev pub no_where : Where
no_where = record { test = None; paths = [] }

abbrev pub test_alone : Expression → Where
test_alone e = record { test = Some e; paths = [] }

abbrev pub path_read : Bool → Path → PathTest
path_read denied p = record { denied = denied; path = p }

-- whether a key's order falls
abbrev pub descends : Option TokenKind → Reader Bool
descends (Some (kind.Keyword word.Asc)) = skip >> pure false
descends (Some (kind.Keyword word.Ascending)) = skip >> pure false
descends (Some (kind.Keyword word.Desc)) = skip >> pure true
descends (Some (kind.Keyword word.Descending)) = skip >> pure true
descends _ = pure false

unfoldable pub is_descending : Reader Bool
is_descending = peek >>= descends

-- a relationship begins with the token
abbrev pub begins_step : Option TokenKind → Bool
begins_step (Some (kind.Symbol sign.Less)) = true
begins_step (Some (kind.Symbol sign.Minus)) = true
begins_step _ = false

module _ (line : List ℕ) where
  abbrev pub whole : Reader Expression
  whole = expression line

  abbrev pub variable_read : Reader Variable
  variable_read = named_variable <$> name line

  -- ---- patterns

  abbrev pub variable_by : Option TokenKind → Reader (Option Variable)
  variable_by (Some kind.Name) = Some <$> variable_read
  variable_by (Some kind.QuotedName) = Some <$> variable_read
  variable_by _ = pure None

  unfoldable pub variable_if_any : Reader (Option Variable)
  variable_if_any = peek >>= variable_by

  unfoldable pub labels_if_any : Reader (List Name)
  labels_if_any = do
    is_there ← eat_symbol sign.Colon
    if is_there then labels line else pure []

  unfoldable pub entry : Reader MapEntry
  entry = do
    key ← any_word line
    expect_symbol sign.Colon
    (λ e. record { key = key; value = e }) <$> whole

  unfoldable pub entries : Reader (List MapEntry)
  entries = separated entry

  -- after `{`
  unfoldable pub map_read : Reader (List MapEntry)
  map_read = do
    is_empty ← eat_symbol sign.RightBrace
    if is_empty then pure [] else (do
      found ← entries
      expect_symbol sign.RightBrace
      pure found)

  unfoldable pub map_if_any : Reader (Option (List MapEntry))
  map_if_any = do
    is_there ← eat_symbol sign.LeftBrace
    if is_there then Some <$> map_read else pure None

  unfoldable pub node : Reader NodePattern
  node = do
    expect_symbol sign.LeftParenthesis
    v ← variable_if_any
    ls ← labels_if_any
    m ← map_if_any
    expect_symbol sign.RightParenthesis
    pure (record { variable = v; labels = ls; properties = m })

  -- types with `|` between, one or more; a `:` may follow each `|`
  unfoldable pub types_from : ℕ → List Name → Reader (List Name)
  types_from zero found = refuse
  types_from (suc n) found = do
    type ← any_word line
    goes_on ← eat_symbol sign.Bar
    if goes_on then (eat_symbol sign.Colon >> types_from n (found ++ type ∷ [])) else pure (found ++ type ∷ [])

  unfoldable pub types : Reader (List Name)
  types = λ ts. types_from (length ts) [] ts

  unfoldable pub types_if_any : Reader (List Name)
  types_if_any = do
    is_there ← eat_symbol sign.Colon
    if is_there then types else pure []

  -- what stands in the square brackets; the direction is set by what stands around them
  unfoldable pub relationship_body : Direction → Reader RelationshipPattern
  relationship_body towards = do
    v ← variable_if_any
    ts ← types_if_any
    l ← length_if_any
    m ← map_if_any
    expect_symbol sign.RightBracket
    pure (record { variable = v; direction = towards; types = ts; length = l; properties = m })

  abbrev pub plain_relationship : Direction → RelationshipPattern
  plain_relationship towards = record { variable = None; direction = towards; types = []; length = None; properties = None }

  unfoldable pub relationship_if_any : Reader RelationshipPattern
  relationship_if_any = do
    is_there ← eat_symbol sign.LeftBracket
    if is_there then relationship_body direction.Either else pure (plain_relationship direction.Either)

  -- a relationship, from the left arrow or the first `-` on
  unfoldable pub relationship : Reader RelationshipPattern
  relationship = do
    is_left ← eat_symbol sign.Less
    expect_symbol sign.Minus
    r ← relationship_if_any
    expect_symbol sign.Minus
    is_right ← eat_symbol sign.Greater
    pure (record r { direction = direction_of is_left is_right })

  unfoldable pub step : Reader Step
  step = do
    r ← relationship
    (λ to. record { relationship = r; node = to }) <$> node

  unfoldable pub steps_from : ℕ → List Step → Reader (List Step)
  steps_from zero found = pure found
  steps_from (suc n) found = do
    next ← peek
    if begins_step next then (step >>= (λ s. steps_from n (found ++ s ∷ []))) else pure found

  unfoldable pub steps : Reader (List Step)
  steps = λ ts. steps_from (length ts) [] ts

  unfoldable pub path : Reader Path
  path = do
    start ← node
    (λ more. record { start = start; steps = more }) <$> steps

  unfoldable pub paths : Reader (List Path)
  paths = separated path

  -- ---- projections

  unfoldable pub column : Expression → List Token → Reader Item
  column e before = λ after. (do
    is_named ← eat_keyword word.As
    if is_named then (λ c. record { expression = e; column = c; named = true }) <$> name line
        else pure (record { expression = e; column = column_name line e (take (length before - length after) before); named = false })) after

  unfoldable pub item : Reader Item
  item = λ ts. (whole >>= (λ e. column e ts)) ts

  unfoldable pub items : Reader (List Item)
  items = separated item

  unfoldable pub key : Reader Key
  key = do
    e ← whole
    (λ down. record { expression = e; descending = down }) <$> is_descending

  unfoldable pub keys : Reader (List Key)
  keys = separated key

  unfoldable pub keys_if_any : Reader (List Key)
  keys_if_any = do
    is_there ← eat_keyword word.Order
    if is_there then expect_keyword word.By >> keys else pure []

  unfoldable pub projection : Reader Projection
  projection = do
    distinct ← eat_keyword word.Distinct
    is ← items
    ks ← keys_if_any
    skipped ← number_after word.Skip
    most ← number_after word.Limit
    pure (record { distinct = distinct; items = is; order = ks; skip = skipped; limit = most })

  -- ---- conditions

  -- a path with a relationship
  unfoldable pub stepped : Reader Path
  stepped = do
    p ← path
    if has_step p then pure p else refuse

  unfoldable pub bracketed_path : Reader Path
  bracketed_path = do
    expect_symbol sign.LeftParenthesis
    p ← stepped
    expect_symbol sign.RightParenthesis
    pure p

  -- after NOT
  unfoldable pub denied_path : Reader Path
  denied_path = do
    in_brackets ← two_brackets
    if in_brackets then bracketed_path else stepped

  unfoldable pub path_test : Reader PathTest
  path_test = do
    denied ← eat_keyword word.Not
    if denied then path_read true <$> denied_path else path_read false <$> stepped

  unfoldable pub path_part : Reader Part
  path_part = path_test >>= (λ t. ending (path_conjunct t))

  unfoldable pub condition_part : Reader Part
  condition_part = nesting line most_levels nested.Negation >>= (λ e. ending (condition e))

  -- a path where one stands up to the part's end, else an expression
  unfoldable pub part : Reader Part
  part = path_part <|> condition_part

  unfoldable pub parts_from : ℕ → List Part → Reader (List Part)
  parts_from zero found = refuse
  parts_from (suc n) found = do
    p ← part
    goes_on ← eat_keyword word.And
    if goes_on then parts_from n (found ++ p ∷ []) else pure (found ++ p ∷ [])

  unfoldable pub parts : Reader (List Part)
  parts = λ ts. parts_from (length ts) [] ts

  -- parts of which one is a path
  unfoldable pub conjuncts : Reader (List Part)
  conjuncts = do
    ps ← parts
    if is_path_among ps then pure ps else refuse

  -- what the conjuncts make, or else the expression
  abbrev pub where_by : Option (List Part × List Token) → Reader Where
  where_by (Some found) = λ ts. where_from no_where found.0 found.1
  where_by None = test_alone <$> whole

  -- after WHERE
  unfoldable pub condition_read : Reader Where
  condition_read = λ ts. where_by (conjuncts ts) ts

  unfoldable pub filter_if_any : Reader Where
  filter_if_any = do
    is_there ← eat_keyword word.Where
    if is_there then condition_read else pure no_where

  -- ---- updates

  -- after the variable and `.`
  unfoldable pub assignment : Variable → Reader SetItem
  assignment v = do
    key ← any_word line
    expect_symbol sign.Equal
    set_property v key <$> whole

  unfoldable pub set_item : Reader SetItem
  set_item = do
    v ← variable_read
    is_property ← eat_symbol sign.Dot
    if is_property then assignment v else (expect_symbol sign.Colon >> set_labels v <$> labels line)

  unfoldable pub set_items : Reader (List SetItem)
  set_items = separated set_item

  unfoldable pub remove_item : Reader RemoveItem
  remove_item = do
    v ← variable_read
    is_property ← eat_symbol sign.Dot
    if is_property then remove_property v <$> any_word line else (expect_symbol sign.Colon >> remove_labels v <$> labels line)

  unfoldable pub remove_items : Reader (List RemoveItem)
  remove_items = separated remove_item

  unfoldable pub variables : Reader (List Variable)
  variables = separated variable_read

  -- ---- clauses, each after its first keyword

  unfoldable pub match_read : Bool → Reader Clause
  match_read optional = do
    ps ← paths
    «match» optional ps <$> filter_if_any

  unfoldable pub unwind_read : Reader Clause
  unwind_read = do
    e ← whole
    expect_keyword word.As
    unwind e <$> variable_read

  unfoldable pub with_read : Reader Clause
  with_read = do
    p ← projection
    «with» p <$> filter_if_any

  unfoldable pub delete_read : Bool → Reader Clause
  delete_read detach = delete detach <$> variables

  abbrev pub clause_by : Opening → Reader Clause
  clause_by opening.Match = match_read false
  clause_by opening.Optional = expect_keyword word.Match >> match_read true
  clause_by opening.Unwind = unwind_read
  clause_by opening.With = with_read
  clause_by opening.Return = «return» <$> projection
  clause_by opening.Create = create <$> paths
  clause_by opening.Set = set <$> set_items
  clause_by opening.Remove = remove <$> remove_items
  clause_by opening.Delete = delete_read false
  clause_by opening.Detach = expect_keyword word.Delete >> delete_read true

  -- the clause that the next token begins, if it may stand here; `later` of a query after UNION
  unfoldable pub clause_in : Bool → ClausePhase → Opening → Reader Clause
  clause_in later s o = if is_allowed later s o then skip >> clause_by o else refuse

  unfoldable pub clauses_from : ℕ → Bool → ClausePhase → List Clause → Reader (List Clause)
  clauses_from zero later s found = query_ended s >> pure found
  clauses_from (suc n) later s found = do
    next ← peek
    elim (at_kind opening_of next) [
      | None ↦ query_ended s >> pure found
      | Some o ↦ clause_in later s o >>= (λ c. clauses_from n later (phase_after o) (found ++ c ∷ []))
    ]

  -- clauses as long as they go on
  unfoldable pub clauses : Bool → Reader (List Clause)
  clauses later = λ ts. clauses_from (length ts) later phase.Reading [] ts

  unfoldable pub query : Bool → Reader Query
  query later = (λ cs. record { clauses = cs }) <$> clauses later

  -- further queries, each after a UNION as the first one
  unfoldable pub queries_from : ℕ → Bool → List Query → Reader (List Query)
  queries_from zero all found = pure found
  queries_from (suc n) all found = do
    goes_on ← eat_keyword word.Union
    if goes_on then (do
      same_union all
      q ← query true
      queries_from n all (found ++ q ∷ [])) else pure found

  -- the queries of a union, after its first query and the first UNION
  unfoldable pub union_read : Query → Reader Statement
  union_read first = do
    all ← eat_keyword word.All
    second ← query true
    (λ qs. record { queries = qs; all = all }) <$> (λ ts. queries_from (length ts) all (first ∷ second ∷ []) ts)

  unfoldable pub union_of : Query → Reader Statement
  union_of first = if reads_alone first.clauses then union_read first else refuse

  -- queries, to where no UNION follows
  unfoldable pub queries : Reader Statement
  queries = do
    first ← query false
    is_union ← eat_keyword word.Union
    if is_union then union_of first else pure (record { queries = first ∷ []; all = false })

  unfoldable pub statement : Reader Statement
  statement = do
    found ← queries
    end_read
    pure found
