-- How expressions are read, level by level. Each level answers one tree, and there is no way back.
use Rattle.std.specs.Prelude.{ℕ, zero, suc, pos, Bool, true, false, if◌then◌else◌, nat_lt, nat_le, List, [], ◌∷◌, ◌++◌, length, Option, Some, None}
use Rattle.cy_lexer.specs.declared.tokens.TokenKind.{TokenKind}
use Rattle.cy_lexer.specs.declared.tokens.TokenKind.TheVariants as kind
use Rattle.cy_lexer.specs.declared.keywords.Keyword.TheVariants as word
use Rattle.cy_lexer.specs.declared.symbols.Symbol.TheVariants as sign
use Rattle.cy_trees.specs.declared.expressions.UnaryOperator.TheVariants as unary_operator
use Rattle.cy_trees.specs.declared.expressions.BinaryOperator.{BinaryOperator}
use Rattle.cy_trees.specs.declared.expressions.BinaryOperator.TheVariants as operator
use Rattle.cy_trees.specs.declared.expressions.Comparator.{Comparator}
use Rattle.cy_parser_grammar.specs.declared.places.Nested.{Nested}
use Rattle.cy_parser_grammar.specs.declared.places.Nested.TheVariants as nested
use Rattle.cy_trees.specs.Trees.{Name, Expression, null, boolean, integer, text, variable, property, has_labels, unary, binary, comparison, list, case, call, call_star, no_more, Otherwise, nothing, otherwise}
use Rattle.cy_trees.specs.TreeModels.{expressions_from, links_from, arms_from}
use Rattle.cy_parser_grammar.specs.Words.{lowered, denotes, negated, comparator_of, sum_operator, product_operator}
use Rattle.cy_lexer.specs.Numbers.{greatest_number}
use Rattle.cy_parser_grammar.specs.internal.Chains.{disjunction_operator, exclusion_operator, conjunction_operator}
use Rattle.cy_parser_grammar.specs.SpellsClauses.{most_levels}
use Rattle.cy_parser_grammar.specs.internal.Reader.{Reader, ◌>>=◌, ◌>>◌, ◌<$>◌, pure, refuse, peek, skip, at_kind, eat_keyword, eat_symbol, expect_keyword, expect_symbol, name, word as any_word, checked}

-- after IS
unfoldable pub null_test : Expression → Reader Expression
null_test left = do
  is_not ← eat_keyword word.Not
  expect_keyword word.Null
  checked (unary (if is_not then unary_operator.IsNotNull else unary_operator.IsNull) left)

abbrev pub begins_predicate : Option TokenKind → Bool
begins_predicate (Some (kind.Keyword word.Is)) = true
begins_predicate (Some (kind.Keyword word.In)) = true
begins_predicate (Some (kind.Keyword word.Contains)) = true
begins_predicate (Some (kind.Keyword word.Starts)) = true
begins_predicate (Some (kind.Keyword word.Ends)) = true
begins_predicate _ = false

-- the token goes on with arithmetic or a predicate; with one of these or a chain of comparisons; with AND, XOR or OR
abbrev pub continues_predicate : Option TokenKind → Bool
continues_predicate (Some (kind.Symbol sign.Star)) = true
continues_predicate (Some (kind.Symbol sign.Slash)) = true
continues_predicate (Some (kind.Symbol sign.Percent)) = true
continues_predicate (Some (kind.Symbol sign.Plus)) = true
continues_predicate (Some (kind.Symbol sign.Minus)) = true
continues_predicate k = begins_predicate k

abbrev pub continues_comparison : Option TokenKind → Bool
continues_comparison (Some (kind.Symbol sign.Equal)) = true
continues_comparison (Some (kind.Symbol sign.NotEqual)) = true
continues_comparison (Some (kind.Symbol sign.Less)) = true
continues_comparison (Some (kind.Symbol sign.LessOrEqual)) = true
continues_comparison (Some (kind.Symbol sign.Greater)) = true
continues_comparison (Some (kind.Symbol sign.GreaterOrEqual)) = true
continues_comparison k = continues_predicate k

abbrev pub continues_whole : Option TokenKind → Bool
continues_whole (Some (kind.Keyword word.And)) = true
continues_whole (Some (kind.Keyword word.Xor)) = true
continues_whole (Some (kind.Keyword word.Or)) = true
continues_whole _ = false

-- a property or a test for labels
abbrev pub continues_owner : Option TokenKind → Bool
continues_owner (Some (kind.Symbol sign.Dot)) = true
continues_owner (Some (kind.Symbol sign.Colon)) = true
continues_owner _ = false

-- operands with operators between, grouped to the left
unfoldable pub chain_from : (TokenKind → Option BinaryOperator) → Reader Expression → ℕ → Expression → Reader Expression
chain_from operators operand zero left = pure left
chain_from operators operand (suc n) left = do
  next ← peek
  elim (at_kind operators next) [
    | None ↦ pure left
    | Some found ↦ skip >> (operand >>= (λ right. checked (binary found left right)) >>= chain_from operators operand n)
  ]

abbrev pub chain_after : (TokenKind → Option BinaryOperator) → Reader Expression → Expression → Reader Expression
chain_after operators operand left = λ ts. chain_from operators operand (length ts) left ts

abbrev pub chain : (TokenKind → Option BinaryOperator) → Reader Expression → Reader Expression
chain operators operand = operand >>= chain_after operators operand

-- one more level opens, where this many may still open
unfoldable pub opened : ℕ → Reader (Unit {0})
opened zero = refuse
opened (suc n) = pure tt

module _ (line : List ℕ) where
  -- names with a `:` before each, one or more, after the first `:`
  unfoldable pub labels_from : ℕ → List Name → Reader (List Name)
  labels_from zero found = refuse
  labels_from (suc n) found = do
    label ← any_word line
    goes_on ← eat_symbol sign.Colon
    if goes_on then labels_from n (found ++ label ∷ []) else pure (found ++ label ∷ [])

  unfoldable pub labels : Reader (List Name)
  labels = λ ts. labels_from (length ts) [] ts

  -- the properties after an owner
  unfoldable pub properties_from : ℕ → Expression → Reader Expression
  properties_from zero e = pure e
  properties_from (suc n) e = do
    is_there ← eat_symbol sign.Dot
    if is_there then (do
      key ← any_word line
      further ← checked (property e key)
      properties_from n further) else pure e

  unfoldable pub properties : Expression → Reader Expression
  properties e = λ ts. properties_from (length ts) e ts

  unfoldable pub labelled : Expression → Reader Expression
  labelled e = do
    is_there ← eat_symbol sign.Colon
    if is_there then (do
      found ← labels
      checked (has_labels e found)) else pure e

  -- what may stand after a name, a call and a bracket
  unfoldable pub attributes : Expression → Reader Expression
  attributes e = properties e >>= labelled

  -- a number that an integer holds
  unfoldable pub counted : ℕ → Reader Expression
  counted n = if nat_lt n greatest_number then pure (integer (pos n)) else refuse

  -- a text, which was seen
  unfoldable pub quoted : Reader Name
  quoted [] = None
  quoted (t ∷ ts) = Some (denotes line t, ts)

  abbrev pub literal_by : Option TokenKind → Reader Expression
  literal_by (Some (kind.Keyword word.True)) = skip >> pure (boolean true)
  literal_by (Some (kind.Keyword word.False)) = skip >> pure (boolean false)
  literal_by (Some (kind.Keyword word.Null)) = skip >> pure null
  literal_by (Some (kind.Number n)) = skip >> counted n
  literal_by (Some kind.Text) = text <$> quoted
  literal_by _ = refuse

  -- a literal that has no `-` before it
  unfoldable pub literal : Reader Expression
  literal = peek >>= literal_by

  -- `inner` reads what stands inside of one more level
  module _ (inner : Nested → Reader Expression) where
    abbrev pub whole : Reader Expression
    whole = inner nested.Whole

    -- expressions with commas between, one or more
    unfoldable pub elements_from : ℕ → List Expression → Reader (List Expression)
    elements_from zero found = refuse
    elements_from (suc n) found = do
      e ← whole
      goes_on ← eat_symbol sign.Comma
      if goes_on then elements_from n (found ++ e ∷ []) else pure (found ++ e ∷ [])

    unfoldable pub elements : Reader (List Expression)
    elements = λ ts. elements_from (length ts) [] ts

    -- after `[`
    unfoldable pub listed : Reader Expression
    listed = do
      is_empty ← eat_symbol sign.RightBracket
      if is_empty then pure (list no_more) else (do
        es ← elements
        expect_symbol sign.RightBracket
        checked (list (expressions_from es)))

    -- after `(`
    unfoldable pub bracketed : Reader Expression
    bracketed = do
      e ← whole
      expect_symbol sign.RightParenthesis
      pure e

    unfoldable pub arguments : Name → Reader Expression
    arguments function = do
      is_empty ← eat_symbol sign.RightParenthesis
      if is_empty then pure (call function false no_more) else (do
        distinct ← eat_keyword word.Distinct
        es ← elements
        expect_symbol sign.RightParenthesis
        checked (call function distinct (expressions_from es)))

    -- a call, after the function's name and `(`
    unfoldable pub called : Name → Reader Expression
    called function = do
      is_star ← eat_symbol sign.Star
      if is_star then expect_symbol sign.RightParenthesis >> pure (call_star function) else arguments function

    -- WHEN and THEN, one or more, after the first WHEN
    unfoldable pub arms_read : ℕ → List (Expression × Expression) → Reader (List (Expression × Expression))
    arms_read zero found = refuse
    arms_read (suc n) found = do
      condition ← whole
      expect_keyword word.Then
      outcome ← whole
      goes_on ← eat_keyword word.When
      if goes_on then arms_read n (found ++ (condition, outcome) ∷ []) else pure (found ++ (condition, outcome) ∷ [])

    unfoldable pub arms : Reader (List (Expression × Expression))
    arms = λ ts. arms_read (length ts) [] ts

    unfoldable pub else_read : Reader Otherwise
    else_read = do
      is_there ← eat_keyword word.Else
      if is_there then otherwise <$> whole else pure nothing

    -- after CASE
    unfoldable pub cases : Reader Expression
    cases = do
      expect_keyword word.When
      found ← arms
      last ← else_read
      expect_keyword word.End
      checked (case (arms_from found) last)

    -- after a `-`
    abbrev pub minus_by : Option TokenKind → Reader Expression
    minus_by (Some (kind.Number n)) = if nat_le n greatest_number then skip >> pure (integer (negated n)) else refuse
    minus_by _ = inner nested.Sign >>= (λ e. checked (unary unary_operator.Minus e))

    unfoldable pub minus : Reader Expression
    minus = peek >>= minus_by

    -- after NOT
    abbrev pub denied : Reader Expression
    denied = inner nested.Negation >>= (λ e. checked (unary unary_operator.Not e))

    abbrev pub bracketed_owner : Reader Expression
    bracketed_owner = bracketed >>= attributes

    unfoldable pub plus : Reader Expression
    plus = inner nested.Sign >>= (λ e. checked (unary unary_operator.Plus e))

  -- `inner` reads what stands inside of one more level, and this many may still open
  module _ (levels : ℕ) (inner : Nested → Reader Expression) where
    unfoldable pub named : Reader Expression
    named = do
      called_by ← name line
      is_call ← eat_symbol sign.LeftParenthesis
      if is_call then opened levels >> called inner (lowered called_by) else pure (variable (record { name = called_by; column = None }))

    abbrev pub named_owner : Reader Expression
    named_owner = named >>= attributes

    abbrev pub postfix_by : Option TokenKind → Reader Expression
    postfix_by (Some kind.Name) = named_owner
    postfix_by (Some kind.QuotedName) = named_owner
    postfix_by (Some (kind.Symbol sign.LeftParenthesis)) = skip >> bracketed_owner inner
    postfix_by (Some (kind.Symbol sign.LeftBracket)) = skip >> (opened levels >> listed inner)
    postfix_by (Some (kind.Keyword word.Case)) = skip >> (opened levels >> cases inner)
    postfix_by _ = literal

    unfoldable pub postfix : Reader Expression
    postfix = peek >>= postfix_by

    unfoldable pub signed : Reader Expression
    signed = do
      is_minus ← eat_symbol sign.Minus
      if is_minus then minus inner else (do
        is_plus ← eat_symbol sign.Plus
        if is_plus then plus inner else postfix)

    unfoldable pub product : Reader Expression
    product = chain product_operator signed

    unfoldable pub sum : Reader Expression
    sum = chain sum_operator product

    unfoldable pub tested : BinaryOperator → Expression → Reader Expression
    tested found left = sum >>= (λ right. checked (binary found left right))

    -- the predicate that the next token begins
    abbrev pub predicate_by : Expression → Option TokenKind → Reader Expression
    predicate_by left (Some (kind.Keyword word.Is)) = skip >> null_test left
    predicate_by left (Some (kind.Keyword word.In)) = skip >> tested operator.In left
    predicate_by left (Some (kind.Keyword word.Contains)) = skip >> tested operator.Contains left
    predicate_by left (Some (kind.Keyword word.Starts)) = skip >> (expect_keyword word.With >> tested operator.StartsWith left)
    predicate_by left (Some (kind.Keyword word.Ends)) = skip >> (expect_keyword word.With >> tested operator.EndsWith left)
    predicate_by left _ = refuse

    unfoldable pub predicate_step : Expression → Reader Expression
    predicate_step left = peek >>= predicate_by left

    unfoldable pub predicates_from : ℕ → Expression → Reader Expression
    predicates_from zero left = pure left
    predicates_from (suc n) left = do
      next ← peek
      if begins_predicate next then (predicate_step left >>= predicates_from n) else pure left

    abbrev pub predicates_after : Expression → Reader Expression
    predicates_after left = λ ts. predicates_from (length ts) left ts

    unfoldable pub predicate : Reader Expression
    predicate = sum >>= predicates_after

    -- the predicate that the operand begins
    unfoldable pub predicate_from : Expression → Reader Expression
    predicate_from e = chain_after product_operator signed e >>= chain_after sum_operator product >>= predicates_after

    unfoldable pub links_read : ℕ → List (Comparator × Expression) → Reader (List (Comparator × Expression))
    links_read zero found = pure found
    links_read (suc n) found = do
      next ← peek
      elim (at_kind comparator_of next) [
        | None ↦ pure found
        | Some by ↦ skip >> (predicate >>= (λ operand. links_read n (found ++ (by, operand) ∷ [])))
      ]

    abbrev pub compared : Expression → List (Comparator × Expression) → Reader Expression
    compared first [] = pure first
    compared first (l ∷ ls) = checked (comparison first (links_from (l ∷ ls)))

    unfoldable pub links : Reader (List (Comparator × Expression))
    links = λ ts. links_read (length ts) [] ts

    abbrev pub comparisons_after : Expression → Reader Expression
    comparisons_after first = do
      found ← links
      compared first found

    abbrev pub comparisons_from : Expression → Reader Expression
    comparisons_from e = predicate_from e >>= comparisons_after

    unfoldable pub comparisons : Reader Expression
    comparisons = predicate >>= comparisons_after

    unfoldable pub negation : Reader Expression
    negation = do
      is_not ← eat_keyword word.Not
      if is_not then denied inner else comparisons

    unfoldable pub conjunction : Reader Expression
    conjunction = chain conjunction_operator negation

    unfoldable pub exclusion : Reader Expression
    exclusion = chain exclusion_operator conjunction

    unfoldable pub disjunction : Reader Expression
    disjunction = chain disjunction_operator exclusion

    -- the whole expression that the operand begins
    abbrev pub disjunction_from : Expression → Reader Expression
    disjunction_from e = chain_after conjunction_operator negation e >>= chain_after exclusion_operator conjunction >>= chain_after disjunction_operator exclusion

    abbrev pub level : Nested → Reader Expression
    level nested.Whole = disjunction
    level nested.Negation = negation
    level nested.Sign = signed

  -- an expression with this many levels, its own counted, open at most
  unfoldable pub nesting : ℕ → Nested → Reader Expression
  nesting zero place = refuse
  nesting (suc n) place = level n (nesting n) place

  abbrev pub expression : Reader Expression
  expression = nesting most_levels nested.Whole
