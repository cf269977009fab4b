-- Which tokens spell an expression: the rules of the grammar, level by level (openCypher 9, grammar, narrowed to this
-- profile; how many brackets may be open is own, this profile's choice). What stands from the tokens `ts` up to the tokens
-- `rest`, which are the last of them, spells the expression at a level of operators. The number before the level is one more
-- than the brackets, lists, calls, CASE, NOT and signs that may still open: what opens one leaves one less to what stands
-- inside, and at 0 nothing is spelt, no leaf either. Each rule is one production. `line` has the tokens' texts.
use Rattle.std.specs.Prelude.{◌≡◌, ℕ, suc, pos, ◌<◌, ◌≤◌, true, false, IsTrue, List, [], ◌∷◌, Some, None, Bool}
use Rattle.cy_lexer.specs.declared.tokens.TokenKind.{TokenKind}
use Rattle.cy_lexer.specs.declared.tokens.TokenKind.TheVariants as kind
use Rattle.cy_lexer.specs.declared.tokens.Token.{Token}
use Rattle.cy_lexer.specs.declared.keywords.Keyword.{Keyword}
use Rattle.cy_lexer.specs.declared.keywords.Keyword.TheVariants as word
use Rattle.cy_lexer.specs.declared.symbols.Symbol.{Symbol}
use Rattle.cy_lexer.specs.declared.symbols.Symbol.TheVariants as sign
use Rattle.cy_trees.specs.declared.expressions.UnaryOperator.TheVariants as unary_operator
use Rattle.cy_trees.specs.declared.expressions.BinaryOperator.{BinaryOperator}
use Rattle.cy_trees.specs.declared.expressions.BinaryOperator.TheVariants as operator
use Rattle.cy_trees.specs.declared.expressions.Comparator.{Comparator}
use Rattle.cy_trees.specs.Trees.{Name, Expression, null, boolean, integer, text, variable, property, has_labels, unary, binary, comparison, list, case, call, call_star, Expressions, no_more, more, Links, no_links, link, Arms, no_arms, arm, Otherwise, nothing, otherwise}
use Rattle.cy_parser_grammar.specs.Words.{is_name, is_word, lowered, denotes, negated, comparator_of, sum_operator, product_operator}
use Rattle.cy_lexer.specs.Numbers.{greatest_number}

abbrev pub IsKeyword : Keyword → Token → Type 0
IsKeyword k t = t.kind ≡ kind.Keyword k

abbrev pub IsSymbol : Symbol → Token → Type 0
IsSymbol s t = t.kind ≡ kind.Symbol s

abbrev pub IsNumber : ℕ → Token → Type 0
IsNumber n t = t.kind ≡ kind.Number n

abbrev pub is_number : TokenKind → Bool
is_number (kind.Number n) = true
is_number _ = false

-- a number begins the tokens
abbrev pub begins_with_number : List Token → Bool
begins_with_number [] = false
begins_with_number (t ∷ ts) = is_number t.kind

-- the levels, from the one that binds least to the one that binds most
pub data Level : Type 0 where
  whole : Level
  exclusion : Level
  conjunction : Level
  negation : Level
  comparisons : Level
  predicate : Level
  sum : Level
  product : Level
  signed : Level
  postfix : Level
  -- a head with the properties after it
  owner : Level
  head : Level

-- words with a `:` between, one or more
pub data SpellsLabels (line : List ℕ) : List Name → List Token → List Token → Type 0 where
  last_label : (t : Token) (rest : List Token) → IsTrue (is_word t.kind) → SpellsLabels line (denotes line t ∷ []) (t ∷ rest) rest
  next_label : (ls : List Name) (t colon : Token) (mid rest : List Token) → IsTrue (is_word t.kind) → IsSymbol sign.Colon colon
      → SpellsLabels line ls mid rest → SpellsLabels line (denotes line t ∷ ls) (t ∷ colon ∷ mid) rest

mutual
  pub data Spells (line : List ℕ) : ℕ → Level → Expression → List Token → List Token → Type 0 where
    -- expr = xor { "OR" xor }
    is_exclusion : (n : ℕ) (e : Expression) (ts rest : List Token)
        → Spells line n exclusion e ts rest → Spells line n whole e ts rest
    or : (n : ℕ) (a b : Expression) (t : Token) (ts mid rest : List Token)
        → Spells line n whole a ts (t ∷ mid) → IsKeyword word.Or t → Spells line n exclusion b mid rest
        → Spells line n whole (binary operator.Or a b) ts rest
    -- xor = and { "XOR" and }
    is_conjunction : (n : ℕ) (e : Expression) (ts rest : List Token)
        → Spells line n conjunction e ts rest → Spells line n exclusion e ts rest
    xor : (n : ℕ) (a b : Expression) (t : Token) (ts mid rest : List Token)
        → Spells line n exclusion a ts (t ∷ mid) → IsKeyword word.Xor t → Spells line n conjunction b mid rest
        → Spells line n exclusion (binary operator.Xor a b) ts rest
    -- and = not { "AND" not }
    is_negation : (n : ℕ) (e : Expression) (ts rest : List Token)
        → Spells line n negation e ts rest → Spells line n conjunction e ts rest
    and : (n : ℕ) (a b : Expression) (t : Token) (ts mid rest : List Token)
        → Spells line n conjunction a ts (t ∷ mid) → IsKeyword word.And t → Spells line n negation b mid rest
        → Spells line n conjunction (binary operator.And a b) ts rest
    -- not = "NOT" not | cmp
    is_comparison : (n : ℕ) (e : Expression) (ts rest : List Token)
        → Spells line n comparisons e ts rest → Spells line n negation e ts rest
    not : (n : ℕ) (e : Expression) (t : Token) (ts rest : List Token)
        → IsKeyword word.Not t → Spells line n negation e ts rest
        → Spells line (suc n) negation (unary unary_operator.Not e) (t ∷ ts) rest
    -- cmp = pred { comparator pred }
    is_predicate : (n : ℕ) (e : Expression) (ts rest : List Token)
        → Spells line n predicate e ts rest → Spells line n comparisons e ts rest
    compare : (n : ℕ) (e : Expression) (ls : Links) (ts mid rest : List Token)
        → Spells line n predicate e ts mid → SpellsLinks line n ls mid rest → Spells line n comparisons (comparison e ls) ts rest
    -- pred = sum { "IS" ["NOT"] "NULL" | "IN" sum | "CONTAINS" sum | "STARTS" "WITH" sum | "ENDS" "WITH" sum }
    is_sum : (n : ℕ) (e : Expression) (ts rest : List Token)
        → Spells line n sum e ts rest → Spells line n predicate e ts rest
    is_null : (n : ℕ) (e : Expression) (is_ null_ : Token) (ts rest : List Token)
        → Spells line n predicate e ts (is_ ∷ null_ ∷ rest) → IsKeyword word.Is is_ → IsKeyword word.Null null_
        → Spells line n predicate (unary unary_operator.IsNull e) ts rest
    is_not_null : (n : ℕ) (e : Expression) (is_ not_ null_ : Token) (ts rest : List Token)
        → Spells line n predicate e ts (is_ ∷ not_ ∷ null_ ∷ rest) → IsKeyword word.Is is_ → IsKeyword word.Not not_ → IsKeyword word.Null null_
        → Spells line n predicate (unary unary_operator.IsNotNull e) ts rest
    among : (n : ℕ) (a b : Expression) (t : Token) (ts mid rest : List Token)
        → Spells line n predicate a ts (t ∷ mid) → IsKeyword word.In t → Spells line n sum b mid rest
        → Spells line n predicate (binary operator.In a b) ts rest
    contains : (n : ℕ) (a b : Expression) (t : Token) (ts mid rest : List Token)
        → Spells line n predicate a ts (t ∷ mid) → IsKeyword word.Contains t → Spells line n sum b mid rest
        → Spells line n predicate (binary operator.Contains a b) ts rest
    starts_with : (n : ℕ) (a b : Expression) (t with_ : Token) (ts mid rest : List Token)
        → Spells line n predicate a ts (t ∷ with_ ∷ mid) → IsKeyword word.Starts t → IsKeyword word.With with_ → Spells line n sum b mid rest
        → Spells line n predicate (binary operator.StartsWith a b) ts rest
    ends_with : (n : ℕ) (a b : Expression) (t with_ : Token) (ts mid rest : List Token)
        → Spells line n predicate a ts (t ∷ with_ ∷ mid) → IsKeyword word.Ends t → IsKeyword word.With with_ → Spells line n sum b mid rest
        → Spells line n predicate (binary operator.EndsWith a b) ts rest
    -- sum = prod { ("+" | "-") prod }
    is_product : (n : ℕ) (e : Expression) (ts rest : List Token)
        → Spells line n product e ts rest → Spells line n sum e ts rest
    add : (n : ℕ) (o : BinaryOperator) (a b : Expression) (t : Token) (ts mid rest : List Token)
        → Spells line n sum a ts (t ∷ mid) → sum_operator t.kind ≡ Some o → Spells line n product b mid rest
        → Spells line n sum (binary o a b) ts rest
    -- prod = sign { ("*" | "/" | "%") sign }
    is_signed : (n : ℕ) (e : Expression) (ts rest : List Token)
        → Spells line n signed e ts rest → Spells line n product e ts rest
    multiply : (n : ℕ) (o : BinaryOperator) (a b : Expression) (t : Token) (ts mid rest : List Token)
        → Spells line n product a ts (t ∷ mid) → product_operator t.kind ≡ Some o → Spells line n signed b mid rest
        → Spells line n product (binary o a b) ts rest
    -- sign = "-" number | ("+" | "-") sign | post, where a `-` directly before a number makes one literal of both
    is_postfix : (n : ℕ) (e : Expression) (ts rest : List Token)
        → Spells line n postfix e ts rest → Spells line n signed e ts rest
    negative : (n m : ℕ) (minus number : Token) (rest : List Token)
        → IsSymbol sign.Minus minus → IsNumber m number → m ≤ greatest_number
        → Spells line (suc n) signed (integer (negated m)) (minus ∷ number ∷ rest) rest
    minus : (n : ℕ) (e : Expression) (t : Token) (ts rest : List Token)
        → IsSymbol sign.Minus t → begins_with_number ts ≡ false → Spells line n signed e ts rest
        → Spells line (suc n) signed (unary unary_operator.Minus e) (t ∷ ts) rest
    plus : (n : ℕ) (e : Expression) (t : Token) (ts rest : List Token)
        → IsSymbol sign.Plus t → Spells line n signed e ts rest
        → Spells line (suc n) signed (unary unary_operator.Plus e) (t ∷ ts) rest
    -- post = head { "." word } [ labels ] | literal | list | case
    is_owner : (n : ℕ) (e : Expression) (ts rest : List Token)
        → Spells line n owner e ts rest → Spells line n postfix e ts rest
    labelled : (n : ℕ) (e : Expression) (ls : List Name) (colon : Token) (ts mid rest : List Token)
        → Spells line n owner e ts (colon ∷ mid) → IsSymbol sign.Colon colon → SpellsLabels line ls mid rest
        → Spells line n postfix (has_labels e ls) ts rest
    is_head : (n : ℕ) (e : Expression) (ts rest : List Token)
        → Spells line n head e ts rest → Spells line n owner e ts rest
    with_key : (n : ℕ) (e : Expression) (dot key : Token) (ts rest : List Token)
        → Spells line n owner e ts (dot ∷ key ∷ rest) → IsSymbol sign.Dot dot → IsTrue (is_word key.kind)
        → Spells line n owner (property e (denotes line key)) ts rest
    true_ : (n : ℕ) (t : Token) (rest : List Token) → IsKeyword word.True t → Spells line (suc n) postfix (boolean true) (t ∷ rest) rest
    false_ : (n : ℕ) (t : Token) (rest : List Token) → IsKeyword word.False t → Spells line (suc n) postfix (boolean false) (t ∷ rest) rest
    null_ : (n : ℕ) (t : Token) (rest : List Token) → IsKeyword word.Null t → Spells line (suc n) postfix null (t ∷ rest) rest
    number : (n m : ℕ) (t : Token) (rest : List Token) → IsNumber m t → m < greatest_number → Spells line (suc n) postfix (integer (pos m)) (t ∷ rest) rest
    text_ : (n : ℕ) (t : Token) (rest : List Token) → t.kind ≡ kind.Text → Spells line (suc n) postfix (text (denotes line t)) (t ∷ rest) rest
    -- list = "[" [ expr { "," expr } ] "]", whose bracket is a level, also where nothing stands inside
    empty_list : (n : ℕ) (opening closing : Token) (rest : List Token)
        → IsSymbol sign.LeftBracket opening → IsSymbol sign.RightBracket closing
        → Spells line (suc (suc n)) postfix (list no_more) (opening ∷ closing ∷ rest) rest
    list_of : (n : ℕ) (es : Expressions) (opening closing : Token) (ts rest : List Token)
        → IsSymbol sign.LeftBracket opening → SpellsAll line n es ts (closing ∷ rest) → IsSymbol sign.RightBracket closing
        → Spells line (suc n) postfix (list es) (opening ∷ ts) rest
    -- case = "CASE" "WHEN" expr "THEN" expr { "WHEN" expr "THEN" expr } [ "ELSE" expr ] "END"
    case_of : (n : ℕ) (arms : Arms) (e : Otherwise) (case_ when end : Token) (ts mid rest : List Token)
        → IsKeyword word.Case case_ → IsKeyword word.When when → SpellsArms line n arms ts mid
        → SpellsOtherwise line n e mid (end ∷ rest) → IsKeyword word.End end
        → Spells line (suc n) postfix (case arms e) (case_ ∷ when ∷ ts) rest
    -- head = name | name "(" [ "*" | ["DISTINCT"] expr { "," expr } ] ")" | "(" expr ")", where a call's bracket is a level as a list's
    name : (n : ℕ) (t : Token) (rest : List Token) → IsTrue (is_name t.kind)
        → Spells line (suc n) head (variable (record { name = denotes line t; column = None })) (t ∷ rest) rest
    call_of_star : (n : ℕ) (t opening star closing : Token) (rest : List Token)
        → IsTrue (is_name t.kind) → IsSymbol sign.LeftParenthesis opening → IsSymbol sign.Star star → IsSymbol sign.RightParenthesis closing
        → Spells line (suc (suc n)) head (call_star (lowered (denotes line t))) (t ∷ opening ∷ star ∷ closing ∷ rest) rest
    call_of_nothing : (n : ℕ) (t opening closing : Token) (rest : List Token)
        → IsTrue (is_name t.kind) → IsSymbol sign.LeftParenthesis opening → IsSymbol sign.RightParenthesis closing
        → Spells line (suc (suc n)) head (call (lowered (denotes line t)) false no_more) (t ∷ opening ∷ closing ∷ rest) rest
    call_of : (n : ℕ) (es : Expressions) (t opening closing : Token) (ts rest : List Token)
        → IsTrue (is_name t.kind) → IsSymbol sign.LeftParenthesis opening → SpellsAll line n es ts (closing ∷ rest) → IsSymbol sign.RightParenthesis closing
        → Spells line (suc n) head (call (lowered (denotes line t)) false es) (t ∷ opening ∷ ts) rest
    call_of_distinct : (n : ℕ) (es : Expressions) (t opening distinct closing : Token) (ts rest : List Token)
        → IsTrue (is_name t.kind) → IsSymbol sign.LeftParenthesis opening → IsKeyword word.Distinct distinct
        → SpellsAll line n es ts (closing ∷ rest) → IsSymbol sign.RightParenthesis closing
        → Spells line (suc n) head (call (lowered (denotes line t)) true es) (t ∷ opening ∷ distinct ∷ ts) rest
    bracket : (n : ℕ) (e : Expression) (opening closing : Token) (ts rest : List Token)
        → IsSymbol sign.LeftParenthesis opening → Spells line n whole e ts (closing ∷ rest) → IsSymbol sign.RightParenthesis closing
        → Spells line (suc n) head e (opening ∷ ts) rest

  -- expressions with a `,` between, one or more
  pub data SpellsAll (line : List ℕ) : ℕ → Expressions → List Token → List Token → Type 0 where
    last_element : (n : ℕ) (e : Expression) (ts rest : List Token)
        → Spells line n whole e ts rest → SpellsAll line n (more e no_more) ts rest
    next_element : (n : ℕ) (e : Expression) (es : Expressions) (comma : Token) (ts mid rest : List Token)
        → Spells line n whole e ts (comma ∷ mid) → IsSymbol sign.Comma comma → SpellsAll line n es mid rest
        → SpellsAll line n (more e es) ts rest

  -- comparators with an operand after each, one or more
  pub data SpellsLinks (line : List ℕ) : ℕ → Links → List Token → List Token → Type 0 where
    last_link : (n : ℕ) (by : Comparator) (e : Expression) (t : Token) (ts rest : List Token)
        → comparator_of t.kind ≡ Some by → Spells line n predicate e ts rest → SpellsLinks line n (link by e no_links) (t ∷ ts) rest
    next_link : (n : ℕ) (by : Comparator) (e : Expression) (ls : Links) (t : Token) (ts mid rest : List Token)
        → comparator_of t.kind ≡ Some by → Spells line n predicate e ts mid → SpellsLinks line n ls mid rest
        → SpellsLinks line n (link by e ls) (t ∷ ts) rest

  -- the arms of a CASE after its first WHEN
  pub data SpellsArms (line : List ℕ) : ℕ → Arms → List Token → List Token → Type 0 where
    last_arm : (n : ℕ) (a b : Expression) (then_ : Token) (ts mid rest : List Token)
        → Spells line n whole a ts (then_ ∷ mid) → IsKeyword word.Then then_ → Spells line n whole b mid rest
        → SpellsArms line n (arm a b no_arms) ts rest
    next_arm : (n : ℕ) (a b : Expression) (arms : Arms) (then_ when : Token) (ts mid next rest : List Token)
        → Spells line n whole a ts (then_ ∷ mid) → IsKeyword word.Then then_ → Spells line n whole b mid (when ∷ next)
        → IsKeyword word.When when → SpellsArms line n arms next rest → SpellsArms line n (arm a b arms) ts rest

  pub data SpellsOtherwise (line : List ℕ) : ℕ → Otherwise → List Token → List Token → Type 0 where
    no_else : (n : ℕ) (ts : List Token) → SpellsOtherwise line n nothing ts ts
    else_ : (n : ℕ) (e : Expression) (t : Token) (ts rest : List Token)
        → IsKeyword word.Else t → Spells line n whole e ts rest → SpellsOtherwise line n (otherwise e) (t ∷ ts) rest
