-- Where an expression of a level ends, and how it begins, by the next token's kind.
use Rattle.std.proofs.Common.{◌≡◌, Bool, true, false, not, ◌&&◌, Option, Some, None, refl, sym, ap, ◌∙◌}
use Rattle.cy_lexer.specs.declared.keywords.Keyword.{Keyword}
use Rattle.cy_lexer.specs.declared.keywords.Keyword.TheVariants as word
use Rattle.cy_lexer.specs.declared.symbols.Symbol.{Symbol}
use Rattle.cy_lexer.specs.declared.symbols.Symbol.TheVariants as sign
use Rattle.cy_lexer.specs.declared.tokens.TokenKind.{TokenKind}
use Rattle.cy_lexer.specs.declared.tokens.TokenKind.TheVariants as kind
use Rattle.cy_trees.specs.declared.expressions.BinaryOperator.{BinaryOperator}
use Rattle.cy_trees.specs.declared.expressions.Comparator.{Comparator}
use Rattle.cy_parser_grammar.specs.Words.{comparator_of, sum_operator, product_operator, is_name}
use Rattle.cy_parser_grammar.specs.internal.Chains.{disjunction_operator, exclusion_operator, conjunction_operator}
use Rattle.cy_parser_grammar.specs.internal.Reader.{at_kind, is_symbol, is_keyword}
use Rattle.cy_parser_grammar.specs.internal.Expressions.{begins_predicate}
use Rattle.cy_parser_grammar.proofs.Gives.{symbol_is, keyword_is}

abbrev pub lacks : {A : Type 0} → Option A → Bool
lacks None = true
lacks (Some a) = false

-- the token before which an expression of the level has ended
abbrev pub ends_postfix : Option TokenKind → Bool
ends_postfix k = not (is_symbol sign.LeftParenthesis k) && (not (is_symbol sign.Dot k) && not (is_symbol sign.Colon k))

abbrev pub ends_product : Option TokenKind → Bool
ends_product k = ends_postfix k && lacks (at_kind product_operator k)

abbrev pub ends_sum : Option TokenKind → Bool
ends_sum k = ends_product k && lacks (at_kind sum_operator k)

abbrev pub ends_predicate : Option TokenKind → Bool
ends_predicate k = ends_sum k && not (begins_predicate k)

abbrev pub ends_comparisons : Option TokenKind → Bool
ends_comparisons k = ends_predicate k && lacks (at_kind comparator_of k)

abbrev pub ends_conjunction : Option TokenKind → Bool
ends_conjunction k = ends_comparisons k && lacks (at_kind conjunction_operator k)

abbrev pub ends_exclusion : Option TokenKind → Bool
ends_exclusion k = ends_conjunction k && lacks (at_kind exclusion_operator k)

abbrev pub ends_whole : Option TokenKind → Bool
ends_whole k = ends_exclusion k && lacks (at_kind disjunction_operator k)

-- the token with which an expression may begin: one without a sign and NOT, one without NOT, and any
abbrev pub begins_postfix : Option TokenKind → Bool
begins_postfix (Some kind.Name) = true
begins_postfix (Some kind.QuotedName) = true
begins_postfix (Some (kind.Number n)) = true
begins_postfix (Some kind.Text) = true
begins_postfix (Some (kind.Symbol sign.LeftParenthesis)) = true
begins_postfix (Some (kind.Symbol sign.LeftBracket)) = true
begins_postfix (Some (kind.Keyword word.Case)) = true
begins_postfix (Some (kind.Keyword word.True)) = true
begins_postfix (Some (kind.Keyword word.False)) = true
begins_postfix (Some (kind.Keyword word.Null)) = true
begins_postfix _ = false

abbrev pub begins_signed : Option TokenKind → Bool
begins_signed (Some (kind.Symbol sign.Minus)) = true
begins_signed (Some (kind.Symbol sign.Plus)) = true
begins_signed k = begins_postfix k

abbrev pub begins_negation : Option TokenKind → Bool
begins_negation (Some (kind.Keyword word.Not)) = true
begins_negation k = begins_signed k

pub lacking : {A : Type 0} (o : Option A) → lacks o ≡ true → o ≡ None
lacking None e = refl
lacking (Some a) e = cc

-- where a test holds of the next token and not of a symbol or a keyword, that one is not next
pub not_symbol : (test : Option TokenKind → Bool) (s : Symbol) → test (Some (kind.Symbol s)) ≡ false → (k : Option TokenKind) → test k ≡ true → is_symbol s k ≡ false
not_symbol test s other None met = refl
not_symbol test s other (Some k) met = by (is_symbol s (Some k)) refl
  where
    by : (b : Bool) → is_symbol s (Some k) ≡ b → b ≡ false
    by false is = refl
    by true is = sym met ∙ ap (λ x. test (Some x)) (symbol_is s k is) ∙ other

pub not_keyword : (test : Option TokenKind → Bool) (w : Keyword) → test (Some (kind.Keyword w)) ≡ false → (k : Option TokenKind) → test k ≡ true → is_keyword w k ≡ false
not_keyword test w other None met = refl
not_keyword test w other (Some k) met = by (is_keyword w (Some k)) refl
  where
    by : (b : Bool) → is_keyword w (Some k) ≡ b → b ≡ false
    by false is = refl
    by true is = sym met ∙ ap (λ x. test (Some x)) (keyword_is w k is) ∙ other

-- each operator ends its operands
pub product_ends : (k : TokenKind) (o : BinaryOperator) → product_operator k ≡ Some o → ends_postfix (Some k) ≡ true
product_ends (kind.Symbol sign.Star) o e = refl
product_ends (kind.Symbol sign.Slash) o e = refl
product_ends (kind.Symbol sign.Percent) o e = refl
product_ends _ o e = cc

pub sum_ends : (k : TokenKind) (o : BinaryOperator) → sum_operator k ≡ Some o → ends_product (Some k) ≡ true
sum_ends (kind.Symbol sign.Plus) o e = refl
sum_ends (kind.Symbol sign.Minus) o e = refl
sum_ends _ o e = cc

pub comparator_ends : (k : TokenKind) (c : Comparator) → comparator_of k ≡ Some c → ends_predicate (Some k) ≡ true
comparator_ends (kind.Symbol sign.Equal) c e = refl
comparator_ends (kind.Symbol sign.NotEqual) c e = refl
comparator_ends (kind.Symbol sign.Less) c e = refl
comparator_ends (kind.Symbol sign.LessOrEqual) c e = refl
comparator_ends (kind.Symbol sign.Greater) c e = refl
comparator_ends (kind.Symbol sign.GreaterOrEqual) c e = refl
comparator_ends _ c e = cc

pub conjunction_ends : (k : TokenKind) (o : BinaryOperator) → conjunction_operator k ≡ Some o → ends_comparisons (Some k) ≡ true
conjunction_ends (kind.Keyword word.And) o e = refl
conjunction_ends _ o e = cc

pub exclusion_ends : (k : TokenKind) (o : BinaryOperator) → exclusion_operator k ≡ Some o → ends_conjunction (Some k) ≡ true
exclusion_ends (kind.Keyword word.Xor) o e = refl
exclusion_ends _ o e = cc

pub disjunction_ends : (k : TokenKind) (o : BinaryOperator) → disjunction_operator k ≡ Some o → ends_exclusion (Some k) ≡ true
disjunction_ends (kind.Keyword word.Or) o e = refl
disjunction_ends _ o e = cc

-- how an expression doesn't begin
pub no_plus : (k : Option TokenKind) → begins_postfix k ≡ true → is_symbol sign.Plus k ≡ false
no_plus = not_symbol begins_postfix sign.Plus refl

pub no_minus : (k : Option TokenKind) → begins_postfix k ≡ true → is_symbol sign.Minus k ≡ false
no_minus = not_symbol begins_postfix sign.Minus refl

pub no_not : (k : Option TokenKind) → begins_signed k ≡ true → is_keyword word.Not k ≡ false
no_not = not_keyword begins_signed word.Not refl

pub signed_begins : (k : Option TokenKind) → begins_postfix k ≡ true → begins_signed k ≡ true
signed_begins (Some (kind.Symbol sign.Minus)) e = refl
signed_begins (Some (kind.Symbol sign.Plus)) e = refl
signed_begins _ e = e

pub negation_begins : (k : Option TokenKind) → begins_signed k ≡ true → begins_negation k ≡ true
negation_begins (Some (kind.Keyword word.Not)) e = refl
negation_begins _ e = e

pub name_begins : (k : TokenKind) → is_name k ≡ true → begins_postfix (Some k) ≡ true
name_begins kind.Name e = refl
name_begins kind.QuotedName e = refl
name_begins _ e = cc

pub no_bracket_end : (k : Option TokenKind) → begins_negation k ≡ true → is_symbol sign.RightBracket k ≡ false
no_bracket_end = not_symbol begins_negation sign.RightBracket refl

pub no_parenthesis_end : (k : Option TokenKind) → begins_negation k ≡ true → is_symbol sign.RightParenthesis k ≡ false
no_parenthesis_end = not_symbol begins_negation sign.RightParenthesis refl

pub no_star : (k : Option TokenKind) → begins_negation k ≡ true → is_symbol sign.Star k ≡ false
no_star = not_symbol begins_negation sign.Star refl

pub no_distinct : (k : Option TokenKind) → begins_negation k ≡ true → is_keyword word.Distinct k ≡ false
no_distinct = not_keyword begins_negation word.Distinct refl
