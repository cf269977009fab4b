-- The operators of chains of truth values, each of which the grammar names by its keyword.
use Rattle.std.specs.Prelude.{Option, Some, None}
use Rattle.cy_lexer.specs.declared.tokens.TokenKind.{TokenKind}
use Rattle.cy_lexer.specs.declared.tokens.TokenKind.TheVariants as kind
use Rattle.cy_lexer.specs.declared.keywords.Keyword.TheVariants as word
use Rattle.cy_trees.specs.declared.expressions.BinaryOperator.{BinaryOperator}
use Rattle.cy_trees.specs.declared.expressions.BinaryOperator.TheVariants as operator

abbrev pub disjunction_operator : TokenKind → Option BinaryOperator
disjunction_operator (kind.Keyword word.Or) = Some operator.Or
disjunction_operator _ = None

abbrev pub exclusion_operator : TokenKind → Option BinaryOperator
exclusion_operator (kind.Keyword word.Xor) = Some operator.Xor
exclusion_operator _ = None

abbrev pub conjunction_operator : TokenKind → Option BinaryOperator
conjunction_operator (kind.Keyword word.And) = Some operator.And
conjunction_operator _ = None
