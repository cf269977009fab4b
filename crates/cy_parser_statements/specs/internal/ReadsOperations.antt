-- Function values that read operands and the operators between them.
use Rattle.std.specs.Prelude.{◌≡◌, List, Option, Result}
use denote.Ref.{MutBor}
use Rattle.cy_lexer.specs.declared.tokens.TokenKind.{TokenKind}
use Rattle.cy_lexer.specs.declared.tokens.Token.{Token}
use Rattle.cy_trees.specs.declared.expressions.BinaryOperator.{BinaryOperator}
use Rattle.cy_trees.specs.Trees.{Expression}
use Rattle.cy_parser_statements.specs.declared.operands.Operand.{Operand}
use Rattle.cy_parser_statements.specs.declared.refusals.Refusal.{Refusal}
use Rattle.cy_parser_statements.specs.internal.Operands.{operand_of}
use Rattle.cy_parser_grammar.specs.internal.Reader.{Reader}
use Rattle.cy_parser_statements.specs.internal.Reads.{Reads}

pub record ReadsOperations (operators : TokenKind → Option BinaryOperator) (operand : Reader Expression)
    (operator_post : TokenKind → Option BinaryOperator → Type 0)
    (operand_post : MutBor (List Token) → Result Operand Refusal → MutBor (List Token) → Type 0) : Type 0 where
  pub finds : (kind : TokenKind) (found : Option BinaryOperator) → operator_post kind found → found ≡ operators kind
  pub reads : (old new : MutBor (List Token)) (r : Result Operand Refusal) → operand_post old r new → Reads operand_of (operand old.now) r new.now
