use Rattle.std.proofs.Common.{◌≡◌, ◌-◌, Option}
use Rattle.cy_lexer.specs.declared.tokens.TokenKind.{TokenKind}
use Rattle.cy_trees.specs.declared.expressions.BinaryOperator.{BinaryOperator}
use Rattle.cy_parser_grammar.specs.internal.Expressions.{chain_from, chain_after}
use Rattle.cy_parser_statements.specs.internal.Operands.{operand_of}
use Rattle.cy_parser_grammar.specs.internal.Reader.{Reader}
use Rattle.cy_parser_statements.specs.internal.ReadsOperations.{ReadsOperations}
use Rattle.cy_trees.specs.Trees.{Expression}
use Rattle.cy_parser_statements.proofs.operations.chain_after.Given as goal

abbrev pub invariant-loop-turn : goal.invariant-loop-turn
invariant-loop-turn g l = (operators : TokenKind → Option BinaryOperator) (read : Reader Expression) → ReadsOperations operators read (goal.O-post g l.operator_of) (goal.R-post g l.operand)
    → chain_after operators read (operand_of l.fn.first) l.fn.tokens ≡ chain_from operators read (l._turn-end - l._turn) (operand_of l.left) l.tokens
