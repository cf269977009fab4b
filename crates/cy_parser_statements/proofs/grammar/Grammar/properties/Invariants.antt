use Rattle.std.proofs.Common.{◌≡◌, ◌-◌}
use Rattle.cy_parser_statements.specs.internal.Operands.{operand_of}
use Rattle.cy_parser_grammar.specs.internal.Expressions.{properties, properties_from}
use Rattle.cy_parser_statements.proofs.grammar.Grammar.properties.Given as goal

abbrev pub invariant-loop-turn : goal.invariant-loop-turn
invariant-loop-turn g l = properties l.self.line.now (operand_of l.fn.owner) l.fn.tokens ≡ properties_from l.self.line.now (l._turn-end - l._turn) (operand_of l.owner) l.tokens
