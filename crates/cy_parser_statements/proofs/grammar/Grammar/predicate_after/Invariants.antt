use Rattle.std.proofs.Common.{◌≡◌, ◌-◌}
use Rattle.cy_parser_grammar.specs.internal.Expressions.{nesting, predicates_after, predicates_from}
use Rattle.cy_parser_statements.specs.internal.Operands.{operand_of}
use Rattle.cy_parser_statements.proofs.grammar.Grammar.predicate_after.Given as goal

abbrev pub invariant-loop-turn : goal.invariant-loop-turn
invariant-loop-turn g l = predicates_after l.self.line.now l.self.levels (nesting l.self.line.now l.self.levels) (operand_of l.fn.first) l.fn.tokens ≡ predicates_from l.self.line.now l.self.levels (nesting l.self.line.now l.self.levels) (l._turn-end - l._turn) (operand_of l.left) l.tokens
