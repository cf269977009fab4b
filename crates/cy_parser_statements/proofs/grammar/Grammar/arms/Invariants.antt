use Rattle.std.proofs.Common.{◌≡◌, ◌-◌}
use Rattle.cy_parser_statements.specs.internal.Operands.{arms_in, ArmsAreMeasured}
use Rattle.cy_parser_grammar.specs.internal.Expressions.{nesting, arms, arms_read}
use Rattle.cy_parser_statements.proofs.grammar.Grammar.arms.Given as goal

abbrev pub invariant-loop-turn : goal.invariant-loop-turn
invariant-loop-turn g l = record {
  read : arms l.self.line.now (nesting l.self.line.now l.self.levels) l.fn.tokens ≡ arms_read l.self.line.now (nesting l.self.line.now l.self.levels) (l._turn-end - l._turn) (arms_in l.found) l.tokens;
  measured : ArmsAreMeasured l.found;
}
