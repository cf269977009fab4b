use Rattle.std.proofs.Common.{◌≡◌, ◌-◌}
use Rattle.cy_parser_statements.specs.internal.Operands.{elements_of, AreMeasured}
use Rattle.cy_parser_grammar.specs.internal.Expressions.{nesting, elements, elements_from}
use Rattle.cy_parser_statements.proofs.grammar.Grammar.elements.Given as goal

abbrev pub invariant-loop-turn : goal.invariant-loop-turn
invariant-loop-turn g l = record {
  read : elements l.self.line.now (nesting l.self.line.now l.self.levels) l.fn.tokens ≡ elements_from l.self.line.now (nesting l.self.line.now l.self.levels) (l._turn-end - l._turn) (elements_of l.found) l.tokens;
  measured : AreMeasured l.found;
}
