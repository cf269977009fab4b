use Rattle.std.proofs.Common.{◌≡◌, ◌-◌}
use Rattle.cy_parser_grammar.specs.internal.Clauses.{separated_from, variable_read, variables}
use Rattle.cy_parser_statements.proofs.source.Source.variables.Given as goal

abbrev pub invariant-loop-turn : goal.invariant-loop-turn
invariant-loop-turn l = variables l.self.line.now l.fn.tokens ≡ separated_from (variable_read l.self.line.now) (l._turn-end - l._turn) (l.found.items) l.tokens
