use Rattle.std.proofs.Common.{◌≡◌, ◌-◌}
use Rattle.cy_parser_grammar.specs.internal.Clauses.{types, types_from}
use Rattle.cy_parser_statements.proofs.source.Source.types.Given as goal

abbrev pub invariant-loop-turn : goal.invariant-loop-turn
invariant-loop-turn l = types l.self.line.now l.fn.tokens ≡ types_from l.self.line.now (l._turn-end - l._turn) (l.found.items) l.tokens
