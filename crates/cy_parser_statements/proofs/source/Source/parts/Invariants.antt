use Rattle.std.proofs.Common.{◌≡◌, ◌-◌, map}
use Rattle.cy_parser_statements.specs.internal.Parts.{part_of}
use Rattle.cy_parser_grammar.specs.internal.Clauses.{parts, parts_from}
use Rattle.cy_parser_statements.proofs.source.Source.parts.Given as goal

abbrev pub invariant-loop-turn : goal.invariant-loop-turn
invariant-loop-turn l = parts l.self.line.now l.fn.tokens ≡ parts_from l.self.line.now (l._turn-end - l._turn) (map part_of l.found.items) l.tokens
