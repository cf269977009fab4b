use Rattle.std.proofs.Common.{◌≡◌, ◌-◌}
use Rattle.cy_parser_statements.specs.internal.Operands.{links_in, LinksAreMeasured}
use Rattle.cy_parser_grammar.specs.internal.Expressions.{nesting, links, links_read}
use Rattle.cy_parser_statements.proofs.grammar.Grammar.links.Given as goal

abbrev pub invariant-loop-turn : goal.invariant-loop-turn
invariant-loop-turn g l = record {
  read : links l.self.line.now l.self.levels (nesting l.self.line.now l.self.levels) l.fn.tokens ≡ links_read l.self.line.now l.self.levels (nesting l.self.line.now l.self.levels) (l._turn-end - l._turn) (links_in l.found) l.tokens;
  measured : LinksAreMeasured l.found;
}
