use Rattle.std.proofs.Common.{◌≡◌, ◌-◌, map}
use Rattle.cy_trees.specs.TreeModels.{clause_of}
use Rattle.cy_parser_grammar.specs.internal.Clauses.{clauses, clauses_from}
use Rattle.cy_parser_statements.proofs.source.Source.clauses.Given as goal

abbrev pub invariant-loop-turn : goal.invariant-loop-turn
invariant-loop-turn l = clauses l.self.line.now l.is_later l.fn.tokens ≡ clauses_from l.self.line.now (l._turn-end - l._turn) l.is_later l.phase (map clause_of l.found.items) l.tokens
