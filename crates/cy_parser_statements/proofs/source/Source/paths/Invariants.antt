use Rattle.std.proofs.Common.{◌≡◌, ◌-◌, map}
use Rattle.cy_trees.specs.TreeModels.{path_of}
use Rattle.cy_parser_grammar.specs.internal.Clauses.{path, paths, separated_from}
use Rattle.cy_parser_statements.proofs.source.Source.paths.Given as goal

abbrev pub invariant-loop-turn : goal.invariant-loop-turn
invariant-loop-turn l = paths l.self.line.now l.fn.tokens ≡ separated_from (path l.self.line.now) (l._turn-end - l._turn) (map path_of l.found.items) l.tokens
