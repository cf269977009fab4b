use Rattle.std.proofs.Common.{◌≡◌, ◌-◌, map}
use Rattle.cy_trees.specs.TreeModels.{key_of}
use Rattle.cy_parser_grammar.specs.internal.Clauses.{key, keys, separated_from}
use Rattle.cy_parser_statements.proofs.source.Source.keys.Given as goal

abbrev pub invariant-loop-turn : goal.invariant-loop-turn
invariant-loop-turn l = keys l.self.line.now l.fn.tokens ≡ separated_from (key l.self.line.now) (l._turn-end - l._turn) (map key_of l.found.items) l.tokens
