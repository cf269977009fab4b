use Rattle.std.proofs.Common.{◌≡◌, ◌-◌, map}
use Rattle.cy_trees.specs.TreeModels.{entry_of}
use Rattle.cy_parser_grammar.specs.internal.Clauses.{entries, entry, separated_from}
use Rattle.cy_parser_statements.proofs.source.Source.entries.Given as goal

abbrev pub invariant-loop-turn : goal.invariant-loop-turn
invariant-loop-turn l = entries l.self.line.now l.fn.tokens ≡ separated_from (entry l.self.line.now) (l._turn-end - l._turn) (map entry_of l.found.items) l.tokens
