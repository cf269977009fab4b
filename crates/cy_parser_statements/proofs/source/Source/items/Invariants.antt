use Rattle.std.proofs.Common.{◌≡◌, ◌-◌, map}
use Rattle.cy_trees.specs.TreeModels.{item_of}
use Rattle.cy_parser_grammar.specs.internal.Clauses.{item, items, separated_from}
use Rattle.cy_parser_statements.proofs.source.Source.items.Given as goal

abbrev pub invariant-loop-turn : goal.invariant-loop-turn
invariant-loop-turn l = items l.self.line.now l.fn.tokens ≡ separated_from (item l.self.line.now) (l._turn-end - l._turn) (map item_of l.found.items) l.tokens
