use Rattle.std.proofs.Common.{◌≡◌, ◌-◌, map}
use Rattle.cy_trees.specs.TreeModels.{remove_item_of}
use Rattle.cy_parser_grammar.specs.internal.Clauses.{remove_item, remove_items, separated_from}
use Rattle.cy_parser_statements.proofs.source.Source.remove_items.Given as goal

abbrev pub invariant-loop-turn : goal.invariant-loop-turn
invariant-loop-turn l = remove_items l.self.line.now l.fn.tokens ≡ separated_from (remove_item l.self.line.now) (l._turn-end - l._turn) (map remove_item_of l.found.items) l.tokens
