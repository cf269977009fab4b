use Rattle.std.proofs.Common.{◌≡◌, ◌-◌, map}
use Rattle.cy_trees.specs.TreeModels.{set_item_of}
use Rattle.cy_parser_grammar.specs.internal.Clauses.{separated_from, set_item, set_items}
use Rattle.cy_parser_statements.proofs.source.Source.set_items.Given as goal

abbrev pub invariant-loop-turn : goal.invariant-loop-turn
invariant-loop-turn l = set_items l.self.line.now l.fn.tokens ≡ separated_from (set_item l.self.line.now) (l._turn-end - l._turn) (map set_item_of l.found.items) l.tokens
